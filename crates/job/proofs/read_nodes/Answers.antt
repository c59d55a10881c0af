-- The loop keeps the first row among the nodes below i and, where there is none, that the struct has their records.
use mathlib.Core.Bool.{not}
use mathlib.Core.Path.{◌≡◌, ap, sym, ◌∙◌}
use Prim.Native.Nat.{ℕ, ◌<◌}
use native.Mathlib.Omega.{arith}
use Rattle.job.specs.Read.{node_refusal, struct_of}
use Rattle.job.specs.Steps.{node_at, nodes_refusal, row_of, sooner}
use Rattle.job.specs.Refusal.{number}
use Rattle.job.specs.Tree.{leaf}
use Rattle.job.proofs.NodeLaws.{tree_to, records_none, records_more, stored, row_to, row-none, row_more, sooner-none}
use Rattle.job.proofs.TreeLaws.{leaf_of_set}
use Rattle.job.specs.declared.Job.{Job}
use Rattle.job.specs.Bytes.{node_count, frame_count, tree_of}
use Rattle.job.proofs.read_nodes.Goals as goal
use Rattle.job.proofs.read_nodes.Goals.{After-loop-i, in-Ok, in-Err}

pub loop-i-init : goal.loop-i-init
loop-i-init c = let s = c.args.s.now in record {
  row = sym (row-none (tree_of s));
  kept = λ q. c.requires.1.0 ∙ records_none s;
}

pub loop-i-preserved : goal.loop-i-preserved
unfolding stored
loop-i-preserved c =
    let l = c.loop-i in
    let s = c.args.s.now in
    let t = tree_of s in
    let i = l.i in
    let inside : i < node_count s = omega (arith, ap (λ (j : Job). j.nodes) c.requires.1.0) in
    let is_leaf : not c.member.result ≡ leaf t i =
    ap not c.member.ensures ∙ leaf_of_set t c.args.inner i c.requires.0.nodes_to c.requires.1.1 inside in
    let next = row_more s i (omega arith) inside in
    elim c.match-read_node.branch [
      | in-Ok w ↦
          let none : node_refusal i (leaf t i) (node_at s i) ≡ 0 = rw is_leaf at w.in-Ok.ensures.0 in record {
            row = ap row_of w.refused-is ∙ l.invariant.row ∙ sym (next ∙ ap (sooner (row_to t i)) none ∙ sooner-none (row_to t i));
            kept = λ q. w.job-is
                ∙ ap (λ (j : Job). stored j i w.in-Ok.node) (l.invariant.kept (sym w.refused-is ∙ q))
                ∙ ap (stored (struct_of (tree_to s i) (frame_count s)) i) w.in-Ok.ensures.1
                ∙ records_more s i (omega arith) (omega (arith, c.requires.0.nodes_to));
          }
      | in-Err w ↦
          let row : node_refusal i (leaf t i) (node_at s i) ≡ number w.in-Err.row = rw is_leaf at (sym w.in-Err.ensures) in record {
            row = ap row_of w.refused-is ∙ w.earlier.ensures ∙ ap (λ (a : ℕ). sooner a (number w.in-Err.row)) l.invariant.row ∙ sym (next ∙ ap (sooner (row_to t i)) row);
            kept = λ q. cc;
          }
    ]

-- past the last node the loop has been through the whole tree
all_is : (c : After-loop-i) → c.loop-i.i ≡ node_count c.args.s.now
all_is c = omega (arith, c.requires.0.nodes_from, ap (λ (j : Job). j.nodes) c.requires.1.0)

row_is : (c : After-loop-i) → row_of c.loop-i.refused ≡ nodes_refusal (tree_of c.args.s.now)
row_is c = c.loop-i.invariant.row ∙ ap (row_to (tree_of c.args.s.now)) (all_is c)

pub returns-in-Some : goal.returns-in-Some
returns-in-Some c = sym (ap row_of c.in-Some.is) ∙ row_is (goal.at.returns-in-Some c).After-loop-i

pub returns-in-None : goal.returns-in-None
returns-in-None c =
    let s = c.args.s.now in
    let d = (goal.at.returns-in-None c).After-loop-i in
    (sym (row_is d) ∙ ap row_of c.in-None.is, c.loop-i.invariant.kept c.in-None.is ∙ ap (λ (i : ℕ). struct_of (tree_to s i) (frame_count s)) (all_is d))
