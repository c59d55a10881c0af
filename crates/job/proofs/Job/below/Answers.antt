-- The loop keeps that the set has the nodes below i that are below a: a parent is lower than its child, so its answer is known.
use mathlib.Core.Path.{◌≡◌, refl, sym, ◌∙◌}
use mathlib.Core.Bool.{true, ◌||◌}
use Prim.Native.Nat.{◌<◌}
use native.Mathlib.Omega.{arith}
use lib.Dec.{eqb}
use borrow.Author.Tests.{lt-ltb, eq-eqb, ne_eqb}
use Rattle.base.proofs.CollectLaws.{collected_none, collected_take, collected_skip, collected_done}
use Rattle.base.proofs.BoolLaws.{and_true, or_right}
use Rattle.base.specs.Set.{has}
use Rattle.job.proofs.TreeLaws.{link_is, below_step, below_in, below_root_none}
use Rattle.job.specs.Read.{tree_in}
use Rattle.job.specs.Tree.{below}
use Rattle.job.proofs.Job.below.Goals as goal
use Rattle.job.proofs.Job.below.Goals.{In-loop-i, then-self-i, then-self-i-via-then-self-i, then-self-i-via-else-self-i+then-member, else-self-i+else-member}

pub loop-i-init : goal.loop-i-init
loop-i-init c =
    let t = tree_in c.args.self.now in
    collected_none (λ k. below t k c.args.a) 1 (λ k h. let e : k ≡ 0 = omega arith in rw e (below_root_none t c.args.a))

-- what a turn asks: a parent is lower than its child, so the set has the answer for it
asked : (c : In-loop-i) → let l = c.loop-i in let t = tree_in c.args.self.now in
    below t l.i c.args.a ≡ (eqb (t.parent l.i) c.args.a || has l.set (t.parent l.i))
asked c =
    let l = c.loop-i in
    let a = c.args.a in
    let t = tree_in c.args.self.now in
    let low : t.parent l.i < l.i = c.requires.parents l.i (link_is t.n l.i (omega arith) (omega arith)) in
    let lower : has l.set (t.parent l.i) ≡ below t (t.parent l.i) a = l.invariant (t.parent l.i) ∙ rw (lt-ltb (t.parent l.i) l.i low, and_true) refl in
    below_step t c.requires.parents l.i a (omega arith) (omega arith) ∙ rw lower refl

pub loop-i-preserved : goal.loop-i-preserved
loop-i-preserved c =
    let l = c.loop-i in
    let a = c.args.a in
    let t = tree_in c.args.self.now in
    let here = asked (goal.at.loop-i-preserved c).In-loop-i in
    elim c.if-self-i.branch [
      | then-self-i w ↦
          let met : below t l.i a ≡ true = here ∙ elim w.then-self-i.branch [
            | then-self-i-via-then-self-i v ↦ rw (eq-eqb _ _ v.if-self-i.true) refl
            | then-self-i-via-else-self-i+then-member v ↦ or_right (eqb (t.parent l.i) a) (sym v.if-member.ensures)
          ] in
          rw w.set-is (collected_take (λ k. below t k a) l.i l.set _ (omega arith) met l.invariant w.with-set.ensures)
      | else-self-i+else-member w ↦
          rw w.set-is (collected_skip (λ k. below t k a) l.i l.set (here ∙ rw (ne_eqb _ _ w.if-self-i.false) (sym w.if-member.ensures)) l.invariant)
    ]

pub returns : goal.returns
returns c =
    let t = tree_in c.args.self.now in
    collected_done (λ k. below t k c.args.a) c.loop-i.i c.loop-i.set (λ k h. omega (arith, below_in t k c.args.a h)) c.loop-i.invariant
