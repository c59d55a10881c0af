-- Each test answers one check of the refusal; past all of them the answer is put back, and the laws say what the bytes then are.
use mathlib.Core.Path.{◌≡◌, refl, ap, sym, ◌∙◌}
use Prim.Native.Nat.{ℕ, ◌-◌}
use native.Mathlib.Omega.{arith}
use Rattle.job.specs.Bytes.{node_count}
use Rattle.job.specs.Tree.{Tree, leaf}
use Rattle.job.proofs.RefusalLaws.{read_accepts}
use Rattle.job.specs.Read.{Accepted}
use Rattle.writing.proofs.PutLaws.{put-job, put-length, put-delay, put-memory, put-done}
use Rattle.writing.proofs.put_back.Goals as goal
use Rattle.writing.proofs.put_back.Goals.{In_ok-job}

-- past the first test the job is accepted, and the struct holds it
accepted : (c : In_ok-job) → Accepted c.args.bytes.now c.in_ok-job.job
accepted c = read_accepts _ _ c.in_ok-job.ensures

nodes_are : (c : In_ok-job) → c.in_ok-job.job.nodes ≡ node_count c.args.bytes.now
nodes_are c = ap (λ (t : Tree). t.n) (accepted c).held

pub returns-in_err-job : goal.returns-in_err-job
returns-in_err-job c =
    put-job c.args.bytes.now c.args.w c.args.memories.now _ c.in_err-job.field-0.0 c.from_residual.ensures.1 c.in_err-job.ensures

pub returns-then-w : goal.returns-then-w
returns-then-w c =
    (sym (put-delay _ _ c.args.memories.now (accepted (goal.at.returns-then-w c).In_ok-job).none (omega (arith, c.if-w.true))), refl)

pub returns-then-some_memory_wrong : goal.returns-then-some_memory_wrong
returns-then-some_memory_wrong c = (
  sym (put-memory _ _ _ (accepted (goal.at.returns-then-some_memory_wrong c).In_ok-job).none (omega (arith, c.if-w.false))
      (sym c.some_memory_wrong.ensures ∙ c.if-some_memory_wrong.true)),
  refl,
)

pub overflow_sub-nodes : goal.overflow_sub-nodes
overflow_sub-nodes c = omega (arith, (accepted (goal.at.overflow_sub-nodes c).In_ok-job).tree_within.nodes_from)

pub returns-then-memories-nodes : goal.returns-then-memories-nodes
returns-then-memories-nodes c =
    let k = (goal.at.returns-then-memories-nodes c).In_ok-job in (
      sym (put-length _ _ _ (accepted k).none (omega (arith, c.if-w.false))
          (sym c.some_memory_wrong.ensures ∙ c.if-some_memory_wrong.false)
          (λ z. c.if-memories-nodes.true (z ∙ ap (λ (n : ℕ). n - 1) (sym (nodes_are k))))),
      refl,
    )

pub leaves-requires : goal.leaves-requires
leaves-requires c = let w = (accepted (goal.at.leaves-requires c).In_ok-job).tree_within in (w.nodes_from, w.nodes_to)

pub put_records-requires : goal.put_records-requires
put_records-requires c =
    let k = (goal.at.put_records-requires c).In_ok-job in
    record {
      none = (accepted k).none;
      count = nodes_are k;
      leaf_set = λ i. c.leaves.ensures i ∙ ap (λ (t : Tree). leaf t i) (accepted k).held;
      long = c.if-memories-nodes.false;
    }

pub returns : goal.returns
returns c =
    let k = (goal.at.returns c).In_ok-job in
    put-done _ _ _ (accepted k).none (omega (arith, c.if-w.false))
    (sym c.some_memory_wrong.ensures ∙ c.if-some_memory_wrong.false)
    (c.if-memories-nodes.false ∙ ap (λ (n : ℕ). n - 1) (nodes_are k)) _ c.put_records.ensures
