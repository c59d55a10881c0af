-- Three ways out: the reader's refusal, a wrong length, and the work on an accepted job.
use native.Mathlib.Omega.{arith}
use mathlib.Core.Path.{◌≡◌, ap, sym, ◌∙◌}
use Prim.Native.Nat.{◌-◌}
use lib.ListN.{length}
use Rattle.job.specs.Bytes.{job_of}
use Rattle.job.specs.Tree.{Tree}
use Rattle.job.specs.Read.{Accepted}
use Rattle.job.specs.declared.Refusal.TheVariants.{BadLent}
use Rattle.job.proofs.RefusalLaws.{read_accepts, read_refuses}
use Rattle.rates.proofs.AnswerLaws.{early_read, early_lent, sized-early, sized-passed, sized}
use Rattle.rates.proofs.rate_question.Goals as goal
use Rattle.rates.proofs.rate_question.Goals.{In_ok-job}

-- past the first test the job is accepted
accepted : (c : In_ok-job) → Accepted c.args.bytes.now c.in_ok-job.job
accepted c = read_accepts _ _ c.in_ok-job.ensures

links_is : (c : In_ok-job) → c.in_ok-job.job.nodes - 1 ≡ (job_of c.args.bytes.now).tree.n - 1
links_is c = ap (λ (t : Tree). t.n - 1) (accepted c).held

pub returns-in_err-job : goal.returns-in_err-job
returns-in_err-job c =
    let s = c.args.bytes.now in
    let e = c.in_err-job.field-0.0 in
    sized-passed s c.args.memories.now _ e c.from_residual.ensures.1
    (c.in_err-job.ensures ∙ sym (early_read s (length c.args.memories.now) (read_refuses s e c.in_err-job.ensures)))

pub overflow_sub-job : goal.overflow_sub-job
overflow_sub-job c = omega (arith, (accepted (goal.at.overflow_sub-job c).In_ok-job).tree_within.nodes_from)

pub returns-then-memories-job : goal.returns-then-memories-job
returns-then-memories-job c =
    let k = (goal.at.returns-then-memories-job c).In_ok-job in
    sized-early c.args.bytes.now c.args.memories.now BadLent
    (sym (early_lent _ _ (accepted k).none (λ z. c.if-memories-job.true (z ∙ sym (links_is k)))))

pub invariant_of-checked : goal.invariant_of-checked
invariant_of-checked c = record { accepted = accepted (goal.at.invariant_of-checked c).In_ok-job }

pub returns : goal.returns
returns c =
    let k = (goal.at.returns c).In_ok-job in
    sized c.args.bytes.now c.in_ok-job.job (accepted k) c.args.memories.now _ (c.if-memories-job.false ∙ links_is k)
    c.with_job.result c.with_job.ensures
