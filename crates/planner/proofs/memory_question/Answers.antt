-- Each test in turn: past the first the job is accepted, past the lengths none of 1 to 11 applies, and the work on the job is the answer.
use mathlib.Core.Path.{◌≡◌, ap, sym, ◌∙◌}
use Prim.Native.Nat.{◌-◌, ◌*◌}
use native.Mathlib.Omega.{arith}
use lib.ListN.{length}
use Rattle.job.specs.declared.Refusal.TheVariants.{BadLent}
use Rattle.job.specs.Read.{Accepted}
use Rattle.job.specs.Bytes.{frame_at, job_of}
use Rattle.job.specs.Tree.{Tree, H, plan_length}
use Rattle.job.proofs.RefusalLaws.{read_accepts, read_refuses, accepted_struct}
use Rattle.job.specs.Refusal.{bad_lent}
use Rattle.planner.specs.Answer.{early_refusal}
use Rattle.planner.specs.Work.{width_of}
use Rattle.planner.proofs.AnswerLaws.{early_read, early_plan, early_peaks, answered-early, answered-passed, answered}
use Rattle.planner.proofs.memory_question.Goals as goal
use Rattle.planner.proofs.memory_question.Goals.{After-plan_length, In_ok-job, then-plan-plan_length-via-then-plan-plan_length}
use Rattle.planner.proofs.memory_question.Goals.{then-plan-plan_length-via-else-plan-plan_length+then-peaks-job}

-- past the first test the job is accepted
accepted : (c : In_ok-job) → Accepted c.args.bytes.now c.in_ok-job.job
accepted c = read_accepts _ _ c.in_ok-job.ensures

links_is : (c : In_ok-job) → c.in_ok-job.job.nodes - 1 ≡ (job_of c.args.bytes.now).tree.n - 1
links_is c = ap (λ (t : Tree). t.n - 1) (accepted c).held

length_is : (c : After-plan_length) → c.plan_length.result ≡ plan_length (job_of c.args.bytes.now)
length_is c = c.plan_length.ensures (frame_at c.args.bytes.now) ∙ ap plan_length (accepted (goal.at.After-plan_length c).In_ok-job).same

-- the plan's length by the struct's own width
plan_is : (c : After-plan_length) → c.plan_length.result ≡ (c.in_ok-job.job.nodes - 1) * width_of c.in_ok-job.job
unfolding plan_length H
plan_is c = c.plan_length.ensures (λ m. 0)

pub returns-in_err-job : goal.returns-in_err-job
returns-in_err-job c =
    let s = c.args.bytes.now in
    let e = c.in_err-job.field-0.0 in
    answered-passed s c.args.plan.now c.args.peaks.now _ e c.from_residual.ensures.1
    (c.in_err-job.ensures ∙ sym (early_read s (length c.args.plan.now) (length c.args.peaks.now) (read_refuses s e c.in_err-job.ensures)))

pub plan_length-requires : goal.plan_length-requires
plan_length-requires c = accepted_struct _ _ (accepted (goal.at.plan_length-requires c).In_ok-job)

pub overflow_sub-job : goal.overflow_sub-job
overflow_sub-job c = omega (arith, (accepted (goal.at.overflow_sub-job c).In_ok-job).tree_within.nodes_from)

pub returns-then-plan-plan_length : goal.returns-then-plan-plan_length
returns-then-plan-plan_length c =
    let s = c.args.bytes.now in
    let k = goal.at.returns-then-plan-plan_length c in
    let none = (accepted k.In_ok-job).none in
    let early : early_refusal s (length c.args.plan.now) (length c.args.peaks.now) ≡ bad_lent =
    elim c.then-plan-plan_length.branch [
      | then-plan-plan_length-via-then-plan-plan_length w ↦
          early_plan _ _ _ none (λ z. w.if-plan-plan_length.true (z ∙ sym (length_is k.After-plan_length)))
      | then-plan-plan_length-via-else-plan-plan_length+then-peaks-job w ↦
          early_peaks _ _ _ none (λ z. w.if-peaks-job.true (z ∙ sym (links_is k.In_ok-job)))
    ] in
    answered-early s c.args.plan.now c.args.peaks.now BadLent (sym early)

pub invariant_of-checked : goal.invariant_of-checked
invariant_of-checked c = record { accepted = accepted (goal.at.invariant_of-checked c).In_ok-job }

pub with_job-requires : goal.with_job-requires
with_job-requires c = record {
  plan_long = c.if-plan-plan_length.false ∙ plan_is (goal.at.with_job-requires c).After-plan_length;
  peaks_long = c.if-peaks-job.false;
}

pub returns : goal.returns
returns c =
    let k = goal.at.returns c in
    answered c.args.bytes.now c.in_ok-job.job (accepted k.In_ok-job) c.args.plan.now _ c.args.peaks.now _
    (c.if-plan-plan_length.false ∙ length_is k.After-plan_length)
    (c.if-peaks-job.false ∙ links_is k.In_ok-job) c.with_job.result c.with_job.ensures
