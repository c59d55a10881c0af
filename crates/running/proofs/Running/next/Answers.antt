-- Each test in turn: past the first the job is accepted, past the lengths none of 1 to 11 applies, and with slots left the work on the job
-- is the step.
use mathlib.Core.Path.{◌≡◌, refl, ap, sym, ◌∙◌}
use Prim.Native.Nat.{ℕ, ◌+◌, ◌-◌, ◌*◌}
use native.Mathlib.Omega.{arith}
use lib.ListN.{length}
use Rattle.job.specs.Refusal.{bad_lent}
use Rattle.job.specs.declared.Refusal.TheVariants.{BadLent}
use Rattle.job.specs.Bytes.{frame_at, job_of}
use Rattle.job.specs.Tree.{Tree, H, plan_length}
use Rattle.job.proofs.RefusalLaws.{read_accepts, read_refuses, accepted_struct}
use Rattle.job.specs.Read.{Accepted}
use Rattle.planner.specs.Work.{width_of}
use Rattle.running.specs.Running.{step_refusal, Stepped}
use Rattle.running.proofs.AnswerLaws.{step_read, step-plan, step_sent, step-held, step-none, stays-early, stays-passed, stepped, stays-on}
use Rattle.running.proofs.Running.next.Goals as goal
use Rattle.running.proofs.Running.next.Goals.{After-last_slot-last, After-plan_length, In_ok-job}
use Rattle.running.proofs.Running.next.Goals.{then-plan-plan_length-via-then-plan-plan_length}
use Rattle.running.proofs.Running.next.Goals.{then-plan-plan_length-via-else-plan-plan_length+then-sent-links}
use Rattle.running.proofs.Running.next.Goals.{then-plan-plan_length-via-else-plan-plan_length+else-sent-links+then-held-links}

-- past the first test the job is accepted
accepted : (c : In_ok-job) → Accepted c.args.bytes.now c.in_ok-job.job
accepted c = read_accepts _ _ c.in_ok-job.ensures

links_is : (c : In_ok-job) → c.in_ok-job.job.nodes - 1 ≡ (job_of c.args.bytes.now).tree.n - 1
links_is c = ap (λ (t : Tree). t.n - 1) (accepted c).held

length_is : (c : After-plan_length) → c.plan_length.result ≡ plan_length (job_of c.args.bytes.now)
length_is c = c.plan_length.ensures (frame_at c.args.bytes.now) ∙ ap plan_length (accepted (goal.at.After-plan_length c).In_ok-job).same

-- the plan's length by the struct's own width
plan_is : (c : After-plan_length) → c.plan_length.result ≡ (c.in_ok-job.job.nodes - 1) * width_of c.in_ok-job.job
unfolding plan_length H
plan_is c = c.plan_length.ensures (λ m. 0)

-- past the tests of lengths none of 1 to 11 applies
none_early : (c : After-last_slot-last)
    → let a = c.args in step_refusal a.bytes.now (length a.plan.now) (length a.sent.now) (length a.held.now) ≡ 0
none_early c =
    let k = goal.at.After-last_slot-last c in
    step-none _ _ _ _ (accepted k.In_ok-job).none (c.if-plan-plan_length.false ∙ length_is k.After-plan_length)
    (c.if-sent-links.false ∙ links_is k.In_ok-job) (c.if-held-links.false ∙ links_is k.In_ok-job)

slot_is : (c : After-last_slot-last) → c.last_slot-last.result ≡ H (job_of c.args.bytes.now)
slot_is c = c.last_slot-last.ensures (frame_at c.args.bytes.now) ∙ ap H (accepted (goal.at.After-last_slot-last c).In_ok-job).same

width_is : (c : After-last_slot-last) → c.last_slot-last.result + 1 ≡ width_of c.in_ok-job.job
unfolding H
width_is c = ap (λ (n : ℕ). n + 1) (c.last_slot-last.ensures (λ m. 0))

pub returns-in_err-job : goal.returns-in_err-job
returns-in_err-job c =
    let a = c.args in
    let e = c.in_err-job.field-0.0 in
    stays-passed a.bytes.now a.plan.now a.self a.sent.now a.held.now _ e c.from_residual.ensures.1
    (c.in_err-job.ensures ∙ sym (step_read _ _ _ _ (read_refuses a.bytes.now e c.in_err-job.ensures)))

pub plan_length-requires : goal.plan_length-requires
plan_length-requires c = accepted_struct _ _ (accepted (goal.at.plan_length-requires c).In_ok-job)

pub overflow_sub-links : goal.overflow_sub-links
overflow_sub-links c = omega (arith, (accepted (goal.at.overflow_sub-links c).In_ok-job).tree_within.nodes_from)

pub returns-then-plan-plan_length : goal.returns-then-plan-plan_length
returns-then-plan-plan_length c =
    let a = c.args in
    let k = goal.at.returns-then-plan-plan_length c in
    let none = (accepted k.In_ok-job).none in
    let early : step_refusal a.bytes.now (length a.plan.now) (length a.sent.now) (length a.held.now) ≡ bad_lent =
    elim c.then-plan-plan_length.branch [
      | then-plan-plan_length-via-then-plan-plan_length w ↦
          step-plan _ _ _ _ none (λ z. w.if-plan-plan_length.true (z ∙ sym (length_is k.After-plan_length)))
      | then-plan-plan_length-via-else-plan-plan_length+then-sent-links w ↦
          step_sent _ _ _ _ none (λ z. w.if-sent-links.true (z ∙ sym (links_is k.In_ok-job)))
      | then-plan-plan_length-via-else-plan-plan_length+else-sent-links+then-held-links w ↦
          step-held _ _ _ _ none (λ z. w.if-held-links.true (z ∙ sym (links_is k.In_ok-job)))
    ] in
    stays-early _ _ _ _ _ BadLent (sym early)

pub last_slot-last-requires : goal.last_slot-last-requires
last_slot-last-requires c = accepted_struct _ _ (accepted (goal.at.last_slot-last-requires c).In_ok-job)

pub returns-then-last-self : goal.returns-then-last-self
unfolding Stepped
returns-then-last-self c =
    let k = goal.at.returns-then-last-self c in
    (none_early k.After-last_slot-last, (omega (arith, slot_is k.After-last_slot-last, c.if-last-self.true), (refl, (refl, refl))))

pub invariant_of-checked : goal.invariant_of-checked
invariant_of-checked c = record { accepted = accepted (goal.at.invariant_of-checked c).In_ok-job }

pub with_job-requires : goal.with_job-requires
with_job-requires c =
    let k = goal.at.with_job-requires c in
    record {
      slots_left = omega (arith, width_is k.After-last_slot-last, c.if-last-self.false);
      plan_long = c.if-plan-plan_length.false ∙ plan_is k.After-plan_length;
      rows = record { sent_long = c.if-sent-links.false; held_long = c.if-held-links.false };
    }

pub returns-in_err-with_job : goal.returns-in_err-with_job
returns-in_err-with_job c =
    let k = goal.at.returns-in_err-with_job c in
    stays-on c.args.bytes.now c.in_ok-job.job (accepted k.In_ok-job) c.args.plan.now c.args.self _ _ _ _ (none_early k.After-last_slot-last)
    (omega (
      arith,
      slot_is k.After-last_slot-last,
      c.if-last-self.false,
    )) _ c.in_err-with_job.field-0.0 c.from_residual-in_err-with_job.ensures.1 c.in_err-with_job.ensures

pub returns : goal.returns
returns c =
    let k = goal.at.returns c in
    stepped c.args.bytes.now c.in_ok-job.job (accepted k.In_ok-job) c.args.plan.now c.args.self _ _ _ _ (none_early k.After-last_slot-last)
    (omega (arith, slot_is k.After-last_slot-last, c.if-last-self.false)) _ c.in_ok-with_job.ensures
