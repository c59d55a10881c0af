-- Three ways out: the reader's refusal, that of what is lent, and the lines, each as the answer's record has it.
use mathlib.Core.Path.{sym}
use lib.ListN.{length}
use Rattle.job.specs.Read.{Accepted}
use Rattle.job.proofs.RefusalLaws.{read_accepts}
use Rattle.radio.proofs.AnswerLaws.{list_fits, answered}
use Rattle.radio.proofs.constant_rates.Goals as goal
use Rattle.radio.proofs.constant_rates.Goals.{In_ok-job}

-- past the first test the job is accepted
accepted : (c : In_ok-job) → Accepted c.args.bytes.now c.in_ok-job.job
accepted c = read_accepts _ _ c.in_ok-job.ensures

pub invariant_of-checked : goal.invariant_of-checked
invariant_of-checked c = record { accepted = accepted (goal.at.invariant_of-checked c).In_ok-job }

pub with_job-requires : goal.with_job-requires
with_job-requires c = list_fits (length c.args.rates.now) (length c.args.lines.now) (sym c.in_ok-check_lent.ensures)

pub returns : goal.returns
returns c =
    answered c.args.bytes.now c.args.rates.now c.args.lines.now _ (accepted (goal.at.returns c).In_ok-job).none
    (sym c.in_ok-check_lent.ensures) c.with_job.ensures
