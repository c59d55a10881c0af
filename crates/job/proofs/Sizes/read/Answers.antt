-- An accepted job's struct holds the job that the bytes say, so its sizes are that job's.
use mathlib.Core.Path.{ap}
use Rattle.job.specs.Bytes.{frame_at}
use Rattle.job.specs.Read.{Accepted, sizes_of}
use Rattle.job.proofs.RefusalLaws.{read_accepts, accepted_struct}
use Rattle.job.proofs.Sizes.read.Goals as goal
use Rattle.job.proofs.Sizes.read.Goals.{In_ok-job}

accepted : (c : In_ok-job) → Accepted c.args.s.now c.in_ok-job.job
accepted c = read_accepts _ _ c.in_ok-job.ensures

pub last_slot-requires : goal.last_slot-requires
last_slot-requires c = accepted_struct _ _ (accepted (goal.at.last_slot-requires c).In_ok-job)

pub plan_length-requires : goal.plan_length-requires
plan_length-requires c = accepted_struct _ _ (accepted (goal.at.plan_length-requires c).In_ok-job)

pub returns : goal.returns
returns c =
    let s = c.args.s.now in
    let a = accepted (goal.at.returns c).In_ok-job in
    (a.none, rw (c.last_slot.ensures (frame_at s), c.plan_length.ensures (frame_at s)) (ap sizes_of a.same))
