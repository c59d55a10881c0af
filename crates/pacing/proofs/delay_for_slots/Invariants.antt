use Rattle.job.specs.Sums.{sums_in}
use Rattle.pacing.specs.Work.{DelayBefore}
use Rattle.pacing.proofs.delay_for_slots.Given as goal

abbrev pub invariant-loop-i : goal.invariant-loop-i
invariant-loop-i l = DelayBefore (sums_in l.sums.t.now) l.r l.i l.w
