use Prim.Native.Nat.{◌≤◌, min}
use lib.ListN.{length}
use Rattle.job.specs.Limits.{longest_delay}
use Rattle.job.specs.Sums.{sums_in}
use Rattle.pacing.specs.Work.{DelayBefore}
use Rattle.pacing.proofs.start_delay.Given as goal

abbrev pub invariant-loop-m : goal.invariant-loop-m
invariant-loop-m l = DelayBefore (sums_in l.sums.t.now) l.r (min l.m (length l.sums.t.now)) l.w × (l.w ≤ longest_delay)
