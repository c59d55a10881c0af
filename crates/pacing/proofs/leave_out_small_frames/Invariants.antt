use Prim.Native.Nat.{ℕ, ◌-◌, ◌≤◌}
use Rattle.job.specs.Sums.{sums_in}
use Rattle.pacing.specs.Pace.{most_ahead}
use Rattle.pacing.proofs.SmallFrameLaws.{StepsSoFar}
use Rattle.pacing.proofs.leave_out_small_frames.Given as goal

abbrev pub invariant-loop-m : goal.invariant-loop-m
invariant-loop-m l =
    StepsSoFar (sums_in l.sums.t.now) l.low (l.m - 1) l.places l.k l.last
    × ((r : ℕ) → l.largest - r ≤ most_ahead (sums_in l.sums.t.now) r (l.m - 1))
