-- The places from j on are the old ones; those before are gone through: the stop there, the state, and the places that are left.
use mathlib.Core.Path.{◌≡◌}
use Prim.Native.Nat.{ℕ, ◌-◌, ◌≤◌}
use lib.ListN.{get_or}
use Rattle.job.specs.Sums.{sums_in}
use Rattle.pacing.specs.Work.{state_at, left_at}
use Rattle.pacing.proofs.PlaceLaws.{StopAt}
use Rattle.pacing.proofs.leave_out.Given as goal

abbrev pub invariant-loop-j : goal.invariant-loop-j
invariant-loop-j g l =
    let old = l.initial.places in
    let T = sums_in l.sums.t.now in
    let next = g.S.Since.after in
    ((u : ℕ) → l.j ≤ u → get_or l.places u 0 ≡ get_or old u 0)
    × (StopAt T old l.r (l.j - 1) l.s
    × (g.S.Since.Fits l.t (l.j - 1)
    × ((l.t ≡ state_at next T l.r old l.initial.t (l.j - 1)) × (l.places ≡ left_at next g.S.Since.last_of T l.r old l.initial.t (l.j - 1)))))
