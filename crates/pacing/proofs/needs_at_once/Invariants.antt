use mathlib.Core.Path.{◌≡◌}
use Prim.Native.Nat.{ℕ, ◌<◌}
use lib.ListN.{get_or}
use Rattle.job.specs.Sums.{sums_in}
use Rattle.pacing.specs.Work.{at_once, lead_at}
use Rattle.pacing.proofs.PlaceLaws.{LeadBy}
use Rattle.pacing.proofs.needs_at_once.Given as goal

abbrev pub invariant-loop-to : goal.invariant-loop-to
invariant-loop-to l =
    (l.at ≡ get_or l.places l.to-index 0)
    × ((l.sum ≡ sums_in l.sums.t.now l.at)
    × ((i : ℕ) → i < at_once → LeadBy (sums_in l.sums.t.now) l.places (get_or l.rates i 0) l.to-index (lead_at l.leads i)))
