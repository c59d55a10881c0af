-- The leads before i are some slots on, and the rest as they were.
use mathlib.Core.Path.{◌≡◌}
use Prim.Native.Nat.{ℕ, ◌≤◌, ◌<◌}
use lib.ListN.{length, get_or}
use Rattle.pacing.specs.Work.{at_once, lead_at, lead_after}
use Rattle.pacing.proofs.leads_after.Given as goal

abbrev pub invariant-loop-i : goal.invariant-loop-i
invariant-loop-i l =
    (length l.leads ≡ at_once)
    × (((k : ℕ) → k < l.i → lead_at l.leads k ≡ lead_after (lead_at l.initial.leads k) l.played l.slots (get_or l.rates k 0))
    × ((k : ℕ) → l.i ≤ k → lead_at l.leads k ≡ lead_at l.initial.leads k))
