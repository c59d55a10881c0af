-- The rates before the loop's place are found; `from` is where to look for the next.
use mathlib.Core.Path.{◌≡◌}
use Prim.Native.Nat.{ℕ, ◌<◌}
use lib.ListN.{get_or}
use Rattle.job.specs.Limits.{most_nodes}
use Rattle.pacing.specs.Work.{look_from, NextRate}
use Rattle.pacing.proofs.next_rates.Given as goal

abbrev pub invariant-loop-rate : goal.invariant-loop-rate
invariant-loop-rate l =
    (l.from ≡ look_from l.y l.rate-items l.rate-index)
    × ((i : ℕ) → i < l.rate-index → NextRate l.rates most_nodes (look_from l.y l.rate-items i) l.top (get_or l.rate-items i 0))
