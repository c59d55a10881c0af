use Prim.Native.Nat.{◌-◌, ◌*◌, ◌/◌, ◌≤◌}
use mathlib.Core.Path.{◌≡◌}
use lib.ListN.{length}
use Rattle.smoothing.specs.Row.{least_peak}
use Rattle.smoothing.specs.Newton as newton
use Rattle.rows.specs.Row.{row_in}
use Rattle.rows.specs.Search.{search_in}
use Rattle.rows.proofs.search_by.Given as goal

abbrev pub invariant-loop-s : goal.invariant-loop-s
invariant-loop-s l =
    (l.start ≤ l.p) × (l.p ≤ least_peak (length l.lower - 1) (row_in l.lower) (row_in l.upper))
    × (search_in l.s ≡ newton.pass (newton.every l.stride (row_in l.lower)) (newton.every l.stride (row_in l.upper)) (l.p * l.stride) ((length l.lower - 1) / l.stride))

abbrev pub decreases-loop-s : goal.decreases-loop-s
decreases-loop-s l = least_peak (length l.lower - 1) (row_in l.lower) (row_in l.upper) - l.p
