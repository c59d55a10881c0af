use Prim.Native.Nat.{◌-◌}
use mathlib.Core.Path.{◌≡◌}
use lib.ListN.{length}
use Prim.Native.Nat.{min}
use Rattle.smoothing.specs.Row.{lazy}
use Rattle.smoothing.specs.Lists.{FilledFrom}
use Rattle.rows.specs.Row.{row_in}
use Rattle.rows.proofs.lazy_row.Given as goal

abbrev pub invariant-loop-k : goal.invariant-loop-k
invariant-loop-k l = (l.next ≡ lazy (length l.lower - 1) l.q (row_in l.lower) (min l.k (length l.lower - 1))) × FilledFrom (lazy (length l.lower - 1) l.q (row_in l.lower)) l.k l.initial.out l.out
