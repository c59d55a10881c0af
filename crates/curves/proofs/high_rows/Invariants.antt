use mathlib.Core.Path.{◌≡◌}
use mathlib.Core.List.{◌++◌}
use Prim.Native.Nat.{◌*◌}
use lib.ListN.{drop}
use Rattle.job.specs.Read.{tree_in}
use Rattle.job.specs.Sums.{sums_in, last_in}
use Rattle.curves.specs.Rows.{high_rows}
use Rattle.curves.proofs.high_rows.Given as goal

abbrev pub invariant-loop-i : goal.invariant-loop-i
invariant-loop-i l =
    let sums = l.film.sums.t.now in
    l.table ≡ high_rows (tree_in l.film.job.now) (sums_in sums) (last_in sums) l.width l.i ++ drop (l.i * l.width) l.initial.table
