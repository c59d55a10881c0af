use Prim.Native.Nat.{◌+◌, min}
use Rattle.rows.specs.Row.{row_in}
use Rattle.base.specs.Table.{Filled}
use Rattle.rows.proofs.lower_row_more.Given as goal

abbrev pub invariant-loop-k : goal.invariant-loop-k
invariant-loop-k l = Filled (λ j. min (row_in l.initial.out j) (row_in l.from j + l.plus)) l.k l.initial.out l.out
