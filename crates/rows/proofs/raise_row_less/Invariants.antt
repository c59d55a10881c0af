use Prim.Native.Nat.{◌-◌, max}
use Rattle.rows.specs.Row.{row_in}
use Rattle.base.specs.Table.{Filled}
use Rattle.rows.proofs.raise_row_less.Given as goal

abbrev pub invariant-loop-k : goal.invariant-loop-k
invariant-loop-k l = Filled (λ j. max (row_in l.initial.out j) (row_in l.from j - l.amount)) l.k l.initial.out l.out
