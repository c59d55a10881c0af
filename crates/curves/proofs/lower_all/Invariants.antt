use Rattle.base.specs.Table.{Filled}
use lib.ListN.{get_or}
use mathlib.Core.List.{List}
use Prim.Native.Nat.{ℕ, min}
use Rattle.curves.proofs.lower_all.Given as goal

abbrev pub row : List ℕ → ℕ → ℕ → ℕ
row out value k = min (get_or out k 0) value

abbrev pub invariant-loop-x : goal.invariant-loop-x
invariant-loop-x l = Filled (row l.initial.out l.value) l.x-index l.initial.out l.out
