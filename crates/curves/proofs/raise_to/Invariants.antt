use Rattle.base.specs.Table.{Filled}
use lib.ListN.{get_or}
use Prim.Native.Nat.{max}
use Rattle.curves.proofs.raise_to.Given as goal

abbrev pub invariant-loop-x : goal.invariant-loop-x
invariant-loop-x l = Filled (λ k. max (get_or l.initial.out k 0) l.value) l.x-index l.initial.out l.out
