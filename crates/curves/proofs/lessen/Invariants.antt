use Rattle.base.specs.Table.{Filled}
use lib.ListN.{get_or}
use Prim.Native.Nat.{◌-◌}
use Rattle.curves.proofs.lessen.Given as goal

abbrev pub invariant-loop-x : goal.invariant-loop-x
invariant-loop-x l = Filled (λ k. get_or l.initial.out k 0 - l.less) l.x-index l.initial.out l.out
