use Prim.Native.Nat.{◌+◌}
use lib.ListN.{get_or}
use Rattle.base.specs.Table.{Filled}
use Rattle.store.proofs.raise.Given as goal

abbrev pub invariant-loop-count : goal.invariant-loop-count
invariant-loop-count l = Filled (λ c. get_or l.initial.counts c 0 + l.n) l.count-index l.initial.counts l.counts
