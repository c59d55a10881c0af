use Rattle.job.specs.Sums.{sums_in}
use Rattle.base.specs.Table.{Filled}
use Prim.Native.Nat.{◌-◌}
use Rattle.curves.proofs.shift.Given as goal

abbrev pub invariant-loop-k : goal.invariant-loop-k
invariant-loop-k l = Filled (λ k. sums_in l.sums (k - l.delay)) l.k l.initial.out l.out
