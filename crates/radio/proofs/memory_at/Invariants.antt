use mathlib.Core.Path.{◌≡◌}
use Prim.Native.Nat.{min}
use lib.ListN.{length}
use Rattle.radio.specs.Work.{excess_before}
use Rattle.radio.proofs.memory_at.Given as goal

abbrev pub invariant-loop-m : goal.invariant-loop-m
invariant-loop-m l = l.excess ≡ excess_before l.sums.t.now l.r l.d (min l.m (length l.sums.t.now))
