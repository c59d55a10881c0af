use mathlib.Core.Path.{◌≡◌}
use Rattle.radio.specs.Work.{excess_before}
use Rattle.radio.proofs.excess_for_slots.Given as goal

abbrev pub invariant-loop-i : goal.invariant-loop-i
invariant-loop-i l = l.excess ≡ excess_before l.sums.t.now l.r l.d l.i
