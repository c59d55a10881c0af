-- What is left, taken into what there is, is the whole.
use mathlib.Core.Path.{◌≡◌}
use Prim.Native.Nat.{ℕ, min}
use lib.ListN.{get_or}
use Rattle.std.specs.List.{fold}
use Rattle.base.specs.Set.{members}
use Rattle.base.specs.Walk.{walk_left}
use Rattle.rates.proofs.least_of.Given as goal

abbrev pub invariant-loop-i : goal.invariant-loop-i
invariant-loop-i l =
    let step : ℕ → ℕ → ℕ = λ g i. min g (get_or l.numbers i 0) in
    fold step l.least (walk_left l.i-iterator) ≡ fold step l.start (members l.set)
