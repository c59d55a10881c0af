use Prim.Native.Nat.{◌<◌}
use mathlib.Core.Path.{◌≡◌}
use Rattle.std.specs.List.{fold}
use Rattle.base.specs.Set.{word_bits}
use Rattle.base.specs.Walk.{walk_left}
use Rattle.curves.specs.Rows.{earlier, earliest_of}
use Rattle.curves.proofs.earliest.Given as goal

abbrev pub invariant-loop-l : goal.invariant-loop-l
invariant-loop-l l =
    (l.found < word_bits) × (fold (earlier l.delay) l.found (walk_left l.l-iterator) ≡ earliest_of l.delay l.set)
