use mathlib.Core.Path.{◌≡◌}
use Prim.Native.Nat.{◌-◌, max}
use lib.ListN.{get_or}
use Rattle.std.specs.List.{fold}
use Rattle.base.specs.Set.{members}
use Rattle.base.specs.Walk.{walk_left}
use Rattle.running.proofs.most_ahead.Given as goal

-- the lead over those left, taken from the lead so far, is that over all
abbrev pub invariant-loop-c : goal.invariant-loop-c
invariant-loop-c l =
    fold (λ g c. max g (l.x - get_or l.column c 0)) l.most (walk_left l.c-iterator)
    ≡ fold (λ g c. max g (l.x - get_or l.column c 0)) 0 (members l.set)
