use Rattle.std.proofs.Common.{◌≡◌, ℕ, List, max, get_or}
use Rattle.std.specs.List.{fold}
use Rattle.base.specs.Set.{members}
use Rattle.base.specs.Walk.{walk_left}
use Rattle.job.proofs.longest.Given as goal

-- a member's number is taken in
abbrev pub longer : List ℕ → ℕ → ℕ → ℕ
longer numbers g i = max g (get_or numbers i 0)

abbrev pub invariant-loop-i : goal.invariant-loop-i
invariant-loop-i l = fold (longer l.delay) l.longest (walk_left l.i-iterator) ≡ fold (longer l.delay) 0 (members l.set)
