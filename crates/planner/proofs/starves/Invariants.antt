use mathlib.Core.Path.{◌≡◌}
use mathlib.Core.Bool.{true, false}
use mathlib.Core.List.{List}
use Prim.Native.Nat.{ℕ, ◌+◌, ◌-◌, ◌≤◌, ◌<◌}
use lib.ListN.{length, get_or}
use Rattle.std.specs.List.{All}
use Rattle.base.specs.Set.{members}
use Rattle.base.specs.Walk.{walk_left}
use Rattle.job.specs.Tree.{leaf}
use Rattle.job.specs.Read.{tree_in}
use Rattle.job.specs.declared.Job.{Job}
use Rattle.job.specs.Sums.{sums_in}
use Rattle.curves.specs.Rows.{Kept, leaf_lower}
use Rattle.planner.proofs.RoomLaws.{InRoom}
use Rattle.planner.proofs.starves.Given as goal

-- what the code takes at slot x for leaf i's lower curve, from the row of its parent u, and for its own room
abbrev pub lower_of : Job → List ℕ → List ℕ → ℕ → ℕ → ℕ → ℕ
lower_of job sums lowers i u x = leaf_lower (sums_in sums (x - get_or job.delay i 0)) (get_or lowers x 0) (get_or job.memory u 0)

abbrev pub room_of : Job → List ℕ → ℕ → ℕ → ℕ
room_of job sums i x = sums_in sums (x - get_or job.delay i 0) + get_or job.memory i 0

abbrev pub invariant-loop-k : goal.invariant-loop-k
invariant-loop-k l =
    let job = l.film.job.now in
    let sums = l.film.sums.t.now in
    (l.found ≡ false) × ((x : ℕ) → x < l.k → lower_of job sums l.above-items l.i l.u x ≤ room_of job sums l.i x)

-- each leaf seen stays within its own room, so all do where those left do; that they are fed follows only from all of them
abbrev pub invariant-search : goal.invariant-search
invariant-search l =
    let P : ℕ → Type 0 = InRoom (tree_in l.film.job.now) (sums_in l.film.sums.t.now) (length l.initial.lowers) in
    record {
      row : length l.lowers ≡ length l.initial.lowers;
      none : l.found ≡ false;
      near : Kept (tree_in l.film.job.now) (sums_in l.film.sums.t.now) l.near l.lowers;
      left : All (λ i. leaf (tree_in l.film.job.now) i ≡ true) (walk_left l.i-iterator);
      seen : All P (walk_left l.i-iterator) → All P (members l.leaves);
    }
