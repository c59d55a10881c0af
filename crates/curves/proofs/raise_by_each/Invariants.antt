use mathlib.Core.Path.{◌≡◌}
use Rattle.std.specs.List.{fold}
use Rattle.base.specs.Set.{members}
use Rattle.base.specs.Walk.{walk_left}
use Rattle.job.specs.Read.{tree_in}
use Rattle.curves.specs.Rows.{raised_by, TakenIn}
use Rattle.curves.proofs.raise_by_each.Given as goal

abbrev pub invariant-loop-l : goal.invariant-loop-l
invariant-loop-l w =
    (fold (λ r l. raised_by (tree_in w.film.job.now) w.film.sums.t.now l w.less r) w.out (walk_left w.l-iterator)
    ≡ fold (λ r l. raised_by (tree_in w.film.job.now) w.film.sums.t.now l w.less r) w.initial.out (members w.set))
    × TakenIn w.film.sums.t.now w.least w.less w.out
