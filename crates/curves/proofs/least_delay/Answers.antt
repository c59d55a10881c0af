-- The set has a leaf, so its earliest is a member; no leaf at or below the node starts before it.
use mathlib.Core.Path.{refl}
use Rattle.base.specs.Range.{first}
use Rattle.base.specs.Set.{has, word_bits}
use Rattle.job.specs.Read.{tree_in}
use Rattle.curves.proofs.LeafLaws.{member_lt, earliest_least, some_in, least_of_set}
use native.Mathlib.Omega.{arith}
use Rattle.curves.proofs.least_delay.Goals as goal

pub offset_bounds-film-first : goal.offset_bounds-film-first
offset_bounds-film-first c = omega (arith, member_lt c.leaves_at.result _ (omega arith) c.in-Some.ensures.member)

pub bounds-film-first : goal.bounds-film-first
bounds-film-first c = member_lt c.leaves_at.result _ (omega arith) c.in-Some.ensures.member

pub returns-in-Some : goal.returns-in-Some
returns-in-Some c =
    let l = c.leaves_at in
    let set = l.result in
    let earliest = c.in-Some.ensures in
    least_of_set (tree_in c.args.film.job.now) c.args.film.with_sums.tree c.args.a c.requires set l.ensures _ earliest.member (λ i m.
    rw earliest.found
    (earliest_least c.args.film.job.now.delay (has set) (first (has set) word_bits) word_bits i (member_lt set i (omega arith) m) m))

pub returns-in-None : goal.returns-in-None
returns-in-None c =
    let l = c.leaves_at in
    let some = some_in (tree_in c.args.film.job.now) c.args.film.with_sums.tree c.args.a c.requires l.result l.ensures in
    absurd (omega (arith, some, c.in-None.ensures.none.0 refl))
