use Rattle.job.specs.Limits.{greatest_memory}
use Rattle.curves.specs.Rows.{lowered_by}
use Rattle.curves.proofs.MidLaws.{lower_parts, part_get}
use Rattle.curves.proofs.RowLaws.{sums_range}
use Rattle.job.proofs.TreeLaws.{link_is}
use lib.ListN.{length, take, drop, get_or}
use mathlib.Core.Path.{refl, ap, ◌∙◌}
use Prim.Native.Nat.{ℕ, ◌+◌, ◌-◌, ◌≤◌}
use native.Mathlib.Omega.{arith}
use Rattle.curves.proofs.lower_by_leaf.Goals as goal
use Rattle.curves.proofs.lower_by_leaf.Goals.{Start}

-- the leaf's memory is within the limits
memory-fits : (c : Start) → get_or c.args.film.job.now.memory c.args.l 0 ≤ greatest_memory
memory-fits c = c.args.film.with_sums.tree.memories c.args.l (link_is _ c.args.l c.requires.0 c.requires.1)

pub overflow_add-last : goal.overflow_add-last
overflow_add-last c = omega (arith, c.args.film.with_sums.film.fits, memory-fits (goal.at.overflow_add-last c).Start)

pub lower_row_more-requires-clause-small : goal.lower_row_more-requires-clause-small
lower_row_more-requires-clause-small c = memory-fits (goal.at.lower_row_more-requires-clause-small c).Start

pub lower_row_more-requires-clause-in_range : goal.lower_row_more-requires-clause-in_range
lower_row_more-requires-clause-in_range c = search (arith, sums_range _ c.args.film.with_sums.film)

pub returns : goal.returns
unfolding lowered_by
returns c =
    let a = c.args in
    let s = c.min-start.result in
    let n = c.min-count.result in
    lower_parts a.out.now a.film.sums.t.now (take (n - 0) (drop 0 a.film.sums.t.now)) _ _ _ c.args.film.with_sums.film
    (get_or a.film.job.now.delay a.l 0) (get_or a.film.job.now.memory a.l 0) s n (s - 0)
    (s + n - s) (length a.out.now - (s + n))
    c.min-start.ensures
    c.min-count.ensures
    (omega arith) (omega arith) refl
    (λ j h. part_get a.film.sums.t.now 0 (n - 0) j (omega arith) ∙ ap (λ (z : ℕ). get_or a.film.sums.t.now z 0) (omega arith))
    c.lower_all.ensures c.lower_row_more.ensures (rw c.total.ensures at c.lower_all-2.ensures)
