use mathlib.Core.Path.{◌≡◌, refl, ◌∙◌}
use lib.ListN.{length, get_or}
use Rattle.job.specs.Read.{tree_in}
use Rattle.curves.proofs.RowLaws.{none-taken}
use Rattle.curves.proofs.AllRowsLaws.{less_in_range, near_own}
use native.Mathlib.Omega.{arith}
use Rattle.curves.proofs.keep_row.Goals as goal

pub raise_by_leaves-requires : goal.raise_by_leaves-requires
raise_by_leaves-requires c =
    let less = c.lessen in
    let kept = c.requires.1 in
    let within = c.args.film.with_sums in
    let small = less_in_range _ within.tree _ within.film c.args.c _ _ (omega arith, kept.0) _ less.new.out (kept.1 (omega arith))
    less.ensures in
    none-taken _ within.film 0 _ less.new.out refl small

pub returns : goal.returns
returns c =
    let a = c.args in
    let parent : get_or a.film.job.now.parent a.u 0 ≡ a.c = omega arith in
    let row = rw (← parent) at (c.requires.1.1 (omega arith)) in
    let less = rw (← parent) at c.lessen.ensures in
    c.raise_by_leaves.ensures.raised
    ∙ rw less
    (near_own (tree_in a.film.job.now) c.args.film.with_sums.tree a.film.sums.t.now a.u c.requires.0 (omega arith) (length a.kept.now)
    a.kept.now row
    _ c.leaves_at.ensures)
