-- By cases: a row that has taken in an earlier delay stays; else the slots with frames and those past the film are raised part by part,
-- which together raise the row.
use Rattle.job.specs.Read.{tree_in}
use Rattle.curves.specs.Rows.{raised_by}
use Rattle.curves.proofs.MidLaws.{raise_parts, part_get}
use Rattle.curves.proofs.RowLaws.{raised_none, raised_taken}
use lib.ListN.{length, take, drop, get_or}
use mathlib.Core.Path.{refl, ap, ◌∙◌}
use Prim.Native.Nat.{ℕ, ◌+◌, ◌-◌}
use native.Mathlib.Omega.{arith}
use Rattle.curves.proofs.raise_by_leaf.Goals as goal

pub returns-then-taken-delay : goal.returns-then-taken-delay
returns-then-taken-delay c =
    let a = c.args in
    record {
      raised = raised_none a.film.sums.t.now a.film.with_sums.film (tree_in a.film.job.now) a.l a.less a.taken a.out.now (omega arith)
          c.requires.taken_before;
      taken_after = c.requires.taken_before;
    }

pub returns : goal.returns
unfolding raised_by
returns c =
    let a = c.args in
    let value = c.saturating_sub-last.ensures in
    let s = c.min-start.result in
    let n = c.min-count.result in
    let row = raise_parts a.out.now a.film.sums.t.now (take (n - 0) (drop 0 a.film.sums.t.now)) _ _ c.args.film.with_sums.film
    (get_or a.film.job.now.delay a.l 0) a.less s n (s + n - s)
    (length a.out.now - (s + n))
    (omega (arith, c.min-start.ensures))
    c.min-count.ensures (omega arith) refl
    (λ j h. part_get a.film.sums.t.now 0 (n - 0) j (omega arith) ∙ ap (λ (z : ℕ). get_or a.film.sums.t.now z 0) (omega arith))
    c.raise_row_less.ensures (rw (value, c.total.ensures) at c.raise_to.ensures) in record {
      raised = row;
      taken_after = rw row (raised_taken (tree_in a.film.job.now) a.film.sums.t.now a.less c.args.film.with_sums.film a.l a.out.now
          (λ k q. (c.requires.taken_before k q).1));
    }
