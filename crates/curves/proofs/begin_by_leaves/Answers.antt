-- The earliest leaf fills the row, then the rest is taken in; together they are the whole set.
use mathlib.Core.Path.{◌≡◌, refl, ap, sym, ◌∙◌}
use lib.ListN.{length, get_or}
use Rattle.base.specs.Table.{tab}
use Rattle.base.proofs.ListLaws.{tab_const}
use Rattle.job.specs.Read.{tree_in}
use Rattle.curves.proofs.LeafLaws.{member_lt}
use Rattle.curves.proofs.RowLaws.{zeros-taken, shifted-taken, raised_fresh, raised_by_none, raised_by_all_lem}
use native.Mathlib.Omega.{arith}
use Rattle.curves.proofs.begin_by_leaves.Goals as goal

pub returns-in_default : goal.returns-in_default
returns-in_default c =
    let a = c.args in
    let none : a.set ≡ 0 = c.in_default.ensures.none.0 refl in
    let zeros = c.fill.ensures.after (λ y e. e) ∙ sym (tab_const 0 (length a.out.now)) in
    record {
      raised = zeros ∙ rw none (raised_by_none _ _ 0 (tab (λ _. 0) (length a.out.now)));
      taken_after = zeros-taken _ c.args.film.with_sums.film _ (zeros ∙ ap (tab (λ _. 0)) (sym c.fill.ensures.len));
    }

pub offset_bounds-film-first : goal.offset_bounds-film-first
offset_bounds-film-first c = omega (arith, member_lt c.args.set _ (omega arith) c.in-Some.ensures.member)

pub bounds-film-first : goal.bounds-film-first
bounds-film-first c = member_lt c.args.set _ (omega arith) c.in-Some.ensures.member

pub raise_by_each-requires : goal.raise_by_each-requires
raise_by_each-requires c =
    let a = c.args in
    rw c.shift.ensures (shifted-taken _ a.film.with_sums.film (get_or a.film.job.now.delay c.in-Some.first 0) (length a.out.now))

pub returns : goal.returns
returns c =
    let a = c.args in
    let t = tree_in a.film.job.now in
    let member = c.in-Some.ensures.member in
    let n = length a.out.now in
    record {
      raised = c.raise_by_each.ensures.raised
          ∙ rw (c.shift.ensures ∙ raised_fresh t a.film.sums.t.now c.in-Some.first n)
          (raised_by_all_lem t a.film.sums.t.now 0 a.set _ _ _ (tab (λ _. 0) n) (member_lt a.set _ (omega arith) member) member
          c.with.ensures c.outside-rest.ensures);
      taken_after = c.raise_by_each.ensures.taken_after;
    }
