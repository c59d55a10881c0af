-- The earliest leaf first, then the rest, which together are the whole set.
use mathlib.Core.Path.{◌≡◌, refl, ◌∙◌}
use Rattle.job.specs.Read.{tree_in}
use Rattle.curves.proofs.LeafLaws.{member_lt}
use Rattle.curves.proofs.RowLaws.{raised_by_none, raised_by_all_lem}
use native.Mathlib.Omega.{arith}
use Rattle.curves.proofs.raise_by_leaves.Goals as goal

pub returns-in_default-clause-raised : goal.returns-in_default-clause-raised
returns-in_default-clause-raised c =
    let none : c.args.set ≡ 0 = c.in_default.ensures.none.0 refl in
    rw none (raised_by_none _ _ _ c.args.out.now)

pub raise_by_leaf-least-requires-clause-node : goal.raise_by_leaf-least-requires-clause-node
raise_by_leaf-least-requires-clause-node c =
    member_lt c.args.set _ (omega arith) c.in-Some.ensures.member

pub returns : goal.returns
returns c =
    let a = c.args in
    let member = c.in-Some.ensures.member in
    record {
      raised = c.raise_by_each.ensures.raised
          ∙ rw c.raise_by_leaf-least.ensures.raised
          (raised_by_all_lem (tree_in a.film.job.now) a.film.sums.t.now a.less a.set _ _ _ a.out.now
          (member_lt a.set _ (omega arith) member) member
          c.with.ensures c.outside-rest.ensures);
      taken_after = c.raise_by_each.ensures.taken_after;
    }
