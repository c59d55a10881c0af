use Rattle.curves.proofs.RowLaws.{all_length}
use mathlib.Core.Path.{ap, sym, ◌∙◌}
use Prim.Native.Nat.{◌<◌}
use Rattle.job.specs.Limits.{most_nodes}
use lib.ListN.{length, get_or}
use Rattle.base.proofs.TableLaws.{length-tab}
use Rattle.job.specs.Read.{tree_in}
use Rattle.curves.proofs.LowerLaws.{parent-lower}
use Rattle.curves.proofs.AllRowsLaws.{near_other}
use native.Mathlib.Omega.{arith}
use Rattle.curves.proofs.lower_near.Goals as goal
use Rattle.curves.proofs.lower_near.Goals.{Start}

-- the parent is lower, so that it has a place in the arrays
lower : (c : Start) → get_or c.args.film.job.now.parent c.args.v 0 < c.args.v
lower c = parent-lower (tree_in c.args.film.job.now) c.args.film.with_sums.tree c.args.v c.requires.0

near : (c : Start) → get_or c.args.film.job.now.parent c.args.v 0 < most_nodes
near c = omega (arith, lower c, c.requires.0, c.args.film.with_sums.tree.nodes_to)

pub least_delay-requires : goal.least_delay-requires
least_delay-requires c = omega (arith, lower (goal.at.least_delay-requires c).Start, c.requires.0)

pub keep_row-requires : goal.keep_row-requires
keep_row-requires c =
    ((omega arith, omega (arith, lower (goal.at.keep_row-requires c).Start, c.requires.0)), c.requires.1.0)

pub offset_bounds-film-u : goal.offset_bounds-film-u
offset_bounds-film-u c =
    omega (
      arith,
      near (goal.at.offset_bounds-film-u c).Start,
    )

pub bounds-film-u : goal.bounds-film-u
bounds-film-u c =
    near (goal.at.bounds-film-u c).Start

pub raise_row_less-requires : goal.raise_row_less-requires
raise_row_less-requires c =
    let own = c.begin_by_leaves.ensures in
    ap length c.keep_row.ensures ∙ length-tab _ _ ∙ c.requires.1.1 ∙ sym (ap length own.raised ∙ all_length _ _ _ _ _ ∙ length-tab _ _)

pub returns : goal.returns
returns c =
    let a = c.args in
    let row = c.keep_row.ensures in
    let long = ap length row ∙ length-tab _ _ in
    let near = near_other (tree_in a.film.job.now) c.args.film.with_sums.tree a.film.sums.t.now a.v c.requires.0
    (omega (
      arith,
      c.if-u-eq0.false,
    ))
    (length a.out.now) _ (rw c.requires.1.1 at row) _
    c.leaves_at.ensures in record {
      lower = c.raise_row_less.ensures
          ∙ rw c.begin_by_leaves.ensures.raised near;
      kept = (omega (arith, lower (goal.at.returns c).Start, c.requires.0), λ ne. rw long row);
    }
