-- The loop keeps that the members that are left, taken in after those met, give the whole, and what the row has taken in.
use mathlib.Core.Path.{◌∙◌}
use Rattle.base.proofs.MemberLaws.{next_in}
use Rattle.job.specs.Read.{tree_in}
use Rattle.curves.proofs.RowLaws.{raised_members}
use Rattle.curves.proofs.raise_by_each.Goals as goal

pub raise_by_leaf-least-requires-clause-node : goal.raise_by_leaf-least-requires-clause-node
raise_by_leaf-least-requires-clause-node c = (next_in _ _ _ c.in-Some.ensures.steps).0

pub returns : goal.returns
returns c =
    let a = c.args in
    record {
      raised = (rw c.in-None.ensures.steps.0 at c.loop-l.invariant.0)
          ∙ raised_members (tree_in a.film.job.now) a.film.sums.t.now a.less a.set a.out.now;
      taken_after = c.loop-l.invariant.1;
    }
