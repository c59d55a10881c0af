-- What is left, taken from the lead so far, stays the lead over all; after the last member it is the fold over the set.
use mathlib.Core.Path.{◌∙◌}
use native.Mathlib.Omega.{arith}
use Rattle.base.proofs.MemberLaws.{next_in, fold_members}
use Rattle.running.proofs.most_ahead.Goals as goal

pub offset_bounds-column-c : goal.offset_bounds-column-c
offset_bounds-column-c c = omega (arith, (next_in _ _ _ c.in-Some.ensures.steps).0)

pub bounds-column-c : goal.bounds-column-c
bounds-column-c c = (next_in _ _ _ c.in-Some.ensures.steps).0

pub loop-c-preserved : goal.loop-c-preserved
loop-c-preserved c = rw (c.max-most.ensures, c.saturating_sub.ensures) (rw c.in-Some.ensures.steps at c.loop-c.invariant)

pub returns : goal.returns
returns c = (rw c.in-None.ensures.steps.0 at c.loop-c.invariant) ∙ fold_members _ _ c.args.set
