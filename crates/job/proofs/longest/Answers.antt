-- What is left of the members, taken in from the greatest so far on, gives the greatest of all.
use Rattle.std.proofs.Common.{◌∙◌, arith}
use Rattle.base.proofs.MemberLaws.{next_in, fold_members}
use Rattle.job.proofs.longest.Goals as goal

pub offset_bounds-delay-i : goal.offset_bounds-delay-i
offset_bounds-delay-i c = omega (arith, (next_in _ _ _ c.in-Some.ensures.steps).0)

pub bounds-delay-i : goal.bounds-delay-i
bounds-delay-i c = omega (arith, (next_in _ _ _ c.in-Some.ensures.steps).0)

pub returns : goal.returns
returns c = (rw c.in-None.ensures.steps.0 at c.loop-i.invariant) ∙ fold_members _ _ c.args.set
