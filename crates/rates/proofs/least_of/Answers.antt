use native.Mathlib.Omega.{arith}
use mathlib.Core.Path.{◌∙◌}
use Rattle.base.proofs.MemberLaws.{fold_members, next_in}
use Rattle.rates.proofs.least_of.Goals as goal

pub offset_bounds-numbers-i : goal.offset_bounds-numbers-i
offset_bounds-numbers-i c = omega (arith, (next_in _ _ _ c.in-Some.ensures.steps).0)

pub bounds-numbers-i : goal.bounds-numbers-i
bounds-numbers-i c = omega (arith, (next_in _ _ _ c.in-Some.ensures.steps).0)

pub loop-i-preserved : goal.loop-i-preserved
loop-i-preserved c = rw c.min-least.ensures (rw c.in-Some.ensures.steps at c.loop-i.invariant)

pub returns : goal.returns
returns c = rw c.in-None.ensures.steps.0 at c.loop-i.invariant ∙ fold_members _ _ c.args.set
