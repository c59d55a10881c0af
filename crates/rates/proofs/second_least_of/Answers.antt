use native.Mathlib.Omega.{arith}
use mathlib.Core.Path.{ap, ◌∙◌}
use Prim.Native.Nat.{ℕ}
use Rattle.base.proofs.MemberLaws.{fold_members, next_in}
use Rattle.rates.proofs.second_least_of.Goals as goal

pub offset_bounds-numbers-i : goal.offset_bounds-numbers-i
offset_bounds-numbers-i c = omega (arith, (next_in _ _ _ c.in-Some.ensures.steps).0)

pub bounds-numbers-i : goal.bounds-numbers-i
bounds-numbers-i c = omega (arith, (next_in _ _ _ c.in-Some.ensures.steps).0)

pub returns : goal.returns
returns c = ap (λ (g : ℕ × ℕ). g.1) (rw c.in-None.ensures.steps.0 at c.loop-i.invariant ∙ fold_members _ _ c.args.set)
