-- The part of the plan that the code takes is the row, which ends within the plan.
use mathlib.Core.Path.{◌≡◌, refl, sym}
use Prim.Native.Nat.{◌+◌, ◌-◌, ◌≤◌}
use native.Mathlib.Omega.{arith}
use lib.ListN.{length}
use Rattle.planner.specs.Answer.{row_of}
use Rattle.planner.proofs.PlaceLaws.{place_inside}
use Rattle.planner.proofs.row_of.Goals as goal
use Rattle.planner.proofs.row_of.Goals.{In-Some}

inside : (c : In-Some) → c.in-Some.field-0.start + c.in-Some.field-0.slots ≤ length c.args.plan.now
inside c = place_inside _ _ _ _ (sym c.in-Some.ensures)

pub overflow_add-result : goal.overflow_add-result
overflow_add-result c = omega (arith, inside (goal.at.overflow_add-result c).In-Some)

pub offset_bounds-plan-start : goal.offset_bounds-plan-start
offset_bounds-plan-start c = omega (arith, inside (goal.at.offset_bounds-plan-start c).In-Some)

pub slice_bounds-result-end : goal.slice_bounds-result-end
slice_bounds-result-end c = omega (arith, inside (goal.at.slice_bounds-result-end c).In-Some)

pub returns-in-Some : goal.returns-in-Some
unfolding row_of
returns-in-Some c =
    let p = c.in-Some.field-0 in
    let d : p.start + p.slots - p.start ≡ p.slots = omega arith in
    rw (← c.in-Some.ensures, d) refl

pub returns-in-None : goal.returns-in-None
unfolding row_of
returns-in-None c = rw (← c.in-None.ensures) refl
