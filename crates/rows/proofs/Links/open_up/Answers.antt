-- The loop keeps that the turns to come give what the whole pass gives; in a turn a row is capped by its child's.
use Prim.Native.Nat.{◌+◌, ◌-◌, ◌*◌, ◌≤◌}
use mathlib.Core.Path.{refl, sym, ◌∙◌}
use mathlib.Core.Logic.{inl}
use lib.ListN.{length, get_or}
use Rattle.smoothing.specs.Lists.{family_in}
use Rattle.smoothing.specs.Tree.{open_up}
use Rattle.smoothing.proofs.LoopLaws.{pass_up_skip, pass_up-done}
use Rattle.rows.specs.Closing.{slot_in}
use Rattle.rows.specs.Links.{tree_in}
use Rattle.rows.proofs.ClosingLaws.{rows_apart, up_turn}
use native.Mathlib.Omega.{arith}
use Rattle.rows.proofs.Links.open_up.Goals as goal
use Rattle.rows.proofs.Links.open_up.Goals.{Then-u-gt0}

-- the rows of the parent and of the child lie one after the other within the plan
apart : (c : Then-u-gt0) → let a = c.args in let v = c.loop-v.v - 1 in
    ((get_or a.self.now.parent.now v 0 - 1) * a.width + a.width ≤ (v - 1) * a.width) × ((v - 1) * a.width + a.width ≤ length a.plan.now)
apart c =
    let l = c.loop-v in
    omega (arith, c.requires.closable.sized, rows_apart c.args.self.now (l.v - 1) c.args.width (omega arith, omega arith) (omega arith))

pub lower_within-requires : goal.lower_within-requires
lower_within-requires c =
    let l = c.loop-v in
    let rows = apart (goal.at.lower_within-requires c).Then-u-gt0 in (
      record {
        first_in = omega (arith, rows, l.auto.plan);
        second_in = omega (arith, rows, l.auto.plan);
        no_common = inl rows.0;
      },
      (c.requires.memories _ (omega arith, omega (arith, c.args.self.now.ordered (l.v - 1) (omega arith, omega arith))), l.invariant.0),
    )

pub loop-v-preserved-then-u-gt0 : goal.loop-v-preserved-then-u-gt0
loop-v-preserved-then-u-gt0 c =
    let l = c.loop-v in
    let r = c.lower_within in
    let v = l.v - 1 in
    let a = c.args in
    let u = get_or a.self.now.parent.now v 0 in
    let w = a.width in
    let rows = apart (goal.at.loop-v-preserved-then-u-gt0 c).Then-u-gt0 in
    let turn = up_turn (family_in a.self.now.parent.now) (open_up (tree_in a.self.now)) w l.plan v ((u - 1) * w) ((v - 1) * w)
    (omega arith) (omega arith) refl refl (omega (arith, rows, l.auto.plan)) in
    (r.ensures.ranged, λ k h. rw r.ensures.filled (sym (turn k h) ∙ l.invariant.1 k h))

pub loop-v-preserved : goal.loop-v-preserved
loop-v-preserved c =
    let l = c.loop-v in
    let a = c.args in
    let skip = pass_up_skip (family_in a.self.now.parent.now) (open_up (tree_in a.self.now)) (l.v - 1) (omega arith) in
    (l.invariant.0, λ k h. sym (skip (slot_in a.width l.plan k) (omega arith)) ∙ l.invariant.1 k h)

pub returns : goal.returns
returns c =
    let l = c.loop-v in
    record {
      passed = λ k h. sym (pass_up-done _ _ _ (l.v - 1) (omega arith)) ∙ l.invariant.1 k h;
      ranged = l.invariant.0;
    }
