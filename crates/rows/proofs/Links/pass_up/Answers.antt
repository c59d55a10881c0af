-- The loop keeps that the turns to come give what the whole pass gives; in a turn a row is raised to its child's.
use Prim.Native.Nat.{◌+◌, ◌-◌, ◌*◌, ◌≤◌, max}
use mathlib.Core.Path.{refl, sym, ◌∙◌}
use lib.ListN.{length, get_or}
use Rattle.smoothing.specs.Lists.{family_in}
use Rattle.smoothing.proofs.LoopLaws.{pass_up_skip, pass_up-done}
use Rattle.rows.specs.Closing.{slot_in}
use Rattle.rows.proofs.ClosingLaws.{rows_apart, up_turn}
use native.Mathlib.Omega.{arith}
use Rattle.rows.proofs.Links.pass_up.Goals as goal
use Rattle.rows.proofs.Links.pass_up.Goals.{Then-u-gt0}

-- the rows of the parent and of the child lie one after the other within the plan
apart : (c : Then-u-gt0) → let a = c.args in let v = c.loop-v.v - 1 in
    ((get_or a.self.now.parent.now v 0 - 1) * a.width + a.width ≤ (v - 1) * a.width) × ((v - 1) * a.width + a.width ≤ length a.plan.now)
apart c =
    let l = c.loop-v in
    omega (arith, c.requires.sized, rows_apart c.args.self.now (l.v - 1) c.args.width (omega arith, omega arith) (omega arith))

pub loop-v-preserved-then-u-gt0 : goal.loop-v-preserved-then-u-gt0
loop-v-preserved-then-u-gt0 c =
    let l = c.loop-v in
    let r = c.raise_within in
    let v = l.v - 1 in
    let u = get_or c.args.self.now.parent.now v 0 in
    let w = c.args.width in
    let rows = apart (goal.at.loop-v-preserved-then-u-gt0 c).Then-u-gt0 in
    let turn = up_turn (family_in c.args.self.now.parent.now) (λ v x y. max x y) w l.plan v ((u - 1) * w) ((v - 1) * w)
    (omega arith) (omega arith) refl refl (omega (arith, rows, l.auto.plan)) in
    λ k h. rw r.ensures (sym (turn k h) ∙ l.invariant k h)

pub loop-v-preserved : goal.loop-v-preserved
loop-v-preserved c =
    let l = c.loop-v in
    let skip = pass_up_skip (family_in c.args.self.now.parent.now) (λ v x y. max x y) (l.v - 1) (omega arith) in
    λ k h. sym (skip (slot_in c.args.width l.plan k) (omega arith)) ∙ l.invariant k h

pub returns : goal.returns
returns c =
    let l = c.loop-v in
    λ k h. sym (pass_up-done _ _ _ (l.v - 1) (omega arith)) ∙ l.invariant k h
