-- The loop keeps that the turns done are those of the links before v; in a turn a row is capped by its parent's.
use Prim.Native.Nat.{◌+◌, ◌-◌, ◌*◌, ◌≤◌, min}
use mathlib.Core.Path.{◌≡◌, refl}
use mathlib.Core.Logic.{inr}
use lib.ListN.{length, get_or}
use Rattle.smoothing.specs.Lists.{family_in}
use Rattle.smoothing.proofs.LoopLaws.{pass_down_skip, pass_down-none}
use Rattle.rows.specs.Closing.{slot_in}
use Rattle.rows.specs.Links.{tree_in}
use Rattle.rows.proofs.ClosingLaws.{row_fits, rows_apart}
use Rattle.rows.proofs.OpeningLaws.{open_down_turn}
use native.Mathlib.Omega.{arith}
use Rattle.rows.proofs.Links.open_down.Goals as goal
use Rattle.rows.proofs.Links.open_down.Goals.{Then-u-gt0, then-u-gt0, else-u-gt0}

pub loop-v-init : goal.loop-v-init
loop-v-init c = (c.requires.1, λ k h. pass_down-none _ _ _ 0 refl)

-- the row of the parent lies before it
apart : (c : Then-u-gt0) → let a = c.args in let v = c.loop-v.v in
    (get_or a.self.now.parent.now v 0 - 1) * a.width + a.width ≤ (v - 1) * a.width
apart c =
    let l = c.loop-v in
    (rows_apart c.args.self.now l.v c.args.width (l.auto.v, omega arith) (omega arith)).0

pub lower_within-requires : goal.lower_within-requires
lower_within-requires c =
    let l = c.loop-v in
    let room : (l.v - 1) * c.args.width + c.args.width ≤ length c.args.plan.now =
    omega (arith, c.requires.0.sized, row_fits l.v c.args.self.now.nodes c.args.width (omega arith) (omega arith)) in (
      record {
        first_in = omega (arith, room, l.auto.plan);
        second_in = omega (arith, apart (goal.at.lower_within-requires c).Then-u-gt0, room, l.auto.plan);
        no_common = inr (apart (goal.at.lower_within-requires c).Then-u-gt0);
      },
      (omega arith, l.invariant.0),
    )

pub loop-v-preserved : goal.loop-v-preserved
loop-v-preserved c =
    let l = c.loop-v in
    let a = c.args in
    let u = get_or a.self.now.parent.now l.v 0 in
    let w = a.width in
    let e : l.v + 1 - 1 ≡ l.v = omega arith in
    let fits = row_fits l.v a.self.now.nodes w (omega arith) (omega arith) in
    let room : (l.v - 1) * w + w ≤ length l.plan = omega (arith, l.auto.plan, c.requires.0.sized, fits) in
    elim c.if-u-gt0.branch [
      | then-u-gt0 q ↦ (
        rw q.plan-is q.lower_within.ensures.ranged,
        λ k h.
            rw (e, q.plan-is, q.lower_within.ensures.filled)
            (open_down_turn (tree_in a.self.now) w l.plan l.v ((l.v - 1) * w) ((u - 1) * w)
            l.auto.v (omega arith) refl refl room k h _ (l.invariant.1 k h)),
      )
      | else-u-gt0 q ↦ (
        rw q.plan-is l.invariant.0,
        λ k h.
            rw (e, q.plan-is)
            (pass_down_skip (family_in a.self.now.parent.now) (λ v x y. min x y) l.v l.auto.v _
            (slot_in a.width l.plan k) (omega arith) (l.invariant.1 k h)),
      )
    ]
