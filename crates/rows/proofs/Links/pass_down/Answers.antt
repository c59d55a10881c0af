-- The loop keeps that the turns done are those of the links before v, and that the copy is of the last one's parent.
use Prim.Native.Nat.{◌+◌, ◌-◌, ◌*◌, ◌≤◌}
use mathlib.Core.Path.{◌≡◌, refl}
use Rattle.smoothing.proofs.LoopLaws.{pass_down-none}
use Rattle.rows.specs.Links.{tree_in}
use Rattle.rows.proofs.ClosingLaws.{row_fits, down_turn, lent_none, lent_turn}
use lib.ListN.{length}
use native.Mathlib.Omega.{arith}
use Rattle.rows.proofs.Links.pass_down.Goals as goal

pub loop-v-init : goal.loop-v-init
loop-v-init c = (λ k h. pass_down-none _ _ _ 0 refl, lent_none _ _ _ _)

pub loop-v-preserved : goal.loop-v-preserved
loop-v-preserved c =
    let l = c.loop-v in
    let r = c.close_row in
    let w = c.args.width in
    let e : l.v + 1 - 1 ≡ l.v = omega arith in
    let fits = row_fits l.v c.args.self.now.nodes w (omega arith) (omega arith) in
    let room : (l.v - 1) * w + w ≤ length l.plan = omega (arith, l.auto.plan, c.requires.0.sized, fits) in (
      λ k h.
          rw (e, r.ensures.closed)
          (down_turn (tree_in c.args.self.now) w l.plan l.v
          ((l.v - 1) * w) l.auto.v refl room k h _ (l.invariant.0 k h)),
      lent_turn w c.args.self.now.parent.now l.plan _ _ _ _ l.v l.auto.v
          (c.args.self.now.ordered l.v (l.auto.v, omega arith)) room r.ensures.closed r.ensures.copied,
    )
