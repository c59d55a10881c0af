-- In time already, never, or by so many slots as the rate needs for the sum, rounded up.
use native.Mathlib.Omega.{arith}
use Rattle.pacing.proofs.DelayLaws.{slot_after}
use Rattle.pacing.proofs.delay_for_slot.Goals as goal

pub returns : goal.returns
returns c =
    rw (c.min.ensures, c.div_ceil-slots.ensures)
    (slot_after c.args.sum c.args.r c.args.m c.args.w c.requires.1.1.1 (omega (arith, c.if-sum-r.false))
    (omega (arith, c.if-r-eq0.false)))
