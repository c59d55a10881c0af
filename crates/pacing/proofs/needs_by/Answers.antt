use native.Mathlib.Omega.{arith}
use Rattle.base.proofs.TableLaws.{filled_none, filled_more}
use Rattle.pacing.proofs.needs_by.Goals as goal

pub loop-i-init : goal.loop-i-init
loop-i-init c = filled_none _ _

pub loop-i-preserved : goal.loop-i-preserved
loop-i-preserved c =
    let l = c.loop-i in
    rw c.or_frame_alone.ensures (filled_more _ l.i _ _ l.invariant (omega arith))
