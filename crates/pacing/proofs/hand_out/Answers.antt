-- The loop has handed out to the places before i; the rest are as they were.
use native.Mathlib.Omega.{arith}
use Prim.Native.Nat.{◌<◌}
use lib.ListN.{length}
use Rattle.base.proofs.TableLaws.{filled_none, filled_more, filled-ahead}
use Rattle.pacing.proofs.hand_out.Goals as goal

pub loop-i-init : goal.loop-i-init
loop-i-init c = filled_none _ _

pub loop-i-preserved : goal.loop-i-preserved
loop-i-preserved c =
    let l = c.loop-i in
    let inside : l.i < length c.args.needs.now = omega arith in
    rw (c.need_at.ensures, filled-ahead _ l.i _ _ l.invariant inside) (filled_more _ l.i _ _ l.invariant inside)
