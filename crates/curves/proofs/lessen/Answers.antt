use Rattle.base.proofs.TableLaws.{filled_none, filled_more, filled-ahead}
use lib.ListN.{get_or}
use mathlib.Core.Path.{◌≡◌, ◌∙◌}
use Prim.Native.Nat.{◌-◌}
use native.Mathlib.Omega.{arith}
use Rattle.curves.proofs.lessen.Goals as goal

pub loop-x-init : goal.loop-x-init
loop-x-init c = filled_none _ _

pub loop-x-preserved : goal.loop-x-preserved
loop-x-preserved c =
    let l = c.loop-x in
    let a = c.args in
    let e : c.saturating_sub.result ≡ get_or a.out.now l.x-index 0 - a.less =
    c.saturating_sub.ensures ∙ rw (filled-ahead _ l.x-index _ l.out l.invariant (omega arith)) in
    rw e (filled_more (λ k. get_or a.out.now k 0 - a.less) l.x-index _ l.out l.invariant (omega arith))
