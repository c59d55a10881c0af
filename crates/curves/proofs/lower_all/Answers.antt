use Rattle.base.proofs.TableLaws.{filled_none, filled_more, filled-ahead}
use mathlib.Core.Path.{◌≡◌, ◌∙◌}
use native.Mathlib.Omega.{arith}
use Rattle.curves.proofs.lower_all.Goals as goal
use Rattle.curves.proofs.lower_all.Invariants.{row}

pub loop-x-init : goal.loop-x-init
loop-x-init c = filled_none _ _

pub loop-x-preserved : goal.loop-x-preserved
loop-x-preserved c =
    let l = c.loop-x in
    let a = c.args in
    let e : c.min.result ≡ row a.out.now a.value l.x-index = c.min.ensures
    ∙ rw (filled-ahead _ l.x-index _ l.out l.invariant (omega arith)) in
    rw e (filled_more (row a.out.now a.value) l.x-index _ l.out l.invariant (omega arith))
