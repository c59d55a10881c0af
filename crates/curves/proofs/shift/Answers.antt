use Rattle.job.specs.Sums.{sums_in}
use Rattle.base.proofs.TableLaws.{filled_none, filled_more}
use lib.ListN.{get_or}
use mathlib.Core.Path.{◌≡◌}
use Prim.Native.Nat.{◌-◌}
use native.Mathlib.Omega.{arith}
use Rattle.curves.proofs.shift.Goals as goal
use Rattle.curves.proofs.shift.Goals.{After-place}

pub loop-k-init : goal.loop-k-init
loop-k-init c = filled_none _ _

value : (c : After-place) → let l = c.loop-k in let a = c.args in
    get_or a.sums.now c.place.result 0 ≡ sums_in a.sums.now (l.k - a.delay)
unfolding sums_in
value c = rw c.place.ensures

pub loop-k-preserved : goal.loop-k-preserved
loop-k-preserved c =
    let l = c.loop-k in
    let a = c.args in
    rw (value (goal.at.loop-k-preserved c).After-place) (filled_more (λ k. sums_in a.sums.now (k - a.delay)) l.k _ l.out l.invariant (omega arith))
