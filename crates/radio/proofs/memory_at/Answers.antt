-- The loop keeps the greatest excess at the slots before m, stretch by stretch; at the end that is the memory.
use native.Mathlib.Omega.{arith}
use mathlib.Core.Path.{◌≡◌, refl, ◌∙◌}
use Prim.Native.Nat.{min}
use lib.ListN.{length}
use Rattle.base.specs.Range.{greatest}
use Rattle.radio.proofs.CarryLaws.{excess_all}
use Rattle.radio.proofs.memory_at.Goals as goal

pub loop-m-init : goal.loop-m-init
unfolding greatest
loop-m-init c = let none : min 0 (length c.args.sums.t.now) ≡ 0 = omega arith in rw none refl

pub returns : goal.returns
returns c =
    let l = c.loop-m in
    l.invariant
    ∙ excess_all c.args.sums.t.now c.args.sums.film.holds c.args.r c.args.d (min l.m (length c.args.sums.t.now))
    (omega (arith, c.loop-m-test.false))

-- and where the last stretch is through
pub returns-2 : goal.returns-2
returns-2 c =
    c.excess_for_slots-excess.ensures
    ∙ excess_all c.args.sums.t.now c.args.sums.film.holds c.args.r c.args.d c.min-to.result (omega (arith, c.min-to.ensures))
