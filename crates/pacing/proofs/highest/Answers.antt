-- The loop has the greatest of the rates before its place.
use native.Mathlib.Omega.{arith}
use mathlib.Core.Path.{◌≡◌, refl}
use Prim.Native.Nat.{suc, ◌+◌}
use Rattle.base.specs.Range.{greatest}
use Rattle.pacing.proofs.highest.Goals as goal

pub loop-rate-init : goal.loop-rate-init
unfolding greatest
loop-rate-init c = refl

pub loop-rate-preserved : goal.loop-rate-preserved
unfolding greatest
loop-rate-preserved c =
    let next : c.loop-rate.rate-index + 1 ≡ suc c.loop-rate.rate-index = omega arith in
    rw (c.max-top.ensures, c.loop-rate.invariant, next) refl
