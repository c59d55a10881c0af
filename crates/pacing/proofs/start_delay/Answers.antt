-- The loop has the least delay in time for the slots before m, and goes on by stretches; past the longest there is none.
use native.Mathlib.Omega.{arith}
use mathlib.Core.Path.{◌≡◌}
use Prim.Native.Nat.{◌-◌, min}
use lib.ListN.{length}
use Rattle.job.specs.Sums.{sums_in}
use Rattle.pacing.proofs.DelayLaws.{delay_before_none, delay_before_is}
use Rattle.pacing.proofs.start_delay.Goals as goal

-- a search finds this too, but of another start it says only that it gave up
pub loop-m-init : goal.loop-m-init
loop-m-init c = (delay_before_none _ _ _ _ (omega arith) (omega arith), omega arith)

pub returns-then-w : goal.returns-then-w
returns-then-w c =
    let some = c.args.sums.film.holds.some_sum in
    let is = delay_before_is (sums_in c.args.sums.t.now) c.args.r (length c.args.sums.t.now - 1) c.min-to.result _
    (omega (arith, c.min-to.ensures, some)) (λ l. absurd (omega (arith, c.if-w.true)))
    c.delay_for_slots-w.ensures in
    omega (arith, is, c.if-w.true, c.delay_for_slots-w.ensures.to)

pub returns : goal.returns
returns c =
    let l = c.loop-m in
    let some = c.args.sums.film.holds.some_sum in (
      delay_before_is _ _ _ (min l.m (length c.args.sums.t.now)) _ (omega (arith, some)) (λ h. omega (arith, c.loop-m-test.false, some))
          l.invariant.0,
      l.invariant.1,
    )

pub returns-else-w : goal.returns-else-w
returns-else-w c =
    let some = c.args.sums.film.holds.some_sum in
    let all : c.min-to.result ≡ length c.args.sums.t.now = omega (arith, c.min-to.ensures) in (
      delay_before_is _ _ _ c.min-to.result _ (omega (arith, all, some)) (λ h. omega (arith, all, some)) c.delay_for_slots-w.ensures,
      omega (arith, c.if-w.false),
    )
