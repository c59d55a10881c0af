-- Where the last sum is in time at the first slot, all are; else the loop has the least delay for the slots before m.
use native.Mathlib.Omega.{arith}
use mathlib.Core.Path.{◌≡◌}
use Prim.Native.Nat.{◌-◌, ◌<◌}
use lib.ListN.{length}
use Rattle.job.specs.Sums.{sums_in}
use Rattle.job.proofs.SumsLaws.{sum_at, film_of, place-fits}
use Rattle.pacing.proofs.DelayLaws.{delay_before_more, delay_before_stretch}
use Rattle.pacing.proofs.delay_for_slots.Goals as goal

pub returns-then-sums-to : goal.returns-then-sums-to
returns-then-sums-to c =
    let sums = c.args.sums.t.now in
    delay_before_stretch (sums_in sums) _ (film_of sums c.args.sums.film.holds).grows c.args.m c.args.to
    c.args.w c.requires.slots.0
    (omega (arith, c.if-sums-to.true, sum_at sums (c.args.to - 1) (omega (arith, c.requires.slots)))) c.requires.delay_before

pub delay_for_slot-w-requires : goal.delay_for_slot-w-requires
delay_for_slot-w-requires c =
    let inside : c.loop-i.i < length c.args.sums.t.now = omega (arith, c.requires.slots.1) in (
      place-fits _ c.args.sums.film.holds _ inside,
      (
        c.requires.rate,
        (omega (arith, c.requires.slots.1, c.args.sums.film.frames_to), c.loop-i.invariant.to),
      ),
    )

pub loop-i-preserved : goal.loop-i-preserved
loop-i-preserved c =
    let l = c.loop-i in
    let inside : l.i < length c.args.sums.t.now = omega (arith, c.requires.slots.1) in
    delay_before_more _ _ _ _ _ l.invariant (rw (sum_at c.args.sums.t.now l.i inside) at c.delay_for_slot-w.ensures)

pub returns : goal.returns
returns c =
    let l = c.loop-i in
    let all : l.i ≡ c.args.to = omega (arith, c.requires.slots.0) in
    rw all at l.invariant
