-- The loop has the steps up to slot m - 1 and the largest frame so far, which alone gets no further ahead than the film does.
use native.Mathlib.Omega.{arith}
use mathlib.Core.Path.{◌≡◌, refl, ap, sym, ◌∙◌}
use Prim.Native.Nat.{suc, ◌+◌, ◌-◌, ◌≤◌, ◌<◌}
use lib.ListN.{length, get_or, length-set}
use Rattle.job.specs.Limits.{greatest_rate, greatest_total}
use Rattle.job.specs.Sums.{sums_in}
use Rattle.job.proofs.SumsLaws.{sum_at, film_of, sum_fits}
use mathlib.Core.Logic.{inl}
use Rattle.pacing.proofs.SmallFrameLaws.{SmallFrames, steps_next}
use Rattle.pacing.proofs.LeadLaws.{frame_next, most_under}
use Rattle.pacing.proofs.PlaceLaws.{steps_places}
use Rattle.pacing.proofs.leave_out_small_frames.Goals as goal
use Rattle.pacing.proofs.leave_out_small_frames.Goals.{In-loop-m}

-- there is a place for each slot
room : (c : In-loop-m) → length c.args.sums.t.now ≤ length c.loop-m.places
room c = omega (
  arith,
  c.loop-m.auto.places,
  length-set c.args.places.now 0 0,
  c.requires.0,
)

pub loop-m-preserved : goal.loop-m-preserved
loop-m-preserved c =
    let taken = c.loop-m-test.true in
    let sums = c.args.sums.t.now in
    let T = sums_in sums in
    let l = c.loop-m in
    let m = l.m in
    let k = c.select-k.result in
    let back : m + 1 - 1 ≡ m = omega arith in
    let this : m ≡ suc (m - 1) = omega arith in
    let here : get_or sums m 0 ≡ T m = sum_at sums m taken in
    let last : get_or sums (m - 1) 0 ≡ T (m - 1) = sum_at sums (m - 1) (omega (arith, taken)) in
    let how = rw (c.max.ensures, here ∙ ap T this, last) at c.select-k.ensures in
    let low = c.args.low in
    let up : T (m - 1) ≤ T (suc (m - 1)) = (film_of sums c.args.sums.film.holds).grows (m - 1) (suc (m - 1)) (omega arith) in
    let short : suc (m - 1) < length l.places = omega (arith, room (goal.at.loop-m-preserved c).In-loop-m, taken) in
    let flat : T (suc (m - 1)) - T (m - 1) ≤ low → SmallFrames T low (m - 1) (suc (m - 1)) = λ h x a b. let e : x ≡ m - 1 =
    omega arith in rw e (omega (arith, h, up)) in
    let next = steps_next T low (m - 1) (suc (m - 1)) l.k l.last (T (suc (m - 1)) - T (m - 1)) l.places l.invariant.0
    short (omega arith, inl refl) flat k how in
    let alone = frame_next T l.largest (m - 1) l.invariant.1 in
    (rw (back, here, last) (rw (sym this) at next), rw (back, c.max-largest.ensures, here, last) (rw (sym this) at alone))

pub returns : goal.returns
returns c =
    let sums = c.args.sums.t.now in
    let l = c.loop-m in
    let e : l.m ≡ length sums = omega (arith, c.loop-m-test.false, l.auto.m-end, c.args.sums.film.holds.some_sum) in
    let T = sums_in sums in
    let film = film_of sums c.args.sums.film.holds in
    let M = length sums - 1 in
    let alone = rw e at l.invariant.1 in
    let small : l.largest ≤ greatest_total = omega (
      arith,
      alone 0,
      most_under T (λ m. film.grows m (suc m) (omega arith)) 0 M,
      sum_fits
          sums c.args.sums.film.holds M,
    ) in
    steps_places sums film.grows _ greatest_rate l.largest _ _ (rw e at l.invariant.0.steps) small alone
