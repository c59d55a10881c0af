-- The loop keeps that the needs at the rates below y are found and that the places do for those from `done` on; each turn finds some more.
use native.Mathlib.Omega.{arith}
use mathlib.Core.List.{List, ◌++◌}
use mathlib.Core.Path.{◌≡◌}
use Prim.Native.Nat.{ℕ, ◌+◌, ◌-◌, ◌≤◌, ◌<◌}
use lib.ListN.{length, get_or, take, drop, length-append}
use Rattle.base.specs.Range.{greatest}
use Rattle.base.specs.Table.{tab}
use Rattle.base.proofs.RangeLaws.{greatest-above, greatest-under}
use Rattle.job.specs.Limits.{most_nodes, greatest_rate}
use Rattle.pacing.specs.Pace.{RatesWithin, need_of}
use Rattle.pacing.specs.Work.{Places, PlacesAt, PlacesAtOnce, SameFrom, at_once, NextRates, chosen}
use Rattle.pacing.proofs.PlaceLaws.{places_within, places-alone, places_same-from}
use Rattle.pacing.proofs.NeedLaws.{next_to, next_rise, needs_none, needs_more, needs_all}
use Rattle.pacing.proofs.needs.Goals as goal
use Rattle.pacing.proofs.needs.Invariants.{Found}

-- one turn: low peaks may have been left out, for rates from `low` on, and the needs at the next rates are found
module _ (sums rates places : List ℕ) (top largest y done count : ℕ) (rules : List ℕ)
    (so : Found sums rates places top largest y done count rules)
    (going : y ≤ top) (r : List ℕ) (next : NextRates rates y top r) (low : ℕ) (lower : (done ≤ low) × (low ≤ get_or r 0 0)) (new : List ℕ)
    (k : ℕ) (same : SameFrom sums low largest (take count places) new k) (kept : length new ≡ length (take count places)) where
  abbrev left : List ℕ
  left = new ++ drop count places

  left-fits : k ≤ length left
  left-fits = omega (arith, same.fewer, kept, length-append new (drop count places))

  left_enough : Places sums low top largest left k
  left_enough =
      places_same-from sums low top largest count places so.fits
      (places_within sums done top low top largest places count lower.0 (omega arith) so.enough) new kept k same

  alone : Places sums low top largest (take k left) (length (take k left))
  alone = places-alone sums low top largest k left left-fits left_enough

  at : (x : ℕ) → low ≤ x → x ≤ top → PlacesAt sums largest (take k left) (length (take k left)) x
  at x h l =
      record {
        passes = places_within sums low top x x largest (take k left) (length (take k left)) h l alone;
        rate = omega (arith, so.top_to);
      }

  for_all : PlacesAtOnce sums largest (take k left) r
  for_all =
      record {
        track = alone.track;
        each = λ i h. at (get_or r i 0) (omega (arith, lower.1, next_rise rates y top r next 0 i (omega arith) h))
            (next_to rates y top r next i h);
      }

  on : (given : List ℕ)
      → given ≡ tab (λ i. chosen r (tab (λ k. need_of sums (get_or r k 0)) at_once) (get_or rates i 0) (get_or rules i 0)) most_nodes
      → Found sums rates left top largest (get_or r (at_once - 1) 0 + 1) low k given
  on given is =
      record {
        to = omega (arith, next_to rates y top r next (at_once - 1) (omega arith));
        top_to = so.top_to;
        above = so.above;
        behind = omega (arith, lower.1, next_rise rates y top r next 0 (at_once - 1) (omega arith) (omega arith));
        fits = left-fits;
        enough = left_enough;
        found = needs_more sums rates rules given y top r next so.found is;
      }

-- the top is within the limits, and no rate is above it
top_within : (rates : List ℕ) (top : ℕ) → RatesWithin rates → top ≡ greatest (λ i. get_or rates i 0) most_nodes
    → (top ≤ greatest_rate) × ((i : ℕ) → i < most_nodes → get_or rates i 0 ≤ top)
top_within rates top within is = (
  omega (arith, is, greatest-under (λ i. get_or rates i 0) most_nodes greatest_rate within),
  λ i h. omega (arith, is, greatest-above (λ i. get_or rates i 0) most_nodes i h),
)

pub next_rates-lowest-requires : goal.next_rates-lowest-requires
next_rates-lowest-requires c = (top_within c.args.rates.now _ c.requires.1
    c.highest-top.ensures).0

pub first_places-first-requires : goal.first_places-first-requires
first_places-first-requires c =
    let top = (top_within c.args.rates.now _ c.requires.1 c.highest-top.ensures).0 in
    (c.requires.0, (omega (arith, next_to _ _ _ _ c.next_rates-lowest.ensures 0 (omega arith), top), top))

pub loop-y-init : goal.loop-y-init
loop-y-init c =
    let top = top_within c.args.rates.now _ c.requires.1 c.highest-top.ensures in
    let lowest = c.next_rates-lowest.ensures in
    let first = c.first_places-first in
    record {
      to = omega (arith, next_to _ _ _ _ lowest 0 (omega arith));
      top_to = top.0;
      above = top.1;
      behind = omega arith;
      fits = omega (arith, first.ensures.track.few, first.auto.places, c.requires.0, c.args.sums.film.holds.some_sum);
      enough = first.ensures;
      found = needs_none _ _ _ _ lowest;
    }

pub needs_at_once-found-requires : goal.needs_at_once-found-requires
needs_at_once-found-requires c =
    let l = c.loop-y in
    let left = c.leave_out_more_peaks-count in
    for_all _ _ _ _ _ l.y _ _ _ l.invariant c.loop-y-test.true _
    c.next_rates-taken.ensures _
    c.rate_to_leave_out_for-low.ensures _ _ left.ensures left.auto.places

pub loop-y-preserved : goal.loop-y-preserved
loop-y-preserved c =
    let l = c.loop-y in
    let left = c.leave_out_more_peaks-count in
    let given = rw c.needs_at_once-found.ensures at c.hand_out.ensures in
    on _ _ _ _ _ l.y _ _ _ l.invariant c.loop-y-test.true _ c.next_rates-taken.ensures _ c.rate_to_leave_out_for-low.ensures _ _
    left.ensures left.auto.places _ given

pub returns : goal.returns
returns c =
    let l = c.loop-y in
    needs_all _ _ _ l.y (λ i h. omega (arith, l.invariant.above i h, c.loop-y-test.false)) l.invariant.found
