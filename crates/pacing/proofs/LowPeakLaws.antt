-- Low peaks left out: why no need is missed. Since the last peak the lead at rate `low` has been between a floor and a bar. Where it is
-- on the floor again, a higher rate has been on it too, and all places since the peak can go.
use mathlib.Core.Bool.{Bool, true, false, cond}
use mathlib.Core.List.{List}
use mathlib.Core.Logic.{◌⊎◌, inl, inr}
use mathlib.Core.Path.{◌≡◌, refl, sym, ◌∙◌}
use Prim.Native.Nat.{ℕ, zero, suc, ◌+◌, ◌-◌, ◌*◌, ◌≤◌, ◌<◌, max, min}
use native.Mathlib.Omega.{arith}
use native.Mathlib.Nat.{mul-le-mul}
use native.Mathlib.Decide.{ℕ_discrete, dec_lt}
use lib.Dec.{ltb}
use lib.ListN.{length, get_or, set}
use borrow.Author.Tests.{lt-ltb, le-ltb}
use Rattle.job.specs.Sums.{sums_in, HoldsSums}
use Rattle.job.proofs.SumsLaws.{film_of}
use Rattle.pacing.specs.Work.{ahead_by, most_by, PassOver, SameFrom, since_peak_after, state_at, left_at}
use Rattle.pacing.specs.declared.SincePeak.{SincePeak}
use Rattle.pacing.proofs.PlaceLaws.{left_track, times_split, straight_to, put_here, put_before, put-ahead, put_most}
use Rattle.pacing.proofs.PlaceLaws.{put-ahead_here, put_most_here, put-rising, put-inside, times_higher, most_over, ahead_next}
use Rattle.pacing.proofs.PlaceLaws.{ahead_higher, left-room}

-- ---- numbers

max_more : (x y z n : ℕ) → x ≤ max y z → max x n ≤ max (max y n) z
max_more x y z n h = omega arith

max-under : (x y z n : ℕ) → x ≤ max y z → n ≤ max y z → max x n ≤ max y z
max-under x y z n h l = omega arith

max_right : (x y z n : ℕ) → x ≤ max y z → z ≤ n → x ≤ max y n
max_right x y z n h l = omega arith

max_both : (x y z y' z' : ℕ) → x ≤ max y z → y ≤ y' → z ≤ z' → x ≤ max y' z'
max_both x y z y' z' h l m = omega arith

max_past : (x y z n : ℕ) → x ≤ y → y ≤ z → x ≤ max n z
max_past x y z n h l = omega arith

max_none : (x y z : ℕ) → x ≤ max y z → z ≡ 0 → x ≤ y
max_none x y z h e = omega arith

both_ways : (x y : ℕ) → x ≤ y → y ≤ x → x ≡ y
both_ways x y h l = omega arith

less_less : (x y d : ℕ) → x ≤ y → x - d ≤ y - d
less_less x y d h = omega arith

-- At one rate, with z for the largest frame less the rate and d for how much the rate is above `low`. Most up to the peak, and up to the
-- last place left; ahead straight from the peak; ahead and most with all places.
pub record AtRate (z d peaked leftmost straight full fullmost lead floor : ℕ) : Type 0 where
  pub over : leftmost ≤ max fullmost z
  pub under : fullmost ≤ max leftmost z
  pub kept : peaked ≤ leftmost
  pub from_peak : straight ≤ full
  pub near : full ≤ max straight (lead - floor - d)
  pub within : fullmost ≤ max peaked z

-- what is played in a step, and taken off by the rate and, less, by the lowest one
module _ (played taken less d : ℕ) (more : less + d ≤ taken) where
  own_rise : (lead floor : ℕ) → floor ≤ lead → played - taken ≤ lead + played - less - floor - d
  own_rise lead floor h = omega arith

  floor_rise : (full lead floor floor' : ℕ) → floor' ≤ floor → full + floor + d ≤ lead
      → full + played - taken ≤ lead + played - less - floor' - d
  floor_rise full lead floor floor' h l = omega arith

  straight_rise : (full a w : ℕ) → full ≤ a - w → full + played - taken ≤ max (a + played - (w + taken)) (played - taken)
  straight_rise full a w h = omega arith

  near_on : (full a w lead floor floor' : ℕ) → full ≤ max (a - w) (lead - floor - d) → floor ≤ lead → floor' ≤ floor
      → full + played - taken ≤ max (a + played - (w + taken)) (lead + played - less - floor' - d)
  near_on full a w lead floor floor' near h l = go (dec_lt (a - w) full)
    where
      rise : full + floor + d ≤ lead ⊎ full ≡ 0 → full + played - taken ≤ lead + played - less - floor' - d
      rise (inl high) = floor_rise full lead floor floor' l high
      rise (inr none) = let z : full + played ≡ played = omega arith in rw z (own_rise lead floor' (omega arith))

      either : full ≤ lead - floor - d → full + floor + d ≤ lead ⊎ full ≡ 0
      either under = positive (ℕ_discrete full 0)
        where
          positive : Dec (full ≡ 0) → full + floor + d ≤ lead ⊎ full ≡ 0
          positive (yes e) = inr e
          positive (no ne) = inl (omega arith)

      go : Dec (a - w < full) → full + played - taken ≤ max (a + played - (w + taken)) (lead + played - less - floor' - d)
      go (yes above) = max_past _ _ _ _ (rise (either (omega (arith, near)))) (omega arith)
      go (no ne) =
          max_right _ _ _ _ (straight_rise full a w (omega arith)) (own_rise lead floor' (omega arith))

  from-peak_on : (full a w : ℕ) → a - w ≤ full → a + played - (w + taken) ≤ full + played - taken
  from-peak_on full a w h = omega arith

  module _ (z peaked leftmost full fullmost lead floor a w : ℕ) (so : AtRate z d peaked leftmost (a - w) full fullmost lead floor)
      (floored : floor ≤ lead) where
    abbrev full' : ℕ
    full' = full + played - taken

    abbrev straight' : ℕ
    straight' = a + played - (w + taken)

    abbrev lead' : ℕ
    lead' = lead + played - less

    on_peak : AtRate z d (max leftmost full') (max leftmost full') full' full' (max fullmost full') lead' lead'
    on_peak =
        record {
          over = max_more leftmost fullmost z full' so.over;
          under = max_more fullmost leftmost z full' so.under;
          kept = omega arith;
          from_peak = omega arith;
          near = omega arith;
          within = max_more fullmost leftmost z full' so.under;
        }

    on_between : full' ≤ max peaked z → AtRate z d peaked (max leftmost full') straight' full' (max fullmost full') lead' floor
    on_between small =
        record {
          over = max_more leftmost fullmost z full' so.over;
          under = max_more fullmost leftmost z full' so.under;
          kept = omega (arith, so.kept);
          from_peak = from-peak_on full a w so.from_peak;
          near = near_on full a w lead floor floor so.near floored (omega arith);
          within = max-under fullmost peaked z full' so.within small;
        }

    again : lead' ≤ floor → straight' ≡ full'
    again h =
        both_ways straight' full' (from-peak_on full a w so.from_peak)
        (max_none full' straight' (lead' - lead' - d) (near_on full a w lead floor lead' so.near floored h) (omega arith))

    on_low : full' ≤ max peaked z → AtRate z d peaked (max peaked full') full' full' (max fullmost full') lead' lead'
    on_low small =
        record {
          over = max_more peaked fullmost z full' (omega (arith, so.kept, so.over));
          under = max_more fullmost peaked z full' so.within;
          kept = omega arith;
          from_peak = omega arith;
          near = omega arith;
          within = max-under fullmost peaked z full' so.within small;
        }

-- under the bar a lead is no more than the one at the peak, or no more than the largest frame alone gets ahead
module _ (full lead d slack peak top played taken less gap : ℕ) (lower : full ≤ lead - d)
    (near : full ≤ max (peak + played - taken) (gap - d)) (small : gap ≤ slack)
    (above : top + played - less ≤ lead) (more : less ≤ taken) where
  no_rise : lead ≤ top → peak + played - taken ≤ peak
  no_rise h = let fall : played ≤ less = omega (arith, above) in omega arith

  under_bar : lead ≤ max slack top → full ≤ max peak (slack - d)
  under_bar h = go (dec_lt slack lead)
    where
      go : Dec (slack < lead) → full ≤ max peak (slack - d)
      go (yes over) = max_both full _ _ peak (slack - d) near (no_rise (omega arith)) (less_less gap slack d small)
      go (no ne) = max_past full _ _ peak lower (less_less lead slack d (omega arith))

-- ---- places

-- after place j of the old ones, where so many are left
pub record SincePeakAt (T : ℕ → ℕ) (low : ℕ) (old places : List ℕ) (j : ℕ) (t : SincePeak) (lead : ℕ) : Type 0 where
  pub starts : get_or places 0 0 ≡ 0
  pub ends : get_or places t.last 0 ≡ get_or old j 0
  pub few : t.last ≤ j
  pub order : t.peak ≤ t.last
  pub rising : (u : ℕ) → u < t.last → get_or places u 0 < get_or places (suc u) 0
  pub inside : (u : ℕ) → u ≤ t.last → get_or places u 0 ≤ get_or old j 0
  pub is_lead : lead ≡ ahead_by T old low j
  pub floored : t.floor ≤ lead
  pub barred : lead ≤ t.bar
  pub slack : t.bar ≤ t.floor + t.slack
  pub top : t.bar ≤ max t.slack (ahead_by T places low t.peak)
  pub same : (r : ℕ) → low ≤ r → ahead_by T places r t.last ≡ ahead_by T old r j
  pub rates : (r : ℕ) → low ≤ r
      → AtRate (t.slack - (r - low)) (r - low) (most_by T places r t.peak) (most_by T places r t.last)
      (straight_to T places r t.peak (get_or old j 0)) (ahead_by T old r j) (most_by T old r j) lead t.floor

pub since_peak-start : (T : ℕ → ℕ) (low slack : ℕ) (old : List ℕ) → get_or old 0 0 ≡ 0
    → SincePeakAt T low old old 0 (record { last = 0; peak = 0; floor = 0; bar = slack; slack = slack }) 0
unfolding ahead_by most_by
since_peak-start T low slack old z =
    record {
      starts = z;
      ends = refl;
      few = omega arith;
      order = omega arith;
      rising = λ u h. absurd (omega arith);
      inside = λ u h. let e : u ≡ 0 = omega arith in rw e (omega arith);
      is_lead = refl;
      floored = omega arith;
      barred = omega arith;
      slack = omega arith;
      top = omega arith;
      same = λ r h. refl;
      rates = λ r h. record {
        over = omega arith;
        under = omega arith;
        kept = omega arith;
        from_peak = omega arith;
        near = omega arith;
        within = omega arith;
      };
    }

module _ (T : ℕ → ℕ) (grows : (m k : ℕ) → m ≤ k → T m ≤ T k) (low : ℕ) (old places : List ℕ) (j : ℕ) (t : SincePeak) (lead : ℕ)
    (so : SincePeakAt T low old places j t lead) (climbs : (u : ℕ) → u < suc j → get_or old u 0 < get_or old (suc u) 0)
    (room : suc j < length places) where
  abbrev at : ℕ
  at = get_or old j 0

  abbrev to : ℕ
  to = get_or old (suc j) 0

  abbrev from : ℕ
  from = get_or places t.peak 0

  up : get_or old j 0 < get_or old (suc j) 0
  up = climbs j (omega arith)

  peak_before : from ≤ at
  peak_before = so.inside t.peak so.order

  lead_on : ahead_by T old low (suc j) ≡ lead + (T to - T at) - low * (to - at)
  lead_on = rw so.is_lead (ahead_next T low old j)

  more : (r : ℕ) → low ≤ r → low * (to - at) + (r - low) ≤ r * (to - at)
  more r h = times_higher low r (to - at) h (omega (arith, up))

  straight_on : (r : ℕ) → straight_to T places r t.peak to ≡ ahead_by T places r t.peak + (T at - T from) + (T to - T at)
      - (r * (at - from) + r * (to - at))
  straight_on r =
      let e = times_split r from at to peak_before (omega (arith, up)) in
      let d : T to - T from ≡ (T at - T from) + (T to - T at) =
      omega (arith, grows from at peak_before, grows at to (omega (arith, up))) in
      let x : ahead_by T places r t.peak + ((T at - T from) + (T to - T at)) ≡ ahead_by T places r t.peak + (T at - T from)
      + (T to - T at) = omega arith in
      rw (e, d, x) refl

  -- ---- with all places

  full_on : (r : ℕ) → ahead_by T old r (suc j) ≡ ahead_by T old r j + (T to - T at) - r * (to - at)
  full_on r = ahead_next T r old j

  most_on : (r : ℕ) → most_by T old r (suc j) ≡ max (most_by T old r j) (ahead_by T old r j + (T to - T at) - r * (to - at))
  unfolding most_by
  most_on r = rw (full_on r) refl

  straight_under : (r : ℕ) → low ≤ r → straight_to T places r t.peak to ≤ ahead_by T old r (suc j)
  straight_under r h =
      rw (straight_on r, full_on r)
      (from-peak_on (T to - T at) (r * (to - at)) (low * (to - at)) (r - low) (more r h) (ahead_by T old r j)
      (ahead_by T places r t.peak + (T at - T from)) (r * (at - from)) (so.rates r h).from_peak)

  straight_near : (r floor : ℕ) → low ≤ r → floor ≤ t.floor
      → ahead_by T old r (suc j) ≤ max (straight_to T places r t.peak to) (ahead_by T old low (suc j) - floor - (r - low))
  straight_near r floor h l =
      rw (straight_on r, full_on r, lead_on)
      (near_on (T to - T at) (r * (to - at)) (low * (to - at)) (r - low) (more r h) (ahead_by T old r j)
      (ahead_by T places r t.peak + (T at - T from)) (r * (at - from)) lead t.floor floor (so.rates r h).near so.floored l)

  -- under the bar nothing is missed
  small : (r floor : ℕ) → low ≤ r → floor ≤ t.floor → ahead_by T old low (suc j) ≤ t.bar
      → ahead_by T old low (suc j) ≤ floor + t.slack
      → ahead_by T old r (suc j) ≤ max (most_by T places r t.peak) (t.slack - (r - low))
  small r floor h l barred slack =
      let full = ahead_by T old r (suc j) in
      let first = under_bar full (ahead_by T old low (suc j)) (r - low) t.slack (ahead_by T places r t.peak)
      (ahead_by T places low t.peak) (T to - T from) (r * (to - from)) (low * (to - from)) (ahead_by T old low (suc j) - floor)
      (ahead_higher T low r old (suc j) h climbs) (straight_near r floor h l) (omega (arith, slack))
      (straight_under low (omega arith)) (mul-le-mul h (omega arith)) (omega (arith, barred, so.top)) in
      max_both full _ _ _ _ first (most_over T r places t.peak) (omega arith)

  -- ---- a place after the last

  fits : suc t.last < length places
  fits = omega (arith, so.few)

  last_on : (r : ℕ) → low ≤ r → straight_to T places r t.last to ≡ ahead_by T old r j + (T to - T at) - r * (to - at)
  last_on r l = rw (so.ends, so.same r l) refl

  after_same : (r : ℕ) → low ≤ r → ahead_by T (set places (suc t.last) to) r (suc t.last) ≡ ahead_by T old r (suc j)
  after_same r l = put-ahead_here T places t.last to fits r ∙ last_on r l ∙ sym (full_on r)

  after_most : (r : ℕ) → low ≤ r → most_by T (set places (suc t.last) to) r (suc t.last) ≡ max (most_by T places r t.last)
      (ahead_by T old r j + (T to - T at) - r * (to - at))
  after_most r l = put_most_here T places t.last to fits r ∙ rw (last_on r l) refl

  after_self : (r : ℕ) → low ≤ r → straight_to T (set places (suc t.last) to) r (suc t.last) to ≡ ahead_by T old r j + (T to - T at)
      - r * (to - at)
  after_self r l =
      let here = put_here T places t.last to fits in
      let none : r * (to - to) ≡ 0 = let z : to - to ≡ 0 = omega arith in rw z (omega arith) in
      rw here (omega (arith, none, after_same r l, full_on r))

  peak_next : SincePeakAt T low old (set places (suc t.last) to) (suc j)
      (record { last = suc t.last; peak = suc t.last; floor = ahead_by T old low (suc j); bar = ahead_by T old low (suc j); slack = t.slack })
      (ahead_by T old low (suc j))
  peak_next =
      record {
        starts = put_before T places t.last to fits 0 (omega arith) ∙ so.starts;
        ends = put_here T places t.last to fits;
        few = omega (arith, so.few);
        order = omega arith;
        rising = put-rising T places t.last to fits at up (omega (arith, so.ends)) so.rising;
        inside = put-inside T places t.last to fits at up so.inside;
        is_lead = refl;
        floored = omega arith;
        barred = omega arith;
        slack = omega arith;
        top = omega (arith, after_same low (omega arith));
        same = after_same;
        rates = λ r l.
            rw (after_most r l, after_self r l, full_on r, most_on r, lead_on)
            (on_peak (T to - T at) (r * (to - at)) (low * (to - at)) (r - low) (more r l) _ _ _ _ _ _ _
            (ahead_by T places r t.peak + (T at - T from)) (r * (at - from)) (so.rates r l) so.floored);
      }

  between_next : ahead_by T old low (suc j) ≤ t.bar → t.floor ≤ ahead_by T old low (suc j)
      → SincePeakAt T low old (set places (suc t.last) to) (suc j)
      (record { last = suc t.last; peak = t.peak; floor = t.floor; bar = min t.bar (t.floor + t.slack); slack = t.slack })
      (ahead_by T old low (suc j))
  between_next barred floored =
      let ahead-peak : (r : ℕ) → ahead_by T (set places (suc t.last) to) r t.peak ≡ ahead_by T places r t.peak =
      λ r. put-ahead T places t.last to fits r t.peak so.order in
      let most-peak : (r : ℕ) → most_by T (set places (suc t.last) to) r t.peak ≡ most_by T places r t.peak =
      λ r. put_most T places t.last to fits r t.peak so.order in
      let at-peak : get_or (set places (suc t.last) to) t.peak 0 ≡ from =
      put_before T places t.last to fits t.peak so.order in
      record {
        starts = put_before T places t.last to fits 0 (omega arith) ∙ so.starts;
        ends = put_here T places t.last to fits;
        few = omega (arith, so.few);
        order = omega (arith, so.order);
        rising = put-rising T places t.last to fits at up (omega (arith, so.ends)) so.rising;
        inside = put-inside T places t.last to fits at up so.inside;
        is_lead = refl;
        floored = floored;
        barred = omega (arith, barred, so.slack);
        slack = omega arith;
        top = rw (ahead-peak low) (omega (arith, so.top));
        same = after_same;
        rates = λ r l.
            rw (after_most r l, most-peak r, ahead-peak r, at-peak, straight_on r, full_on r, most_on r, lead_on)
            (on_between (T to - T at) (r * (to - at)) (low * (to - at)) (r - low) (more r l) _ _ _ _ _ _ _
            (ahead_by T places r t.peak + (T at - T from)) (r * (at - from)) (so.rates r l) so.floored
            (rw (full_on r) at (small r t.floor l (omega arith) barred (omega (arith, barred, so.slack)))));
      }

  -- ---- a place after the peak

  low_next : ahead_by T old low (suc j) ≤ t.bar → ahead_by T old low (suc j) ≤ t.floor
      → SincePeakAt T low old (set places (suc t.peak) to) (suc j)
      (record {
        last = suc t.peak;
        peak = t.peak;
        floor = ahead_by T old low (suc j);
        bar = min t.bar (ahead_by T old low (suc j) + t.slack);
        slack = t.slack;
      }) (ahead_by T old low (suc j))
  low_next barred floored =
      let short : suc t.peak < length places = omega (arith, so.order, so.few) in
      let ahead-peak : (r : ℕ) → ahead_by T (set places (suc t.peak) to) r t.peak ≡ ahead_by T places r t.peak =
      λ r. put-ahead T places t.peak to short r t.peak (omega arith) in
      let most-peak : (r : ℕ) → most_by T (set places (suc t.peak) to) r t.peak ≡ most_by T places r t.peak =
      λ r. put_most T places t.peak to short r t.peak (omega arith) in
      let at-peak : get_or (set places (suc t.peak) to) t.peak 0 ≡ from =
      put_before T places t.peak to short t.peak (omega arith) in
      let again-at : (r : ℕ) → low ≤ r → straight_to T places r t.peak to ≡ ahead_by T old r j + (T to - T at) - r * (to - at) =
      λ r l. straight_on r
      ∙ again (T to - T at) (r * (to - at)) (low * (to - at)) (r - low) (more r l) _ _ _ _ _ _ _
      (ahead_by T places r t.peak + (T at - T from)) (r * (at - from)) (so.rates r l) so.floored
      (omega (arith, lead_on, floored)) in
      let most-last : (r : ℕ) → low ≤ r → most_by T (set places (suc t.peak) to) r (suc t.peak) ≡ max (most_by T places r t.peak)
      (ahead_by T old r j + (T to - T at) - r * (to - at)) =
      λ r l. put_most_here T places t.peak to short r ∙ rw (again-at r l) refl in
      record {
        starts = put_before T places t.peak to short 0 (omega arith) ∙ so.starts;
        ends = put_here T places t.peak to short;
        few = omega (arith, so.order, so.few);
        order = omega arith;
        rising = put-rising T places t.peak to short at up peak_before (λ u q. so.rising u (omega (arith, so.order)));
        inside = put-inside T places t.peak to short at up (λ u q. so.inside u (omega (arith, so.order)));
        is_lead = refl;
        floored = omega arith;
        barred = omega (arith, barred);
        slack = omega arith;
        top = rw (ahead-peak low) (omega (arith, so.top));
        same = λ r l. put-ahead_here T places t.peak to short r ∙ again-at r l ∙ sym (full_on r);
        rates = λ r l.
            rw (most-last r l, most-peak r, ahead-peak r, at-peak, again-at r l, full_on r, most_on r, lead_on)
            (on_low (T to - T at) (r * (to - at)) (low * (to - at)) (r - low) (more r l) _ _ _ _ _ _ _
            (ahead_by T places r t.peak + (T at - T from)) (r * (at - from)) (so.rates r l) so.floored
            (rw (full_on r) at (small r (ahead_by T old low (suc j)) l floored barred (omega arith))));
      }

  abbrev new_lead : ℕ
  new_lead = ahead_by T old low (suc j)

  since_peak_next : (t' : SincePeak) → t' ≡ since_peak_after t (ahead_by T old low (suc j))
      → SincePeakAt T low old (set places t'.last to) (suc j) t' (ahead_by T old low (suc j))
  unfolding since_peak_after
  since_peak_next t' how = go (dec_lt t.bar new_lead) (dec_lt t.floor new_lead)
    where
      one : (n : ℕ) → n + 1 ≡ suc n
      one n = omega arith

      go : Dec (t.bar < new_lead) → Dec (t.floor < new_lead) → SincePeakAt T low old (set places t'.last to) (suc j) t' new_lead
      go (yes above) _ = rw (how, lt-ltb t.bar new_lead above, one t.last) peak_next
      go (no ne) (yes over) =
          rw (how, le-ltb t.bar new_lead (omega arith), lt-ltb t.floor new_lead over, one t.last)
          (between_next (omega arith) (omega arith))
      go (no ne) (no on) =
          rw (how, le-ltb t.bar new_lead (omega arith), le-ltb t.floor new_lead (omega arith), one t.peak)
          (low_next (omega arith) (omega arith))

after-slack : (t : SincePeak) (lead : ℕ) → (since_peak_after t lead).slack ≡ t.slack
unfolding since_peak_after
after-slack t lead = go (ltb t.bar lead) (ltb t.floor lead)
  where
    go : (b c : Bool)
        → (cond {A = SincePeak} b
        (record { last = t.last + 1; peak = t.last + 1; floor = lead; bar = lead; slack = t.slack })
        (cond c
        (record { last = t.last + 1; peak = t.peak; floor = t.floor; bar = min t.bar (t.floor + t.slack); slack = t.slack })
        (record { last = t.peak + 1; peak = t.peak; floor = lead; bar = min t.bar (lead + t.slack); slack = t.slack }))).slack
        ≡ t.slack
    go true c = refl
    go false true = refl
    go false false = refl

-- ---- the pass

module _ (sums : List ℕ) (holds : HoldsSums sums) (old : List ℕ) (low slack : ℕ) (pre : PassOver sums low old) where
  abbrev pub last_place : ℕ
  last_place = length old - 1

  abbrev pub start : SincePeak
  start = record { last = 0; peak = 0; floor = 0; bar = slack; slack = slack }

  abbrev pub peaks : ℕ → SincePeak
  peaks = state_at since_peak_after (sums_in sums) low old start

  abbrev pub without_peaks : ℕ → List ℕ
  without_peaks = left_at since_peak_after (λ t. t.last) (sums_in sums) low old start

  slack_kept : (j : ℕ) → (peaks j).slack ≡ slack
  unfolding state_at
  slack_kept zero = refl
  slack_kept (suc j) = after-slack (peaks j) (ahead_by (sums_in sums) old low (suc j)) ∙ slack_kept j

  walk : (j : ℕ) → j < length old → SincePeakAt (sums_in sums) low old (without_peaks j) j (peaks j) (ahead_by (sums_in sums) old low j)
  unfolding state_at left_at ahead_by
  walk zero h = since_peak-start (sums_in sums) low slack old pre.track.starts
  walk (suc j) h =
      since_peak_next (sums_in sums) (film_of sums holds).grows low old (without_peaks j) j (peaks j)
      (ahead_by (sums_in sums) old low j) (walk j (omega arith)) (λ u l. pre.track.rising u (omega arith))
      (left-room since_peak_after (λ t. t.last) (sums_in sums) start low old j h) (peaks (suc j)) refl

  pub peaks_left : (frame : ℕ) → slack ≡ frame - low → SameFrom sums low frame old (without_peaks last_place) ((peaks last_place).last + 1)
  peaks_left frame is =
      let t = peaks last_place in
      let so = walk last_place (omega (arith, pre.track.some_place)) in
      let back : t.last + 1 - 1 ≡ t.last = omega arith in
      record {
        fewer = omega (arith, so.few, pre.track.some_place);
        track = left_track _ old (without_peaks last_place) (length old) t.last pre.track so.starts so.few so.inside so.rising;
        same = λ r h.
            let at = so.rates r h in
            let alone : t.slack - (r - low) ≡ frame - r = omega (arith, is, slack_kept last_place) in
            rw (back, ← alone) (same_most _ _ _ at.over at.under);
      }
    where
      same_most : (x y z : ℕ) → x ≤ max y z → y ≤ max x z → max x z ≡ max y z
      same_most x y z h l = omega arith
