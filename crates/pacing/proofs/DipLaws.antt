-- Dips left out: why no need is missed. Since the last valley the lead at rate `high` has been above that valley and no higher than a
-- ceiling. Where it is on the ceiling or above, so has been a lower rate's, and all places since the valley can go.
use mathlib.Core.List.{List}
use mathlib.Core.Path.{◌≡◌, refl, sym, ◌∙◌}
use Prim.Native.Nat.{ℕ, zero, suc, ◌+◌, ◌-◌, ◌*◌, ◌≤◌, ◌<◌, max}
use native.Mathlib.Omega.{arith}
use native.Mathlib.Decide.{dec_lt}
use lib.ListN.{length, get_or, set}
use borrow.Author.Tests.{lt-ltb, le-ltb}
use Rattle.job.specs.Sums.{sums_in, HoldsSums}
use Rattle.job.proofs.SumsLaws.{film_of}
use Rattle.pacing.specs.Work.{ahead_by, most_by, PassOver, SameUpTo, since_valley_after, state_at, left_at}
use Rattle.pacing.specs.declared.SinceValley.{SinceValley}
use Rattle.pacing.proofs.PlaceLaws.{straight_to, put_here, put_before, put-ahead, put_most, put-ahead_here, put_most_here}
use Rattle.pacing.proofs.PlaceLaws.{put-rising, put-inside, left_track, times_split, ahead_next, most_next, left-room}

-- ---- numbers: what is played in a step, and taken off by a rate and by the highest one, which takes `more` than it

module _ (played taken most more : ℕ) (is : most ≡ taken + more) where
  line_on : (full base valley lead gone : ℕ) → full + base ≡ valley + lead + gone → base < lead + played - most
      → full + played - taken + base ≡ valley + (lead + played - most) + (gone + more)
  line_on full base valley lead gone line h = omega arith

  rise_on : (base lead way rise : ℕ) → lead + way ≡ base + rise → base < lead + played - most
      → (lead + played - most) + (way + most) ≡ base + (rise + played)
  rise_on base lead way rise so h = omega arith

straight_is : (full base valley lead rise taken most more : ℕ) → most ≡ taken + more → full + base ≡ valley + lead + more
    → lead + most ≡ base + rise → valley + rise - taken ≡ full
straight_is full base valley lead rise taken most more is line so = omega arith

within_on : (m valley base a full b : ℕ) → m + base ≤ max (valley + base) a → a ≤ b → full + base ≤ b
    → max m full + base ≤ max (valley + base) b
within_on m valley base a full b so h l = omega arith

same_most : (m valley base a full : ℕ) → m + base ≤ max (valley + base) a → a ≤ full + base → valley ≤ m → max valley full ≡ max m full
same_most m valley base a full so h l = omega arith

-- ---- places

-- after place j of the old ones, where so many are left
pub record SinceValleyAt (T : ℕ → ℕ) (high : ℕ) (old places : List ℕ) (j : ℕ) (t : SinceValley) (lead : ℕ) : Type 0 where
  pub starts : get_or places 0 0 ≡ 0
  pub ends : get_or places t.last 0 ≡ get_or old j 0
  pub few : t.last ≤ j
  pub order : t.valley ≤ t.last
  pub rising : (u : ℕ) → u < t.last → get_or places u 0 < get_or places (suc u) 0
  pub inside : (u : ℕ) → u ≤ t.last → get_or places u 0 ≤ get_or old j 0
  pub is_lead : lead ≡ ahead_by T old high j
  pub based : t.base ≤ lead
  pub topped : lead ≤ t.ceiling
  pub same : (r : ℕ) → r ≤ high → ahead_by T places r t.last ≡ ahead_by T old r j
  pub most : (r : ℕ) → r ≤ high → most_by T places r t.last ≡ most_by T old r j
  pub kept : (r : ℕ) → r ≤ high → most_by T places r t.valley ≤ most_by T places r t.last
  pub rise : lead + high * (get_or old j 0 - get_or places t.valley 0) ≡ t.base + (T (get_or old j 0) - T (get_or places t.valley 0))
  pub line : (r : ℕ) → r ≤ high → ahead_by T old r j + t.base ≡ ahead_by T places r t.valley + lead + (high - r)
      * (get_or old j 0 - get_or places t.valley 0)
  pub within : (r : ℕ) → r ≤ high
      → most_by T old r j + t.base ≤ max (most_by T places r t.valley + t.base)
      (ahead_by T places r t.valley + t.ceiling + (high - r) * (get_or old j 0 - get_or places t.valley 0))

pub since_valley_start : (T : ℕ → ℕ) (high : ℕ) (old : List ℕ) → get_or old 0 0 ≡ 0
    → SinceValleyAt T high old old 0 (record { last = 0; valley = 0; base = 0; ceiling = 0 }) 0
unfolding ahead_by most_by
since_valley_start T high old z =
    record {
      starts = z;
      ends = refl;
      few = omega arith;
      order = omega arith;
      rising = λ u h. absurd (omega arith);
      inside = λ u h. let e : u ≡ 0 = omega arith in rw e (omega arith);
      is_lead = refl;
      based = omega arith;
      topped = omega arith;
      same = λ r h. refl;
      most = λ r h. refl;
      kept = λ r h. omega arith;
      rise = let none : get_or old 0 0 - get_or old 0 0 ≡ 0 = omega arith in rw none (omega arith);
      line = λ r h. let none : get_or old 0 0 - get_or old 0 0 ≡ 0 = omega arith in rw none (omega arith);
      within = λ r h. omega arith;
    }

times_less : (high r n : ℕ) → r ≤ high → high * n ≡ r * n + (high - r) * n
times_less high r n h =
    let e : r + (high - r) ≡ high = omega arith in
    rw e at (spread (high - r))
  where
    spread : (d : ℕ) → (r + d) * n ≡ r * n + d * n
    spread d = omega arith

module _ (T : ℕ → ℕ) (grows : (m k : ℕ) → m ≤ k → T m ≤ T k) (high : ℕ) (old places : List ℕ) (j : ℕ) (t : SinceValley) (lead : ℕ)
    (so : SinceValleyAt T high old places j t lead) (up : get_or old j 0 < get_or old (suc j) 0) (room : suc j < length places) where
  abbrev at : ℕ
  at = get_or old j 0

  abbrev to : ℕ
  to = get_or old (suc j) 0

  abbrev from : ℕ
  from = get_or places t.valley 0

  valley_before : from ≤ at
  valley_before = so.inside t.valley so.order

  lead_on : ahead_by T old high (suc j) ≡ lead + (T to - T at) - high * (to - at)
  lead_on = rw so.is_lead (ahead_next T high old j)

  full_on : (r : ℕ) → ahead_by T old r (suc j) ≡ ahead_by T old r j + (T to - T at) - r * (to - at)
  full_on r = ahead_next T r old j

  -- above the valley
  module _ (over : t.base < ahead_by T old high (suc j)) where
    line_next : (r : ℕ) → r ≤ high → ahead_by T old r (suc j) + t.base ≡ ahead_by T places r t.valley + ahead_by T old high
        (suc j) + (high - r) * (to - from)
    line_next r h =
        rw (full_on r, lead_on, times_split (high - r) from at to valley_before (omega arith))
        (line_on (T to - T at) (r * (to - at)) (high * (to - at)) ((high - r) * (to - at)) (times_less high r (to - at) h)
        (ahead_by T old r j) t.base (ahead_by T places r t.valley) lead ((high - r) * (at - from)) (so.line r h)
        (rw lead_on at over))

    rise_next : ahead_by T old high (suc j) + high * (to - from) ≡ t.base + (T to - T from)
    rise_next =
        let d : T to - T from ≡ (T at - T from) + (T to - T at) = omega (arith, grows from at valley_before, grows at to (omega arith)) in
        rw (lead_on, times_split high from at to valley_before (omega arith), d)
        (rise_on (T to - T at) (high * (to - at)) (high * (to - at)) 0 (omega arith) t.base lead (high * (at - from)) (T at - T from)
        so.rise (rw lead_on at over))

    straight_next : (r : ℕ) → r ≤ high → straight_to T places r t.valley to ≡ ahead_by T old r (suc j)
    straight_next r h =
        straight_is (ahead_by T old r (suc j)) t.base (ahead_by T places r t.valley) (ahead_by T old high (suc j)) (T to - T from)
        (r * (to - from)) (high * (to - from)) ((high - r) * (to - from))
        (times_less high r (to - from) h) (line_next r h) rise_next

    further_off : (r : ℕ) → (high - r) * (at - from) ≤ (high - r) * (to - from)
    further_off r = omega (arith, times_split (high - r) from at to valley_before (omega arith))

    within_next : (r ceiling : ℕ) → r ≤ high → t.ceiling ≤ ceiling → ahead_by T old high (suc j) ≤ ceiling
        → most_by T old r (suc j) + t.base ≤ max (most_by T places r t.valley + t.base)
        (ahead_by T places r t.valley + ceiling + (high - r) * (to - from))
    within_next r ceiling h l q =
        rw (most_next T r old j)
        (within_on (most_by T old r j) (most_by T places r t.valley) t.base _ (ahead_by T old r (suc j)) _ (so.within r h)
        (omega (arith, further_off r)) (omega (arith, line_next r h)))

  -- ---- a place after the last

  fits : suc t.last < length places
  fits = omega (arith, so.few)

  last_on : (r : ℕ) → r ≤ high → straight_to T places r t.last to ≡ ahead_by T old r (suc j)
  last_on r h = rw (so.ends, so.same r h) (sym (full_on r))

  after_same : (r : ℕ) → r ≤ high → ahead_by T (set places (suc t.last) to) r (suc t.last) ≡ ahead_by T old r (suc j)
  after_same r h = put-ahead_here T places t.last to fits r ∙ last_on r h

  after_most : (r : ℕ) → r ≤ high → most_by T (set places (suc t.last) to) r (suc t.last) ≡ most_by T old r (suc j)
  after_most r h = put_most_here T places t.last to fits r ∙ rw (last_on r h, so.most r h) (sym (most_next T r old j))

  valley_next : SinceValleyAt T high old (set places (suc t.last) to) (suc j)
      (record { last = suc t.last; valley = suc t.last; base = ahead_by T old high (suc j); ceiling = ahead_by T old high (suc j) })
      (ahead_by T old high (suc j))
  valley_next =
      let here = put_here T places t.last to fits in
      let none : to - to ≡ 0 = omega arith in
      let nothing : (x : ℕ) → x * 0 ≡ 0 = λ x. omega arith in
      record {
        starts = put_before T places t.last to fits 0 (omega arith) ∙ so.starts;
        ends = here;
        few = omega (arith, so.few);
        order = omega arith;
        rising = put-rising T places t.last to fits at up (omega (arith, so.ends)) so.rising;
        inside = put-inside T places t.last to fits at up so.inside;
        is_lead = refl;
        based = omega arith;
        topped = omega arith;
        same = after_same;
        most = after_most;
        kept = λ r h. omega arith;
        rise = rw (here, none, nothing high) (omega arith);
        line = λ r h. rw (here, none, nothing (high - r), after_same r h) (omega arith);
        within = λ r h. rw (after_most r h) (omega arith);
      }

  between_next : t.base < ahead_by T old high (suc j) → ahead_by T old high (suc j) < t.ceiling
      → SinceValleyAt T high old (set places (suc t.last) to) (suc j)
      (record { last = suc t.last; valley = t.valley; base = t.base; ceiling = t.ceiling }) (ahead_by T old high (suc j))
  between_next over under =
      let ahead-valley : (r : ℕ) → ahead_by T (set places (suc t.last) to) r t.valley ≡ ahead_by T places r t.valley =
      λ r. put-ahead T places t.last to fits r t.valley so.order in
      let most-valley : (r : ℕ) → most_by T (set places (suc t.last) to) r t.valley ≡ most_by T places r t.valley =
      λ r. put_most T places t.last to fits r t.valley so.order in
      let at-valley : get_or (set places (suc t.last) to) t.valley 0 ≡ from =
      put_before T places t.last to fits t.valley so.order in
      record {
        starts = put_before T places t.last to fits 0 (omega arith) ∙ so.starts;
        ends = put_here T places t.last to fits;
        few = omega (arith, so.few);
        order = omega (arith, so.order);
        rising = put-rising T places t.last to fits at up (omega (arith, so.ends)) so.rising;
        inside = put-inside T places t.last to fits at up so.inside;
        is_lead = refl;
        based = omega arith;
        topped = omega arith;
        same = after_same;
        most = after_most;
        kept = λ r h. omega (arith, most-valley r, after_most r h, most_next T r old j, so.kept r h, so.most r h);
        rise = rw at-valley (rise_next over);
        line = λ r h. rw (ahead-valley r, at-valley) (line_next over r h);
        within = λ r h. rw (most-valley r, ahead-valley r, at-valley) (within_next over r t.ceiling h (omega arith) (omega arith));
      }

  -- ---- a place after the valley

  high_next : t.base < ahead_by T old high (suc j) → t.ceiling ≤ ahead_by T old high (suc j)
      → SinceValleyAt T high old (set places (suc t.valley) to) (suc j)
      (record { last = suc t.valley; valley = t.valley; base = t.base; ceiling = ahead_by T old high (suc j) })
      (ahead_by T old high (suc j))
  high_next over above =
      let short : suc t.valley < length places = omega (arith, so.order, so.few) in
      let ahead-valley : (r : ℕ) → ahead_by T (set places (suc t.valley) to) r t.valley ≡ ahead_by T places r t.valley =
      λ r. put-ahead T places t.valley to short r t.valley (omega arith) in
      let most-valley : (r : ℕ) → most_by T (set places (suc t.valley) to) r t.valley ≡ most_by T places r t.valley =
      λ r. put_most T places t.valley to short r t.valley (omega arith) in
      let at-valley : get_or (set places (suc t.valley) to) t.valley 0 ≡ from =
      put_before T places t.valley to short t.valley (omega arith) in
      let last : (r : ℕ) → most_by T (set places (suc t.valley) to) r (suc t.valley) ≡ max (most_by T places r t.valley)
      (straight_to T places r t.valley to) = λ r. put_most_here T places t.valley to short r in
      record {
        starts = put_before T places t.valley to short 0 (omega arith) ∙ so.starts;
        ends = put_here T places t.valley to short;
        few = omega (arith, so.order, so.few);
        order = omega arith;
        rising = put-rising T places t.valley to short at up valley_before (λ u q. so.rising u (omega (arith, so.order)));
        inside = put-inside T places t.valley to short at up (λ u q. so.inside u (omega (arith, so.order)));
        is_lead = refl;
        based = omega arith;
        topped = omega arith;
        same = λ r h. put-ahead_here T places t.valley to short r ∙ straight_next over r h;
        most = λ r h.
            last r
            ∙ rw (straight_next over r h, most_next T r old j)
            (same_most (most_by T old r j) (most_by T places r t.valley) t.base _ (ahead_by T old r (suc j)) (so.within r h)
            (omega (arith, line_next over r h, further_off over r)) (omega (arith, so.kept r h, so.most r h)));
        kept = λ r h. omega (arith, most-valley r, last r);
        rise = rw at-valley (rise_next over);
        line = λ r h. rw (ahead-valley r, at-valley) (line_next over r h);
        within = λ r h. rw (most-valley r, ahead-valley r, at-valley) (within_next over r (ahead_by T old high (suc j)) h above
            (omega arith));
      }

  abbrev new_lead : ℕ
  new_lead = ahead_by T old high (suc j)

  since_valley_next : (t' : SinceValley) → t' ≡ since_valley_after t (ahead_by T old high (suc j))
      → SinceValleyAt T high old (set places t'.last to) (suc j) t' (ahead_by T old high (suc j))
  unfolding since_valley_after
  since_valley_next t' how = go (dec_lt t.base new_lead) (dec_lt new_lead t.ceiling)
    where
      one : (n : ℕ) → n + 1 ≡ suc n
      one n = omega arith

      go : Dec (t.base < new_lead) → Dec (new_lead < t.ceiling) → SinceValleyAt T high old (set places t'.last to) (suc j) t' new_lead
      go (no ne) _ = rw (how, le-ltb t.base new_lead (omega arith), one t.last) valley_next
      go (yes over) (yes under) =
          rw (how, lt-ltb t.base new_lead over, lt-ltb new_lead t.ceiling under, one t.last) (between_next over under)
      go (yes over) (no ne) =
          rw (how, lt-ltb t.base new_lead over, le-ltb new_lead t.ceiling (omega arith), one t.valley)
          (high_next over (omega arith))

-- ---- the pass

module _ (sums : List ℕ) (holds : HoldsSums sums) (old : List ℕ) (high : ℕ) (pre : PassOver sums high old) where
  abbrev pub last_place : ℕ
  last_place = length old - 1

  abbrev pub start : SinceValley
  start = record { last = 0; valley = 0; base = 0; ceiling = 0 }

  abbrev pub valleys : ℕ → SinceValley
  valleys = state_at since_valley_after (sums_in sums) high old start

  abbrev pub without_dips : ℕ → List ℕ
  without_dips = left_at since_valley_after (λ t. t.last) (sums_in sums) high old start

  walk : (j : ℕ) → j < length old
      → SinceValleyAt (sums_in sums) high old (without_dips j) j (valleys j) (ahead_by (sums_in sums) old high j)
  unfolding state_at left_at ahead_by
  walk zero h = since_valley_start (sums_in sums) high old pre.track.starts
  walk (suc j) h =
      since_valley_next (sums_in sums) (film_of sums holds).grows high old (without_dips j) j (valleys j)
      (ahead_by (sums_in sums) old high j) (walk j (omega arith)) (pre.track.rising j h)
      (left-room since_valley_after (λ t. t.last) (sums_in sums) start high old j h) (valleys (suc j)) refl

  pub dips_left : SameUpTo sums high old (without_dips last_place) ((valleys last_place).last + 1)
  dips_left =
      let t = valleys last_place in
      let so = walk last_place (omega (arith, pre.track.some_place)) in
      let back : t.last + 1 - 1 ≡ t.last = omega arith in
      record {
        fewer = omega (arith, so.few, pre.track.some_place);
        track = left_track _ old (without_dips last_place) (length old) t.last pre.track so.starts so.few so.inside so.rising;
        same = λ r h. rw back (so.most r h);
      }
