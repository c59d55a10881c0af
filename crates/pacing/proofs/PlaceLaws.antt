-- Passes that stop at some places only.
use mathlib.Core.List.{List, ◌++◌}
use mathlib.Core.Path.{◌≡◌, refl, sym, ◌∙◌}
use Prim.Native.Nat.{ℕ, zero, suc, ◌+◌, ◌-◌, ◌*◌, ◌≤◌, ◌<◌, max}
use native.Mathlib.Omega.{arith}
use native.Mathlib.Decide.{ℕ_discrete}
use lib.ListN.{length, get_or, take, drop, set, length-set}
use Rattle.std.proofs.lemmas.List.{length-take-le, get_or-take, get_or_append_left}
use lib.Seq.{get_or-set_same, get_or-set_other}
use Rattle.job.specs.Limits.{greatest_total}
use Rattle.job.specs.Sums.{sums_in}
use Rattle.pacing.specs.Pace.{ahead, most_ahead}
use Rattle.pacing.specs.Work.{lead_after, ahead_by, most_by, next_stop, Track, Places, SameFrom, SameUpTo, state_at, left_at}
use Rattle.pacing.specs.declared.Lead.{Lead}
use Rattle.pacing.specs.declared.Stop.{Stop}
use Rattle.pacing.proofs.SmallFrameLaws.{Steps}
use Rattle.pacing.proofs.LeadLaws.{stepped, steps_higher}

-- ---- what a pass has at its place

-- a lead is that at place j
pub record LeadBy (T : ℕ → ℕ) (places : List ℕ) (r j : ℕ) (p : Lead) : Type 0 where
  pub so_much : p.ahead ≡ ahead_by T places r j
  pub so_far : p.most ≡ most_by T places r j

-- a stop is place j of a pass at rate r
pub record StopAt (T : ℕ → ℕ) (places : List ℕ) (r j : ℕ) (s : Stop) : Type 0 where
  pub here : s.at ≡ get_or places j 0
  pub played : s.sum ≡ T s.at
  pub ahead : s.lead ≡ ahead_by T places r j

-- ---- products

-- a rate's product over some slots is that of a lower rate and, at least, by how much the rate is higher
pub times_higher : (low r slots : ℕ) → low ≤ r → 0 < slots → low * slots + (r - low) ≤ r * slots
times_higher low r slots h p =
    let e : low + (r - low) ≡ r = omega arith in
    let s : suc (slots - 1) ≡ slots = omega arith in
    rw (e, s) at (more (r - low) (slots - 1))
  where
    more : (d n : ℕ) → low * suc n + d ≤ (low + d) * suc n
    more d n = omega arith

-- a product over some slots is that over the first and that over the rest
pub times_split : (r p at to : ℕ) → p ≤ at → at ≤ to → r * (to - p) ≡ r * (at - p) + r * (to - at)
times_split r p at to h l =
    let e : to - p ≡ (at - p) + (to - at) = omega arith in
    rw e (spread (at - p) (to - at))
  where
    spread : (x y : ℕ) → r * (x + y) ≡ r * x + r * y
    spread x y = omega arith

module _ (T : ℕ → ℕ) where
  -- a pass looks at the places up to its last alone
  pub ahead-same : (r : ℕ) (p q : List ℕ) (j : ℕ) → ((u : ℕ) → u ≤ j → get_or p u 0 ≡ get_or q u 0) → ahead_by T p r j ≡ ahead_by T q r j
  unfolding ahead_by
  ahead-same r p q zero same = refl
  ahead-same r p q (suc j) same =
      rw (same (suc j) (omega arith), same j (omega arith), ahead-same r p q j (λ u h. same u (omega arith))) refl

  pub most_same : (r : ℕ) (p q : List ℕ) (j : ℕ) → ((u : ℕ) → u ≤ j → get_or p u 0 ≡ get_or q u 0) → most_by T p r j ≡ most_by T q r j
  unfolding most_by
  most_same r p q zero same = refl
  most_same r p q (suc j) same =
      rw (ahead-same r p q (suc j) same, most_same r p q j (λ u h. same u (omega arith))) refl

  pub most_over : (r : ℕ) (p : List ℕ) (j : ℕ) → ahead_by T p r j ≤ most_by T p r j
  unfolding ahead_by most_by
  most_over r p zero = omega arith
  most_over r p (suc j) = omega arith

  -- at a higher rate a lead is lower, by how much the rate is higher at least
  pub ahead_higher : (low r : ℕ) (p : List ℕ) (j : ℕ) → low ≤ r → ((u : ℕ) → u < j → get_or p u 0 < get_or p (suc u) 0)
      → ahead_by T p r j ≤ ahead_by T p low j - (r - low)
  unfolding ahead_by
  ahead_higher low r p zero h rising = omega arith
  ahead_higher low r p (suc j) h rising =
      let up = rising j (omega arith) in
      omega (
        arith,
        ahead_higher low r p j h (λ u l. rising u (omega arith)),
        times_higher low r (get_or p (suc j) 0 - get_or p j 0) h (omega arith),
      )

  pub ahead_next : (r : ℕ) (p : List ℕ) (j : ℕ)
      → ahead_by T p r (suc j) ≡ ahead_by T p r j + (T (get_or p (suc j) 0) - T (get_or p j 0)) - r * (get_or p (suc j) 0 - get_or p j 0)
  unfolding ahead_by
  ahead_next r p j = refl

  pub most_next : (r : ℕ) (p : List ℕ) (j : ℕ) → most_by T p r (suc j) ≡ max (most_by T p r j) (ahead_by T p r (suc j))
  unfolding most_by
  most_next r p j = refl

-- how far ahead at slot `to`, by one step from place v
abbrev pub straight_to : (ℕ → ℕ) → List ℕ → ℕ → ℕ → ℕ → ℕ
straight_to T places r v to = ahead_by T places r v + (T to - T (get_or places v 0)) - r * (to - get_or places v 0)

-- ---- a place put after place v

module _ (T : ℕ → ℕ) (places : List ℕ) (v to : ℕ) (room : suc v < length places) where
  pub put_here : get_or (set places (suc v) to) (suc v) 0 ≡ to
  put_here = get_or-set_same places (suc v) to 0 room

  pub put_before : (u : ℕ) → u ≤ v → get_or (set places (suc v) to) u 0 ≡ get_or places u 0
  put_before u h = get_or-set_other places (suc v) u to 0 (λ e. omega arith)

  pub put-ahead : (r u : ℕ) → u ≤ v → ahead_by T (set places (suc v) to) r u ≡ ahead_by T places r u
  put-ahead r u h = ahead-same T r (set places (suc v) to) places u (λ x l. put_before x (omega arith))

  pub put_most : (r u : ℕ) → u ≤ v → most_by T (set places (suc v) to) r u ≡ most_by T places r u
  put_most r u h = most_same T r (set places (suc v) to) places u (λ x l. put_before x (omega arith))

  pub put-ahead_here : (r : ℕ) → ahead_by T (set places (suc v) to) r (suc v) ≡ straight_to T places r v to
  unfolding ahead_by
  put-ahead_here r = rw (put_here, put_before v (omega arith), put-ahead r v (omega arith)) refl

  pub put_most_here : (r : ℕ) → most_by T (set places (suc v) to) r (suc v) ≡ max (most_by T places r v) (straight_to T places r v to)
  unfolding most_by
  put_most_here r = rw (put-ahead_here r, put_most r v (omega arith)) refl

  pub put-rising : (at : ℕ) → at < to → get_or places v 0 ≤ at → ((u : ℕ) → u < v → get_or places u 0 < get_or places (suc u) 0)
      → (u : ℕ) → u < suc v → get_or (set places (suc v) to) u 0 < get_or (set places (suc v) to) (suc u) 0
  put-rising at up under rising u h = go (ℕ_discrete u v)
    where
      go : Dec (u ≡ v) → get_or (set places (suc v) to) u 0 < get_or (set places (suc v) to) (suc u) 0
      go (yes e) = rw e (omega (arith, put_here, put_before v (omega arith)))
      go (no ne) = omega (arith, put_before u (omega arith), put_before (suc u) (omega arith), rising u (omega arith))

  pub put-inside : (at : ℕ) → at < to → ((u : ℕ) → u ≤ v → get_or places u 0 ≤ at) → (u : ℕ) → u ≤ suc v
      → get_or (set places (suc v) to) u 0 ≤ to
  put-inside at up inside u h = go (ℕ_discrete u (suc v))
    where
      go : Dec (u ≡ suc v) → get_or (set places (suc v) to) u 0 ≤ to
      go (yes e) = rw e (omega (arith, put_here))
      go (no ne) = omega (arith, put_before u (omega arith), inside u (omega arith))

-- ---- a turn of a pass

pub stop-start : (T : ℕ → ℕ) (places : List ℕ) (r : ℕ) → get_or places 0 0 ≡ 0 → T 0 ≡ 0
    → StopAt T places r 0 (record { at = 0; sum = 0; lead = 0 })
unfolding ahead_by
stop-start T places r z none = record { here = sym z; played = sym none; ahead = refl }

pub stop_next : (T : ℕ → ℕ) (places : List ℕ) (r j to : ℕ) (s s' : Stop) → 0 < j → to ≡ get_or places j 0 → StopAt T places r (j - 1) s
    → s' ≡ next_stop T to r s → StopAt T places r j s'
stop_next T places r j to s s' some next so is =
    let this : suc (j - 1) ≡ j = omega arith in
    rw is (record {
      here = next;
      played = refl;
      ahead = rw (next, so.here, so.ahead)
          (sym (rw this at (ahead_next T r places (j - 1))));
    })

-- places left of all, up to the last
pub left_track : (M : ℕ) (old places : List ℕ) (count last : ℕ) → Track M old count → get_or places 0 0 ≡ 0 → last ≤ count - 1
    → ((u : ℕ) → u ≤ last → get_or places u 0 ≤ get_or old (count - 1) 0)
    → ((u : ℕ) → u < last → get_or places u 0 < get_or places (suc u) 0) → Track M places (last + 1)
left_track M old places count last was starts few inside rising =
    record {
      some_place = omega arith;
      few = omega (arith, was.some_place, was.few);
      starts = starts;
      inside = λ j h. omega (arith, inside j (omega arith), was.inside (count - 1) (omega (arith, was.some_place)));
      rising = λ j h. rising j (omega arith);
    }

-- ---- a pass that goes on by a state

pub state_next : {S : Type 0} (after : S → ℕ → S) (T : ℕ → ℕ) (r : ℕ) (old : List ℕ) (start : S) (j : ℕ)
    → state_at after T r old start (suc j) ≡ after (state_at after T r old start j) (ahead_by T old r (suc j))
unfolding state_at
state_next after T r old start j = refl

pub left_next : {S : Type 0} (after : S → ℕ → S) (last_of : S → ℕ) (T : ℕ → ℕ) (r : ℕ) (old : List ℕ) (start : S) (j : ℕ)
    → left_at after last_of T r old start (suc j)
    ≡ set (left_at after last_of T r old start j) (last_of (state_at after T r old start (suc j))) (get_or old (suc j) 0)
unfolding left_at
left_next after last_of T r old start j = refl

pub length-left : {S : Type 0} (after : S → ℕ → S) (last_of : S → ℕ) (T : ℕ → ℕ) (r : ℕ) (old : List ℕ) (start : S) (j : ℕ)
    → length (left_at after last_of T r old start j) ≡ length old
unfolding left_at
length-left after last_of T r old start zero = refl
length-left after last_of T r old start (suc j) =
    length-set (left_at after last_of T r old start j) (last_of (state_at after T r old start (suc j))) (get_or old (suc j) 0)
    ∙ length-left after last_of T r old start j

-- there is room for the next place
pub left-room : {S : Type 0} (after : S → ℕ → S) (last_of : S → ℕ) (T : ℕ → ℕ) (start : S) (r : ℕ) (old : List ℕ) (j : ℕ)
    → suc j < length old → suc j < length (left_at after last_of T r old start j)
left-room after last_of T start r old j h = omega (arith, length-left after last_of T r old start j)

module _ (sums : List ℕ) where
  -- the same places for fewer rates
  pub places_within : (low high low' high' frame : ℕ) (places : List ℕ) (k : ℕ) → low ≤ low' → high' ≤ high
      → Places sums low high frame places k → Places sums low' high' frame places k
  places_within low high low' high' frame places k h l so =
      record { track = so.track; small = so.small; enough = λ r a b. so.enough r (omega arith) (omega arith) }

  -- ---- the first k places alone, and back among the rest

  module _ (low high frame k : ℕ) where
    -- other places, the first k of which are the same
    places_same : (p q : List ℕ) → ((u : ℕ) → u < k → get_or q u 0 ≡ get_or p u 0) → Places sums low high frame p k
        → Places sums low high frame q k
    places_same p q same so =
        let some = so.track.some_place in
        record {
          track =
              record {
                some_place = some;
                few = so.track.few;
                starts = same 0 some ∙ so.track.starts;
                inside = λ j h. omega (arith, same j h, so.track.inside j h);
                rising = λ j h. omega (arith, same j (omega arith), same (suc j) h, so.track.rising j h);
              };
          small = so.small;
          enough = λ r a b. rw (most_same (sums_in sums) r q p (k - 1) (λ u h. same u (omega (arith, some)))) (so.enough r a b);
        }

    pub places-alone : (places : List ℕ) → k ≤ length places → Places sums low high frame places k
        → Places sums low high frame (take k places) (length (take k places))
    places-alone places fits so =
        rw (length-take-le k places fits) (places_same places (take k places) (λ u h. get_or-take k places u 0 h) so)

    pub places_back : (places rest : List ℕ) → k ≤ length places → Places sums low high frame places k
        → Places sums low high frame (places ++ rest) k
    places_back places rest fits so = places_same places (places ++ rest) (λ u h. get_or_append_left places rest 0 u (omega arith)) so

  -- the first k places made others, with which as much is found, and back among the rest
  module _ (low high frame k : ℕ) (places : List ℕ) (fits : k ≤ length places) (was : Places sums low high frame places k) (new : List ℕ)
      (long : length new ≡ length (take k places)) (n : ℕ) where
    all : Places sums low high frame (take k places) (length (take k places))
    all = places-alone low high frame k places fits was

    pub places_same-from : SameFrom sums low frame (take k places) new n → Places sums low high frame (new ++ drop k places) n
    places_same-from so =
        places_back low high frame n new _ (omega (arith, so.fewer))
        (record { track = so.track; small = was.small; enough = λ r a b. so.same r a ∙ all.enough r a b })

    pub places_same_up_to : SameUpTo sums high (take k places) new n → Places sums low high frame (new ++ drop k places) n
    places_same_up_to so =
        places_back low high frame n new _ (omega (arith, so.fewer))
        (record { track = so.track; small = was.small; enough = λ r a b. rw (so.same r b) (all.enough r a b) })

-- a lead at the first place, and at the next one
pub lead_start : (T : ℕ → ℕ) (places : List ℕ) (r : ℕ) → LeadBy T places r 0 (record { ahead = 0; most = 0 })
unfolding ahead_by most_by
lead_start T places r = record { so_much = refl; so_far = refl }

pub lead_next : (T : ℕ → ℕ) (places : List ℕ) (r j : ℕ) (p : Lead) → LeadBy T places r j p
    → LeadBy T places r (suc j) (lead_after p (T (get_or places (suc j) 0) - T (get_or places j 0)) (get_or places (suc j) 0 - get_or places j 0) r)
unfolding ahead_by most_by
lead_next T places r j p so = rw (so.so_much, so.so_far) (record { so_much = refl; so_far = refl })

-- and what has been found at the last place
pub lead_all : (sums : List ℕ) (frame : ℕ) (places : List ℕ) (k r : ℕ) (p : Lead) (x : ℕ) → Places sums r r frame places k
    → LeadBy (sums_in sums) places r (k - 1) p → x ≡ max p.most (frame - r) → x ≡ most_ahead (sums_in sums) r (length sums - 1)
lead_all sums frame places k r p x all so is = is ∙ rw so.so_far (all.enough r (omega arith) (omega arith))

module _ (T : ℕ → ℕ) (grows : (m k : ℕ) → m ≤ k → T m ≤ T k) where
  -- a lead is no more than is played
  pub ahead-played : (r : ℕ) (p : List ℕ) (j : ℕ) → ((u : ℕ) → u < j → get_or p u 0 < get_or p (suc u) 0) → ahead_by T p r j ≤ T (get_or p j 0)
  unfolding ahead_by
  ahead-played r p zero rising = omega arith
  ahead-played r p (suc j) rising =
      let up = rising j (omega arith) in
      omega (arith, ahead-played r p j (λ u l. rising u (omega arith)), grows (get_or p j 0) (get_or p (suc j) 0) (omega arith))

  -- what a turn of a pass over old places knows, where those after place j are still there
  pub record Turn (M : ℕ) (old places : List ℕ) (j : ℕ) (s : Stop) : Type 0 where
    pub next : get_or places j 0 ≡ get_or old j 0
    pub forward : s.at < get_or places j 0
    pub inside : get_or places j 0 ≤ M
    pub few : j ≤ M
    pub under : s.lead ≤ s.sum

  pub turn : (M : ℕ) (old places : List ℕ) (count j r : ℕ) (s : Stop) → Track M old count → 0 < j → j < count
      → ((u : ℕ) → j ≤ u → get_or places u 0 ≡ get_or old u 0)
      → StopAt T old r (j - 1) s → Turn M old places j s
  turn M old places count j r s was some more rest so =
      let this : suc (j - 1) ≡ j = omega arith in
      let next = rest j (omega arith) in
      let up = rw this at (was.rising (j - 1) (omega arith)) in
      let played = ahead-played r old (j - 1) (λ u h. was.rising u (omega arith)) in
      record {
        next = next;
        forward = omega (arith, so.here, up, next);
        inside = omega (arith, next, was.inside j more);
        few = omega (arith, was.few);
        under = omega (arith, so.ahead, so.played, rw (sym so.here) at played);
      }

  -- ---- places at which no lead is missed

  module _ (low M : ℕ) (places : List ℕ) (k : ℕ) (by : Steps T low M places k) where
    pub record Exact (r j : ℕ) : Type 0 where
      pub so_much : ahead_by T places r j ≡ ahead T r (get_or places j 0)
      pub so_far : most_by T places r j ≡ most_ahead T r (get_or places j 0)

    pub exact : (r : ℕ) → low ≤ r → (j : ℕ) → j < k → Exact r j
    unfolding ahead_by most_by ahead most_ahead
    exact r h zero l =
        let start = by.starts in
        record { so_much = rw start refl; so_far = rw start refl }
    exact r h (suc j) l =
        let ih = exact r h j (omega arith) in
        let on = stepped T grows r (get_or places j 0) (get_or places (suc j) 0) ((steps_higher T low r M places k h by).steps j l) in
        let same : ahead_by T places r j + (T (get_or places (suc j) 0) - T (get_or places j 0)) - r * (get_or places (suc j) 0 - get_or places j
        0) ≡ ahead T r (get_or places (suc j) 0) =
        rw ih.so_much (sym on.so_much) in
        record { so_much = same; so_far = rw (same, ih.so_far) (sym on.so_far) }

pub steps_places : (sums : List ℕ) → ((m k : ℕ) → m ≤ k → sums_in sums m ≤ sums_in sums k) → (low high frame : ℕ) (places : List ℕ) (k : ℕ)
    → Steps (sums_in sums) low (length sums - 1) places k → frame ≤ greatest_total
    → ((r : ℕ) → frame - r ≤ most_ahead (sums_in sums) r (length sums - 1)) → Places sums low high frame places k
steps_places sums grows low high frame places k by small least =
    record {
      track =
          record {
            some_place = by.some_place;
            few = by.few;
            starts = by.starts;
            inside = by.inside;
            rising = λ j h. (by.steps j h).0;
          };
      small = small;
      enough = λ r h l.
          let last = (exact (sums_in sums) grows low (length sums - 1) places k by r h (k - 1) (omega (arith, by.some_place))).so_far in
          omega (arith, rw by.ends at last, least r);
    }
