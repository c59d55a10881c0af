-- What the inner functions of a pass are handed and give.
use Rattle.std.specs.Prelude.{cond, Option, Some, None, List, ◌==◌, position, ◌≡◌, ℕ, zero, suc, ◌+◌, ◌-◌, ◌*◌, ◌≤◌, ◌<◌, max, min, length, get_or, set, ltb}
use Rattle.job.specs.Limits.{most_nodes, longest_delay, greatest_rate, greatest_total}
use Rattle.job.specs.Sums.{sums_in}
use Rattle.pacing.specs.Pace.{most_ahead}
use Rattle.pacing.specs.declared.Lead.{Lead}
use Rattle.pacing.specs.declared.Stop.{Stop}
use Rattle.pacing.specs.declared.SincePeak.{SincePeak}
use Rattle.pacing.specs.declared.SinceValley.{SinceValley}

-- ---- the delay

-- x is the least delay from w on with T ≤ r × (m + x); one more than the longest delay where none up to that is
pub record DelayForSlot (T r m w x : ℕ) : Type 0 where
  pub from : w ≤ x
  pub to : x ≤ longest_delay + 1
  pub late : x ≤ longest_delay → T ≤ r * (m + x)
  pub least : (y : ℕ) → w ≤ y → y ≤ longest_delay → T ≤ r * (m + y) → x ≤ y

-- w is the least delay in time for the slots before m; one more than the longest where none up to that is
pub record DelayBefore (T : ℕ → ℕ) (r m w : ℕ) : Type 0 where
  pub to : w ≤ longest_delay + 1
  pub late : w ≤ longest_delay → (i : ℕ) → i < m → T i ≤ r * (i + w)
  pub least : (y : ℕ) → y ≤ longest_delay → ((i : ℕ) → i < m → T i ≤ r * (i + y)) → w ≤ y

-- ---- a pass that stops only at the first places of a list

-- how far ahead at place j, and the most up to it
unfoldable pub ahead_by : (ℕ → ℕ) → List ℕ → ℕ → ℕ → ℕ
ahead_by T places r zero = 0
ahead_by T places r (suc j) =
    ahead_by T places r j + (T (get_or places (suc j) 0) - T (get_or places j 0)) - r * (get_or places (suc j) 0 - get_or places j 0)

unfoldable pub most_by : (ℕ → ℕ) → List ℕ → ℕ → ℕ → ℕ
most_by T places r zero = 0
most_by T places r (suc j) = max (most_by T places r j) (ahead_by T places r (suc j))

-- so many rates are taken at once
abbrev pub at_once : ℕ
at_once = 4

-- lead i of some
abbrev pub lead_at : List Lead → ℕ → Lead
lead_at leads i = get_or leads i (record { ahead = 0; most = 0 })

-- leads at rates within the limits, none more than a film
pub record LeadsWithin (leads : List Lead) (rates : List ℕ) : Type 0 where
  pub ahead : (i : ℕ) → i < at_once → (lead_at leads i).ahead ≤ greatest_total
  pub rate : (i : ℕ) → i < at_once → get_or rates i 0 ≤ greatest_rate

-- a lead some slots on, in which so much is played and r a slot is carried
abbrev pub lead_after : Lead → ℕ → ℕ → ℕ → Lead
lead_after p played slots r =
    record { ahead = p.ahead + played - r * slots; most = max p.most (p.ahead + played - r * slots) }

-- the stop at slot `to`, by one step from the stop before it
abbrev pub next_stop : (ℕ → ℕ) → ℕ → ℕ → Stop → Stop
next_stop T to r s = record { at = to; sum = T to; lead = s.lead + (T to - T s.at) - r * (to - s.at) }

-- a stop of a pass at rate r, with slot `to` after it
pub record StopBefore (sums : List ℕ) (to r : ℕ) (s : Stop) : Type 0 where
  pub rate : r ≤ greatest_rate
  pub forward : s.at < to
  pub inside : to < length sums
  pub played : s.sum ≡ sums_in sums s.at
  pub under : s.lead ≤ s.sum

-- k places, from slot 0 on, up to slot M at most
pub record Track (M : ℕ) (places : List ℕ) (k : ℕ) : Type 0 where
  pub some_place : 0 < k
  pub few : k ≤ suc M
  pub starts : get_or places 0 0 ≡ 0
  pub inside : (j : ℕ) → j < k → get_or places j 0 ≤ M
  pub rising : (j : ℕ) → suc j < k → get_or places j 0 < get_or places (suc j) 0

-- a pass at rate r over places
pub record PassOver (sums : List ℕ) (r : ℕ) (places : List ℕ) : Type 0 where
  pub rate : r ≤ greatest_rate
  pub track : Track (length sums - 1) places (length places)

-- at each rate from `low` to `high`, a pass over the first k of the places finds the need, or one frame alone gets as far ahead
pub record Places (sums : List ℕ) (low high frame : ℕ) (places : List ℕ) (k : ℕ) : Type 0 where
  pub track : Track (length sums - 1) places k
  pub small : frame ≤ greatest_total
  pub enough : (r : ℕ) → low ≤ r → r ≤ high
      → max (most_by (sums_in sums) places r (k - 1)) (frame - r) ≡ most_ahead (sums_in sums) r (length sums - 1)

-- at one rate within the limits
pub record PlacesAt (sums : List ℕ) (frame : ℕ) (places : List ℕ) (k r : ℕ) : Type 0 where
  pub passes : Places sums r r frame places k
  pub rate : r ≤ greatest_rate

-- at the rates taken at once
pub record PlacesAtOnce (sums : List ℕ) (frame : ℕ) (places rates : List ℕ) : Type 0 where
  pub track : Track (length sums - 1) places (length places)
  pub each : (i : ℕ) → i < at_once → PlacesAt sums frame places (length places) (get_or rates i 0)

-- ---- slots left out

-- the first k of other places, with which as much is found at each rate from `low` on, or one frame alone gets as far ahead
pub record SameFrom (sums : List ℕ) (low frame : ℕ) (old new : List ℕ) (k : ℕ) : Type 0 where
  pub fewer : k ≤ length old
  pub track : Track (length sums - 1) new k
  pub same : (r : ℕ) → low ≤ r
      → max (most_by (sums_in sums) new r (k - 1)) (frame - r) ≡ max (most_by (sums_in sums) old r (length old - 1)) (frame - r)

-- and at each rate up to `high`
pub record SameUpTo (sums : List ℕ) (high : ℕ) (old new : List ℕ) (k : ℕ) : Type 0 where
  pub fewer : k ≤ length old
  pub track : Track (length sums - 1) new k
  pub same : (r : ℕ) → r ≤ high → most_by (sums_in sums) new r (k - 1) ≡ most_by (sums_in sums) old r (length old - 1)

-- A pass at rate r over old places that goes on by a state, which the lead at each next place makes another, and puts that place where the
-- state has the last of those that are left: the state at place j, and the places as they are then.
unfoldable pub state_at : {S : Type 0} → (S → ℕ → S) → (ℕ → ℕ) → ℕ → List ℕ → S → ℕ → S
state_at after T r old start zero = start
state_at after T r old start (suc j) = after (state_at after T r old start j) (ahead_by T old r (suc j))

unfoldable pub left_at : {S : Type 0} → (S → ℕ → S) → (S → ℕ) → (ℕ → ℕ) → ℕ → List ℕ → S → ℕ → List ℕ
left_at after last_of T r old start zero = old
left_at after last_of T r old start (suc j) =
    set (left_at after last_of T r old start j) (last_of (state_at after T r old start (suc j))) (get_or old (suc j) 0)

-- what the next place, with the lead at it, makes of the state since a peak: a new peak; a place to be kept for now; or, on the floor,
-- one with which all since the peak are left out
unfoldable pub since_peak_after : SincePeak → ℕ → SincePeak
since_peak_after t lead =
    cond (ltb t.bar lead)
    (record { last = t.last + 1; peak = t.last + 1; floor = lead; bar = lead; slack = t.slack })
    (cond (ltb t.floor lead)
    (record { last = t.last + 1; peak = t.peak; floor = t.floor; bar = min t.bar (t.floor + t.slack); slack = t.slack })
    (record { last = t.peak + 1; peak = t.peak; floor = lead; bar = min t.bar (lead + t.slack); slack = t.slack }))

-- and of the state since a valley: a new valley; a place to be kept for now; or, as high as the ceiling, one with which all since the
-- valley are left out
unfoldable pub since_valley_after : SinceValley → ℕ → SinceValley
since_valley_after t lead =
    cond (ltb t.base lead)
    (cond (ltb lead t.ceiling)
    (record { last = t.last + 1; valley = t.valley; base = t.base; ceiling = t.ceiling })
    (record { last = t.valley + 1; valley = t.valley; base = t.base; ceiling = lead }))
    (record { last = t.last + 1; valley = t.last + 1; base = lead; ceiling = lead })

-- ---- some rates at a time

-- r is the least from y on of the first u rates, and the top where none of them is
pub record NextRate (rates : List ℕ) (u y top r : ℕ) : Type 0 where
  pub from : min y top ≤ r
  pub to : r ≤ top
  pub least : (v : ℕ) → v < u → y ≤ get_or rates v 0 → r ≤ get_or rates v 0

-- from where the next of such rates after the first i is looked for
abbrev pub look_from : ℕ → List ℕ → ℕ → ℕ
look_from y next zero = y
look_from y next (suc i) = get_or next i 0 + 1

-- such rates, each after the one before it
pub record NextRates (rates : List ℕ) (y top : ℕ) (next : List ℕ) : Type 0 where
  pub long : length next ≡ at_once
  pub each : (i : ℕ) → i < at_once → NextRate rates most_nodes (look_from y next i) top (get_or next i 0)

-- the number at a place; another one where there is no place
abbrev pub number_at : Option ℕ → List ℕ → ℕ → ℕ
number_at (Some k) numbers old = get_or numbers k 0
number_at None numbers old = old

-- the number at the place where `taken` has the rate; what there was where it hasn't
abbrev pub chosen : List ℕ → List ℕ → ℕ → ℕ → ℕ
chosen taken numbers rate old = number_at (position (λ r. r == rate) taken) numbers old
