-- What a film asks of a link at a given rate, by its sums T(0) to T(M): a delay that is in time, and the need.
use Rattle.std.specs.Prelude.{Bool, not, Option, Some, None, List, ◌≡◌, ℕ, zero, suc, ◌+◌, ◌-◌, ◌*◌, ◌≤◌, ◌<◌, max, ltb, length, get_or}
use Rattle.base.specs.Range.{some, first}
use Rattle.base.specs.Table.{tab}
use Rattle.job.specs.Limits.{most_nodes, longest_delay, greatest_rate}
use Rattle.job.specs.Sums.{sums_in}

-- ---- what is asked

-- rates within the limits
abbrev pub RatesWithin : List ℕ → Type 0
RatesWithin rates = (i : ℕ) → i < most_nodes → get_or rates i 0 ≤ greatest_rate

-- ---- the delay

-- a delay w is in time at rate r: T(m) ≤ r × (m + w) for each m from 0 to M
unfoldable pub in_time : ℕ → ℕ → (ℕ → ℕ) → ℕ → Bool
in_time r M T w = not (some (λ m. ltb (r * (m + w)) (T m)) (M + 1))

-- the least delay that is in time at rate r; one more than the longest delay where none up to that is
abbrev pub delay_at : ℕ → ℕ → (ℕ → ℕ) → ℕ
delay_at r M T = first (in_time r M T) (longest_delay + 1)

-- what a search for the delay d gives: d where it is up to the longest, and nothing where it is more
abbrev pub DelayFound : Option ℕ → ℕ → Type 0
DelayFound (Some w) d = (w ≡ d) × (w ≤ longest_delay)
DelayFound None d = d ≡ longest_delay + 1

-- the number of an answer where none is
abbrev pub no_delay : ℕ
no_delay = 13

-- ---- the need

-- how far what is played by m is ahead of what a link at rate r has carried by then, if it never carried more than was played: each slot
-- adds a frame and takes off r
unfoldable pub ahead : (ℕ → ℕ) → ℕ → ℕ → ℕ
ahead T r zero = 0
ahead T r (suc m) = ahead T r m + (T (suc m) - T m) - r

-- the most that it is ahead, up to m
unfoldable pub most_ahead : (ℕ → ℕ) → ℕ → ℕ → ℕ
most_ahead T r zero = 0
most_ahead T r (suc m) = max (most_ahead T r m) (ahead T r (suc m))

-- the need at rate r
abbrev pub need_of : List ℕ → ℕ → ℕ
need_of sums r = most_ahead (sums_in sums) r (length sums - 1)

-- the need at each of the rates, at its place
abbrev pub needs_at : List ℕ → List ℕ → List ℕ
needs_at sums rates = tab (λ i. need_of sums (get_or rates i 0)) most_nodes
