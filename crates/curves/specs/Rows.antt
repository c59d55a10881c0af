-- What the code works with: the earliest of some leaves, rows that take in one leaf after the other, and rows of all links.
use Rattle.std.specs.Prelude.{cond, ◌≡◌, ◌≢◌, List, ℕ, suc, ◌+◌, ◌-◌, ◌≤◌, ◌<◌, max, min, ltb, length, get_or}
use Rattle.base.specs.Range.{first, fold, greatest_over, least_over}
use Rattle.base.specs.Set.{has, word_bits}
use Rattle.base.specs.Table.{tab, rows_of}
use Rattle.job.specs.Limits.{greatest_total}
use Rattle.job.specs.Tree.{Tree, leaf}
use Rattle.job.specs.Sums.{sums_in}
use Rattle.curves.specs.Curves.{leaf_below, plays, D, lower_curve, upper_curve, high}

-- the delay of a leaf; of an inner node the least delay of the leaves below it
unfoldable pub least_delay : Tree → ℕ → ℕ
least_delay t i = cond (leaf t i) (t.delay i) (least_over (leaf_below t i) t.delay t.n)

-- the earlier of two leaves with these delays; the first where they start together
unfoldable pub earlier : List ℕ → ℕ → ℕ → ℕ
earlier delay i l = cond (ltb (get_or delay l 0) (get_or delay i 0)) l i

-- the earliest member of a set; the lowest of those that start together
abbrev pub earliest_of : List ℕ → ℕ → ℕ
earliest_of delay set = fold (earlier delay) (first (has set) word_bits) (has set) word_bits

-- the most that a leaf of a set plays by slot k
unfoldable pub most_played : Tree → (ℕ → ℕ) → ℕ → ℕ → ℕ
most_played t T set k = greatest_over (has set) (λ l. plays t T l k) word_bits

-- ---- leaves taken in, where a slice has the sums

module _ (t : Tree) (sums : List ℕ) where
  -- a lower row that has taken in, at every slot, what leaf l plays less `less`, where that is more
  unfoldable pub raised_by : ℕ → ℕ → List ℕ → List ℕ
  raised_by l less row = tab (λ k. max (get_or row k 0) (plays t (sums_in sums) l k - less)) (length row)

  -- the same with every leaf of a set
  unfoldable pub raised_by_all : ℕ → ℕ → List ℕ → List ℕ
  raised_by_all set less row = tab (λ k. max (get_or row k 0) (most_played t (sums_in sums) set k - less)) (length row)

  -- an upper row that has taken in, at every slot, what leaf l plays and its memory, where that is less
  unfoldable pub lowered_by : ℕ → List ℕ → List ℕ
  lowered_by l row = tab (λ k. min (get_or row k 0) (plays t (sums_in sums) l k + t.memory l)) (length row)

-- in no slot has the row less than what a leaf with this delay plays less `less`, nor more than a whole film can have
abbrev pub TakenIn : List ℕ → ℕ → ℕ → List ℕ → Type 0
TakenIn sums delay less row =
    (k : ℕ) → k < length row → (sums_in sums (k - delay) - less ≤ get_or row k 0) × (get_or row k 0 ≤ greatest_total)

-- ---- rows of links

-- `high` but for slot 0
unfoldable pub roof : Tree → (ℕ → ℕ) → ℕ → ℕ → ℕ → ℕ
roof t T top i k = cond (leaf t i) (min (D t T i k + t.memory i) top) top

-- `high` of links 1 to m, rows of w slots one after the other
abbrev pub high_rows : Tree → (ℕ → ℕ) → ℕ → ℕ → ℕ → List ℕ
high_rows t T top w m = rows_of (λ i. tab (high t T top (suc i)) w) m

-- the upper curves of links 1 to m, rows of w slots one after the other
abbrev pub upper_rows : Tree → (ℕ → ℕ) → ℕ → ℕ → ℕ → List ℕ
upper_rows t T top w m = rows_of (λ i. tab (upper_curve t T top (suc i)) w) m

-- a row kept from link to link: the lower curve of node c; anything where that is the root
abbrev pub Kept : Tree → (ℕ → ℕ) → ℕ → List ℕ → Type 0
Kept t T c l = (c < t.n) × (c ≢ 0 → l ≡ tab (lower_curve t T c) (length l))

-- a leaf's lower curve at a slot where it plays `plays` and its parent, with this memory, has the lower curve `above`
unfoldable pub leaf_lower : ℕ → ℕ → ℕ → ℕ
leaf_lower plays above memory = max plays (above - memory)
