-- A row as a list: a number for each slot, from slot 0 on.
use Rattle.std.specs.Prelude.{ℕ, ◌+◌, ◌-◌, ◌≤◌, ◌<◌, max, min, List, length, get_or}
use Rattle.base.specs.Table.{tab}
use Rattle.job.specs.Limits.{greatest_total}
use Rattle.smoothing.specs.Row.{lazy, least_peak}

-- the row that a list holds
abbrev pub row_in : List ℕ → ℕ → ℕ
row_in l k = get_or l k 0

-- no number of the row is more than a whole film can have
abbrev pub InRange : List ℕ → Type 0
InRange l = (k : ℕ) → k < length l → row_in l k ≤ greatest_total

-- the lazy row of a lower row at the rate q
abbrev pub lazy_row : ℕ → List ℕ → List ℕ
lazy_row q lower = tab (lazy (length lower - 1) q (row_in lower)) (length lower)

-- the least peak between a lower and an upper row
abbrev pub least_peak_of : List ℕ → List ℕ → ℕ
least_peak_of lower upper = least_peak (length lower - 1) (row_in lower) (row_in upper)

-- a row with each number raised to that of another row less an amount
abbrev pub raised_row : List ℕ → ℕ → List ℕ → List ℕ
raised_row from amount l = tab (λ k. max (row_in l k) (row_in from k - amount)) (length l)

-- a row with each number lowered to that of another row and an amount
abbrev pub lowered_row : List ℕ → ℕ → List ℕ → List ℕ
lowered_row from amount l = tab (λ k. min (row_in l k) (row_in from k + amount)) (length l)
