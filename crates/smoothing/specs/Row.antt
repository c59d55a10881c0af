-- One row, a number for each slot 0 to H: its peak, its excess over another row, the least peak between two rows, and the lazy row.
use Rattle.std.specs.Prelude.{ℕ, zero, suc, ◌+◌, ◌-◌, ◌*◌, ◌/◌, ◌≤◌, ◌<◌, max}
use Rattle.base.specs.Range.{greatest}

-- the greatest rise in one slot, over slots 1 to H
unfoldable pub peak : ℕ → (ℕ → ℕ) → ℕ
peak H s = greatest (λ k. s (suc k) - s k) H

-- the greatest excess of the row s over the row d, over slots 0 to H
unfoldable pub greatest_excess : ℕ → (ℕ → ℕ) → (ℕ → ℕ) → ℕ
greatest_excess H s d = greatest (λ k. s k - d k) (suc H)

-- x / d rounded up
unfoldable pub ceil_div : ℕ → ℕ → ℕ
ceil_div x d = (x + (d - 1)) / d

-- rises of p in each slot lead from the upper row at any slot to the lower row at any later slot
abbrev pub Enough : ℕ → (ℕ → ℕ) → (ℕ → ℕ) → ℕ → Type 0
Enough H lower upper p = (j k : ℕ) → j < k → k ≤ H → lower k ≤ upper j + p * (k - j)

-- the largest, over slots j < k, of (lower at k less upper at j) / (k - j) rounded up; 0 where none is positive
unfoldable pub least_peak : ℕ → (ℕ → ℕ) → (ℕ → ℕ) → ℕ
least_peak H lower upper = greatest (λ k. greatest (λ j. ceil_div (lower k - upper j) (k - j)) k) (suc H)

-- the lazy row at slot k where d slots follow: at the last slot f itself; before it the larger of f and the next value less q
unfoldable pub lazy_before : ℕ → (ℕ → ℕ) → ℕ → ℕ → ℕ
lazy_before q f zero k = f k
lazy_before q f (suc d) k = max (f k) (lazy_before q f d (suc k) - q)

-- the lazy row of f at rate q, with H as the last slot
unfoldable pub lazy : ℕ → ℕ → (ℕ → ℕ) → ℕ → ℕ
lazy H q f k = lazy_before q f (H - k) k
