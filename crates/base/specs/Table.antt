-- Tables: a row of numbers given by a function of its place, and rows one after the other.
use Rattle.std.specs.Prelude.{List, [], ◌∷◌, ◌++◌, ◌≡◌, ℕ, zero, suc, ◌≤◌, length, drop}

-- f 0, f 1, .., f (n - 1)
unfoldable pub tab : (ℕ → ℕ) → ℕ → List ℕ
tab f zero = []
tab f (suc n) = tab f n ++ (f n ∷ [])

-- row 0, row 1, .., row (n - 1), one after the other
unfoldable pub rows_of : (ℕ → List ℕ) → ℕ → List ℕ
rows_of r zero = []
rows_of r (suc n) = rows_of r n ++ r n

-- p is l with f 0, .., f (k - 1) stored in its first k places: what a loop that fills l from the front has done after k turns
abbrev pub Filled : (ℕ → ℕ) → ℕ → List ℕ → List ℕ → Type 0
Filled f k l p = (k ≤ length l) × ((length p ≡ length l) × (p ≡ tab f k ++ drop k l))
