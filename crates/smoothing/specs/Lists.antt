-- What a loop's list holds: a number for each node, the rows of the links one after the other, or a row filled from its end.
use Rattle.std.specs.Prelude.{◌≡◌, List, ◌++◌, ℕ, zero, suc, ◌+◌, ◌*◌, ◌≤◌, length, take, drop, get_or}
use Rattle.base.specs.Table.{tab}

-- the family that a list with a number for each node holds
abbrev pub family_in : List ℕ → ℕ → ℕ
family_in l v = get_or l v 0

-- the rows that a list of rows with w numbers each holds: link 1's first; the root has none
abbrev pub rows_in : ℕ → List ℕ → ℕ → ℕ → ℕ
rows_in w l zero k = 0
rows_in w l (suc i) k = get_or l (i * w + k) 0

-- p is l with f k, f (k + 1), .. stored from place k to its end: what a loop that fills l from its end has done when it comes to k
abbrev pub FilledFrom : (ℕ → ℕ) → ℕ → List ℕ → List ℕ → Type 0
FilledFrom f k l p = (k ≤ length l) × ((length p ≡ length l) × (p ≡ take k l ++ drop k (tab f (length l))))
