-- The definitions computed on small inputs.
use mathlib.Core.Bool.{true, false}
use mathlib.Core.List.{[], ◌∷◌}
use mathlib.Core.Path.{◌≡◌, refl}
use Prim.Native.Nat.{◌+◌}
use Rattle.base.specs.Number.{number}
use Rattle.base.specs.Range.{some, how_many, first, fold}
use Rattle.base.specs.Set.{has, members}
use Rattle.base.specs.Table.{tab, rows_of}

-- the most significant byte first; bytes past the end count as 0
numbers : (number (9 ∷ 1 ∷ 2 ∷ []) 1 2 ∷ number (9 ∷ 1 ∷ 2 ∷ []) 2 2 ∷ []) ≡ (258 ∷ 512 ∷ [])
unfolding number
numbers = refl

-- the set of 0 and 2, and the empty set
in_set : (has 5 0 ∷ has 5 1 ∷ has 5 2 ∷ has 5 3 ∷ has 0 0 ∷ []) ≡ (true ∷ false ∷ true ∷ false ∷ false ∷ [])
unfolding has
in_set = refl

counts : (how_many (has 5) 64 ∷ first (has 4) 64 ∷ first (has 0) 64 ∷ []) ≡ (2 ∷ 2 ∷ 64 ∷ [])
unfolding has some how_many first
counts = refl

-- each member once, in increasing order
walked : members 37 ≡ (0 ∷ 2 ∷ 5 ∷ [])
unfolding has fold
walked = refl

tables : rows_of (λ i. tab (λ k. i + k) 3) 2 ≡ (0 ∷ 1 ∷ 2 ∷ 1 ∷ 2 ∷ 3 ∷ [])
unfolding tab rows_of
tables = refl
