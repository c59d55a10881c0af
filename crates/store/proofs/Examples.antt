-- The definitions computed on a small store: a slice of 4 bytes and two children.
use mathlib.Core.Bool.{true, false}
use mathlib.Core.List.{List, [], ◌∷◌}
use mathlib.Core.Path.{◌≡◌, refl}
use Prim.Native.Nat.{ℕ}
use Rattle.base.specs.Range.{some, greatest}
use Rattle.base.specs.Table.{tab}
use Rattle.store.specs.Store.{onward, back, waiting_bytes, free, impossible, unfit, append_number, take_number, started, appended}
use Rattle.store.specs.Store.{store_of, taken, written}
use Rattle.store.specs.declared.Store.{Store}

-- 3 bytes are appended, child 0 takes 2 of them and child 1 all
abbrev before : Store
before = taken (taken (appended (started 4 2) 3) 0 2) 1 3

-- 3 bytes more fit, and 4 don't; child 0 may take 1, and there is no child 2
numbers : (free before ∷ append_number before 4 3 ∷ append_number before 4 4 ∷ take_number before 4 0 1 ∷ take_number before 4 0 2
    ∷ take_number before 4 2 0 ∷ [])
    ≡ (3 ∷ 0 ∷ 18 ∷ 0 ∷ 19 ∷ 17 ∷ [])
unfolding onward tab free greatest some impossible unfit append_number take_number
numbers = refl

-- the 3 bytes go round the end, and child 0's byte stays
abbrev slice : List ℕ
slice = written 3 (1 ∷ 2 ∷ 3 ∷ 0 ∷ []) (4 ∷ 5 ∷ 6 ∷ [])

slices : slice ≡ (5 ∷ 6 ∷ 3 ∷ 4 ∷ [])
unfolding back tab written
slices = refl

waits : (waiting_bytes (appended before 3) slice 0 ≡ (3 ∷ 4 ∷ 5 ∷ 6 ∷ [])) × (waiting_bytes (appended before 3) slice 1 ≡ (4 ∷ 5 ∷ 6 ∷ []))
unfolding onward back tab written waiting_bytes
waits = (refl, refl)

-- a store no calls could leave: its place isn't one of the slice
places : impossible (appended before 3) ≡ false × impossible (store_of 2 2 2 before.waiting) ≡ true
unfolding onward tab some impossible
places = (refl, refl)
