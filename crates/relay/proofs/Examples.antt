-- The definitions computed on small inputs.
use mathlib.Core.List.{[], ◌∷◌}
use mathlib.Core.Path.{◌≡◌, refl}
use Rattle.relay.specs.Decimal.{digits_within, digits}
use Rattle.relay.specs.Text.{spaced, line}

-- 0, 9, 10, 1203
numbers : (digits 0 ∷ digits 9 ∷ digits 10 ∷ digits 1203 ∷ [])
    ≡ ((48 ∷ [])
    ∷ (57 ∷ [])
    ∷ (49 ∷ 48 ∷ [])
    ∷ (49 ∷ 50 ∷ 48 ∷ 51 ∷ [])
    ∷ [])
unfolding digits digits_within
numbers = refl

-- the first line of document 01's listing, `0 4 15`, and a refusal alone on its line, `12`
lines : (line 0 (4 ∷ 15 ∷ []) ∷ line 12 [] ∷ []) ≡ ((48 ∷ 32 ∷ 52 ∷ 32 ∷ 49 ∷ 53 ∷ 10 ∷ []) ∷ (49 ∷ 50 ∷ 10 ∷ []) ∷ [])
unfolding digits digits_within spaced
lines = refl
