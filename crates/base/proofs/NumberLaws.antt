-- Laws of big-endian numbers.
use mathlib.Core.List.{List}
use mathlib.Core.Path.{◌≡◌, refl}
use Prim.Native.Nat.{ℕ, zero, suc, ◌+◌, ◌≤◌, ◌<◌}
use native.Mathlib.Omega.{arith}
use lib.ListN.{get_or}
use Rattle.base.specs.Number.{number}

-- a number is settled by its bytes
pub number_cong : (s t : List ℕ) (place width : ℕ) → ((i : ℕ) → place ≤ i → i < place + width → get_or s i 0 ≡ get_or t i 0)
    → number s place width ≡ number t place width
unfolding number
number_cong s t place zero h = refl
number_cong s t place (suc width) h =
    rw (number_cong s t place width (λ i a b. h i a (omega arith)), h (place + width) (omega arith) (omega arith))
