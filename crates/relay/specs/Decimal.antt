-- A number in decimal, as characters.
use Rattle.std.specs.Prelude.{cond, List, [], ◌∷◌, ◌++◌, ℕ, zero, suc, ◌+◌, ◌/◌, ◌%◌, ltb}

-- the character of a digit 0 to 9
abbrev pub digit : ℕ → ℕ
digit d = d + 48

-- n in decimal, where `limit` digits are enough: the digits of n / 10 and then the last one, and a number below 10 is its own digit
unfoldable pub digits_within : ℕ → ℕ → List ℕ
digits_within zero n = []
digits_within (suc limit) n = cond (ltb n 10) (digit n ∷ []) (digits_within limit (n / 10) ++ (digit (n % 10) ∷ []))

-- n in decimal, the most significant digit first and no zero before it: a number has no more than n + 1 digits
unfoldable pub digits : ℕ → List ℕ
digits n = digits_within (suc n) n
