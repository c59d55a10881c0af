-- A set of numbers below 64 as one 64-bit word.
use Rattle.std.specs.Prelude.{Bool, List, [], ◌∷◌, ◌++◌, ℕ, ◌/◌, ◌%◌, ◌^◌, eqb}
use Rattle.base.specs.Range.{fold}

-- i is in the set s: digit i of s, counted from the lowest, is 1
unfoldable pub has : ℕ → ℕ → Bool
has s i = eqb (s / 2 ^ i % 2) 1

-- how many numbers a word has room for
abbrev pub word_bits : ℕ
word_bits = 64

-- the members of s, each once and in increasing order
abbrev pub members : ℕ → List ℕ
members s = fold (λ l i. l ++ (i ∷ [])) [] (has s) word_bits
