-- Big-endian unsigned numbers in bytes.
use Rattle.std.specs.Prelude.{List, ℕ, zero, suc, ◌+◌, ◌*◌, get_or}

-- the number that the `width` bytes from `place` on spell, the most significant first; a byte past the end counts as 0
unfoldable pub number : List ℕ → ℕ → ℕ → ℕ
number s place zero = 0
number s place (suc width) = number s place width * 256 + get_or s (place + width) 0
