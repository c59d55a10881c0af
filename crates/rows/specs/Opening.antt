-- What opening works on: two rows of one list, and a table with memories small enough to be added.
use Rattle.std.specs.Prelude.{ℕ, ◌+◌, ◌≤◌, min, ◌⊎◌, List, length, get_or}
use Rattle.smoothing.specs.Tree.{Link}
use Rattle.smoothing.specs.Lists.{family_in}
use Rattle.job.specs.Limits.{greatest_memory}
use Rattle.rows.specs.Row.{InRange}
use Rattle.rows.specs.Closing.{with_part, Closable}

-- of two rows of w numbers in l, the one from place `to` on lowered to the one from place `from` on and `plus`
abbrev pub with_lowered : ℕ → ℕ → ℕ → ℕ → List ℕ → List ℕ
with_lowered to from plus w l = with_part (λ k. min (get_or l (to + k) 0) (get_or l (from + k) 0 + plus)) to w l

-- two rows of `width` numbers, from place a and from place b on, lie within a list and have no place in common
pub record Apart (a b width : ℕ) (l : List ℕ) : Type 0 where
  pub first_in : a + width ≤ length l
  pub second_in : b + width ≤ length l
  pub no_common : (a + width ≤ b) ⊎ (b + width ≤ a)

-- a table as closing takes it, whose numbers and memories are in range
pub record Openable (plan memory : List ℕ) (nodes width : ℕ) : Type 0 where
  pub closable : Closable plan nodes width
  pub in_range : InRange plan
  pub memories : (v : ℕ) → Link nodes v → family_in memory v ≤ greatest_memory
