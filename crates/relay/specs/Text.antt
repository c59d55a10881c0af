-- The lines that the program prints.
use Rattle.std.specs.Prelude.{List, [], ◌∷◌, ◌++◌, ℕ, ◌+◌, Result, Ok, Err, length, get_or}
use Rattle.base.specs.Table.{rows_of}
use Rattle.planner.specs.Answer as planner
use Rattle.planner.specs.Answer.{row_of}
use Rattle.planner.specs.declared.Planned.{Planned}
use Rattle.planner.specs.declared.Refusal as plan
use Rattle.rates.specs.Answer as rates
use Rattle.rates.specs.declared.Sizing.{Sizing}
use Rattle.rates.specs.declared.Refusal as sizes
use Rattle.relay.specs.Decimal.{digits}

abbrev pub space : ℕ
space = 32

abbrev pub line_end : ℕ
line_end = 10

-- each number after a space
unfoldable pub spaced : List ℕ → List ℕ
spaced [] = []
spaced (n ∷ l) = (space ∷ digits n) ++ spaced l

-- a line: a first number, then others
abbrev pub line : ℕ → List ℕ → List ℕ
line n l = digits n ++ (spaced l ++ (line_end ∷ []))

-- the line of link i + 1: node, peak, row
abbrev pub node_line : List ℕ → List ℕ → List ℕ → ℕ → List ℕ
node_line s plan peaks i = line (i + 1) (get_or peaks i 0 ∷ row_of s plan (i + 1))

-- the lines of the memory question's answer: number, H, T(M) and a line for each node; a refusal is its number alone
unfoldable pub memory_text : Result Planned plan.Refusal → List ℕ → List ℕ → List ℕ → List ℕ
memory_text (Err e) s plan peaks = line (planner.number e) []
memory_text (Ok planned) s plan peaks = line 0 (planned.last_slot ∷ (planned.total ∷ [])) ++ rows_of (node_line s plan peaks) (length peaks)

-- the line of the rate question's answer: number, w, total, memories; a refusal is its number alone
unfoldable pub rate_text : Result Sizing sizes.Refusal → List ℕ → List ℕ
rate_text (Err e) memories = line (rates.number e) []
rate_text (Ok sizing) memories = line 0 (sizing.delay ∷ (sizing.total ∷ memories))
