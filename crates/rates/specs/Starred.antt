-- Document 01, 'Example trees': the eight starred cases as one table.
-- A line has a job's bytes and what one of the two questions answers to them, as its public contract has it.
use Rattle.std.specs.Prelude.{Bool, true, false, Result, Ok, Err, List, [], ◌∷◌, ◌++◌, ◌≡◌, ℕ, zero, suc, ◌-◌, ◌/◌, ◌%◌, length}
use Rattle.job.specs.Tree.{plan_length}
use Rattle.job.specs.Bytes.{job_of}
use Rattle.planner.specs.Answer as planner
use Rattle.planner.specs.Answer.{Answers}
use Rattle.planner.specs.declared.Planned.{Planned}
use Rattle.planner.specs.declared.Refusal as planner_refusal
use Rattle.rates.specs.Answer.{Sizes, number_of, delay_of, total_of}
use Rattle.rates.specs.declared.Sizing.{Sizing}
use Rattle.rates.specs.declared.Refusal.{Refusal}

-- ---- jobs as bytes

-- x in this many bytes, the most significant first
unfoldable pub spell : ℕ → ℕ → List ℕ
spell zero x = []
spell (suc width) x = spell width (x / 256) ++ (x % 256 ∷ [])

-- the bytes before the records: mark, version, n and M
abbrev pub header : ℕ → ℕ → List ℕ
header n M = 82 ∷ 76 ∷ 89 ∷ (spell 2 1 ++ (spell 1 n ++ spell 4 M))

-- a record: parent, start delay, memory, link rate
abbrev pub row : ℕ → ℕ → ℕ → ℕ → List ℕ
row parent delay memory rate = spell 1 parent ++ (spell 2 delay ++ (spell 8 memory ++ spell 8 rate))

-- tree Q: node 1 under the root, leaves 2 and 3 under node 1, with what its three records have after their parents, and three frames
abbrev pub tree_q : (ℕ → List ℕ) → (ℕ → List ℕ) → (ℕ → List ℕ) → ℕ → ℕ → ℕ → List ℕ
tree_q one two three x y z = header 4 3 ++ (one 0 ++ (two 1 ++ (three 1 ++ (spell 4 x ++ (spell 4 y ++ spell 4 z)))))

-- what a record has after its parent
abbrev pub having : ℕ → ℕ → ℕ → ℕ → List ℕ
having delay memory rate parent = row parent delay memory rate

-- the cases of the memory question: leaf 3's delay and three memories; frames 4, 10, 1
abbrev pub with_memories : ℕ → ℕ → ℕ → ℕ → List ℕ
with_memories late one two three = tree_q (having 0 one 0) (having 0 two 0) (having late three 0) 4 10 1

-- the cases of the rate question: three rates and three frames
abbrev pub with_rates : ℕ → ℕ → ℕ → ℕ → ℕ → ℕ → List ℕ
with_rates one two three x y z = tree_q (having 0 0 one) (having 0 0 two) (having 0 0 three) x y z

-- a root and one leaf, one frame, and the rate
abbrev pub one_leaf : ℕ → ℕ → List ℕ
one_leaf frame rate = header 2 1 ++ (row 0 0 0 rate ++ spell 4 frame)

-- ---- the table

-- a line: the memory question's or the rate question's; the job; the number and two values of the answer (H and T(M), or w and the total);
-- and what an accepted job has filled: the peaks and the plan, row after row, or the memories
pub record Line : Type 0 where
  pub memory : Bool
  pub job : List ℕ
  pub values : List ℕ
  pub filled : List (List ℕ)

abbrev pub table : List Line
table =
    -- delays 0, memories 0, 6, 6: rows all 0 7 14 15, peaks 7
    record {
      memory = true;
      job = with_memories 0 0 6 6;
      values = 0 ∷ 3 ∷ 15 ∷ [];
      filled = (7 ∷ 7 ∷ 7 ∷ []) ∷ (0 ∷ 7 ∷ 14 ∷ 15 ∷ 0 ∷ 7 ∷ 14 ∷ 15 ∷ 0 ∷ 7 ∷ 14 ∷ 15 ∷ []) ∷ [];
    }
    -- delays 0, memories 6, 0, 6: row 2 is 0 4 14 15, peak 10; rows 1 and 3 are 0 7 14 15
    ∷ record {
      memory = true;
      job = with_memories 0 6 0 6;
      values = 0 ∷ 3 ∷ 15 ∷ [];
      filled = (7 ∷ 10 ∷ 7 ∷ []) ∷ (0 ∷ 7 ∷ 14 ∷ 15 ∷ 0 ∷ 4 ∷ 14 ∷ 15 ∷ 0 ∷ 7 ∷ 14 ∷ 15 ∷ []) ∷ [];
    }
    -- delays 0 and 1, memories 4, 0, 6: accepted, as listed
    ∷ record {
      memory = true;
      job = with_memories 1 4 0 6;
      values = 0 ∷ 4 ∷ 15 ∷ [];
      filled = (7 ∷ 10 ∷ 5 ∷ []) ∷ (0 ∷ 7 ∷ 14 ∷ 15 ∷ 15 ∷ 0 ∷ 4 ∷ 14 ∷ 15 ∷ 15 ∷ 0 ∷ 5 ∷ 10 ∷ 14 ∷ 15 ∷ []) ∷ [];
    }
    -- the same with memories 4, 0, 5: 12
    ∷ record { memory = true; job = with_memories 1 4 0 5; values = 12 ∷ 0 ∷ 0 ∷ []; filled = [] }
    -- rates 5, 10, 4: w 2, memories 0, 6, 6 (by document 02, L4), total 12
    ∷ record { memory = false; job = with_rates 5 10 4 4 10 1; values = 0 ∷ 2 ∷ 12 ∷ []; filled = (0 ∷ 6 ∷ 6 ∷ []) ∷ [] }
    -- a root and one leaf, one frame of 4,097, rate 1: w 4,096, total 4,096
    ∷ record { memory = false; job = one_leaf 4097 1; values = 0 ∷ 4096 ∷ 4096 ∷ []; filled = (4096 ∷ []) ∷ [] }
    -- the same with a frame of 4,098: 13
    ∷ record { memory = false; job = one_leaf 4098 1; values = 13 ∷ 0 ∷ 0 ∷ []; filled = [] }
    -- rate 0 with all frames 0: w 0, total 0
    ∷ record { memory = false; job = with_rates 0 0 0 0 0 0; values = 0 ∷ 0 ∷ 0 ∷ []; filled = (0 ∷ 0 ∷ 0 ∷ []) ∷ [] }
    ∷ []

-- ---- what a line says

abbrev pub plan_filled : Result Planned planner_refusal.Refusal → List ℕ → List ℕ → List (List ℕ)
plan_filled (Err e) peaks plan = []
plan_filled (Ok planned) peaks plan = peaks ∷ plan ∷ []

abbrev pub memories_filled : Result Sizing Refusal → List ℕ → List (List ℕ)
memories_filled (Err e) memories = []
memories_filled (Ok sizing) memories = memories ∷ []

-- whatever the memory question answers by its contract, lent outputs of the right length, has these values and has filled these numbers
abbrev pub MemorySays : List ℕ → List ℕ → List (List ℕ) → Type 0
MemorySays s values filled =
    (a : Result Planned planner_refusal.Refusal) (plan₀ plan₁ peaks₀ peaks₁ : List ℕ) → length plan₀ ≡ plan_length (job_of s) → length peaks₀ ≡ (job_of s).tree.n - 1
    → Answers a s plan₀ plan₁ peaks₀ peaks₁
    → (planner.number_of a ∷ planner.last_of a ∷ planner.total_of a ∷ [] ≡ values) × (plan_filled a peaks₁ plan₁ ≡ filled)

-- and the rate question likewise
abbrev pub RateSays : List ℕ → List ℕ → List (List ℕ) → Type 0
RateSays s values filled =
    (a : Result Sizing Refusal) (memories₀ memories₁ : List ℕ) → length memories₀ ≡ (job_of s).tree.n - 1 → Sizes a s memories₀ memories₁
    → (number_of a ∷ delay_of a ∷ total_of a ∷ [] ≡ values) × (memories_filled a memories₁ ≡ filled)

abbrev pub Says : Bool → List ℕ → List ℕ → List (List ℕ) → Type 0
Says true s values filled = MemorySays s values filled
Says false s values filled = RateSays s values filled

-- every line is true
abbrev pub Holds : List Line → Type 0
Holds [] = Unit {0}
Holds (line ∷ lines) = Says line.memory line.job line.values line.filled × Holds lines
