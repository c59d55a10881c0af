-- What the program prints for each string of bytes.
use Rattle.std.specs.Prelude.{cond, List, [], ◌++◌, ◌≡◌, ℕ, ◌-◌, Result, ltb, eqb, length}
use Rattle.job.specs.Tree.{plan_length}
use Rattle.job.specs.Bytes.{job_of}
use Rattle.job.specs.Refusal.{refusal}
use Rattle.planner.specs.Answer.{Answers}
use Rattle.planner.specs.declared.Planned.{Planned}
use Rattle.planner.specs.declared.Refusal as plan
use Rattle.rates.specs.Answer.{Sizes}
use Rattle.rates.specs.declared.Sizing.{Sizing}
use Rattle.rates.specs.declared.Refusal as sizes
use Rattle.relay.specs.Text.{line, memory_text, rate_text}

-- refusal 15, the program's own: a job or a plan that is too large for it
abbrev pub too_large : ℕ
too_large = 15

-- the most bytes of a job and the most numbers of a plan that it takes
abbrev pub most_bytes : ℕ
most_bytes = 32768

abbrev pub most_planned : ℕ
most_planned = 4096

-- the number of a job that is refused before both questions: 15 for too many bytes, then 1 to 10, then 15 for too large a plan; else 0
unfoldable pub job_refusal : List ℕ → ℕ
job_refusal s =
    cond (ltb most_bytes (length s)) too_large
    (cond (eqb (refusal s) 0)
    (cond (ltb most_planned (plan_length (job_of s))) too_large 0)
    (refusal s))

-- the lines of an answer that the memory question gives, lent outputs of the right length
pub record MemoryLines (s text : List ℕ) : Type 0 where
  pub plan₀ : List ℕ
  pub plan₁ : List ℕ
  pub peaks₀ : List ℕ
  pub peaks₁ : List ℕ
  pub answer : Result Planned plan.Refusal
  pub plan_long : length plan₀ ≡ plan_length (job_of s)
  pub peaks_long : length peaks₀ ≡ (job_of s).tree.n - 1
  pub answers : Answers answer s plan₀ plan₁ peaks₀ peaks₁
  pub printed : text ≡ memory_text answer s plan₁ peaks₁

-- the line of an answer that the rate question gives, a lent output of the right length
pub record RateLine (s text : List ℕ) : Type 0 where
  pub memories₀ : List ℕ
  pub memories₁ : List ℕ
  pub sizing : Result Sizing sizes.Refusal
  pub memories_long : length memories₀ ≡ (job_of s).tree.n - 1
  pub answers : Sizes sizing s memories₀ memories₁
  pub printed : text ≡ rate_text sizing memories₁

-- both answers, the memory question's first
pub record BothAnswers (s text : List ℕ) : Type 0 where
  pub memory_lines : List ℕ
  pub rate_line : List ℕ
  pub memory : MemoryLines s memory_lines
  pub rate : RateLine s rate_line
  pub printed : text ≡ memory_lines ++ rate_line

-- the text for the bytes s: a job that is refused before both questions has its number alone on one line; any other has both answers
pub record Printed (s text : List ℕ) : Type 0 where
  pub refused : (job_refusal s ≡ 0 → ⊥) → text ≡ line (job_refusal s) []
  pub answered : job_refusal s ≡ 0 → BothAnswers s text
