-- What is answered for a job and rates: the number, and what the lent list of lines holds after it.
use Rattle.std.specs.Prelude.{cond, not, ◌||◌, Result, Ok, Err, List, ◌≡◌, ◌⊎◌, ℕ, ◌+◌, ◌*◌, ◌≤◌, ◌<◌, eqb, ltb, length, get_or}
use Rattle.job.specs.Limits.{longest_delay}
use Rattle.job.specs.Tree.{JobData}
use Rattle.job.specs.Bytes.{job_of}
use Rattle.job.specs.Refusal as job
use Rattle.job.specs.Refusal.{bad_lent, refusal}
use Rattle.job.specs.Steps.{or_else}
use Rattle.pacing.specs.Pace.{no_delay}
use Rattle.radio.specs.Radio.{ServesAt, Least, lines_for}
use Rattle.radio.specs.declared.Refusal.{Refusal}
use Rattle.radio.specs.declared.Refusal.TheVariants.{Job, BadRates}

-- the most rates, the refusal of more or of none, and how many numbers a line has
abbrev pub most_rates : ℕ
most_rates = 8

abbrev pub bad_rates : ℕ
bad_rates = 16

abbrev pub line_length : ℕ
line_length = 3

-- document 02's number of each refusal
abbrev pub number : Refusal → ℕ
number (Job e) = job.number e
number BadRates = bad_rates

-- and of each answer: 0 where none is refused
abbrev pub number_of : Result (Unit {0}) Refusal → ℕ
number_of (Err e) = number e
number_of (Ok done) = 0

-- the first of 16 and 11 that applies to this many rates and a list of this length; 0 where neither does
unfoldable pub lent_refusal : ℕ → ℕ → ℕ
lent_refusal rates lent =
    cond (eqb rates 0 || ltb most_rates rates) bad_rates (cond (not (eqb lent (rates * line_length))) bad_lent 0)

-- What the three numbers of the line of the rate R say: 0, and a delay up to the longest and a memory that are the least; or 13, 0, 0, and
-- no delay up to the longest serves with any memory.
abbrev pub LineSays : JobData → ℕ → ℕ → ℕ → ℕ → Type 0
LineSays j R number d b =
    ((number ≡ 0) × ((d ≤ longest_delay) × Least j R d b))
    ⊎ ((number ≡ no_delay) × ((d ≡ 0) × ((b ≡ 0) × ((d' b' : ℕ) → d' ≤ longest_delay → ServesAt j R d' b' → ⊥))))

-- What is answered for bytes s and rates: r, and the list after it. r's number is the first refusal that applies, of 1 to 10, 16 and 11
-- in turn, and the list is as before; or 0, the list has the lines as defined, in the order of the rates, and each says what it should.
pub record Answers (s rates lines₀ : List ℕ) (r : Result (Unit {0}) Refusal) (lines₁ : List ℕ) : Type 0 where
  pub number_is : number_of r ≡ or_else (refusal s) (lent_refusal (length rates) (length lines₀))
  pub lines : lines₁ ≡ cond (eqb (number_of r) 0) (lines_for (job_of s) rates) lines₀
  pub each : number_of r ≡ 0 → (i : ℕ) → i < length rates
      → let at = i * line_length in
      LineSays (job_of s) (get_or rates i 0) (get_or lines₁ at 0) (get_or lines₁ (at + 1) 0) (get_or lines₁ (at + 2) 0)
