-- The numbers of an answer, as C has them, and a running tree as lent numbers.
use Rattle.std.specs.Prelude.{cond, List, Option, Some, None, Result, Ok, Err, ◌≡◌, ℕ, zero, suc, ◌+◌, eqb, length, get_or}
use Rattle.base.specs.Table.{tab}
use Rattle.job.specs.Limits.{most_nodes}
use Rattle.job.specs.Bytes.{job_of}
use Rattle.job.specs.Read.{sizes_of}
use Rattle.job.specs.Refusal.{bad_lent, number, refusal}
use Rattle.job.specs.Steps.{or_else}
use Rattle.job.specs.declared.Limits.{Limits}
use Rattle.job.specs.declared.Refusal.{Refusal}
use Rattle.job.specs.declared.Sizes.{Sizes}
use Rattle.planner.specs.Answer as planner
use Rattle.planner.specs.declared.Planned.{Planned}
use Rattle.planner.specs.declared.Refusal as plan
use Rattle.planner.specs.declared.Place.{Place}
use Rattle.rates.specs.Answer as rates
use Rattle.rates.specs.declared.Sizing.{Sizing}
use Rattle.rates.specs.declared.Refusal as sizes
use Rattle.radio.specs.Answer.{most_rates, line_length}
use Rattle.store.specs.Store.{most_children}
use Rattle.running.specs.Running as running
use Rattle.running.specs.Running.{Outcome, Stepped}
use Rattle.running.specs.declared.Running.{Running}
use Rattle.relay_c.specs.declared.LibraryLimits.{LibraryLimits}
use Rattle.relay_c.specs.declared.JobSizes.{JobSizes}
use Rattle.relay_c.specs.declared.MemoryAnswer.{MemoryAnswer}
use Rattle.relay_c.specs.declared.Row.{Row}
use Rattle.relay_c.specs.declared.RateAnswer.{RateAnswer}
use Rattle.relay_c.specs.declared.StepAnswer.{StepAnswer}

-- the version of the library, 1.7.0, as one number
abbrev pub version : ℕ
version = 1007000

-- how many numbers a running tree is: its slot number, and a place for each node
abbrev pub state_length : ℕ
state_length = most_nodes + 1

-- every bound, and the lengths of a running tree and of a line
abbrev pub limit_numbers : Limits → LibraryLimits
limit_numbers x =
    record {
      fewest_nodes = x.fewest_nodes;
      most_nodes = x.most_nodes;
      fewest_frames = x.fewest_frames;
      most_frames = x.most_frames;
      longest_delay = x.longest_delay;
      greatest_memory = x.greatest_memory;
      greatest_rate = x.greatest_rate;
      greatest_frame = x.greatest_frame;
      tree_length = state_length;
      most_rates = most_rates;
      line_length = line_length;
      most_children = most_children;
    }

-- document 01's number where a job's refusals alone refuse; 0 where none does
abbrev pub number_of : {A : Type 0} → Result A Refusal → ℕ
number_of (Ok x) = 0
number_of (Err e) = number e

-- a job's sizes, or the refusal and zeros
abbrev pub size_numbers : Result Sizes Refusal → JobSizes
size_numbers (Ok x) =
    record { number = 0; nodes = x.nodes; frames = x.frames; last_slot = x.last_slot; plan_length = x.plan_length }
size_numbers (Err e) = record { number = number e; nodes = 0; frames = 0; last_slot = 0; plan_length = 0 }

-- those of the job that any bytes say: n, M, H and the plan's length; or the refusal, and each is 0
abbrev pub job_sizes : List ℕ → JobSizes
job_sizes s =
    let x = sizes_of (job_of s) in
    cond (eqb (refusal s) 0)
    (record { number = 0; nodes = x.nodes; frames = x.frames; last_slot = x.last_slot; plan_length = x.plan_length })
    (record { number = refusal s; nodes = 0; frames = 0; last_slot = 0; plan_length = 0 })

abbrev pub memory_numbers : Result Planned plan.Refusal → MemoryAnswer
memory_numbers a = record { number = planner.number_of a; last_slot = planner.last_of a; total = planner.total_of a }

-- where a row lies, or 0 twice
abbrev pub row_numbers : Option Place → Row
row_numbers (Some p) = record { start = p.start; slots = p.slots }
row_numbers None = record { start = 0; slots = 0 }

abbrev pub rate_numbers : Result Sizing sizes.Refusal → RateAnswer
rate_numbers a = record { number = rates.number_of a; delay = rates.delay_of a; total = rates.total_of a }

abbrev pub step_numbers : Outcome → StepAnswer
step_numbers o = record { number = running.number_of o; link = running.link_of o }

-- ---- a running tree as numbers: the slot number, and what each of the 64 places carries

abbrev pub tree_from : List ℕ → Running
tree_from l = record { slot = get_or l 0 0; carried = tab (λ v. get_or l (suc v) 0) most_nodes }

unfoldable pub number_at : Running → ℕ → ℕ
number_at x zero = x.slot
number_at x (suc v) = get_or x.carried v 0

-- A step with a running tree of lent numbers. Lent 65, it is a step from the tree that they say, by the numbers of its outcome, and they
-- are those of the next tree. Lent another length, it is refused by the first of 1 to 10, else 11, and nothing lent changes.
pub record StepSays (a : StepAnswer) (s plan tree₀ tree₁ sent₀ sent₁ held₀ held₁ : List ℕ) : Type 0 where
  pub steps : length tree₀ ≡ state_length
      → (o : Outcome) × (next : Running) × (Stepped o s plan (tree_from tree₀) next sent₀ sent₁ held₀ held₁)
      × (tree₁ ≡ tab (number_at next) state_length) × (a ≡ step_numbers o)
  pub refused : (length tree₀ ≡ state_length → ⊥)
      → (a ≡ record { number = or_else (refusal s) bad_lent; link = 0 }) × (tree₁ ≡ tree₀) × (sent₁ ≡ sent₀) × (held₁ ≡ held₀)
