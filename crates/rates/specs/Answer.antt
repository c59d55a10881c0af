-- What the rate question gives: the answer's numbers, and what it says in each case.
use Rattle.std.specs.Prelude.{true, cond, Result, Ok, Err, List, ◌≡◌, ◌⊎◌, ℕ, suc, ◌-◌, ◌≤◌, ◌<◌, eqb, length, get_or}
use Rattle.base.specs.Table.{tab}
use Rattle.job.specs.Limits.{longest_delay}
use Rattle.job.specs.Tree.{link, T, plan_length}
use Rattle.job.specs.Bytes.{job_of}
use Rattle.job.specs.Refusal as job
use Rattle.job.specs.Refusal.{bad_lent, refusal}
use Rattle.planner.specs.Answer as planner
use Rattle.planner.specs.Answer.{Answers}
use Rattle.planner.specs.declared.Planned.{Planned}
use Rattle.planner.specs.declared.Refusal as declared
use Rattle.pacing.specs.Pace.{no_delay}
use Rattle.writing.specs.PutBack.{put_back, memories_in}
use Rattle.rates.specs.Rates.{Serves, total, start_delay, memory}
use Rattle.rates.specs.declared.Sizing.{Sizing}
use Rattle.rates.specs.declared.Refusal.{Refusal}
use Rattle.rates.specs.declared.Refusal.TheVariants.{Job, NoDelay}

-- document 01's number of each refusal
abbrev pub number : Refusal → ℕ
number (Job e) = job.number e
number NoDelay = no_delay

-- document 01's number, w and total of each answer: on a refusal the other results are 0
abbrev pub number_of : Result Sizing Refusal → ℕ
number_of (Err e) = number e
number_of (Ok sizing) = 0

abbrev pub delay_of : Result Sizing Refusal → ℕ
delay_of (Err e) = 0
delay_of (Ok sizing) = sizing.delay

abbrev pub total_of : Result Sizing Refusal → ℕ
total_of (Err e) = 0
total_of (Ok sizing) = sizing.total

-- the first of refusals 1 to 11 that applies, with this many memories lent; 0 where none does
unfoldable pub early_refusal : List ℕ → ℕ → ℕ
early_refusal s lent = cond (eqb (refusal s) 0) (cond (eqb lent ((job_of s).tree.n - 1)) 0 bad_lent) (refusal s)

-- demand 3 of the delay w and the memories b for the job s, and the choice of b: w serves with b; it is the least delay that serves with any
-- memories; of all memories with which w serves none have a lower total; of those with the same total b has the least at node 1, then at
-- node 2, and so on, so that any that are the same at all nodes before i have no less at i; and put back, the memory question, lent outputs
-- of the right length, answers 0 and no peak passes its link's rate
pub record Least (s : List ℕ) (w : ℕ) (b : ℕ → ℕ) : Type 0 where
  pub serves : Serves (job_of s) w b
  pub least-delay : (w' : ℕ) (b' : ℕ → ℕ) → Serves (job_of s) w' b' → w ≤ w'
  pub least_total : (b' : ℕ → ℕ) → Serves (job_of s) w b' → total (job_of s).tree b ≤ total (job_of s).tree b'
  pub least_in_order : (b' : ℕ → ℕ) → Serves (job_of s) w b' → total (job_of s).tree b' ≡ total (job_of s).tree b
      → (i : ℕ) → link (job_of s).tree.n i ≡ true → ((k : ℕ) → link (job_of s).tree.n k ≡ true → k < i → b' k ≡ b k) → b i ≤ b' i
  pub put-back : (answer : Result Planned declared.Refusal) (plan₀ plan₁ peaks₀ peaks₁ : List ℕ)
      → length plan₀ ≡ plan_length (job_of (put_back s w b)) → length peaks₀ ≡ (job_of s).tree.n - 1
      → Answers answer (put_back s w b) plan₀ plan₁ peaks₀ peaks₁
      → (planner.number_of answer ≡ 0) × ((i : ℕ) → link (job_of s).tree.n i ≡ true → get_or peaks₁ (i - 1) 0 ≤ (job_of s).tree.rate i)

-- The rate question's answer to bytes s, with the lent memories before and after it.
-- Refused: the memories are as before; the number is the first of 1 to 11 that applies, or none of these does, it is 13 and no delay up to
-- the longest serves with any memories.
-- Else none of 1 to 11 applies; w and the memories as defined, the total of these memories, w no longer than the longest; and demand 3.
unfoldable pub Sizes : Result Sizing Refusal → List ℕ → List ℕ → List ℕ → Type 0
Sizes (Err e) s memories₀ memories₁ =
    let early = early_refusal s (length memories₀) in
    (memories₁ ≡ memories₀)
    × (((number e ≡ early) × (early ≡ 0 → ⊥))
    ⊎ ((early ≡ 0) × ((number e ≡ no_delay) × ((w : ℕ) (b : ℕ → ℕ) → w ≤ longest_delay → Serves (job_of s) w b → ⊥))))
Sizes (Ok sizing) s memories₀ memories₁ =
    let j = job_of s in
    (early_refusal s (length memories₀) ≡ 0)
    × ((sizing.delay ≤ longest_delay)
    × ((sizing.delay ≡ start_delay j.tree j.M (T j))
    × ((memories₁ ≡ tab (λ i. memory j.tree j.M (T j) sizing.delay (suc i)) (j.tree.n - 1))
    × ((sizing.total ≡ total j.tree (memories_in memories₁)) × Least s sizing.delay (memories_in memories₁)))))
