-- What the memory question's inner functions are handed and give, in terms of the curves and of the theory's plan.
use Rattle.std.specs.Prelude.{true, List, Result, Ok, Err, ◌≡◌, ℕ, suc, ◌+◌, ◌-◌, ◌*◌, ◌≤◌, ◌<◌, length}
use Rattle.base.specs.Table.{tab, rows_of}
use Rattle.job.specs.Limits.{most_slots}
use Rattle.job.specs.Tree.{Tree, leaf, greatest_delay}
use Rattle.job.specs.Read.{tree_in}
use Rattle.job.specs.declared.Job.{Job}
use Rattle.smoothing.specs.Row.{lazy}
use Rattle.smoothing.specs.Plan.{Problem, lower, link_peak, plan}
use Rattle.curves.specs.Curves.{lower_curve, upper_curve, problem}
use Rattle.job.specs.Sums.{sums_in, last_in}
use Rattle.planner.specs.declared.Planned.{Planned}
use Rattle.planner.specs.declared.Refusal.{Refusal}
use Rattle.planner.specs.declared.Refusal.TheVariants.{NoPlan}

-- two rows of the same width to work in
pub record Ready (lowers kept : List ℕ) : Type 0 where
  pub wide : 0 < length lowers
  pub slots_to : length lowers ≤ most_slots
  pub same : length kept ≡ length lowers

-- a plan and peaks of the lengths that the job asks for, where rows have w slots
pub record OutputsFit (job : Job) (w : ℕ) (plan peaks : List ℕ) : Type 0 where
  pub plan_long : length plan ≡ (job.nodes - 1) * w
  pub peaks_long : length peaks ≡ job.nodes - 1

-- at leaf i lower is nowhere above upper, over slots 0 to w - 1
abbrev pub Fed : Tree → (ℕ → ℕ) → ℕ → ℕ → ℕ → Type 0
Fed t T top w i = (k : ℕ) → k < w → lower_curve t T i k ≤ upper_curve t T top i k

-- some leaf starves: at some slot its lower curve exceeds its upper curve
abbrev pub Starves : Tree → (ℕ → ℕ) → ℕ → ℕ → Type 0
Starves t T top w = (i : ℕ) × (leaf t i ≡ true) × (k : ℕ) × (k < w) × (upper_curve t T top i k < lower_curve t T i k)

-- no leaf does
abbrev pub AllFed : Tree → (ℕ → ℕ) → ℕ → ℕ → Type 0
AllFed t T top w = (i : ℕ) → leaf t i ≡ true → Fed t T top w i

-- the theory's problem of a struct with its sums, over slots 0 to w - 1
abbrev pub problem_in : Job → List ℕ → ℕ → Problem
problem_in job sums w = problem (tree_in job) (sums_in sums) (last_in sums) (w - 1)

-- the lazy row of link i at its least peak
abbrev pub lazy_row_of : Problem → ℕ → ℕ → List ℕ
lazy_row_of P w i = tab (lazy P.H (link_peak P (suc i)) (lower P (suc i))) w

-- the lazy rows of all links, and the rows of the plan, link 1's first
abbrev pub lazy_rows_of : Problem → ℕ → ℕ → List ℕ
lazy_rows_of P w m = rows_of (lazy_row_of P w) m

abbrev pub plan_rows_of : Problem → ℕ → ℕ → List ℕ
plan_rows_of P w m = rows_of (λ i. tab (plan P (suc i)) w) m

-- the least peaks of all links
abbrev pub peaks_of : Problem → ℕ → List ℕ
peaks_of P m = tab (λ i. link_peak P (suc i)) m

-- how many slots a row of this job has: H + 1
abbrev pub width_of : Job → ℕ
width_of job = job.frames + greatest_delay (tree_in job) + 1

-- What the work on an accepted job gives: a starving leaf and nothing changed, or the theory's plan with its peaks.
unfoldable pub Worked : Result Planned Refusal → Job → List ℕ → ℕ → List ℕ → List ℕ → List ℕ → List ℕ → Type 0
Worked (Err e) job sums w plan₀ plan₁ peaks₀ peaks₁ =
    (e ≡ NoPlan) × (Starves (tree_in job) (sums_in sums) (last_in sums) w × ((plan₁ ≡ plan₀) × (peaks₁ ≡ peaks₀)))
Worked (Ok planned) job sums w plan₀ plan₁ peaks₀ peaks₁ =
    (planned.last_slot ≡ w - 1)
    × ((planned.total ≡ last_in sums)
    × (AllFed (tree_in job) (sums_in sums) (last_in sums) w
    × ((plan₁ ≡ plan_rows_of (problem_in job sums w) w (job.nodes - 1)) × (peaks₁ ≡ peaks_of (problem_in job sums w) (job.nodes - 1)))))
