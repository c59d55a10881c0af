-- What the planner's functions give: the answer's numbers, the plan's rows in one list, and what the memory question says in each case.
use Rattle.std.specs.Prelude.{cond, ◌&&◌, List, [], Option, Some, None, Result, Ok, Err, ◌≡◌, ◌⊎◌, ℕ, suc, ◌+◌, ◌-◌, ◌*◌, eqb, length}
use Rattle.std.specs.Prelude.{take, drop}
use Rattle.base.specs.Table.{tab, rows_of}
use Rattle.job.specs.Tree.{JobData, link, T, H, plan_length}
use Rattle.job.specs.Bytes.{job_of}
use Rattle.job.specs.Refusal as job
use Rattle.job.specs.Refusal.{refusal, bad_lent}
use Rattle.smoothing.specs.Row.{peak}
use Rattle.smoothing.specs.Lists.{rows_in}
use Rattle.smoothing.specs.Plan.{plan}
use Rattle.curves.specs.Curves.{problem}
use Rattle.planner.specs.Rules.{Keeps, Best}
use Rattle.planner.specs.declared.Planned.{Planned}
use Rattle.planner.specs.declared.Refusal.{Refusal}
use Rattle.planner.specs.declared.Refusal.TheVariants.{Job, NoPlan}
use Rattle.planner.specs.declared.Place.{Place}

-- the number of the refusal where no plan keeps the rules
abbrev pub no_plan : ℕ
no_plan = 12

-- document 01's number of each refusal
abbrev pub number : Refusal → ℕ
number (Job e) = job.number e
number NoPlan = no_plan

-- document 01's number, H and T(M) of each answer: on a refusal the other results are 0
abbrev pub number_of : Result Planned Refusal → ℕ
number_of (Err e) = number e
number_of (Ok planned) = 0

abbrev pub last_of : Result Planned Refusal → ℕ
last_of (Err e) = 0
last_of (Ok planned) = planned.last_slot

abbrev pub total_of : Result Planned Refusal → ℕ
total_of (Err e) = 0
total_of (Ok planned) = planned.total

-- where the row of link i lies in a plan of so many numbers: where it starts, and its slots 0 to H; nowhere where a check before 11 refuses
-- the job, no such link exists or the plan's length is wrong
unfoldable pub row_place : List ℕ → ℕ → ℕ → Option Place
row_place s planned i =
    let j = job_of s in
    cond (eqb (refusal s) 0 && (link j.tree.n i && eqb planned (plan_length j)))
    (Some (record { start = (i - 1) * (H j + 1); slots = H j + 1 }))
    None

-- the part of a plan at a place, empty where there is none
abbrev pub part_at : Option Place → List ℕ → List ℕ
part_at None plan = []
part_at (Some p) plan = take p.slots (drop p.start plan)

-- the row of link i as that part of the plan, empty where it has no place
unfoldable pub row_of : List ℕ → List ℕ → ℕ → List ℕ
row_of s plan i = part_at (row_place s (length plan) i) plan

-- the first of refusals 1 to 11 that applies, with outputs of these lengths; 0 where none does
unfoldable pub early_refusal : List ℕ → ℕ → ℕ → ℕ
early_refusal s planned peaks =
    let j = job_of s in
    cond (eqb (refusal s) 0)
    (cond (eqb planned (plan_length j) && eqb peaks (j.tree.n - 1)) 0 bad_lent)
    (refusal s)

-- the plan that a list of rows holds: link 1's row first
abbrev pub plan_in : JobData → List ℕ → ℕ → ℕ → ℕ
plan_in j l i k = rows_in (H j + 1) l i k

-- the rows that document 01's curves define: the lazy schedules of the lower curves at the least peaks, closed at every slot
abbrev pub rows_defined : JobData → List ℕ
rows_defined j = rows_of (λ i. tab (plan (problem j.tree (T j) (T j j.M) (H j)) (suc i)) (H j + 1)) (j.tree.n - 1)

-- What the memory question gives for bytes s, with plan and peaks before and after it.
-- Refused: plan and peaks are as before; the number is the first of 1 to 11 that applies, or none of these does, it is 12 and no plan keeps
-- the rules.
-- Planned: none of 1 to 11 applies; H and T(M); the rows that the curves define; that plan is the best; the peaks given are those of its rows.
unfoldable pub Answers : Result Planned Refusal → List ℕ → List ℕ → List ℕ → List ℕ → List ℕ → Type 0
Answers (Err e) s plan₀ plan₁ peaks₀ peaks₁ =
    let early = early_refusal s (length plan₀) (length peaks₀) in
    (plan₁ ≡ plan₀)
    × ((peaks₁ ≡ peaks₀)
    × (((number e ≡ early) × (early ≡ 0 → ⊥))
    ⊎ ((early ≡ 0) × ((number e ≡ no_plan) × ((S : ℕ → ℕ → ℕ) → Keeps (job_of s) S → ⊥)))))
Answers (Ok planned) s plan₀ plan₁ peaks₀ peaks₁ =
    let j = job_of s in
    (early_refusal s (length plan₀) (length peaks₀) ≡ 0)
    × ((planned.last_slot ≡ H j)
    × ((planned.total ≡ T j j.M)
    × ((plan₁ ≡ rows_defined j)
    × (Best j (plan_in j plan₁) × (peaks₁ ≡ tab (λ i. peak (H j) (plan_in j plan₁ (suc i))) (j.tree.n - 1))))))
