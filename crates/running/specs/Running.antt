-- Document 01, 'The running tree': a value that each slot hands on, and what a step of it gives.
use Rattle.std.specs.Prelude.{true, cond, ◌&&◌, List, Result, Ok, Err, ◌⊎◌, ◌≡◌, ℕ, suc, ◌-◌, ◌≤◌, ◌<◌, eqb, length, get_or}
use Rattle.base.specs.Range.{least_over}
use Rattle.base.specs.Table.{tab}
use Rattle.job.specs.Limits.{most_nodes}
use Rattle.job.specs.Tree.{JobData, link, child, leaf, T, H, plan_length}
use Rattle.job.specs.Bytes.{job_of}
use Rattle.job.specs.Refusal as job
use Rattle.job.specs.Refusal.{bad_lent, refusal}
use Rattle.curves.specs.Curves.{D}
use Rattle.planner.specs.Rules.{P1, P2, P3, ColumnKeeps}
use Rattle.planner.specs.Answer.{plan_in}
use Rattle.running.specs.declared.Running.{Running}
use Rattle.running.specs.declared.Progress.{Progress}
use Rattle.running.specs.declared.Progress.TheVariants.{Taken, Done}
use Rattle.running.specs.declared.Refusal.{Refusal}
use Rattle.running.specs.declared.Refusal.TheVariants.{Job, BrokenRule}

-- ---- the numbers of an outcome

-- the column breaks a rule
abbrev pub broken_rule : ℕ
broken_rule = 14

-- document 01 gives done no number, so this one stands for it
abbrev pub done : ℕ
done = 100

abbrev pub progress_number : Progress → ℕ
progress_number Taken = 0
progress_number Done = done

-- document 01's number of each refusal
abbrev pub number : Refusal → ℕ
number (Job e) = job.number e
number (BrokenRule l) = broken_rule

-- the link that 14 names; 0 elsewhere
abbrev pub link_named : Refusal → ℕ
link_named (Job e) = 0
link_named (BrokenRule l) = l

-- what becomes of a step
abbrev pub Outcome : Type 0
Outcome = Result Progress Refusal

-- document 01's number of each outcome, and its link
abbrev pub number_of : Outcome → ℕ
number_of (Ok progress) = progress_number progress
number_of (Err e) = number e

abbrev pub link_of : Outcome → ℕ
link_of (Ok progress) = 0
link_of (Err e) = link_named e

-- ---- one slot

-- what each node has been sent, as a running tree carries it
abbrev pub carried_in : Running → ℕ → ℕ
carried_in x v = get_or x.carried v 0

-- column k of a plan
abbrev pub column : JobData → List ℕ → ℕ → ℕ → ℕ
column j plan k v = plan_in j plan v k

-- held bytes of node i at slot k: S - D at a leaf, S less the least child's S at an inner node
unfoldable pub held_at : JobData → ℕ → (ℕ → ℕ) → ℕ → ℕ
held_at j k now i =
    cond (leaf j.tree i) (now i - D j.tree (T j) i k) (now i - least_over (λ c. child j.tree c i) now j.tree.n)

-- the column of slot k breaks a rule on the link into node i: P1; P2 where i is a leaf; P3 with a child of i, or with its parent
abbrev pub Breaks : JobData → ℕ → (ℕ → ℕ) → (ℕ → ℕ) → ℕ → Type 0
Breaks j k before now i =
    (link j.tree.n i ≡ true)
    × ((P1 j before now i → ⊥)
    ⊎ (((leaf j.tree i ≡ true) × (P2 j k now i → ⊥))
    ⊎ (((c : ℕ) × (child j.tree c i ≡ true) × (P3 j now i c → ⊥)) ⊎ ((u : ℕ) × (0 < u) × (child j.tree i u ≡ true) × (P3 j now u i → ⊥)))))

-- ---- a step

-- the first of refusals 1 to 11 that applies, with a plan and rows of these lengths; 0 where none does
unfoldable pub step_refusal : List ℕ → ℕ → ℕ → ℕ → ℕ
step_refusal s planned sent held =
    let j = job_of s in
    cond (eqb (refusal s) 0)
    (cond (eqb planned (plan_length j) && (eqb sent (j.tree.n - 1) && eqb held (j.tree.n - 1))) 0 bad_lent)
    (refusal s)

-- the carried bytes after a column: places without a link keep theirs
unfoldable pub carried_after : JobData → (ℕ → ℕ) → List ℕ → List ℕ
carried_after j now l = tab (λ v. cond (link j.tree.n v) (now v) (get_or l v 0)) most_nodes

-- A step with bytes s and a plan, from the running tree x to y, with the rows of sent and of held bytes before and after.
-- Taken: none of 1 to 11 applies, slots are left, the next column keeps the rules after what is carried; y has the next slot and that
-- column; the rows have each link's bytes in that slot, and each node's held bytes.
-- Done: none of 1 to 11 applies, no slot is left, and nothing changes.
-- Refused: nothing changes; the first of 1 to 11 and no link, or 14 with a link on which the next column breaks a rule.
unfoldable pub Stepped : Outcome → List ℕ → List ℕ → Running → Running → List ℕ → List ℕ → List ℕ → List ℕ → Type 0
Stepped (Ok Taken) s plan x y sent₀ sent₁ held₀ held₁ =
    let j = job_of s in
    let k = suc x.slot in
    let now = column j plan k in
    (step_refusal s (length plan) (length sent₀) (length held₀) ≡ 0)
    × ((x.slot < H j)
    × (ColumnKeeps j k (carried_in x) now
    × ((y ≡ record { slot = k; carried = carried_after j now x.carried })
    × ((sent₁ ≡ tab (λ i. now (suc i) - carried_in x (suc i)) (j.tree.n - 1)) × (held₁ ≡ tab (λ i. held_at j k now (suc i)) (j.tree.n - 1))))))
Stepped (Ok Done) s plan x y sent₀ sent₁ held₀ held₁ =
    (step_refusal s (length plan) (length sent₀) (length held₀) ≡ 0)
    × ((H (job_of s) ≤ x.slot) × ((y ≡ x) × ((sent₁ ≡ sent₀) × (held₁ ≡ held₀))))
Stepped (Err e) s plan x y sent₀ sent₁ held₀ held₁ =
    let j = job_of s in
    let early = step_refusal s (length plan) (length sent₀) (length held₀) in
    (y ≡ x)
    × ((sent₁ ≡ sent₀)
    × ((held₁ ≡ held₀)
    × (((number e ≡ early) × ((early ≡ 0 → ⊥) × (link_named e ≡ 0)))
    ⊎ ((early ≡ 0)
    × ((x.slot < H j)
    × ((number e ≡ broken_rule) × Breaks j (suc x.slot) (carried_in x) (column j plan (suc x.slot)) (link_named e)))))))

-- ---- runs

-- the first running tree: slot 0, and nothing carried
abbrev pub start : Running
start = record { slot = 0; carried = tab (λ v. 0) most_nodes }

-- m steps in a row from the first running tree, with bytes s and a plan: the running tree, what became of the step, and the rows of
-- sent and of held bytes, before each step and after the last
pub record Run (s plan : List ℕ) (m : ℕ) (state : ℕ → Running) (outcome : ℕ → Outcome) (sent held : ℕ → List ℕ) : Type 0 where
  pub starts : state 0 ≡ start
  pub steps : (k : ℕ) → k < m → Stepped (outcome k) s plan (state k) (state (suc k)) (sent k) (sent (suc k)) (held k) (held (suc k))

-- a run of H + 1 steps goes to the end of the plan: H steps are taken, and the next says done; it then carries the plan's last column, and at
-- each step every node holds no more than its memory
pub record RunsToItsEnd (s plan : List ℕ) (state : ℕ → Running) (outcome : ℕ → Outcome) (held : ℕ → List ℕ) : Type 0 where
  pub taken : (k : ℕ) → k < H (job_of s) → outcome k ≡ Ok Taken
  pub done : outcome (H (job_of s)) ≡ Ok Done
  pub last_column : (v : ℕ) → link (job_of s).tree.n v ≡ true → carried_in (state (H (job_of s))) v ≡ plan_in (job_of s) plan v (H (job_of s))
  pub held_within : (k i : ℕ) → k < H (job_of s) → suc i < (job_of s).tree.n → get_or (held (suc k)) i 0 ≤ (job_of s).tree.memory (suc i)
