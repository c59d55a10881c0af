-- What the step's inner functions test and compute, as truth values and numbers.
use Rattle.std.specs.Prelude.{Bool, true, false, cond, not, ◌&&◌, ◌||◌, List, Option, Some, None, Result, Ok, Err, ◌≡◌, ℕ, suc, ◌+◌, ◌-◌}
use Rattle.std.specs.Prelude.{◌*◌, ◌<◌, eqb, ltb, length}
use Rattle.base.specs.Range.{greatest_over}
use Rattle.base.specs.Table.{tab}
use Rattle.job.specs.Limits.{most_nodes}
use Rattle.job.specs.Tree.{Tree, child, leaf, link}
use Rattle.job.specs.Read.{tree_in}
use Rattle.job.specs.declared.Job.{Job}
use Rattle.smoothing.specs.Lists.{family_in, rows_in}
use Rattle.job.specs.Sums.{sums_in, last_in}
use Rattle.planner.specs.Work.{width_of}
use Rattle.running.specs.Running.{Stepped}
use Rattle.running.specs.declared.Running.{Running}
use Rattle.running.specs.declared.Progress.TheVariants.{Taken, Done}
use Rattle.running.specs.declared.Refusal.{Refusal}
use Rattle.running.specs.declared.Refusal.TheVariants.{Job as OfJob, BrokenRule}

-- x is below `least`, or above that and `room`
abbrev pub outside : ℕ → ℕ → ℕ → Bool
outside x least room = ltb x least || ltb (least + room) x

-- P1 is broken on the link into node i
abbrev pub breaks_p1 : ℕ → (ℕ → ℕ) → (ℕ → ℕ) → ℕ → Bool
breaks_p1 top before now i = ltb (now i) (before i) || ltb top (now i)

-- P2 is broken at node i, a leaf
abbrev pub breaks_p2 : Tree → (ℕ → ℕ) → ℕ → (ℕ → ℕ) → ℕ → Bool
breaks_p2 t T k now i = leaf t i && outside (now i) (T (k - t.delay i)) (t.memory i)

-- P3 is broken between node i and its parent
abbrev pub breaks_p3 : Tree → (ℕ → ℕ) → ℕ → Bool
breaks_p3 t now i = not (eqb (t.parent i) 0) && outside (now (t.parent i)) (now i) (t.memory (t.parent i))

-- one of them is
unfoldable pub breaks : Tree → (ℕ → ℕ) → ℕ → ℕ → (ℕ → ℕ) → (ℕ → ℕ) → ℕ → Bool
breaks t T top k before now i = breaks_p1 top before now i || (breaks_p2 t T k now i || breaks_p3 t now i)

-- the held bytes of node i: at an inner node by how much it is ahead of the child that is furthest behind
unfoldable pub held : Tree → (ℕ → ℕ) → ℕ → (ℕ → ℕ) → ℕ → ℕ
held t T k now i = cond (leaf t i) (now i - T (k - t.delay i)) (greatest_over (λ c. child t c i) (λ c. now i - now c) t.n)

-- both of a job's struct, its sums and a column as lists
abbrev pub breaks_at : Job → List ℕ → ℕ → List ℕ → List ℕ → ℕ → Bool
breaks_at job sums k carried column i = breaks (tree_in job) (sums_in sums) (last_in sums) k (family_in carried) (family_in column) i

-- no link breaks a rule, or this one does
abbrev pub Breach : Option ℕ → Job → List ℕ → ℕ → List ℕ → List ℕ → Type 0
Breach None job sums k carried column = (i : ℕ) → (0 < i) × (i < job.nodes) → breaks_at job sums k carried column i ≡ false
Breach (Some i) job sums k carried column = ((0 < i) × (i < job.nodes)) × (breaks_at job sums k carried column i ≡ true)

abbrev pub held_row : Job → List ℕ → ℕ → List ℕ → List ℕ
held_row job sums k column = tab (λ i. held (tree_in job) (sums_in sums) k (family_in column) (suc i)) (job.nodes - 1)

-- each link's bytes from one column to the next
abbrev pub sent_row : Job → List ℕ → List ℕ → List ℕ
sent_row job carried column = tab (λ i. family_in column (suc i) - family_in carried (suc i)) (job.nodes - 1)

-- a family with the numbers of a column at the links of n nodes
unfoldable pub after : ℕ → (ℕ → ℕ) → (ℕ → ℕ) → ℕ → ℕ
after n now before v = cond (link n v) (now v) (before v)

-- the carried bytes after the column past the slot of x
abbrev pub taken : Job → List ℕ → Running → List ℕ
taken job plan x = tab (after job.nodes (λ v. rows_in (width_of job) plan v (suc x.slot)) (family_in x.carried)) most_nodes

-- the two lent rows have a number for each link
pub record Rows (job : Job) (sent held : List ℕ) : Type 0 where
  pub sent_long : length sent ≡ job.nodes - 1
  pub held_long : length held ≡ job.nodes - 1

-- what is lent to a step from this slot, where slots are left
pub record Lent (job : Job) (slot : ℕ) (plan sent held : List ℕ) : Type 0 where
  pub slots_left : slot + 1 < width_of job
  pub plan_long : length plan ≡ (job.nodes - 1) * width_of job
  pub rows : Rows job sent held

-- What the work on a job with slots left gives, from its struct and its sums: no link breaks a rule and the column is taken, or this one
-- does and nothing changes.
unfoldable pub Advanced : Result Running Refusal → Job → List ℕ → List ℕ → Running → List ℕ → List ℕ → List ℕ → List ℕ → Type 0
Advanced (Ok y) job sums plan x sent₀ sent₁ held₀ held₁ =
    let k = suc x.slot in
    let column = taken job plan x in
    ((i : ℕ) → (0 < i) × (i < job.nodes) → breaks_at job sums k x.carried column i ≡ false)
    × ((y ≡ record { slot = k; carried = column })
    × ((sent₁ ≡ sent_row job x.carried column) × (held₁ ≡ held_row job sums k column)))
Advanced (Err (OfJob e)) job sums plan x sent₀ sent₁ held₀ held₁ = ⊥
Advanced (Err (BrokenRule l)) job sums plan x sent₀ sent₁ held₀ held₁ =
    (sent₁ ≡ sent₀)
    × ((held₁ ≡ held₀)
    × (((0 < l) × (l < job.nodes)) × (breaks_at job sums (suc x.slot) x.carried (taken job plan x) l ≡ true)))

-- the running tree after the next slot, none where no slot is left, or the refusal of the step: each as the step says it
abbrev pub Next : Result (Option Running) Refusal → List ℕ → List ℕ → Running → List ℕ → List ℕ → List ℕ → List ℕ → Type 0
Next (Ok (Some y)) s plan x sent₀ sent₁ held₀ held₁ = Stepped (Ok Taken) s plan x y sent₀ sent₁ held₀ held₁
Next (Ok None) s plan x sent₀ sent₁ held₀ held₁ = Stepped (Ok Done) s plan x x sent₀ sent₁ held₀ held₁
Next (Err e) s plan x sent₀ sent₁ held₀ held₁ = Stepped (Err e) s plan x x sent₀ sent₁ held₀ held₁
