-- What the rate question's inner functions are handed and give.
use Rattle.std.specs.Prelude.{true, cond, Result, Ok, Err, List, ◌≡◌, ℕ, suc, ◌-◌, ◌≤◌, ◌<◌, get_or}
use Rattle.base.specs.Table.{tab}
use Rattle.job.specs.Limits.{most_nodes, longest_delay, greatest_total}
use Rattle.job.specs.Tree.{Tree, link}
use Rattle.job.specs.Read.{tree_in}
use Rattle.job.specs.Sums.{sums_in}
use Rattle.job.specs.declared.Job.{Job}
use Rattle.smoothing.specs.Choice.{handed, ask, chosen}
use Rattle.writing.specs.PutBack.{memories_in}
use Rattle.rates.specs.Rates.{total, floor_rate, least_rate, start_delay, memory}
use Rattle.rates.specs.declared.Sizing.{Sizing}
use Rattle.rates.specs.declared.Refusal.{Refusal}
use Rattle.rates.specs.declared.Refusal.TheVariants.{NoDelay}

-- of n nodes f at the place of each link, elsewhere z
abbrev pub on_links : ℕ → (ℕ → ℕ) → ℕ → List ℕ
on_links n f z = tab (λ i. cond (link n i) (f i) z) most_nodes

-- the floor rate of each node at its place; elsewhere the least rate of all
abbrev pub floors_of : Tree → List ℕ
floors_of t = on_links t.n (floor_rate t) (least_rate t)

-- what is asked of a list of needs: none is more than a film
abbrev pub NeedsWithin : Tree → List ℕ → Type 0
NeedsWithin t needs = (i : ℕ) → link t.n i ≡ true → get_or needs i 0 ≤ greatest_total

-- by a list of needs: what node i hands on of x that it is asked for, what it is asked for, and its memory
abbrev pub handed_by : Tree → List ℕ → ℕ → ℕ → ℕ
handed_by t needs = handed t.n t.parent (λ i. get_or needs i 0)

abbrev pub ask_by : Tree → List ℕ → ℕ → ℕ
ask_by t needs = ask t.n t.parent (λ i. get_or needs i 0)

abbrev pub memory_by : Tree → List ℕ → ℕ → ℕ
memory_by t needs = chosen t.n t.parent (λ i. get_or needs i 0)

-- What the work on a job gives, with the sums of its film: no delay up to the longest and nothing changed, or the delay, the memories and
-- their total.
unfoldable pub Worked : Result Sizing Refusal → Job → List ℕ → List ℕ → List ℕ → Type 0
Worked (Err e) job sums memories₀ memories₁ =
    (e ≡ NoDelay) × ((longest_delay < start_delay (tree_in job) job.frames (sums_in sums)) × (memories₁ ≡ memories₀))
Worked (Ok sizing) job sums memories₀ memories₁ =
    let t = tree_in job in
    (sizing.delay ≤ longest_delay)
    × ((sizing.delay ≡ start_delay t job.frames (sums_in sums))
    × ((memories₁ ≡ tab (λ i. memory t job.frames (sums_in sums) sizing.delay (suc i)) (t.n - 1))
    × (sizing.total ≡ total t (memories_in memories₁))))
