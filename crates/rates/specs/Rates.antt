-- Document 01, 'Rate question' and the words of demand 3, with the choice of memories of document 02, L4: floor rate, w, need, memories, and
-- a delay that serves with a set of memories.
-- A set of memories gives each node 1 to n-1 any whole number.
use Rattle.std.specs.Prelude.{Bool, true, ◌||◌, ◌≡◌, ℕ, ◌+◌, ◌-◌, ◌≤◌, eqb}
use Rattle.base.specs.Range.{sum_over, least_over}
use Rattle.job.specs.Tree.{Tree, JobData, link, below, H}
use Rattle.smoothing.specs.Row.{peak, greatest_excess}
use Rattle.smoothing.specs.Choice.{chosen}
use Rattle.curves.specs.Curves.{lazy_schedule}
use Rattle.planner.specs.Rules.{Keeps}
use Rattle.pacing.specs.Pace.{delay_at}
use Rattle.writing.specs.PutBack.{answered_job}

-- ---- what a delay and memories are worth

-- a delay w serves with the memories b: some plan keeps P1 to P3 with w as every leaf's delay and those memories, and no link's peak in
-- it passes that link's rate
abbrev pub Serves : JobData → ℕ → (ℕ → ℕ) → Type 0
Serves j w b =
    let answered = answered_job j w b in
    (S : ℕ → ℕ → ℕ) × (Keeps answered S × ((i : ℕ) → link j.tree.n i ≡ true → peak (H answered) (S i) ≤ j.tree.rate i))

-- the total of a set of memories
unfoldable pub total : Tree → (ℕ → ℕ) → ℕ
total t b = sum_over (link t.n) b t.n

-- ---- the delay and the memories answered

-- node x is node i or below it
abbrev pub at_or_below : Tree → ℕ → ℕ → Bool
at_or_below t i x = eqb x i || below t x i

-- the floor rate of a node: the least rate among its own link and those below it
unfoldable pub floor_rate : Tree → ℕ → ℕ
floor_rate t i = least_over (at_or_below t i) t.rate t.n

-- the least rate of all
unfoldable pub least_rate : Tree → ℕ
least_rate t = least_over (link t.n) t.rate t.n

-- of a film of M frames: T m is T(m)
module _ (t : Tree) (M : ℕ) (T : ℕ → ℕ) where
  -- w: the least delay that is in time at the least rate of all; one more than the longest delay where none up to that is
  unfoldable pub start_delay : ℕ
  start_delay = delay_at (least_rate t) M T

  -- all leaves share the delay w, so one D is that of every node
  abbrev pub D : ℕ → ℕ → ℕ
  D w k = T (k - w)

  -- a node's need: the greatest excess, over slots 0 to M + w, of the lazy schedule at its floor rate over D
  unfoldable pub need : ℕ → ℕ → ℕ
  need w i = greatest_excess (M + w) (lazy_schedule (D w) (T M) (M + w) (floor_rate t i)) (D w)

  -- the memories: of all sets with which w serves and that have the least total, the one with the least memory at node 1, then at node 2,
  -- and so on by number; as smoothing/specs/Choice has it, from the needs and node by node
  abbrev pub memory : ℕ → ℕ → ℕ
  memory w = chosen t.n t.parent (need w)
