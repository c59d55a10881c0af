-- Memories from rates: one play-out row for all leaves, what it is to serve, floor rates, needs, what covers them, and the memories.
use Rattle.std.specs.Prelude.{◌≡◌, ◌≢◌, cond, ℕ, zero, suc, ◌+◌, ◌-◌, ◌*◌, ◌≤◌, ◌<◌, min}
use Rattle.base.specs.Range.{least_over}
use Rattle.smoothing.specs.Tree.{Tree, Link, leaf, within, total, least_way}
use Rattle.smoothing.specs.Row.{greatest_excess, lazy}
use Rattle.smoothing.specs.Plan.{Problem, KeepsRates}
use Rattle.smoothing.specs.Choice.{chosen}

-- n nodes with their parents and the rates r of their links; T m is what every leaf has played by m slots after its start, up to m = M
pub record RateQuestion : Type 0 where
  pub n : ℕ
  pub parent : ℕ → ℕ
  pub r : ℕ → ℕ
  pub M : ℕ
  pub T : ℕ → ℕ

module _ (Q : RateQuestion) where
  open Q use {n, parent, r, M, T}

  -- the tree with the memories b
  abbrev pub tree_with : (ℕ → ℕ) → Tree
  tree_with b = record { n = n; parent = parent; b = b }

  -- what the theory asks of the question
  pub record WellFormedRates : Type 0 where
    pub ordered : (v : ℕ) → Link n v → parent v < v
    pub starts : T 0 ≡ 0
    pub grows : (m : ℕ) → m < M → T m ≤ T (suc m)

  -- what every leaf plays by slot k where all start w slots late
  abbrev pub D : ℕ → ℕ → ℕ
  D w k = T (k - w)

  -- a leaf has at least D by slot k
  abbrev pub low_with : ℕ → ℕ → ℕ → ℕ
  low_with w v k = cond (leaf n parent v) (D w k) 0

  -- by slot k above 0 a leaf has at most D and its memory, and no node has more than T M; at slot 0 nothing
  abbrev pub high_with : ℕ → (ℕ → ℕ) → ℕ → ℕ → ℕ
  high_with w b v zero = 0
  high_with w b v (suc k) = cond (leaf n parent v) (min (D w (suc k) + b v) (T M)) (T M)

  -- the plan rules with w as every leaf's delay and the memories b; the last slot is M + w
  abbrev pub problem_with : ℕ → (ℕ → ℕ) → Problem
  problem_with w b = record { tree = tree_with b; H = M + w; low = low_with w; high = high_with w b }

  -- the delay w serves with the memories b: some plan keeps the rules and on no link passes the link's rate
  abbrev pub Serves : ℕ → (ℕ → ℕ) → Type 0
  Serves w b = (S : ℕ → ℕ → ℕ) × KeepsRates (problem_with w b) r S

  -- at its rate every link can carry T m by the slot in which the leaves play it
  abbrev pub FastEnough : ℕ → Type 0
  FastEnough w = (v : ℕ) → Link n v → (m : ℕ) → m ≤ M → T m ≤ r v * (m + w)

  -- the floor rate: the least rate among a node's own link and those below it
  unfoldable pub floor_rate : ℕ → ℕ
  floor_rate v = least_over (within parent v) r n

  -- the need: the greatest excess, over slots, of the lazy row at the floor rate over D
  unfoldable pub need : ℕ → ℕ → ℕ
  need w v = greatest_excess (M + w) (lazy (M + w) (floor_rate v) (D w)) (D w)

  -- the memories b cover the needs: on each way down from a node to a leaf they sum to its need or more
  abbrev pub Covers : ℕ → (ℕ → ℕ) → Type 0
  Covers w b = (v : ℕ) → Link n v → need w v ≤ least_way n parent b v

  -- they cover nothing that can be spared: a child of the root has just its need on its least way; and of two children of another node,
  -- the one of no less need has just its need, and the other no more than that
  pub record SparesNothing (w : ℕ) (b : ℕ → ℕ) : Type 0 where
    pub at_root : (v : ℕ) → Link n v → parent v ≡ 0 → least_way n parent b v ≡ need w v
    pub at_sisters : (u v : ℕ) → Link n u → Link n v → u ≢ v → parent u ≡ parent v → parent v ≢ 0 → need w u ≤ need w v
        → (least_way n parent b v ≡ need w v) × (least_way n parent b u ≤ need w v)

  -- w serves with b, and with no memories of a lower total
  abbrev pub LeastTotal : ℕ → (ℕ → ℕ) → Type 0
  LeastTotal w b = Serves w b × ((b' : ℕ → ℕ) → Serves w b' → total n b ≤ total n b')

  -- the memories answered: those chosen from the needs
  abbrev pub memory : ℕ → ℕ → ℕ
  memory w = chosen n parent (need w)

  -- of all memories with which w serves b has the least total, and of all that have it the least memory at node 1, then at node 2, and so on:
  -- where others are the same at all nodes before v, b has no more than they at v
  pub record LeastMemories (w : ℕ) (b : ℕ → ℕ) : Type 0 where
    pub serves : Serves w b
    pub least_total : (b' : ℕ → ℕ) → Serves w b' → total n b ≤ total n b'
    pub least_in_order : (b' : ℕ → ℕ) → Serves w b' → total n b' ≡ total n b → (v : ℕ) → Link n v
        → ((u : ℕ) → Link n u → u < v → b' u ≡ b u) → b v ≤ b' v
