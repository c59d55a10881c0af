-- Document 01, 'Curves and plan rules': D, the lower and the upper curve, the lazy schedule; and the bounds that the theory of `smoothing` starts from.
-- T is any function of a frame count, and top stands for T(M).
use Rattle.std.specs.Prelude.{Bool, cond, ◌&&◌, ℕ, zero, suc, ◌+◌, ◌-◌, max, min, eqb}
use Rattle.base.specs.Range.{greatest_over, least_over}
use Rattle.job.specs.Tree.{Tree, child, leaf, below}
use Rattle.smoothing.specs.Plan.{Problem}

-- l is a leaf below node i
unfoldable pub leaf_below : Tree → ℕ → ℕ → Bool
leaf_below t i l = leaf t l && below t l i

-- the least that f has at node i and all its ancestors below the root, going up at most `steps` times
unfoldable pub least_up : Tree → (ℕ → ℕ) → ℕ → ℕ → ℕ
least_up t f zero i = f i
least_up t f (suc steps) i =
    let parent = t.parent i in
    cond (eqb parent 0) (f i) (min (f i) (least_up t f steps parent))

module _ (t : Tree) (T : ℕ → ℕ) where
  -- what leaf i plays by slot k: T(k - d_i), the difference cut off at 0, as T(0) is 0 too
  abbrev pub plays : ℕ → ℕ → ℕ
  plays i k = T (k - t.delay i)

  -- D_i(k): what leaf i plays by slot k; for an inner node the greatest D of the leaves below it
  unfoldable pub D : ℕ → ℕ → ℕ
  D i k = cond (leaf t i) (plays i k) (greatest_over (leaf_below t i) (λ l. plays l k) t.n)

  -- the lower curve of node i, going up at most `steps` times: a child of the root has D; any other node has the larger of its D and its
  -- parent's lower curve less the parent's b
  unfoldable pub lower_in : ℕ → ℕ → ℕ → ℕ
  lower_in zero i k = D i k
  lower_in (suc steps) i k =
      let parent = t.parent i in
      cond (eqb parent 0) (D i k) (max (D i k) (lower_in steps parent k - t.memory parent))

  -- the lower curve; where each parent is lower than its child, i steps always reach a child of the root
  unfoldable pub lower_curve : ℕ → ℕ → ℕ
  lower_curve i k = lower_in i i k

  -- what node i may have by slot k as far as the nodes below it say, going down at most `steps` times: a leaf has D + b, an inner node
  -- the least of its children's plus its own b
  unfoldable pub room_in : ℕ → ℕ → ℕ → ℕ
  room_in zero i k = 0
  room_in (suc steps) i k = cond (leaf t i) (D i k) (least_over (λ c. child t c i) (λ c. room_in steps c k) t.n) + t.memory i

  -- the same; where each child has a higher number than its parent, n steps always reach the leaves
  unfoldable pub room : ℕ → ℕ → ℕ
  room i k = room_in t.n i k

  -- the upper curve: 0 at slot 0; above it the least of the node itself and all its ancestors below the root, and T(M)
  unfoldable pub upper_curve : ℕ → ℕ → ℕ → ℕ
  upper_curve top i zero = 0
  upper_curve top i (suc k) = min (least_up t (λ a. room a (suc k)) i i) top

  -- ---- what the theory starts from

  -- the least that the link into node i may have carried by slot k, from its own rules: D at a leaf
  unfoldable pub low : ℕ → ℕ → ℕ
  low i k = cond (leaf t i) (D i k) 0

  -- the most: 0 at slot 0; above it T(M), and at a leaf D + b too
  unfoldable pub high : ℕ → ℕ → ℕ → ℕ
  high top i zero = 0
  high top i (suc k) = cond (leaf t i) (min (D i (suc k) + t.memory i) top) top

  -- the tree with its parents and memories, slots 0 to H and these bounds
  abbrev pub problem : ℕ → ℕ → Problem
  problem top H = record { tree = record { n = t.n; parent = t.parent; b = t.memory }; H = H; low = low; high = high top }

-- ---- the lazy schedule

-- the lazy schedule at slot k where `after` slots follow: T(M) at the last; before it the larger of D and the next value less r
unfoldable pub lazy_in : (ℕ → ℕ) → ℕ → ℕ → ℕ → ℕ → ℕ
lazy_in D top r zero k = top
lazy_in D top r (suc after) k = max (D k) (lazy_in D top r after (suc k) - r)

-- the lazy schedule of the row D at rate r, with H as the last slot
unfoldable pub lazy_schedule : (ℕ → ℕ) → ℕ → ℕ → ℕ → ℕ → ℕ
lazy_schedule D top H r k = lazy_in D top r (H - k) k
