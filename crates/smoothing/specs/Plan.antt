-- Plans: the rules in abstract form, the two curves, the plan made of lazy rows, and what makes a plan optimal.
use Rattle.std.specs.Prelude.{◌≡◌, ℕ, suc, ◌+◌, ◌≤◌, ◌<◌}
use Rattle.smoothing.specs.Tree.{Tree, Link, Ordered, Closed, close, «open»}
use Rattle.smoothing.specs.Row.{peak, least_peak, lazy}

-- a tree, the slots 0 to H, and the least and the most that the link into node v may have carried by slot k
pub record Problem : Type 0 where
  pub tree : Tree
  pub H : ℕ
  pub low : ℕ → ℕ → ℕ
  pub high : ℕ → ℕ → ℕ

-- what the theory asks of a problem
pub record WellFormed (P : Problem) : Type 0 where
  pub ordered : Ordered P.tree
  pub low_starts : (v : ℕ) → Link P.tree.n v → P.low v 0 ≡ 0
  pub low_grows : (v : ℕ) → Link P.tree.n v → (k : ℕ) → k < P.H → P.low v k ≤ P.low v (suc k)
  pub high_starts : (v : ℕ) → Link P.tree.n v → P.high v 0 ≡ 0

-- the plan S keeps the rules, where S v k is what the link into node v has carried by the end of slot k
pub record Keeps (P : Problem) (S : ℕ → ℕ → ℕ) : Type 0 where
  pub starts : (v : ℕ) → Link P.tree.n v → S v 0 ≡ 0
  pub grows : (v : ℕ) → Link P.tree.n v → (k : ℕ) → k < P.H → S v k ≤ S v (suc k)
  pub above_low : (v : ℕ) → Link P.tree.n v → (k : ℕ) → k ≤ P.H → P.low v k ≤ S v k
  pub below_high : (v : ℕ) → Link P.tree.n v → (k : ℕ) → k ≤ P.H → S v k ≤ P.high v k
  pub closed : (k : ℕ) → k ≤ P.H → Closed P.tree (λ v. S v k)

-- the optimal plan: it keeps the rules; no plan that keeps them has a lower peak on any link;
-- and none with the same peaks has carried less on any link by any slot
pub record Optimal (P : Problem) (S : ℕ → ℕ → ℕ) : Type 0 where
  pub keeps : Keeps P S
  pub least_peaks : (S' : ℕ → ℕ → ℕ) → Keeps P S' → (v : ℕ) → Link P.tree.n v → peak P.H (S v) ≤ peak P.H (S' v)
  pub least_carried : (S' : ℕ → ℕ → ℕ) → Keeps P S' → ((v : ℕ) → Link P.tree.n v → peak P.H (S' v) ≡ peak P.H (S v))
      → (v : ℕ) → Link P.tree.n v → (k : ℕ) → k ≤ P.H → S v k ≤ S' v k

-- the plan S keeps the rules and on no link passes the link's rate
pub record KeepsRates (P : Problem) (rate : ℕ → ℕ) (S : ℕ → ℕ → ℕ) : Type 0 where
  pub keeps : Keeps P S
  pub within_rate : (v : ℕ) → Link P.tree.n v → peak P.H (S v) ≤ rate v

-- S is the least family of rows above L that is closed at every slot and rises on each link by at most the rate q of the link;
-- it never falls
pub record LeastRising (T : Tree) (H : ℕ) (q : ℕ → ℕ) (L S : ℕ → ℕ → ℕ) : Type 0 where
  pub closed : (k : ℕ) → k ≤ H → Closed T (λ v. S v k)
  pub grows : (v : ℕ) → Link T.n v → (k : ℕ) → k < H → S v k ≤ S v (suc k)
  pub above : (v : ℕ) → Link T.n v → (k : ℕ) → k ≤ H → L v k ≤ S v k
  pub rises : (v : ℕ) → Link T.n v → (k : ℕ) → k < H → S v (suc k) ≤ S v k + q v
  pub least : (S' : ℕ → ℕ → ℕ) → ((k : ℕ) → k ≤ H → Closed T (λ v. S' v k))
      → ((v : ℕ) → Link T.n v → (k : ℕ) → k ≤ H → L v k ≤ S' v k)
      → ((v : ℕ) → Link T.n v → (k : ℕ) → k < H → S' v (suc k) ≤ S' v k + q v)
      → (v : ℕ) → Link T.n v → (k : ℕ) → k ≤ H → S v k ≤ S' v k

-- the lower curve: low, closed at every slot
unfoldable pub lower : Problem → ℕ → ℕ → ℕ
lower P v k = close P.tree (λ w. P.low w k) v

-- the upper curve: high, opened at every slot
unfoldable pub upper : Problem → ℕ → ℕ → ℕ
upper P v k = «open» P.tree (λ w. P.high w k) v

-- nowhere is the lower curve above the upper curve
abbrev pub Feasible : Problem → Type 0
Feasible P = (v : ℕ) → Link P.tree.n v → (k : ℕ) → k ≤ P.H → lower P v k ≤ upper P v k

-- the least peak of the link into node v
unfoldable pub link_peak : Problem → ℕ → ℕ
link_peak P v = least_peak P.H (lower P v) (upper P v)

-- the lazy rows of the family L, each at the rate q of its link, closed at every slot
unfoldable pub lazy_plan : Tree → ℕ → (ℕ → ℕ) → (ℕ → ℕ → ℕ) → ℕ → ℕ → ℕ
lazy_plan T H q L v k = close T (λ w. lazy H (q w) (L w) k) v

-- the plan answered: the lazy rows of the lower curves at the least peaks, closed at every slot
unfoldable pub plan : Problem → ℕ → ℕ → ℕ
plan P = lazy_plan P.tree P.H (link_peak P) (lower P)
