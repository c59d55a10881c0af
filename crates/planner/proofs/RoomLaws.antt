-- A leaf's own room, D + b. Its upper curve never passes that, so a leaf whose lower curve does so starves; and where no leaf's lower curve
-- does so, lower is nowhere above upper.
use mathlib.Core.Bool.{Bool, true, false}
use mathlib.Core.List.{List}
use mathlib.Core.Logic.{◌≢◌}
use mathlib.Core.Path.{◌≡◌, refl, ap, ◌∙◌}
use Prim.Native.Nat.{ℕ, zero, suc, ◌+◌, ◌-◌, ◌≤◌, ◌<◌}
use native.Mathlib.Omega.{arith}
use lib.ListN.{get_or}
use Rattle.base.specs.Table.{tab}
use Rattle.base.proofs.TableLaws.{get_or-tab}
use Rattle.job.specs.Tree.{Tree, TreeWithin, leaf}
use Rattle.job.proofs.TreeLaws.{link_in}
use Rattle.job.proofs.SlotLaws.{leaf-link}
use Rattle.smoothing.specs.Tree.{Link}
use Rattle.smoothing.specs.Plan.{lower, Feasible}
use Rattle.smoothing.proofs.CurveLaws.{feasible_from-high}
use Rattle.curves.specs.Curves.{D, lower_curve, upper_curve, high, problem}
use Rattle.job.specs.Sums.{Film}
use Rattle.curves.specs.Rows.{leaf_lower}
use Rattle.curves.proofs.LowerLaws.{D-leaf, lower_root}
use Rattle.curves.proofs.UpperLaws.{upper_is_greatest, high-leaf, high_inner}
use Rattle.curves.proofs.CurveEq.{lower_is, upper_is, lower_top, problem_well_formed}
use Rattle.curves.proofs.AllRowsLaws.{leaf-lower_is}
use Rattle.planner.specs.Work.{Starves, AllFed}

-- at leaf i lower is nowhere above D + b, over slots 0 to w - 1
abbrev pub InRoom : Tree → (ℕ → ℕ) → ℕ → ℕ → Type 0
InRoom t T w i = (k : ℕ) → k < w → lower_curve t T i k ≤ D t T i k + t.memory i

-- what a leaf's own rules allow is at most D + b
high-room : (t : Tree) (T : ℕ → ℕ) (top i k : ℕ) → leaf t i ≡ true → high t T top i k ≤ D t T i k + t.memory i
unfolding high
high-room t T top i zero e = omega arith
high-room t T top i (suc k) e = rw e (omega arith)

module _ (t : Tree) (within : TreeWithin t) (T : ℕ → ℕ) where
  linked : (i : ℕ) → leaf t i ≡ true → Link t.n i
  linked i e = link_in t.n i (leaf-link t within i e)

  -- a leaf's upper curve never passes its own room
  pub upper_in_room : (top i k : ℕ) → leaf t i ≡ true → upper_curve t T top i k ≤ D t T i k + t.memory i
  upper_in_room top i k e = omega (arith, (upper_is_greatest t within T top k).below i (linked i e), high-room t T top i k e)

  -- nor does the lower curve of a leaf below the root
  pub root_leaf_in_room : (i w : ℕ) → leaf t i ≡ true → t.parent i ≡ 0 → InRoom t T w i
  root_leaf_in_room i w e z k h = omega (arith, lower_root t within T i k (linked i e) z)

  -- ---- what the row of its parent says of a leaf

  module _ (i w : ℕ) (is_leaf : leaf t i ≡ true) (inner : t.parent i ≢ 0) (l : List ℕ) (is-lower : l ≡ tab (lower_curve t T (t.parent i)) w) where
    abbrev lower_at : ℕ → ℕ
    lower_at k = leaf_lower (T (k - t.delay i)) (get_or l k 0) (t.memory (t.parent i))

    abbrev room_at : ℕ → ℕ
    room_at k = T (k - t.delay i) + t.memory i

    lower_cell : (k : ℕ) → k < w → lower_at k ≡ lower_curve t T i k
    lower_cell k h =
        rw (ap (λ (x : List ℕ). get_or x k 0) is-lower ∙ get_or-tab (lower_curve t T (t.parent i)) w k h) (leaf-lower_is t within T i k is_leaf (linked i is_leaf) inner)

    pub in_room_by_row : ((k : ℕ) → k < w → lower_at k ≤ room_at k) → InRoom t T w i
    in_room_by_row fine k h = omega (arith, fine k h, lower_cell k h, D-leaf t within T i k is_leaf)

    pub starved_by_row : (top k : ℕ) → k < w → room_at k < lower_at k → Starves t T top w
    starved_by_row top k h crosses = (i, is_leaf, k, h, omega (arith, lower_cell k h, D-leaf t within T i k is_leaf, upper_in_room top i k is_leaf))

  -- ---- what the leaves' own room says of all nodes

  module _ (top : ℕ) (film : Film T top) where
    -- looking at the leaves' own room is enough: where at no leaf and no slot lower exceeds D + b, it nowhere exceeds upper
    pub feasible_by_room : (H : ℕ) → ((i : ℕ) → leaf t i ≡ true → (k : ℕ) → k ≤ H → lower_curve t T i k ≤ D t T i k + t.memory i)
        → Feasible (problem t T top H)
    feasible_by_room H fine = feasible_from-high (problem t T top H) (problem_well_formed t within T top H film) under
      where
        at : (i k : ℕ) → Link t.n i → (b : Bool) → leaf t i ≡ b → 0 < k → k ≤ H → lower_curve t T i k ≤ high t T top i k
        at i zero l b e p r = absurd (omega arith)
        at i (suc k) l true e p r =
            omega (arith, fine i e (suc k) r, lower_top t within T top H film i (suc k) l, high-leaf t within T top i k e)
        at i (suc k) l false e p r = omega (arith, lower_top t within T top H film i (suc k) l, high_inner t within T top i k e)

        under : (i : ℕ) → Link t.n i → (k : ℕ) → 0 < k → k ≤ H → lower (problem t T top H) i k ≤ high t T top i k
        under i l k p r = omega (arith, lower_is t within T top H i k l, at i k l (leaf t i) refl p r)

    -- and then no leaf starves
    pub all_fed : (w : ℕ) → ((i : ℕ) → leaf t i ≡ true → InRoom t T w i) → AllFed t T top w
    all_fed w fine i e k h =
        omega (
          arith,
          lower_is t within T top (w - 1) i k (linked i e),
          upper_is t within T top (w - 1) i k (linked i e),
          feasible_by_room (w - 1) (λ i e k r. fine i e k (omega arith)) i (linked i e) k (omega arith),
        )
