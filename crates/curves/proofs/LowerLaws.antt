-- Laws of D and of the lower curve: it is the least closed family that is nowhere below `low`.
use mathlib.Core.Bool.{true, false}
use mathlib.Core.Path.{◌≡◌, refl}
use mathlib.Core.Logic.{◌≢◌, ⊎_elim}
use Prim.Native.Nat.{ℕ, zero, suc, ◌-◌, ◌≤◌, ◌<◌, max}
use native.Mathlib.Omega.{arith}
use native.Mathlib.Decide.{ℕ_discrete}
use borrow.Author.Tests.{eq-eqb, ne_eqb}
use lib.Dec.{eqb}
use Rattle.base.specs.Range.{some, greatest_over}
use Rattle.base.proofs.BoolLaws.{true_or_false, not_both, otherwise, and_left, and_right, lt_or_le}
use Rattle.base.proofs.RangeLaws.{some-passes, greatest_over-above, greatest_over-under}
use Rattle.job.specs.Tree.{Tree, TreeWithin, leaf, has_child, below}
use Rattle.job.proofs.TreeLaws.{link_is, leaf_in, leaf_or_child, leaf_no_parent, below_in, child-below, below_cases, below_trans, inner_has-leaf}
use Rattle.smoothing.specs.Tree.{Link, Closed, LeastClosedAbove}
use Rattle.curves.specs.Curves.{leaf_below, plays, D, lower_in, lower_curve, low, problem}

module _ (t : Tree) (w : TreeWithin t) where
  -- the parent of a link is lower
  pub parent-lower : (i : ℕ) → Link t.n i → t.parent i < i
  parent-lower i h = w.parents i (link_is t.n i h.0 h.1)

  -- a parent is no leaf
  pub parent_no_leaf : (i : ℕ) → Link t.n i → leaf t (t.parent i) ≡ false
  parent_no_leaf i h = otherwise (leaf t (t.parent i)) (λ e. leaf_no_parent t (t.parent i) i e h.0 h.1 refl)

  -- ---- leaves below a node

  pub leaf-below : (i l : ℕ) → leaf t l ≡ true → below t l i ≡ true → leaf_below t i l ≡ true
  unfolding leaf_below
  leaf-below i l h k = rw (h, k)

  pub leaf-below_in : (i l : ℕ) → leaf_below t i l ≡ true → (leaf t l ≡ true) × (below t l i ≡ true)
  unfolding leaf_below
  leaf-below_in i l h = (and_left (leaf t l) (below t l i) h, and_right (leaf t l) (below t l i) h)

  -- a node that is no leaf has one
  pub some-leaf : (i : ℕ) → i < t.n → leaf t i ≡ false → some (leaf_below t i) t.n ≡ true
  some-leaf i h e =
      ⊎_elim
      (λ (k : leaf t i ≡ true). absurd (not_both k e))
      (λ (k : has_child t i ≡ true).
      let (l, f, g) = inner_has-leaf t w.parents i k in
      some-passes (leaf_below t i) t.n l (leaf_in t l f) (leaf-below i l f g))
      (leaf_or_child t i h)

  module _ (T : ℕ → ℕ) where
    -- ---- D

    pub D-leaf : (i k : ℕ) → leaf t i ≡ true → D t T i k ≡ plays t T i k
    unfolding D
    D-leaf i k e = rw e

    pub D_inner : (i k : ℕ) → leaf t i ≡ false → D t T i k ≡ greatest_over (leaf_below t i) (λ l. plays t T l k) t.n
    unfolding D
    D_inner i k e = rw e

    -- of a leaf below
    pub D-above : (i l k : ℕ) → leaf t i ≡ false → leaf_below t i l ≡ true → plays t T l k ≤ D t T i k
    D-above i l k e h =
        rw (D_inner i k e) (greatest_over-above (leaf_below t i) (λ l. plays t T l k) t.n l (leaf_in t l (leaf-below_in i l h).0) h)

    -- what is no less than each leaf below plays is no less than D
    pub D-under : (i k m : ℕ) → leaf t i ≡ false → ((l : ℕ) → leaf_below t i l ≡ true → plays t T l k ≤ m) → D t T i k ≤ m
    D-under i k m e each = rw (D_inner i k e) (greatest_over-under (leaf_below t i) (λ l. plays t T l k) t.n m (λ l q h. each l h))

    -- a parent's D is no less than its child's
    pub D-parent : (i k : ℕ) → Link t.n i → D t T i k ≤ D t T (t.parent i) k
    D-parent i k h =
        ⊎_elim
        (λ (e : leaf t i ≡ true).
        rw (D-leaf i k e) (D-above (t.parent i) i k (parent_no_leaf i h) (leaf-below (t.parent i) i e up)))
        (λ (e : leaf t i ≡ false). D-under i k _ e (λ l b.
        let (f, g) = leaf-below_in i l b in
        D-above (t.parent i) l k (parent_no_leaf i h) (leaf-below (t.parent i) l f (below_trans t w.parents l i (t.parent i) g up))))
        (true_or_false (leaf t i))
      where
        up : below t i (t.parent i) ≡ true
        up = child-below t w.parents i (t.parent i) h.0 h.1 refl

    -- ---- the lower curve

    -- more steps than the node's number change nothing
    lower-enough : (s r i k : ℕ) → i ≤ s → i ≤ r → Link t.n i → lower_in t T s i k ≡ lower_in t T r i k
    unfolding lower_in
    lower-enough zero r i k hs hr h = absurd (omega arith)
    lower-enough (suc s) zero i k hs hr h = absurd (omega arith)
    lower-enough (suc s) (suc r) i k hs hr h =
        let l = parent-lower i h in
        ⊎_elim
        (λ (e : eqb (t.parent i) 0 ≡ true). rw e)
        (λ (e : eqb (t.parent i) 0 ≡ false).
        rw e (omega (arith, lower-enough s r (t.parent i) k (omega arith) (omega arith) (positive e, omega arith))))
        (true_or_false (eqb (t.parent i) 0))
      where
        positive : eqb (t.parent i) 0 ≡ false → 0 < t.parent i
        positive e = ⊎_elim (λ (q : 0 < t.parent i). q) (λ (q : t.parent i ≤ 0). absurd (not_both (eq-eqb (t.parent i) 0 (omega arith)) e)) (lt_or_le 0 (t.parent i))

    pub lower_root : (i k : ℕ) → Link t.n i → t.parent i ≡ 0 → lower_curve t T i k ≡ D t T i k
    unfolding lower_curve lower_in
    lower_root zero k h e = absurd (omega arith)
    lower_root (suc i) k h e = rw (eq-eqb (t.parent (suc i)) 0 e)

    pub lower-step : (i k : ℕ) → Link t.n i → t.parent i ≢ 0
        → lower_curve t T i k ≡ max (D t T i k) (lower_curve t T (t.parent i) k - t.memory (t.parent i))
    unfolding lower_curve lower_in
    lower-step zero k h ne = absurd (omega arith)
    lower-step (suc i) k h ne =
        let l = parent-lower (suc i) h in
        rw (ne_eqb (t.parent (suc i)) 0 ne)
        (omega (arith, lower-enough i (t.parent (suc i)) (t.parent (suc i)) k (omega arith) (omega arith) (omega arith)))

    -- a node has no less than its D, and a child no less than its parent less the parent's memory
    pub lower-above-D : (i k : ℕ) → Link t.n i → D t T i k ≤ lower_curve t T i k
    lower-above-D i k h = go (ℕ_discrete (t.parent i) 0)
      where
        go : Dec (t.parent i ≡ 0) → D t T i k ≤ lower_curve t T i k
        go (yes e) = omega (arith, lower_root i k h e)
        go (no ne) = omega (arith, lower-step i k h ne)

    pub lower-closed : (k : ℕ) → Closed (problem t T 0 0).tree (λ i. lower_curve t T i k)
    lower-closed k i h ne =
        let l = parent-lower i h in
        omega (arith, lower-step i k h ne, D-parent i k h, lower-above-D (t.parent i) k (omega arith))

    -- ---- the least closed family above `low`

    low-leaf : (i k : ℕ) → leaf t i ≡ true → low t T i k ≡ plays t T i k
    unfolding low
    low-leaf i k e = rw e (D-leaf i k e)

    low_inner : (i k : ℕ) → leaf t i ≡ false → low t T i k ≡ 0
    unfolding low
    low_inner i k e = rw e

    pub low-under-D : (i k : ℕ) → low t T i k ≤ D t T i k
    low-under-D i k =
        ⊎_elim
        (λ (e : leaf t i ≡ true). omega (arith, low-leaf i k e, D-leaf i k e))
        (λ (e : leaf t i ≡ false). omega (arith, low_inner i k e))
        (true_or_false (leaf t i))

    module _ (k : ℕ) (Y : ℕ → ℕ) (closed : Closed (problem t T 0 0).tree Y) where
      -- a closed family has no less at a link than at the nodes below it
      climb_by : (b l i : ℕ) → l ≤ b → 0 < i → below t l i ≡ true → Y l ≤ Y i
      climb_by zero l i hb p h = absurd (omega (arith, below_in t l i h))
      climb_by (suc b) l i hb p h =
          let (q, r) = below_in t l i h in
          let lt = parent-lower l (q, r) in
          ⊎_elim
          (λ (e : t.parent l ≡ i). rw e at (closed l (q, r) (omega arith)).0)
          (λ (e : below t (t.parent l) i ≡ true).
          let (a, d) = below_in t (t.parent l) i e in
          omega (arith, climb_by b (t.parent l) i (omega arith) p e, closed l (q, r) (omega arith)))
          (below_cases t w.parents l i h)

      pub climb : (l i : ℕ) → 0 < i → below t l i ≡ true → Y l ≤ Y i
      climb l i p h = climb_by l l i (omega arith) p h

      module _ (above : (i : ℕ) → Link t.n i → low t T i k ≤ Y i) where
        D-least : (i : ℕ) → Link t.n i → D t T i k ≤ Y i
        D-least i h =
            ⊎_elim
            (λ (e : leaf t i ≡ true). omega (arith, above i h, low-leaf i k e, D-leaf i k e))
            (λ (e : leaf t i ≡ false). D-under i k (Y i) e (λ l b.
            let (f, g) = leaf-below_in i l b in
            let (p, q) = below_in t l i g in
            omega (arith, climb l i h.0 g, above l (p, q), low-leaf l k f)))
            (true_or_false (leaf t i))

        least_by : (b i : ℕ) → i ≤ b → Link t.n i → lower_curve t T i k ≤ Y i
        least_by zero i hb h = absurd (omega arith)
        least_by (suc b) i hb h = go (ℕ_discrete (t.parent i) 0) (parent-lower i h) (least_by b (t.parent i))
          where
            go : Dec (t.parent i ≡ 0) → t.parent i < i → (t.parent i ≤ b → Link t.n (t.parent i) → lower_curve t T (t.parent i) k ≤ Y (t.parent i))
                → lower_curve t T i k ≤ Y i
            go (yes e) l ih = omega (arith, lower_root i k h e, D-least i h)
            go (no ne) l ih = omega (arith, lower-step i k h ne, D-least i h, ih (omega arith) (omega arith), closed i h ne)

        pub lower-least : (i : ℕ) → Link t.n i → lower_curve t T i k ≤ Y i
        lower-least i h = least_by i i (omega arith) h

    pub lower_is_least : (k : ℕ) → LeastClosedAbove (problem t T 0 0).tree (λ i. low t T i k) (λ i. lower_curve t T i k)
    lower_is_least k = record {
      above = λ i h. omega (arith, low-under-D i k, lower-above-D i k h);
      closed = lower-closed k;
      least = λ Y closed above. lower-least k Y closed above;
    }
