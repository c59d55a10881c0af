-- Laws of the upper curve: it is the greatest closed family that is nowhere above `high`.
use mathlib.Core.Bool.{true, false}
use mathlib.Core.Path.{◌≡◌, refl, ◌∙◌}
use mathlib.Core.Logic.{◌≢◌, ⊎_elim}
use Prim.Native.Nat.{ℕ, zero, suc, ◌+◌, ◌-◌, ◌≤◌, ◌<◌, min}
use native.Mathlib.Omega.{arith}
use native.Mathlib.Decide.{ℕ_discrete}
use borrow.Author.Tests.{eq-eqb, ne_eqb}
use Rattle.base.specs.Range.{least_over}
use Rattle.base.proofs.BoolLaws.{true_or_false, not_both}
use Rattle.base.proofs.RangeLaws.{some-passes, least_over-below, least_over-above, least_over_cong}
use Rattle.job.specs.Tree.{Tree, TreeWithin, child, leaf, has_child}
use Rattle.job.proofs.TreeLaws.{leaf_in, leaf_or_child, child_of, child_is, child_in}
use Rattle.smoothing.specs.Tree.{Link, Closed, GreatestClosedBelow}
use Rattle.curves.specs.Curves.{D, room_in, room, least_up, upper_curve, high, problem}
use Rattle.curves.proofs.LowerLaws.{parent-lower, parent_no_leaf}

-- ---- the least at a node and its ancestors below the root

module _ (t : Tree) (w : TreeWithin t) (f : ℕ → ℕ) where
  up_enough : (s r i : ℕ) → i ≤ s → i ≤ r → Link t.n i → least_up t f s i ≡ least_up t f r i
  unfolding least_up
  up_enough zero r i hs hr h = absurd (omega arith)
  up_enough (suc s) zero i hs hr h = absurd (omega arith)
  up_enough (suc s) (suc r) i hs hr h = go (ℕ_discrete (t.parent i) 0) (parent-lower t w i h) (up_enough s r (t.parent i))
    where
      go : Dec (t.parent i ≡ 0) → t.parent i < i → (t.parent i ≤ s → t.parent i ≤ r → Link t.n (t.parent i) → least_up t f s (t.parent i) ≡ least_up t f r (t.parent i))
          → least_up t f (suc s) i ≡ least_up t f (suc r) i
      go (yes e) l ih = rw (eq-eqb (t.parent i) 0 e)
      go (no ne) l ih = rw (ne_eqb (t.parent i) 0 ne, ih (omega arith) (omega arith) (omega arith))

  pub up_root : (i : ℕ) → Link t.n i → t.parent i ≡ 0 → least_up t f i i ≡ f i
  unfolding least_up
  up_root zero h e = absurd (omega arith)
  up_root (suc i) h e = rw (eq-eqb (t.parent (suc i)) 0 e)

  pub up_step : (i : ℕ) → Link t.n i → t.parent i ≢ 0 → least_up t f i i ≡ min (f i) (least_up t f (t.parent i) (t.parent i))
  unfolding least_up
  up_step zero h ne = absurd (omega arith)
  up_step (suc i) h ne =
      let l = parent-lower t w (suc i) h in
      rw (ne_eqb (t.parent (suc i)) 0 ne, up_enough i (t.parent (suc i)) (t.parent (suc i)) (omega arith) (omega arith) (omega arith))

  pub up_self : (i : ℕ) → Link t.n i → least_up t f i i ≤ f i
  up_self i h = go (ℕ_discrete (t.parent i) 0)
    where
      go : Dec (t.parent i ≡ 0) → least_up t f i i ≤ f i
      go (yes e) = omega (arith, up_root i h e)
      go (no ne) = omega (arith, up_step i h ne)

module _ (t : Tree) (w : TreeWithin t) (T : ℕ → ℕ) where
  -- ---- room

  -- more steps than there are nodes of a higher number change nothing
  room-enough : (s r i k : ℕ) → t.n ≤ i + s → t.n ≤ i + r → i < t.n → room_in t T s i k ≡ room_in t T r i k
  unfolding room_in
  room-enough zero r i k hs hr h = absurd (omega arith)
  room-enough (suc s) zero i k hs hr h = absurd (omega arith)
  room-enough (suc s) (suc r) i k hs hr h =
      rw (least_over_cong (λ c. child t c i) (λ c. room_in t T s c k) (λ c. room_in t T r c k) t.n (λ c q e.
      let (p, q, same) = child_in t c i e in
      let l = parent-lower t w c (p, q) in
      room-enough s r c k (omega arith) (omega arith) (omega arith)))

  pub room-leaf : (i k : ℕ) → leaf t i ≡ true → room t T i k ≡ D t T i k + t.memory i
  unfolding room room_in
  room-leaf i k e = go t.n (leaf_in t i e)
    where
      go : (s : ℕ) → i < s → room_in t T s i k ≡ D t T i k + t.memory i
      go zero h = absurd (omega arith)
      go (suc s) h = rw e

  pub room_inner : (i k : ℕ) → i < t.n → leaf t i ≡ false → room t T i k ≡ least_over (λ c. child t c i) (λ c. room t T c k) t.n + t.memory i
  unfolding room room_in
  room_inner i k h e = room-enough t.n (suc t.n) i k (omega arith) (omega arith) h ∙ rw e

  -- a node other than the root has no more room than a child and the memory of its own
  pub room-parent : (i k : ℕ) → Link t.n i → room t T (t.parent i) k ≤ room t T i k + t.memory (t.parent i)
  room-parent i k h =
      let l = parent-lower t w i h in
      omega (
        arith,
        room_inner (t.parent i) k (omega arith) (parent_no_leaf t w i h),
        least_over-below (λ c. child t c (t.parent i)) (λ c. room t T c k) t.n i h.1 (child_is t i (t.parent i) h.0 h.1 refl),
      )

  -- what each child with the memory leaves room for, the node has room for
  pub room-above : (i k m : ℕ) → i < t.n → leaf t i ≡ false → ((c : ℕ) → Link t.n c → t.parent c ≡ i → m ≤ room t T c k + t.memory i) → m ≤ room t T i k
  room-above i k m h e each =
      let has : has_child t i ≡ true = ⊎_elim (λ (f : leaf t i ≡ true). absurd (not_both f e)) (λ (f : has_child t i ≡ true). f) (leaf_or_child t i h) in
      let (c, p, q, same) = child_of t i has in
      omega (
        arith,
        room_inner i k h e,
        least_over-above (λ c. child t c i) (λ c. room t T c k) t.n (m - t.memory i)
            (some-passes (λ c. child t c i) t.n c q (child_is t c i p q same))
            (λ c l f. let (p, q, same) = child_in t c i f in omega (arith, each c (p, q) same)),
      )

  -- ---- the greatest closed family below `high`

  module _ (top : ℕ) where
    pub high-leaf : (i k : ℕ) → leaf t i ≡ true → high t T top i (suc k) ≡ min (D t T i (suc k) + t.memory i) top
    unfolding high
    high-leaf i k e = rw e

    pub high_inner : (i k : ℕ) → leaf t i ≡ false → high t T top i (suc k) ≡ top
    unfolding high
    high_inner i k e = rw e

    pub high-under : (i k : ℕ) → high t T top i k ≤ top
    unfolding high
    high-under i zero = omega arith
    high-under i (suc k) =
        ⊎_elim
        (λ (e : leaf t i ≡ true). rw e (omega arith))
        (λ (e : leaf t i ≡ false). rw e (omega arith))
        (true_or_false (leaf t i))

    pub upper-closed : (k : ℕ) → Closed (problem t T top 0).tree (λ i. upper_curve t T top i k)
    unfolding upper_curve
    upper-closed zero i h ne = omega arith
    upper-closed (suc k) i h ne =
        let l = parent-lower t w i h in
        omega (arith, up_step t w (λ a. room t T a (suc k)) i h ne, up_self t w (λ a. room t T a (suc k)) (t.parent i) (omega arith), room-parent i (suc k) h)

    upper-below-high : (k i : ℕ) → Link t.n i → upper_curve t T top i k ≤ high t T top i k
    unfolding upper_curve
    upper-below-high zero i h = omega arith
    upper-below-high (suc k) i h =
        ⊎_elim
        (λ (e : leaf t i ≡ true). omega (arith, high-leaf i k e, room-leaf i (suc k) e, up_self t w (λ a. room t T a (suc k)) i h))
        (λ (e : leaf t i ≡ false). omega (arith, high_inner i k e))
        (true_or_false (leaf t i))

    module _ (k : ℕ) (Y : ℕ → ℕ) (closed : Closed (problem t T top 0).tree Y) (under : (i : ℕ) → Link t.n i → Y i ≤ high t T top i (suc k)) where
      -- from the nodes of the highest numbers down
      room_by : (b i : ℕ) → t.n ≤ i + b → Link t.n i → Y i ≤ room t T i (suc k)
      room_by zero i hb h = absurd (omega arith)
      room_by (suc b) i hb h =
          ⊎_elim
          (λ (e : leaf t i ≡ true). omega (arith, under i h, high-leaf i k e, room-leaf i (suc k) e))
          (λ (e : leaf t i ≡ false). room-above i (suc k) (Y i) h.1 e (λ c l same.
          let q = parent-lower t w c l in
          let z = closed c l (omega arith) in
          let x : Y i ≤ Y c + t.memory i = rw same at z.1 in
          omega (arith, room_by b c (omega arith) l)))
          (true_or_false (leaf t i))

      up_by : (b i : ℕ) → i ≤ b → Link t.n i → Y i ≤ least_up t (λ a. room t T a (suc k)) i i
      up_by zero i hb h = absurd (omega arith)
      up_by (suc b) i hb h = go (ℕ_discrete (t.parent i) 0) (parent-lower t w i h) (up_by b (t.parent i))
        where
          go : Dec (t.parent i ≡ 0) → t.parent i < i
              → (t.parent i ≤ b → Link t.n (t.parent i) → Y (t.parent i) ≤ least_up t (λ a. room t T a (suc k)) (t.parent i) (t.parent i))
              → Y i ≤ least_up t (λ a. room t T a (suc k)) i i
          go (yes e) l ih = omega (arith, up_root t w (λ a. room t T a (suc k)) i h e, room_by t.n i (omega arith) h)
          go (no ne) l ih =
              omega (arith, up_step t w (λ a. room t T a (suc k)) i h ne, room_by t.n i (omega arith) h, ih (omega arith) (omega arith), closed i h ne)

    upper-greatest : (k : ℕ) (Y : ℕ → ℕ) → Closed (problem t T top 0).tree Y → ((i : ℕ) → Link t.n i → Y i ≤ high t T top i k)
        → (i : ℕ) → Link t.n i → Y i ≤ upper_curve t T top i k
    unfolding upper_curve high
    upper-greatest zero Y closed under i h = under i h
    upper-greatest (suc k) Y closed under i h = omega (arith, up_by k Y closed under i i (omega arith) h, under i h, high-under i (suc k))

    pub upper_is_greatest : (k : ℕ) → GreatestClosedBelow (problem t T top 0).tree (λ i. high t T top i k) (λ i. upper_curve t T top i k)
    upper_is_greatest k = record { below = upper-below-high k; closed = upper-closed k; greatest = upper-greatest k }
