-- Laws of children and leaves, of going from the leaves up and from the root down, and of the nodes at and below a node.
use mathlib.Core.Path.{◌≡◌, refl, sym, ap, ◌∙◌}
use mathlib.Core.Logic.{◌≢◌}
use mathlib.Core.Bool.{true, false, ◌||◌}
use Prim.Native.Nat.{ℕ, zero, suc, ◌+◌, ◌≤◌, ◌<◌}
use native.Mathlib.Omega.{arith}
use native.Mathlib.Decide.{ℕ_discrete}
use lib.Dec.{eqb, ltb}
use borrow.Author.Tests.{eq-eqb, ne_eqb, eqb-true, lt-ltb, ltb-true, not-false, not-true}
use Rattle.base.specs.Range.{some}
use Rattle.base.proofs.BoolLaws.{not_both, and_left, and_right, or_false, or_right}
use Rattle.smoothing.specs.Tree.{Link, child, leaf, met_up, within}

-- ---- children and leaves

module _ (n : ℕ) (parent : ℕ → ℕ) where
  pub child_is : (c v : ℕ) → Link n c → parent c ≡ v → child parent v c ≡ true
  child_is c v h e = rw (lt-ltb 0 c h.0, eq-eqb (parent c) v e)

  pub child_of : (c : ℕ) → Link n c → child parent (parent c) c ≡ true
  child_of c h = child_is c (parent c) h refl

  pub child_parts : (c v : ℕ) → child parent v c ≡ true → (0 < c) × (parent c ≡ v)
  child_parts c v e =
      (ltb-true 0 c (and_left (ltb 0 c) (eqb (parent c) v) e), eqb-true (parent c) v (and_right (ltb 0 c) (eqb (parent c) v) e))

  -- a parent is no leaf
  -- a leaf has no child
  pub leaf-none : (v : ℕ) → leaf n parent v ≡ true → some (child parent v) n ≡ false
  leaf-none v e = not-true (some (child parent v) n) e

  -- a node that is no leaf has a child
  pub inner_some : (v : ℕ) → leaf n parent v ≡ false → some (child parent v) n ≡ true
  inner_some v e = not-false (some (child parent v) n) e

-- ---- from the leaves up and from the root down

module _ (n : ℕ) (parent : ℕ → ℕ) (ordered : (v : ℕ) → Link n v → parent v < v) (Holds : ℕ → Type 0) where
  -- what holds of each node whose children it holds of, holds of all
  pub from_children : ((v : ℕ) → Link n v → ((c : ℕ) → Link n c → parent c ≡ v → Holds c) → Holds v) → (v : ℕ) → Link n v → Holds v
  from_children step v h = down_to n v (omega arith) h
    where
      down_to : (m x : ℕ) → n ≤ x + m → Link n x → Holds x
      down_to zero x l g = absurd (omega arith)
      down_to (suc m) x l g = step x g (λ c i e. down_to m c (omega (arith, ordered c i, e)) i)

  -- what holds of each node whose parent, if it is not the root, it holds of, holds of all
  pub from-parent : ((v : ℕ) → Link n v → (parent v ≢ 0 → Holds (parent v)) → Holds v) → (v : ℕ) → Link n v → Holds v
  from-parent step v h = up_to_lem v v (omega arith) h
    where
      up_to_lem : (m x : ℕ) → x ≤ m → Link n x → Holds x
      up_to_lem zero x l g = absurd (omega arith)
      up_to_lem (suc m) x l g = let o = ordered x g in step x g (λ ne. up_to_lem m (parent x) (omega arith) (omega arith, omega arith))

-- ---- at and below a node

module _ (n : ℕ) (parent : ℕ → ℕ) (ordered : (v : ℕ) → Link n v → parent v < v) (v : ℕ) where
  met_up_root : (d : ℕ) → met_up parent v d 0 ≡ eqb 0 v
  unfolding met_up
  met_up_root zero = refl
  met_up_root (suc d) = or_false (eqb 0 v)

  met_up_next : (d x : ℕ) → 0 < x → met_up parent v (suc d) x ≡ (eqb x v || met_up parent v d (parent x))
  unfolding met_up
  met_up_next d x p = rw (lt-ltb 0 x p)

  -- more steps than x change nothing
  met_up-enough : (d e x : ℕ) → x ≤ d → x ≤ e → x < n → met_up parent v d x ≡ met_up parent v e x
  met_up-enough zero e x h l r = let z : x ≡ 0 = omega arith in rw z (met_up_root 0 ∙ sym (met_up_root e))
  met_up-enough (suc d) zero x h l r = let z : x ≡ 0 = omega arith in rw z (met_up_root (suc d) ∙ sym (met_up_root 0))
  met_up-enough (suc d) (suc e) x h l r =
      go (ℕ_discrete x 0)
      (λ p. let o = ordered x (omega arith) in met_up-enough d e (parent x) (omega arith) (omega arith) (omega arith))
    where
      go : Dec (x ≡ 0) → (0 < x → met_up parent v d (parent x) ≡ met_up parent v e (parent x))
          → met_up parent v (suc d) x ≡ met_up parent v (suc e) x
      go (yes z) ih = rw z (met_up_root (suc d) ∙ sym (met_up_root (suc e)))
      go (no nz) ih = rw (met_up_next d x (omega arith), met_up_next e x (omega arith), ih (omega arith))

  -- a link is at or below v where it is v, or its parent is at or below v
  pub within_next : (x : ℕ) → Link n x → within parent v x ≡ (eqb x v || within parent v (parent x))
  unfolding within
  within_next zero h = absurd (omega arith)
  within_next (suc x) h =
      let o = ordered (suc x) h in
      met_up_next x (suc x) h.0
      ∙ ap (λ c. eqb (suc x) v || c) (met_up-enough x (parent (suc x)) (parent (suc x)) (omega arith) (omega arith) (omega arith))

  pub within-child : (x : ℕ) → Link n x → within parent v (parent x) ≡ true → within parent v x ≡ true
  within-child x h e = within_next x h ∙ or_right (eqb x v) e

  module _ (link : Link n v) where
    pub within_self : within parent v v ≡ true
    within_self = within_next v link ∙ rw (eq-eqb v v refl)

    -- the root is not below a link
    pub within_positive : (x : ℕ) → within parent v x ≡ true → 0 < x
    unfolding within
    within_positive zero e = absurd (not_both e (met_up_root 0 ∙ ne_eqb 0 v (omega arith)))
    within_positive (suc x) e = omega arith

    module _ (Holds : ℕ → Type 0) (base : Holds v)
        (step : (x : ℕ) → Link n x → within parent v (parent x) ≡ true → Holds (parent x) → Holds x) where
      up_to_lem : (m x : ℕ) → x ≤ m → x < n → within parent v x ≡ true → Holds x
      up_to_lem zero x l h e = absurd (omega (arith, within_positive x e))
      up_to_lem (suc m) x l h e =
          let g : Link n x = (within_positive x e, h) in
          let o = ordered x g in
          go g (ℕ_discrete x v) (up_to_lem m (parent x) (omega arith) (omega arith))
        where
          go : Link n x → Dec (x ≡ v) → (within parent v (parent x) ≡ true → Holds (parent x)) → Holds x
          go g (yes q) ih = rw q base
          go g (no q) ih =
              let i : within parent v (parent x) ≡ true = sym (within_next x g ∙ rw (ne_eqb x v q)) ∙ e in
              step x g i (ih i)

      -- what holds of v and passes from a node at or below v to its children, holds of all nodes at or below v
      pub within_induct : (x : ℕ) → x < n → within parent v x ≡ true → Holds x
      within_induct x = up_to_lem x x (omega arith)
