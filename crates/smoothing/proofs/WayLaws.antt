-- The least sums on the ways down: at a leaf its own number, else its own number and the least of its children's.
use mathlib.Core.Path.{◌≡◌, ap}
use mathlib.Core.Bool.{true}
use Prim.Native.Nat.{ℕ, zero, suc, ◌+◌, ◌≤◌, ◌<◌}
use native.Mathlib.Omega.{arith}
use Rattle.base.specs.Range.{least_over}
use Rattle.base.proofs.RangeLaws.{least_over-below, least_over-none, least_over_cong}
use Rattle.smoothing.specs.Tree.{Link, child, leaf, least_way_of, least_way}
use Rattle.smoothing.proofs.BelowLaws.{child_of, child_parts, leaf-none}

module _ (n : ℕ) (parent : ℕ → ℕ) (ordered : (v : ℕ) → Link n v → parent v < v) (f : ℕ → ℕ) where
  -- as many steps as there are nodes from v on are enough
  enough : (d e v : ℕ) → n ≤ v + d → n ≤ v + e → v < n → least_way_of n parent f d v ≡ least_way_of n parent f e v
  unfolding least_way_of
  enough zero e v h l r = absurd (omega arith)
  enough (suc d) zero v h l r = absurd (omega arith)
  enough (suc d) (suc e) v h l r =
      ap (λ x. f v + x)
      (least_over_cong (child parent v) (least_way_of n parent f d) (least_way_of n parent f e) n
      (λ c i q.
      let parts = child_parts n parent c v q in
      let o = ordered c (parts.0, i) in
      enough d e c (omega (arith, parts.1)) (omega (arith, parts.1)) i))

  pub way_next : (v : ℕ) → v < n → least_way n parent f v ≡ f v + least_over (child parent v) (least_way n parent f) n
  unfolding least_way least_way_of
  way_next v h = enough n (suc n) v (omega arith) (omega arith) h

  pub way_leaf : (v : ℕ) → v < n → leaf n parent v ≡ true → least_way n parent f v ≡ f v
  way_leaf v h e = omega (arith, way_next v h, least_over-none (child parent v) (least_way n parent f) n (leaf-none n parent v e))

  -- the way on by one child is no less
  pub way_child : (c : ℕ) → Link n c → least_way n parent f (parent c) ≤ f (parent c) + least_way n parent f c
  way_child c h =
      omega (
        arith,
        ordered c h,
        way_next (parent c) (omega (arith, ordered c h)),
        least_over-below (child parent (parent c)) (least_way n parent f) n c h.1 (child_of n parent c h),
      )
