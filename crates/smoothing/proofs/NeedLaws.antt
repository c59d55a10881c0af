-- Floor rates and needs: the bounds that define them, how they change from a node to its parent, and that no need depends on the delay.
use mathlib.Core.Path.{◌≡◌, sym, ap, fun_ext, ◌∙◌}
use mathlib.Core.Logic.{◌≢◌}
use mathlib.Core.Bool.{true}
use Prim.Native.Nat.{ℕ, suc, ◌+◌, ◌-◌, ◌≤◌, ◌<◌}
use native.Mathlib.Omega.{arith}
use native.Mathlib.Decide.{dec_le}
use Rattle.base.proofs.RangeLaws.{some-passes, least_over-below, Attained, least_over_attained}
use Rattle.smoothing.specs.Tree.{Link, within}
use Rattle.smoothing.specs.Row.{lazy}
use Rattle.smoothing.specs.Rates.{RateQuestion, WellFormedRates, D, floor_rate, need, memory}
use Rattle.smoothing.proofs.RowLaws.{grow_over, greatest_excess-above, greatest_excess-least}
use Rattle.smoothing.proofs.LazyLaws.{from_last, lazy_last, lazy-back, lazy-grows, lazy_faster}
use Rattle.smoothing.proofs.BelowLaws.{within_self, within-child, within_induct}

module _ (Q : RateQuestion) (good : WellFormedRates Q) where
  open Q use {n, parent, r, M, T}
  open good use {ordered, grows}

  -- ---- floor rates

  pub floor_rate-below : (v x : ℕ) → x < n → within parent v x ≡ true → floor_rate Q v ≤ r x
  unfolding floor_rate
  floor_rate-below v x h e = least_over-below (within parent v) r n x h e

  -- the floor rate is the rate of a link at or below the node
  pub floor_rate_attained : (v : ℕ) → Link n v → Attained (within parent v) r n (floor_rate Q v)
  unfolding floor_rate
  floor_rate_attained v h =
      least_over_attained (within parent v) r n (some-passes (within parent v) n v h.1 (within_self n parent ordered v h))

  pub floor_rate_own : (v : ℕ) → Link n v → floor_rate Q v ≤ r v
  floor_rate_own v h = floor_rate-below v v h.1 (within_self n parent ordered v h)

  pub floor_rate-parent : (v : ℕ) → Link n v → parent v ≢ 0 → floor_rate Q (parent v) ≤ floor_rate Q v
  floor_rate-parent v h ne =
      let o = ordered v h in
      let u = parent v in
      let g : Link n u = omega arith in
      let low = floor_rate_attained v h in
      let below : within parent u low.0 ≡ true =
      within_induct n parent ordered v h (λ x. within parent u x ≡ true)
      (within-child n parent ordered u v h (within_self n parent ordered u g))
      (λ x l i. within-child n parent ordered u x l) low.0 low.1 low.2 in
      omega (arith, floor_rate-below u low.0 low.1 below, low.3)

  -- ---- the play-out row never falls

  pub D-grows : (w k : ℕ) → k < M + w → D Q w k ≤ D Q w (suc k)
  D-grows w k h = go (dec_le w k)
    where
      go : Dec (w ≤ k) → T (k - w) ≤ T (suc k - w)
      go (yes l) = let e : suc k - w ≡ suc (k - w) = omega arith in rw e (grows (k - w) (omega arith))
      go (no l) = let e : suc k - w ≡ k - w = omega arith in rw e (omega arith)

  -- ---- needs

  module _ (w : ℕ) where
    pub need-above : (v k : ℕ) → k ≤ M + w → lazy (M + w) (floor_rate Q v) (D Q w) k ≤ D Q w k + need Q w v
    unfolding need
    need-above v = greatest_excess-above (M + w) (lazy (M + w) (floor_rate Q v) (D Q w)) (D Q w)

    pub need-least : (v x : ℕ) → ((k : ℕ) → k ≤ M + w → lazy (M + w) (floor_rate Q v) (D Q w) k ≤ D Q w k + x) → need Q w v ≤ x
    unfolding need
    need-least v = greatest_excess-least (M + w) (lazy (M + w) (floor_rate Q v) (D Q w)) (D Q w)

    pub need-parent : (v : ℕ) → Link n v → parent v ≢ 0 → need Q w v ≤ need Q w (parent v)
    need-parent v h ne =
        need-least v (need Q w (parent v)) λ k l.
        omega (
          arith,
          need-above (parent v) k l,
          lazy_faster (M + w) (floor_rate Q (parent v)) (floor_rate Q v) (D Q w) (floor_rate-parent v h ne) k l,
        )

  -- ---- no need depends on the delay

  -- from slot w on, the row and the lazy row are those without delay, w slots later
  D-later : (w k : ℕ) → D Q w (k + w) ≡ D Q 0 k
  D-later w k = ap T (omega arith)

  lazy-later : (w q k : ℕ) → k ≤ M + 0 → lazy (M + w) q (D Q w) (k + w) ≡ lazy (M + 0) q (D Q 0) k
  lazy-later w q =
      from_last (M + 0) (λ k. lazy (M + w) q (D Q w) (k + w) ≡ lazy (M + 0) q (D Q 0) k)
      (let e : M + 0 + w ≡ M + w = omega arith in
      rw (e, lazy_last (M + w) q (D Q w), lazy_last (M + 0) q (D Q 0)) (ap T (omega arith)))
      (λ k h next.
      let e : suc (k + w) ≡ suc k + w = omega arith in
      lazy-back (M + w) q (D Q w) (k + w) (omega arith) ∙ rw (e, D-later w k, next) (sym (lazy-back (M + 0) q (D Q 0) k h)))

  -- before slot w nothing is played, and the lazy row is no higher than at slot w
  lazy_early : (w q k : ℕ) → k ≤ w → lazy (M + w) q (D Q w) k ≤ D Q w k + (lazy (M + w) q (D Q w) w - D Q w w)
  lazy_early w q k h =
      let e : D Q w k ≡ D Q w w = ap T (omega arith) in
      omega (arith, e, grow_over (M + w) (lazy (M + w) q (D Q w)) (lazy-grows (M + w) q (D Q w) (D-grows w)) k w h (omega arith))

  pub need-delay : (w v : ℕ) → need Q w v ≡ need Q 0 v
  need-delay w v =
      let q = floor_rate Q v in
      omega (
        arith,
        need-least w v (need Q 0 v) (λ k h. bound k h (dec_le w k)),
        need-least 0 v (need Q w v) (λ k h. omega (arith, lazy-later w q k h, D-later w k, need-above w v (k + w) (omega arith))),
      )
    where
      at_later : (k : ℕ) → k ≤ M → lazy (M + w) (floor_rate Q v) (D Q w) (k + w) ≤ D Q w (k + w) + need Q 0 v
      at_later k h = omega (arith, lazy-later w (floor_rate Q v) k (omega arith), D-later w k, need-above 0 v k (omega arith))

      bound : (k : ℕ) → k ≤ M + w → Dec (w ≤ k) → lazy (M + w) (floor_rate Q v) (D Q w) k ≤ D Q w k + need Q 0 v
      bound k h (yes l) = let e : k - w + w ≡ k = omega arith in rw e at (at_later (k - w) (omega arith))
      bound k h (no l) = let e : 0 + w ≡ w = omega arith in omega (arith, lazy_early w (floor_rate Q v) k (omega arith), rw e at (at_later 0 (omega arith)))

  -- and so no memory does
  pub memory-delay : (w v : ℕ) → memory Q w v ≡ memory Q 0 v
  memory-delay w v = let e : need Q w ≡ need Q 0 = fun_ext (need-delay w) in rw e
