-- What serves: the links are fast enough for the delay, and the memories cover the needs.
use mathlib.Core.Path.{◌≡◌, ap}
use mathlib.Core.Logic.{◌≢◌, ⊎_elim, ◌↔◌}
use mathlib.Core.Bool.{true}
use Prim.Native.Nat.{ℕ, zero, suc, ◌+◌, ◌-◌, ◌≤◌, ◌<◌}
use native.Mathlib.Omega.{arith}
use Rattle.base.proofs.BoolLaws.{true_or_false}
use Rattle.base.proofs.RangeLaws.{which_passes, least_over_attained}
use Rattle.smoothing.specs.Tree.{Link, child, leaf, within, least_way}
use Rattle.smoothing.specs.Row.{greatest_excess, lazy}
use Rattle.smoothing.specs.Plan.{Keeps, KeepsRates}
use Rattle.smoothing.specs.Rates.{RateQuestion, WellFormedRates, D, problem_with, Serves, FastEnough, floor_rate, need, Covers}
use Rattle.smoothing.proofs.RowLaws.{rise_over, peak-rises, greatest_excess-above, greatest_excess-least}
use Rattle.smoothing.proofs.LazyLaws.{lazy-least}
use Rattle.smoothing.proofs.BelowLaws.{child_parts, inner_some, from_children, within_positive, within_induct}
use Rattle.smoothing.proofs.WayLaws.{way_next, way_leaf}
use Rattle.smoothing.proofs.NeedLaws.{floor_rate_attained, need-least}
use Rattle.smoothing.proofs.ServeLaws.{covers_serves}

module _ (Q : RateQuestion) (good : WellFormedRates Q) (w : ℕ) where
  open Q use {n, parent, r, M, T}
  open good use {ordered}

  -- ---- memories that serve, with a plan of theirs

  module _ (b : ℕ → ℕ) (S : ℕ → ℕ → ℕ) (served : KeepsRates (problem_with Q w b) r S) where
    keeps : Keeps (problem_with Q w b) S
    keeps = served.keeps

    rises : (v : ℕ) → Link n v → (k : ℕ) → k < M + w → S v (suc k) ≤ S v k + r v
    rises v h k l = omega (arith, peak-rises (M + w) (S v) k l, served.within_rate v h)

    -- every link has carried what the leaves play: at a leaf by its rule, above it by its children's
    D-carried : (k : ℕ) → k ≤ M + w → (v : ℕ) → Link n v → D Q w k ≤ S v k
    D-carried k j =
        from_children n parent ordered (λ v. D Q w k ≤ S v k) λ v h below.
        ⊎_elim
        (λ e. rw e at (keeps.above_low v h k j))
        (λ e.
        let (c, l, q) = which_passes (child parent v) n (inner_some n parent v e) in
        let (p, is) = child_parts n parent c v q in
        omega (arith, below c (p, l) is, (keeps.closed k j c (p, l) (omega (arith, is, h))).0, ap (λ u. S u k) is))
        (true_or_false (leaf n parent v))

    -- so the links are fast enough
    pub carried_fast : FastEnough Q w
    carried_fast v h m l =
        let a : D Q w (m + w) ≡ T m = ap T (omega arith) in
        let c : m + w - 0 ≡ m + w = omega arith in
        omega (
          arith,
          a,
          D-carried (m + w) (omega arith) v h,
          keeps.starts v h,
          rw c at (rise_over (M + w) (r v) (S v) (rises v h) 0 (m + w) (omega arith) (omega arith)),
        )

    -- a link carries no less than any link below it
    below-carried : (v : ℕ) → Link n v → (k : ℕ) → k ≤ M + w → (x : ℕ) → x < n → within parent v x ≡ true → S x k ≤ S v k
    below-carried v h k j x l =
        within_induct n parent ordered v h (λ x. S x k ≤ S v k) (omega arith)
        (λ x g i ih. omega (arith, ih, (keeps.closed k j x g (omega (arith, within_positive n parent ordered v h (parent x) i))).0)) x l

    -- the lazy row at the floor rate is at most what is carried: it is that of a link below, which carries no more
    lazy-carried : (v : ℕ) → Link n v → (k : ℕ) → k ≤ M + w → lazy (M + w) (floor_rate Q v) (D Q w) k ≤ S v k
    lazy-carried v h k j =
        let low = floor_rate_attained Q good v h in
        let x = low.0 in
        let g : Link n x = (within_positive n parent ordered v h x low.2, low.1) in
        rw low.3
        (omega (
          arith,
          lazy-least (M + w) (r x) (D Q w) (S x) k j (λ i p l. D-carried i l x g) (λ i p l. rises x g i l),
          below-carried v h k j x low.1 low.2,
        ))

    -- ---- the greatest excess of what is carried over what is played lies between the need and the least way

    abbrev excess : ℕ → ℕ
    excess v = greatest_excess (M + w) (S v) (D Q w)

    need-excess : (v : ℕ) → Link n v → need Q w v ≤ excess v
    need-excess v h =
        need-least Q good w v (excess v) (λ k j. omega (arith, lazy-carried v h k j, greatest_excess-above (M + w) (S v) (D Q w) k j))

    excess-leaf : (v : ℕ) → Link n v → leaf n parent v ≡ true → excess v ≤ b v
    excess-leaf v h e = greatest_excess-least (M + w) (S v) (D Q w) (b v) held
      where
        held : (k : ℕ) → k ≤ M + w → S v k ≤ D Q w k + b v
        held zero j = omega (arith, keeps.starts v h)
        held (suc k) j = let l = rw e at (keeps.below_high v h (suc k) j) in omega arith

    excess-parent : (v : ℕ) → Link n v → parent v ≢ 0 → excess (parent v) ≤ excess v + b (parent v)
    excess-parent v h ne =
        greatest_excess-least (M + w) (S (parent v)) (D Q w) _
        (λ k j. omega (arith, (keeps.closed k j v h ne).1, greatest_excess-above (M + w) (S v) (D Q w) k j))

    excess_way : (v : ℕ) → Link n v → excess v ≤ least_way n parent b v
    excess_way =
        from_children n parent ordered (λ v. excess v ≤ least_way n parent b v) λ v h below.
        ⊎_elim
        (λ e. omega (arith, excess-leaf v h e, way_leaf n parent ordered b v h.1 e))
        (λ e.
        let (c, l, q, least) = least_over_attained (child parent v) (least_way n parent b) n (inner_some n parent v e) in
        let (p, is) = child_parts n parent c v q in
        omega (
          arith,
          below c (p, l) is,
          excess-parent c (p, l) (omega (arith, is, h)),
          ap excess is,
          ap b is,
          way_next n parent ordered b v h.1,
          least,
        ))
        (true_or_false (leaf n parent v))

    pub carried_covers : Covers Q w b
    carried_covers v h = omega (arith, need-excess v h, excess_way v h)

  -- ---- what serves

  -- at a delay in time, memories serve just where they cover the needs: the least sum on a way down from each node is no less than its need
  pub serves_covers : FastEnough Q w → (b : ℕ → ℕ) → Serves Q w b ↔ Covers Q w b
  serves_covers fast b = (
    λ served. carried_covers b served.0 served.1,
    λ covers. covers_serves Q w good b covers fast,
  )
