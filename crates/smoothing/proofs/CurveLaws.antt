-- The two curves: every plan that keeps the rules lies between them, and they do not cross where the lower one stays under high.
use mathlib.Core.Path.{◌≡◌}
use Prim.Native.Nat.{ℕ, zero, suc, ◌≤◌, ◌<◌}
use native.Mathlib.Omega.{arith}
use Rattle.smoothing.specs.Tree.{Link, Closed}
use Rattle.smoothing.specs.Plan.{Problem, WellFormed, Keeps, lower, upper, Feasible}
use Rattle.smoothing.proofs.ClosedLaws.{close-least-above, close_monotone, open_greatest-below, closed_constant}

module _ (P : Problem) (good : WellFormed P) where
  open P use {tree, H, low, high}
  open good use {ordered, low_starts, low_grows, high_starts}

  -- ---- the lower curve

  pub lower-above-low : (v : ℕ) → Link tree.n v → (k : ℕ) → low v k ≤ lower P v k
  unfolding lower
  lower-above-low v h k = (close-least-above tree ordered (λ w. low w k)).above v h

  pub lower-closed : (k : ℕ) → Closed tree (λ v. lower P v k)
  unfolding lower
  lower-closed k = (close-least-above tree ordered (λ w. low w k)).closed

  pub lower-grows : (v : ℕ) → Link tree.n v → (k : ℕ) → k < H → lower P v k ≤ lower P v (suc k)
  unfolding lower
  lower-grows v h k r = close_monotone tree ordered (λ w. low w k) (λ w. low w (suc k)) (λ w g. low_grows w g k r) v h

  -- one number that is above low on every link is above the lower curve too
  pub lower-under_constant : (k c : ℕ) → ((w : ℕ) → Link tree.n w → low w k ≤ c) → (v : ℕ) → Link tree.n v → lower P v k ≤ c
  unfolding lower
  lower-under_constant k c above = (close-least-above tree ordered (λ w. low w k)).least (λ w. c) (closed_constant tree c) above

  pub lower-starts : (v : ℕ) → Link tree.n v → lower P v 0 ≡ 0
  lower-starts v h = omega (arith, lower-under_constant 0 0 (λ w g. omega (arith, low_starts w g)) v h)

  -- ---- the upper curve

  pub upper-below-high : (v : ℕ) → Link tree.n v → (k : ℕ) → upper P v k ≤ high v k
  unfolding upper
  upper-below-high v h k = (open_greatest-below tree ordered (λ w. high w k)).below v h

  pub upper-closed : (k : ℕ) → Closed tree (λ v. upper P v k)
  unfolding upper
  upper-closed k = (open_greatest-below tree ordered (λ w. high w k)).closed

  -- ---- plans lie between the curves

  pub plan_between : (S : ℕ → ℕ → ℕ) → Keeps P S
      → (v : ℕ) → Link tree.n v → (k : ℕ) → k ≤ H → (lower P v k ≤ S v k) × (S v k ≤ upper P v k)
  unfolding lower upper
  plan_between S keeps v h k r = (
    (close-least-above tree ordered (λ w. low w k)).least (λ w. S w k) (keeps.closed k r) (λ w g. keeps.above_low w g k r) v h,
    (open_greatest-below tree ordered (λ w. high w k)).greatest (λ w. S w k) (keeps.closed k r) (λ w g. keeps.below_high w g k r) v h,
  )

  -- so a plan that keeps the rules exists only where the curves do not cross
  pub plan_feasible : (S : ℕ → ℕ → ℕ) → Keeps P S → Feasible P
  plan_feasible S keeps v h k r = omega (arith, plan_between S keeps v h k r)

  -- ---- where the curves do not cross

  -- at slot 0 both bounds are 0
  lower-under-high : ((v : ℕ) → Link tree.n v → (k : ℕ) → 0 < k → k ≤ H → lower P v k ≤ high v k)
      → (v : ℕ) → Link tree.n v → (k : ℕ) → k ≤ H → lower P v k ≤ high v k
  lower-under-high under v h zero r = omega (arith, lower-starts v h, high_starts v h)
  lower-under-high under v h (suc k) r = under v h (suc k) (omega arith) r

  -- where the lower curve is nowhere above high, it is nowhere above the upper curve
  pub feasible_from-high : ((v : ℕ) → Link tree.n v → (k : ℕ) → 0 < k → k ≤ H → lower P v k ≤ high v k) → Feasible P
  unfolding upper
  feasible_from-high under v h k r =
      (open_greatest-below tree ordered (λ w. high w k)).greatest (λ w. lower P w k) (lower-closed k)
      (λ w g. lower-under-high under w g k r) v h
