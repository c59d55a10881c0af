-- The optimal plan: the lazy rows at the least peaks, closed, are it; it is the only one; and the form with rates given.
use mathlib.Core.Path.{◌≡◌, sym, ◌∙◌}
use mathlib.Core.Logic.{◌↔◌}
use Prim.Native.Nat.{ℕ, suc, ◌≤◌}
use native.Mathlib.Omega.{arith}
use Rattle.base.specs.Range.{IsLeast}
use Rattle.smoothing.specs.Tree.{Link, Ordered}
use Rattle.smoothing.specs.Row.{peak, Enough}
use Rattle.smoothing.specs.Plan.{Problem, WellFormed, Keeps, Optimal, KeepsRates, LeastRising, lower, upper, Feasible, link_peak, plan}
use Rattle.smoothing.proofs.RowLaws.{rise_over, peak-rises, peak-least, peak-same, least_peak_is_least}
use Rattle.smoothing.proofs.LazyLaws.{lazy-under}
use Rattle.smoothing.proofs.LazyPlanLaws.{lazy_plan-under, lazy_plan-least-rising}
use Rattle.smoothing.proofs.CurveLaws.{lower-above-low, lower-closed, lower-grows, upper-below-high, upper-closed, plan_between, plan_feasible}

-- ---- only one plan is optimal

pub optimal_unique : (P : Problem) (S S' : ℕ → ℕ → ℕ) → Optimal P S → Optimal P S'
    → (v : ℕ) → Link P.tree.n v → (k : ℕ) → k ≤ P.H → S v k ≡ S' v k
optimal_unique P S S' one other v h k r =
    omega (
      arith,
      one.least_carried S' other.keeps (λ w g. same w g) v h k r,
      other.least_carried S one.keeps (λ w g. sym (same w g)) v h k r,
    )
  where
    same : (w : ℕ) → Link P.tree.n w → peak P.H (S' w) ≡ peak P.H (S w)
    same w g = omega (arith, one.least_peaks S' other.keeps w g, other.least_peaks S one.keeps w g)

-- where some plan passes no link's rate, the optimal plan passes none
pub optimal_keeps-rates : (P : Problem) (rate : ℕ → ℕ) (S S' : ℕ → ℕ → ℕ) → Optimal P S → KeepsRates P rate S' → KeepsRates P rate S
optimal_keeps-rates P rate S S' best other = record {
  keeps = best.keeps;
  within_rate = λ v h. omega (arith, best.least_peaks S' other.keeps v h, other.within_rate v h);
}

-- ---- whether a plan is optimal depends on the links and slots alone

module _ (P : Problem) (S S' : ℕ → ℕ → ℕ) (same : (v : ℕ) → Link P.tree.n v → (k : ℕ) → k ≤ P.H → S v k ≡ S' v k) where
  pub keeps_same : Ordered P.tree → Keeps P S → Keeps P S'
  keeps_same ordered keeps = record {
    starts = λ v h. omega (arith, same v h 0 (omega arith), keeps.starts v h);
    grows = λ v h k r. omega (arith, same v h k (omega arith), same v h (suc k) r, keeps.grows v h k r);
    above_low = λ v h k r. omega (arith, same v h k r, keeps.above_low v h k r);
    below_high = λ v h k r. omega (arith, same v h k r, keeps.below_high v h k r);
    closed = λ k r v h ne.
        let o = ordered v h in
        omega (arith, same v h k r, same (P.tree.parent v) (omega arith) k r, keeps.closed k r v h ne);
  }

  pub optimal_same : Ordered P.tree → Optimal P S → Optimal P S'
  optimal_same ordered best =
      let peaks : (v : ℕ) → Link P.tree.n v → peak P.H (S v) ≡ peak P.H (S' v) = λ v h. peak-same P.H (S v) (S' v) (same v h) in
      record {
        keeps = keeps_same ordered best.keeps;
        least_peaks = λ S'' keeps v h. omega (arith, peaks v h, best.least_peaks S'' keeps v h);
        least_carried = λ S'' keeps equal v h k r.
            omega (arith, same v h k r, best.least_carried S'' keeps (λ w g. equal w g ∙ sym (peaks w g)) v h k r);
      }

module _ (P : Problem) (good : WellFormed P) where
  open P use {tree, H, low, high}
  open good use {ordered, high_starts}

  -- the least peak of a link is the least number that is enough between its curves
  link_peak_is_least : (v : ℕ) → IsLeast (Enough H (lower P v) (upper P v)) (link_peak P v)
  unfolding link_peak
  link_peak_is_least v = least_peak_is_least H (lower P v) (upper P v)

  -- our plan is the least closed family above the lower curves with rises of at most the least peaks
  plan-rising : LeastRising tree H (link_peak P) (lower P) (plan P)
  unfolding plan
  plan-rising = lazy_plan-least-rising tree ordered H (link_peak P) (lower P) (λ k r. lower-closed P good k) (lower-grows P good)

  -- ---- any plan that keeps the rules

  -- its peak is at least the least peak, on every link
  pub plan-peak_at_least : (S' : ℕ → ℕ → ℕ) → Keeps P S' → (v : ℕ) → Link tree.n v → link_peak P v ≤ peak H (S' v)
  plan-peak_at_least S' keeps v h =
      (link_peak_is_least v).1 (peak H (S' v)) λ j k p r.
      omega (
        arith,
        plan_between P good S' keeps v h k r,
        rise_over H (peak H (S' v)) (S' v) (peak-rises H (S' v)) j k (omega arith) r,
        plan_between P good S' keeps v h j (omega arith),
      )

  -- ---- our plan

  module _ (feasible : Feasible P) where
    plan-under-upper : (v : ℕ) → Link tree.n v → (k : ℕ) → k ≤ H → plan P v k ≤ upper P v k
    unfolding plan
    plan-under-upper v h k r =
        lazy_plan-under tree ordered H (link_peak P) (lower P) k (λ w. upper P w k) (upper-closed P good k)
        (λ w g. lazy-under H (link_peak P w) (lower P w) (upper P w) (link_peak_is_least w).0 (feasible w g) k r) v h

    -- it keeps the rules
    pub plan-keeps : Keeps P (plan P)
    plan-keeps = record {
      starts = λ v h. omega (arith, plan-under-upper v h 0 (omega arith), upper-below-high P good v h 0, high_starts v h);
      grows = plan-rising.grows;
      above_low = λ v h k r. omega (arith, lower-above-low P good v h k, plan-rising.above v h k r);
      below_high = λ v h k r. omega (arith, plan-under-upper v h k r, upper-below-high P good v h k);
      closed = plan-rising.closed;
    }

    -- its peaks are the least peaks
    pub plan-peak : (v : ℕ) → Link tree.n v → peak H (plan P v) ≡ link_peak P v
    plan-peak v h =
        omega (arith, peak-least H (plan P v) (link_peak P v) (plan-rising.rises v h), plan-peak_at_least (plan P) plan-keeps v h)

    -- it is the optimal plan
    pub plan_optimal : Optimal P (plan P)
    plan_optimal = record {
      keeps = plan-keeps;
      least_peaks = λ S' keeps v h. omega (arith, plan-peak v h, plan-peak_at_least S' keeps v h);
      least_carried = λ S' keeps same.
          plan-rising.least S' keeps.closed (λ v h k r. (plan_between P good S' keeps v h k r).0)
          (λ v h k r. omega (arith, peak-rises H (S' v) k r, same v h, plan-peak v h));
    }

  -- where any plan keeps the rules, ours is optimal
  pub optimal_if_any : (S' : ℕ → ℕ → ℕ) → Keeps P S' → Optimal P (plan P)
  optimal_if_any S' keeps = plan_optimal (plan_feasible P good S' keeps)

  -- ---- rates given

  -- a plan that keeps the rules and passes no link's rate exists exactly where the curves do not cross and no least peak passes its link's rate
  pub within-rates : (rate : ℕ → ℕ)
      → ((S : ℕ → ℕ → ℕ) × KeepsRates P rate S) ↔ (Feasible P × ((v : ℕ) → Link tree.n v → link_peak P v ≤ rate v))
  within-rates rate = (
    λ given. (
      plan_feasible P good given.0 given.1.keeps,
      λ v h. omega (arith, plan-peak_at_least given.0 given.1.keeps v h, given.1.within_rate v h),
    ),
    λ fits. (
      plan P,
      record {
        keeps = plan-keeps fits.0;
        within_rate = λ v h. omega (arith, plan-peak fits.0 v h, fits.1 v h);
      },
    ),
  )
