-- From the work on an accepted job to the memory question's answer.
use mathlib.Core.List.{List}
use mathlib.Core.Path.{◌≡◌, refl, ap, sym, ◌∙◌}
use mathlib.Core.Logic.{inl, inr}
use Prim.Native.Nat.{ℕ, zero, suc, ◌+◌, ◌-◌, ◌*◌, ◌≤◌}
use native.Mathlib.Omega.{arith}
use native.Mathlib.Decide.{ℕ_discrete}
use lib.Dec.{eqb}
use lib.ListN.{length, get_or}
use borrow.Author.Tests.{eq-eqb, ne_eqb}
use Rattle.base.specs.Table.{tab}
use Rattle.base.proofs.BoolLaws.{and_no_right}
use Rattle.base.proofs.TableLaws.{length-tab, get_or-tab, get_d_rows, tab_cong}
use Rattle.job.specs.Tree.{Tree, JobData, JobWithin, T, greatest_delay, H, plan_length}
use Rattle.job.specs.Bytes.{frame_count, job_of}
use Rattle.job.specs.Refusal as job
use Rattle.job.specs.Refusal.{refusal, bad_lent}
use Rattle.job.specs.declared.Refusal as declared
use Rattle.job.specs.Read.{tree_in, Accepted}
use Rattle.job.specs.declared.Job.{Job}
use Rattle.job.proofs.SlotLaws.{leaf-link}
use Rattle.job.proofs.RefusalLaws.{number_none, accepted_within}
use Rattle.smoothing.specs.Tree.{Link}
use Rattle.smoothing.specs.Row.{peak, least_peak}
use Rattle.smoothing.specs.Plan.{Problem, Feasible, link_peak, plan}
use Rattle.smoothing.proofs.CurveLaws.{plan_feasible}
use Rattle.smoothing.proofs.RowLaws.{peak-same}
use Rattle.smoothing.proofs.OptimalLaws.{optimal_same, plan-peak}
use Rattle.curves.specs.Curves.{lower_curve, upper_curve, problem}
use Rattle.curves.proofs.CurveEq.{lower_is, upper_is}
use Rattle.job.specs.Sums.{sums_in, last_in}
use Rattle.job.proofs.SumsLaws.{sums_of_lem, last_of}
use Rattle.std.proofs.Common.{Result, Ok, Err, IsErrAnd}
use Rattle.planner.specs.declared.Planned.{Planned}
use Rattle.planner.specs.declared.Refusal.{Refusal}
use Rattle.planner.specs.declared.Refusal.TheVariants.{Job as OfJob}
use Rattle.planner.specs.Rules.{Best}
use Rattle.planner.specs.Answer.{number, early_refusal, plan_in, Answers}
use Rattle.planner.specs.Work.{Starves, AllFed, width_of, plan_rows_of, peaks_of, Worked}
use Rattle.planner.proofs.WorkLaws.{least_peak-same}
use Rattle.planner.proofs.KeepLaws.{problem_of, well_formed, to_theory, best_of_optimal, optimal_of_best, no_plan_lem, plan_best}
use Rattle.planner.proofs.KeepLaws.{feasible_by_leaves}

-- ---- refusals 1 to 11

pub early_read : (s : List ℕ) (p q : ℕ) → (refusal s ≡ 0 → ⊥) → early_refusal s p q ≡ refusal s
unfolding early_refusal
early_read s p q h = rw (ne_eqb (refusal s) 0 h) refl

pub early_plan : (s : List ℕ) (p q : ℕ) → refusal s ≡ 0 → (p ≡ plan_length (job_of s) → ⊥) → early_refusal s p q ≡ bad_lent
unfolding early_refusal
early_plan s p q h ne = rw (h, ne_eqb p (plan_length (job_of s)) ne) refl

pub early_peaks : (s : List ℕ) (p q : ℕ) → refusal s ≡ 0 → (q ≡ (job_of s).tree.n - 1 → ⊥) → early_refusal s p q ≡ bad_lent
unfolding early_refusal
early_peaks s p q h ne = rw (h, and_no_right (eqb p (plan_length (job_of s))) (ne_eqb q ((job_of s).tree.n - 1) ne)) refl

pub early_none : (s : List ℕ) (p q : ℕ) → refusal s ≡ 0 → p ≡ plan_length (job_of s) → q ≡ (job_of s).tree.n - 1 → early_refusal s p q ≡ 0
unfolding early_refusal
early_none s p q h e f = rw (h, eq-eqb p (plan_length (job_of s)) e, eq-eqb q ((job_of s).tree.n - 1) f) refl

-- what is refused so leaves plan and peaks
module _ (s plan peaks : List ℕ) where
  pub answered-early : (e : declared.Refusal) → job.number e ≡ early_refusal s (length plan) (length peaks)
      → Answers (Err (OfJob e)) s plan plan peaks peaks
  unfolding Answers
  answered-early e h = (refl, (refl, inl (h, λ z. number_none e (h ∙ z))))

  -- and so where a `?` passes the job's refusal on
  pub answered-passed : (r : Result Planned Refusal) (e : declared.Refusal) → IsErrAnd r (λ x. x ≡ OfJob e)
      → job.number e ≡ early_refusal s (length plan) (length peaks) → Answers r s plan plan peaks peaks
  answered-passed (Ok x) e h k = absurd h
  answered-passed (Err x) e h k = rw h (answered-early e k)

-- ---- the plan in the list is the theory's plan

module _ (j : JobData) (within : JobWithin j) (plan₁ : List ℕ) where
  abbrev P : Problem
  P = problem_of j

  module _ (rows : plan₁ ≡ plan_rows_of (problem_of j) (H j + 1) (j.tree.n - 1)) where
    cell : (i : ℕ) → Link j.tree.n i → (k : ℕ) → k ≤ H j → plan P i k ≡ plan_in j plan₁ i k
    cell zero l k h = absurd (omega (arith, l.0))
    cell (suc i) l k h =
        sym
        (ap (λ (x : List ℕ). get_or x (i * (H j + 1) + k) 0) rows
        ∙ get_d_rows (λ v. tab (plan P (suc v)) (H j + 1)) (H j + 1) (j.tree.n - 1) i k (λ v. length-tab _ (H j + 1)) (omega (arith, l.1)) (omega arith)
        ∙ get_or-tab (plan P (suc i)) (H j + 1) k (omega arith))

    pub peaks_given : Feasible P → peaks_of P (j.tree.n - 1) ≡ tab (λ i. peak (H j) (plan_in j plan₁ (suc i))) (j.tree.n - 1)
    peaks_given feasible =
        tab_cong (λ i. link_peak P (suc i)) _ (j.tree.n - 1)
        (λ i h.
        sym (plan-peak P (well_formed j within) feasible (suc i) (omega arith, omega arith))
        ∙ peak-same (H j) (plan P (suc i)) (plan_in j plan₁ (suc i)) (cell (suc i) (omega arith, omega arith)))

    module _ (fed : AllFed j.tree (T j) (T j j.M) (H j + 1)) where
      pub best_given : Best j (plan_in j plan₁)
      best_given =
          best_of_optimal j within (plan_in j plan₁)
          (optimal_same P (plan P) (plan_in j plan₁) cell (well_formed j within).ordered
          (optimal_of_best j within (plan P) (plan_best j within (λ i e k h. fed i e k (omega arith)))))

      pub feasible_given : Feasible P
      feasible_given = feasible_by_leaves j within (λ i e k h. fed i e k (omega arith))

-- ---- the same job, by its struct and by its bytes

starves_at : (t t' : Tree) (f f' : ℕ → ℕ) (x x' w w' : ℕ) → t ≡ t' → f ≡ f' → x ≡ x' → w ≡ w' → Starves t f x w → Starves t' f' x' w'
starves_at t t' f f' x x' w w' p q r e h = rw (p, q, r, e) at h

fed_at : (t t' : Tree) (f f' : ℕ → ℕ) (x x' w w' : ℕ) → t ≡ t' → f ≡ f' → x ≡ x' → w ≡ w' → AllFed t f x w → AllFed t' f' x' w'
fed_at t t' f f' x x' w w' p q r e h = rw (p, q, r, e) at h

problem_at : (t t' : Tree) (f f' : ℕ → ℕ) (x x' w w' : ℕ) → t ≡ t' → f ≡ f' → x ≡ x' → w ≡ w' → problem t f x w ≡ problem t' f' x' w'
problem_at t t' f f' x x' w w' p q r e = rw (p, q, r, e) refl

module _ (s : List ℕ) (job : Job) (acc : Accepted s job) where
  abbrev j : JobData
  j = job_of s

  abbrev sums : List ℕ
  sums = tab (T (job_of s)) (frame_count s + 1)

  pub width_is : width_of job ≡ H (job_of s) + 1
  unfolding H
  width_is = ap (λ (x : JobData). x.M + greatest_delay x.tree + 1) acc.same

  same-problem : problem (tree_in job) (sums_in sums) (last_in sums) (width_of job - 1) ≡ problem_of j
  same-problem =
      problem_at (tree_in job) j.tree (sums_in sums) (T j) (last_in sums) (T j j.M) (width_of job - 1) (H j) acc.held (sums_of_lem j) (last_of j) (omega (arith, width_is))

  nodes_is : job.nodes ≡ j.tree.n
  nodes_is = ap (λ (t : Tree). t.n) acc.held

  module _ (plan₀ plan₁ peaks₀ peaks₁ : List ℕ) (long : length plan₀ ≡ plan_length (job_of s)) (short : length peaks₀ ≡ (job_of s).tree.n - 1) where
    rows_is : plan₁ ≡ plan_rows_of (problem (tree_in job) (sums_in sums) (last_in sums) (width_of job - 1)) (width_of job) (job.nodes - 1)
        → plan₁ ≡ plan_rows_of (problem_of j) (H j + 1) (j.tree.n - 1)
    rows_is e = rw (same-problem, width_is, nodes_is) at e

    peaks_is : peaks₁ ≡ peaks_of (problem (tree_in job) (sums_in sums) (last_in sums) (width_of job - 1)) (job.nodes - 1) → peaks₁ ≡ peaks_of (problem_of j) (j.tree.n - 1)
    peaks_is e = rw (same-problem, nodes_is) at e

    none_early : early_refusal s (length plan₀) (length peaks₀) ≡ 0
    none_early = early_none s (length plan₀) (length peaks₀) acc.none long short

    pub answered : (answer : Result Planned Refusal) → Worked answer job sums (width_of job) plan₀ plan₁ peaks₀ peaks₁
        → Answers answer s plan₀ plan₁ peaks₀ peaks₁
    unfolding Worked Answers
    answered (Err e) w =
        let (i, is_leaf, k, h, crosses) =
        starves_at (tree_in job) j.tree (sums_in sums) (T j) (last_in sums) (T j j.M) (width_of job) (H j + 1) acc.held (sums_of_lem j) (last_of j) width_is w.1.0 in (
          w.1.1.0,
          (
            w.1.1.1,
            inr (
              none_early,
              (
                ap number w.0,
                no_plan_lem j acc.within i (leaf-link j.tree acc.within.tree i is_leaf) k (omega arith) crosses,
              ),
            ),
          ),
        )
    answered (Ok planned) w =
        let fed = fed_at (tree_in job) j.tree (sums_in sums) (T j) (last_in sums) (T j j.M) (width_of job) (H j + 1) acc.held (sums_of_lem j) (last_of j) width_is w.1.1.0 in
        let rows = rows_is w.1.1.1.0 in (
          none_early,
          (
            omega (arith, w.0, width_is),
            (
              w.1.0 ∙ last_of j,
              (
                rows,
                (
                  best_given j acc.within plan₁ rows fed,
                  peaks_is w.1.1.1.1
                      ∙ peaks_given j acc.within plan₁ rows (feasible_given j acc.within plan₁ rows fed),
                ),
              ),
            ),
          ),
        )

-- ---- the peaks by document 01's formula

early_accepts : (s : List ℕ) (p q : ℕ) → early_refusal s p q ≡ 0 → refusal s ≡ 0
early_accepts s p q h = go (ℕ_discrete (refusal s) 0)
  where
    go : Dec (refusal s ≡ 0) → refusal s ≡ 0
    go (yes e) = e
    go (no ne) = sym (early_read s p q ne) ∙ h

-- each peak given is the least peak of its link by document 01's formula, which is `least_peak`, over document 01's own curves
pub peaks_least : (planned : Planned) (s plan₀ plan₁ peaks₀ peaks₁ : List ℕ) → Answers (Ok planned) s plan₀ plan₁ peaks₀ peaks₁
    → let j = job_of s in
    peaks₁ ≡ tab (λ i. least_peak (H j) (lower_curve j.tree (T j) (suc i)) (upper_curve j.tree (T j) (T j j.M) (suc i)))
    (j.tree.n - 1)
unfolding Answers link_peak
peaks_least planned s plan₀ plan₁ peaks₀ peaks₁ (early, (is_last, (is-total, (rows, (best, peaks))))) =
    let j = job_of s in
    let within = accepted_within s (early_accepts s (length plan₀) (length peaks₀) early) in
    let feasible = plan_feasible (problem_of j) (well_formed j within) (plan_in j plan₁)
    (to_theory j within (plan_in j plan₁) best.keeps) in
    peaks
    ∙ sym (peaks_given j within plan₁ rows feasible)
    ∙ tab_cong (λ i. link_peak (problem_of j) (suc i)) _ (j.tree.n - 1) (λ i h.
    least_peak-same (H j) _ _ _ _
    (λ k r. sym (lower_is j.tree within.tree (T j) (T j j.M) (H j) (suc i) k (omega arith, omega arith)))
    (λ k r. sym (upper_is j.tree within.tree (T j) (T j j.M) (H j) (suc i) k (omega arith, omega arith))))
