-- The rules of document 01 and those of the theory are the same: of any plan, and so of the best one.
use mathlib.Core.Bool.{true, false}
use mathlib.Core.Path.{◌≡◌, refl}
use mathlib.Core.Logic.{⊎_elim}
use Prim.Native.Nat.{ℕ, zero, suc, ◌+◌, ◌≤◌, ◌<◌}
use native.Mathlib.Omega.{arith}
use Rattle.base.proofs.BoolLaws.{true_or_false}
use Rattle.job.specs.Tree.{JobData, JobWithin, link, leaf, T, H}
use Rattle.job.proofs.TreeLaws.{link_is, link_in, child_is, child_in}
use Rattle.job.proofs.SlotLaws.{leaf-link}
use Rattle.smoothing.specs.Tree.{Link}
use Rattle.smoothing.specs.Plan as theory
use Rattle.smoothing.specs.Plan.{Problem, WellFormed, Optimal, Feasible, plan}
use Rattle.smoothing.proofs.CurveLaws.{plan_feasible}
use Rattle.smoothing.proofs.OptimalLaws.{plan_optimal, optimal_unique}
use Rattle.curves.specs.Curves.{D, lower_curve, upper_curve, low, high, problem}
use Rattle.curves.proofs.UpperLaws.{high-under}
use Rattle.job.proofs.SumsLaws.{job-film}
use Rattle.curves.proofs.CurveEq.{lower_is, upper_is, problem_well_formed}
use Rattle.planner.specs.Rules.{P2, Keeps, Best}
use Rattle.planner.proofs.RoomLaws.{upper_in_room, feasible_by_room}

-- the theory's problem of a job
abbrev pub problem_of : JobData → Problem
problem_of j = problem j.tree (T j) (T j j.M) (H j)

module _ (j : JobData) (within : JobWithin j) where
  linked : (i : ℕ) → Link j.tree.n i → link j.tree.n i ≡ true
  linked i h = link_is j.tree.n i h.0 h.1

  -- ---- document 01's rules give the theory's

  module _ (S : ℕ → ℕ → ℕ) (keeps : Keeps j S) where
    above_low : (i : ℕ) → Link j.tree.n i → (k : ℕ) → k ≤ H j → low j.tree (T j) i k ≤ S i k
    unfolding low
    above_low i h k r =
        ⊎_elim
        (λ (e : leaf j.tree i ≡ true). rw e (keeps.p2 k r i e).0)
        (λ (e : leaf j.tree i ≡ false). rw e (omega arith))
        (true_or_false (leaf j.tree i))

    below_high : (i : ℕ) → Link j.tree.n i → (k : ℕ) → k ≤ H j → S i k ≤ high j.tree (T j) (T j j.M) i k
    unfolding high
    below_high i h zero r = omega (arith, keeps.starts i (linked i h))
    below_high i h (suc k) r =
        ⊎_elim
        (λ (e : leaf j.tree i ≡ true). rw e (omega (arith, (keeps.p2 (suc k) r i e).1, (keeps.p1 k r i (linked i h)).1)))
        (λ (e : leaf j.tree i ≡ false). rw e (keeps.p1 k r i (linked i h)).1)
        (true_or_false (leaf j.tree i))

    pub to_theory : theory.Keeps (problem_of j) S
    to_theory =
        record {
          starts = λ i h. keeps.starts i (linked i h);
          grows = λ i h k r. (keeps.p1 k r i (linked i h)).0;
          above_low = above_low;
          below_high = below_high;
          closed = λ k r v h ne. keeps.p3 k r (j.tree.parent v) v (omega arith) (child_is j.tree v (j.tree.parent v) h.0 h.1 refl);
        }

  -- ---- the theory's rules give document 01's

  module _ (S : ℕ → ℕ → ℕ) (keeps : theory.Keeps (problem_of j) S) where
    at_leaf : (k : ℕ) → k ≤ H j → (i : ℕ) → leaf j.tree i ≡ true → P2 j k (λ v. S v k) i
    unfolding low high
    at_leaf k r i e =
        let h = link_in j.tree.n i (leaf-link j.tree within.tree i e) in
        (rw e at (keeps.above_low i h k r), most k (keeps.starts i h) (keeps.below_high i h k r))
      where
        most : (k : ℕ) → S i 0 ≡ 0 → S i k ≤ high j.tree (T j) (T j j.M) i k → S i k ≤ D j.tree (T j) i k + j.tree.memory i
        most zero z b = omega arith
        most (suc k) z b = omega (arith, rw e at b)

    pub from_theory : Keeps j S
    from_theory =
        record {
          starts = λ i h. keeps.starts i (link_in j.tree.n i h);
          p1 = λ k r i h.
              let l = link_in j.tree.n i h in (
                keeps.grows i l k r,
                omega (arith, keeps.below_high i l (suc k) r, high-under j.tree within.tree (T j) (T j j.M) i (suc k)),
              );
          p2 = at_leaf;
          p3 = λ k r i c p e.
              let (a, b, q) = child_in j.tree c i e in
              rw q at (keeps.closed k r c (a, b) (omega arith));
        }

  -- ---- so the best plan is the theory's optimal plan, and there is only one

  pub best_of_optimal : (S : ℕ → ℕ → ℕ) → Optimal (problem_of j) S → Best j S
  best_of_optimal S best =
      record {
        keeps = from_theory S best.keeps;
        least_peaks = λ S' other i h. best.least_peaks S' (to_theory S' other) i (link_in j.tree.n i h);
        least_sent = λ S' other same i h.
            best.least_carried S' (to_theory S' other) (λ v l. same v (linked v l)) i (link_in j.tree.n i h);
      }

  pub optimal_of_best : (S : ℕ → ℕ → ℕ) → Best j S → Optimal (problem_of j) S
  optimal_of_best S best =
      record {
        keeps = to_theory S best.keeps;
        least_peaks = λ S' other i h. best.least_peaks S' (from_theory S' other) i (linked i h);
        least_carried = λ S' other same i h. best.least_sent S' (from_theory S' other) (λ v l. same v (link_in j.tree.n v l)) i (linked i h);
      }

  pub best_unique : (S S' : ℕ → ℕ → ℕ) → Best j S → Best j S' → (i : ℕ) → link j.tree.n i ≡ true → (k : ℕ) → k ≤ H j → S i k ≡ S' i k
  best_unique S S' one other i h k r =
      optimal_unique (problem_of j) S S' (optimal_of_best S one) (optimal_of_best S' other) i (link_in j.tree.n i h) k r

  -- ---- the curves decide

  pub well_formed : WellFormed (problem_of j)
  well_formed = problem_well_formed j.tree within.tree (T j) (T j j.M) (H j) (job-film j)

  -- a link and a slot at which lower exceeds upper: no plan keeps the rules
  pub no_plan_lem : (i : ℕ) → link j.tree.n i ≡ true → (k : ℕ) → k ≤ H j
      → upper_curve j.tree (T j) (T j j.M) i k < lower_curve j.tree (T j) i k → (S : ℕ → ℕ → ℕ) → Keeps j S → ⊥
  no_plan_lem i h k r crosses S keeps =
      let l = link_in j.tree.n i h in
      omega (
        arith,
        plan_feasible (problem_of j) well_formed S (to_theory S keeps) i l k r,
        lower_is j.tree within.tree (T j) (T j j.M) (H j) i k l,
        upper_is j.tree within.tree (T j) (T j j.M) (H j) i k l,
      )

  -- looking at the leaves is enough: where at no leaf and no slot lower exceeds upper, it does so nowhere
  pub feasible_by_leaves : ((i : ℕ) → leaf j.tree i ≡ true → (k : ℕ) → k ≤ H j → lower_curve j.tree (T j) i k ≤ upper_curve j.tree (T j) (T j j.M) i k)
      → Feasible (problem_of j)
  feasible_by_leaves fine =
      feasible_by_room j.tree within.tree (T j) (T j j.M) (job-film j) (H j)
      (λ i e k r. omega (arith, fine i e k r, upper_in_room j.tree within.tree (T j) (T j j.M) i k e))

  -- and then the theory's plan is the best
  pub plan_best : ((i : ℕ) → leaf j.tree i ≡ true → (k : ℕ) → k ≤ H j → lower_curve j.tree (T j) i k ≤ upper_curve j.tree (T j) (T j j.M) i k)
      → Best j (plan (problem_of j))
  plan_best fine = best_of_optimal (plan (problem_of j)) (plan_optimal (problem_of j) well_formed (feasible_by_leaves fine))
