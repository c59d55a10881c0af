-- A delay serves with a set of memories in document 01's words just where it does in the theory's.
use mathlib.Core.Bool.{true, false}
use mathlib.Core.Path.{◌≡◌, refl, ap, sym, ◌∙◌}
use mathlib.Core.Logic.{⊎_elim}
use Prim.Native.Nat.{ℕ, zero, suc, ◌+◌, ◌-◌, ◌≤◌, ◌<◌}
use native.Mathlib.Omega.{arith}
use Rattle.base.proofs.BoolLaws.{true_or_false}
use Rattle.base.proofs.RangeLaws.{greatest_over-above, greatest_over-under}
use Rattle.job.specs.Tree.{JobData, JobWithin, link, child, has_child, leaf, T, greatest_delay, H}
use Rattle.job.proofs.ReadLaws.{per_node_in}
use Rattle.job.proofs.SlotLaws.{leaf-link}
use Rattle.job.proofs.TreeLaws.{link_is, link_in, leaf_in, child_is, child_in, inner_has-leaf, root_has-child}
use Rattle.smoothing.specs.Tree.{Link}
use Rattle.smoothing.specs.Tree as theory
use Rattle.smoothing.specs.Plan as theory-plan
use Rattle.smoothing.specs.Rates as theory-rates
use Rattle.smoothing.specs.Rates.{problem_with, low_with, high_with}
use Rattle.curves.specs.Curves.{D}
use Rattle.planner.specs.Rules.{Keeps}
use Rattle.writing.specs.PutBack.{answered_job}
use Rattle.rates.specs.Rates.{Serves}
use Rattle.rates.proofs.TheoryLaws.{leaf-same, question}

module _ (j : JobData) (within : JobWithin j) (w : ℕ) (b : ℕ → ℕ) where
  abbrev answered : JobData
  answered = answered_job j w b

  abbrev n : ℕ
  n = j.tree.n

  -- ---- what the answered job has of the old one

  leaf_kept : (i : ℕ) → leaf answered.tree i ≡ leaf j.tree i
  unfolding leaf has_child child
  leaf_kept i = refl

  T_kept : T answered ≡ T j
  unfolding T
  T_kept = refl

  -- the last slot is M + w
  pub slots : H answered ≡ j.M + w
  unfolding H greatest_delay
  slots =
      let (l, e, q) = inner_has-leaf j.tree within.tree.parents 0 (root_has-child j.tree within.tree) in
      let own : answered.tree.delay l ≡ w = rw e refl in
      omega (
        arith,
        own,
        greatest_over-above (leaf answered.tree) answered.tree.delay n l (leaf_in j.tree l e) (leaf_kept l ∙ e),
        greatest_over-under (leaf answered.tree) answered.tree.delay n w
            (λ i h f. let d : answered.tree.delay i ≡ w = rw (sym (leaf_kept i) ∙ f) refl in omega arith),
      )

  plays : (i k : ℕ) → leaf j.tree i ≡ true → D answered.tree (T j) i k ≡ T j (k - w)
  unfolding D
  plays i k e = rw (leaf_kept i, e) refl

  memory_kept : (i : ℕ) → Link n i → answered.tree.memory i ≡ b i
  memory_kept i h = per_node_in n b i h.0 h.1

  linked : (i : ℕ) → Link n i → link n i ≡ true
  linked i h = link_is n i h.0 h.1

  -- ---- document 01's rules give the theory's

  module _ (S : ℕ → ℕ → ℕ) (keeps : Keeps answered S) where
    p1 : (k : ℕ) → k < j.M + w → (i : ℕ) → Link n i → (S i k ≤ S i (suc k)) × (S i (suc k) ≤ T j j.M)
    p1 k r i h = rw T_kept at (keeps.p1 k (omega (arith, slots)) i (linked i h))

    p2 : (k : ℕ) → k ≤ j.M + w → (i : ℕ) → Link n i → leaf j.tree i ≡ true → (T j (k - w) ≤ S i k) × (S i k ≤ T j (k - w) + b i)
    p2 k r i h e = rw (T_kept, plays i k e, memory_kept i h) at (keeps.p2 k (omega (arith, slots)) i (leaf_kept i ∙ e))

    above_low : (i : ℕ) → Link n i → (k : ℕ) → k ≤ j.M + w → low_with (question j.tree j.M (T j)) w i k ≤ S i k
    above_low i h k r =
        ⊎_elim
        (λ (e : leaf j.tree i ≡ true). rw (leaf-same j.tree i h.1, e) (p2 k r i h e).0)
        (λ (e : leaf j.tree i ≡ false). rw (leaf-same j.tree i h.1, e) (omega arith))
        (true_or_false (leaf j.tree i))

    below_high : (i : ℕ) → Link n i → (k : ℕ) → k ≤ j.M + w → S i k ≤ high_with (question j.tree j.M (T j)) w b i k
    below_high i h zero r = omega (arith, keeps.starts i (linked i h))
    below_high i h (suc k) r =
        ⊎_elim
        (λ (e : leaf j.tree i ≡ true). rw (leaf-same j.tree i h.1, e) (omega (arith, (p2 (suc k) r i h e).1, (p1 k r i h).1)))
        (λ (e : leaf j.tree i ≡ false). rw (leaf-same j.tree i h.1, e) (p1 k r i h).1)
        (true_or_false (leaf j.tree i))

    closed : (k : ℕ) → k ≤ j.M + w → theory.Closed (theory-rates.tree_with (question j.tree j.M (T j)) b) (λ v. S v k)
    closed k r v h ne =
        let u = j.tree.parent v in
        let lower = within.tree.parents v (linked v h) in
        let p = keeps.p3 k (omega (arith, slots)) u v (omega arith) (child_is answered.tree v u h.0 h.1 refl) in
        (p.0, omega (arith, p.1, memory_kept u (omega arith, omega arith)))

    to_theory : theory-plan.Keeps (problem_with (question j.tree j.M (T j)) w b) S
    to_theory =
        record {
          starts = λ i h. keeps.starts i (linked i h);
          grows = λ i h k r. (p1 k r i h).0;
          above_low = above_low;
          below_high = below_high;
          closed = closed;
        }

  -- ---- the theory's rules give document 01's

  module _ (S : ℕ → ℕ → ℕ) (keeps : theory-plan.Keeps (problem_with (question j.tree j.M (T j)) w b) S) where
    ends : (i : ℕ) → Link n i → (k : ℕ) → k < j.M + w → S i (suc k) ≤ T j j.M
    ends i h k r =
        let at = keeps.below_high i h (suc k) r in
        ⊎_elim
        (λ (e : theory.leaf n j.tree.parent i ≡ true). omega (arith, rw e at at))
        (λ (e : theory.leaf n j.tree.parent i ≡ false). omega (arith, rw e at at))
        (true_or_false (theory.leaf n j.tree.parent i))

    has : (k : ℕ) → k ≤ j.M + w → (i : ℕ) → Link n i → leaf j.tree i ≡ true → T j (k - w) ≤ S i k
    has k r i h e = rw (leaf-same j.tree i h.1, e) at (keeps.above_low i h k r)

    room : (k : ℕ) → k ≤ j.M + w → (i : ℕ) → Link n i → leaf j.tree i ≡ true → S i k ≤ T j (k - w) + b i
    room zero r i h e = omega (arith, keeps.starts i h)
    room (suc k) r i h e = omega (arith, rw (leaf-same j.tree i h.1, e) at (keeps.below_high i h (suc k) r))

    at_leaf : (k : ℕ) → k ≤ H answered → (i : ℕ) → leaf answered.tree i ≡ true
        → (D answered.tree (T answered) i k ≤ S i k) × (S i k ≤ D answered.tree (T answered) i k + answered.tree.memory i)
    at_leaf k r i f =
        let e = sym (leaf_kept i) ∙ f in
        let h = link_in n i (leaf-link j.tree within.tree i e) in
        rw (T_kept, plays i k e, memory_kept i h) (has k (omega (arith, slots)) i h e, room k (omega (arith, slots)) i h e)

    at_inner : (k : ℕ) → k ≤ H answered → (i c : ℕ) → 0 < i → child answered.tree c i ≡ true
        → (S c k ≤ S i k) × (S i k ≤ S c k + answered.tree.memory i)
    at_inner k r i c p e =
        let (a, l, q) = child_in answered.tree c i e in
        let lower = within.tree.parents c (linked c (a, l)) in
        let (x, y) = keeps.closed k (omega (arith, slots)) c (a, l) (omega arith) in
        (omega (arith, x, ap (λ v. S v k) q), omega (arith, y, ap (λ v. S v k) q, ap b q, memory_kept i (p, omega arith)))

    from_theory : Keeps answered S
    from_theory =
        record {
          starts = λ i h. keeps.starts i (link_in n i h);
          p1 = λ k r i h.
              let l = link_in n i h in
              (keeps.grows i l k (omega (arith, slots)), rw T_kept (ends i l k (omega (arith, slots))));
          p2 = at_leaf;
          p3 = at_inner;
        }

  -- ---- so what serves is the same

  pub serves-to : Serves j w b → theory-rates.Serves (question j.tree j.M (T j)) w b
  serves-to (S, (keeps, fits)) =
      (S, record { keeps = to_theory S keeps; within_rate = λ v h. rw slots at (fits v (linked v h)) })

  pub serves-from : theory-rates.Serves (question j.tree j.M (T j)) w b → Serves j w b
  serves-from (S, kept) =
      (S, (from_theory S kept.keeps, λ i h. rw slots (kept.within_rate i (link_in n i h))))
