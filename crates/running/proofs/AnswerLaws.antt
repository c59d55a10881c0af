-- From the work on a job with slots left to what the step says.
use mathlib.Core.Bool.{Bool, true, false, ◌&&◌}
use mathlib.Core.List.{List}
use mathlib.Core.Path.{◌≡◌, refl, ap, ap₂, ◌∙◌}
use mathlib.Core.Logic.{◌⊎◌, inl, inr}
use Prim.Native.Nat.{ℕ, suc, ◌+◌, ◌-◌, ◌<◌}
use native.Mathlib.Omega.{arith}
use lib.Dec.{eqb}
use lib.ListN.{length}
use borrow.Author.Tests.{eq-eqb, ne_eqb}
use Rattle.base.specs.Table.{tab}
use Rattle.base.proofs.BoolLaws.{and_no_right}
use Rattle.base.proofs.RangeLaws.{least_over_cong}
use Rattle.base.proofs.TableLaws.{get_or-tab, tab_cong}
use Rattle.job.specs.Limits.{most_nodes}
use Rattle.job.specs.Tree.{Tree, JobData, TreeWithin, child, leaf, T, H, plan_length}
use Rattle.job.specs.Bytes.{frame_count, job_of}
use Rattle.job.specs.Refusal as job
use Rattle.job.specs.Refusal.{refusal}
use Rattle.job.specs.declared.Refusal as declared
use Rattle.job.proofs.RefusalLaws.{number_none}
use Rattle.job.specs.Read.{tree_in, Accepted}
use Rattle.job.specs.declared.Job.{Job}
use Rattle.job.proofs.SlotLaws.{leaf-link}
use Rattle.job.proofs.TreeLaws.{link_in, child_in}
use Rattle.smoothing.specs.Tree.{Link}
use Rattle.smoothing.specs.Lists.{family_in, rows_in}
use Rattle.job.specs.Sums.{sums_in, last_in}
use Rattle.job.proofs.SumsLaws.{sums_of_lem, last_of}
use Rattle.curves.proofs.LowerLaws.{parent-lower}
use Rattle.planner.specs.Rules.{P1, P2, P3, ColumnKeeps}
use Rattle.planner.specs.Work.{width_of}
use Rattle.planner.proofs.AnswerLaws.{width_is}
use Rattle.running.specs.declared.Running.{Running}
use Rattle.std.proofs.Common.{Option, Result, Ok, Err, IsErrAnd}
use Rattle.running.specs.declared.Progress.TheVariants.{Taken}
use Rattle.running.specs.declared.Refusal.{Refusal}
use Rattle.running.specs.declared.Refusal.TheVariants.{Job as OfJob, BrokenRule}
use Rattle.running.specs.Running.{carried_in, column, held_at, Breaks, step_refusal, carried_after, Stepped}
use Rattle.running.specs.Work.{breaks, held, after, taken, Advanced, Next}
use Rattle.running.proofs.StepLaws.{breach, no_breach, held_is}
use Rattle.running.proofs.TestLaws.{after-link}

-- ---- refusals 1 to 11

module _ (s : List ℕ) (p a b : ℕ) where
  pub step_read : (refusal s ≡ 0 → ⊥) → step_refusal s p a b ≡ refusal s
  unfolding step_refusal
  step_read h = rw (ne_eqb (refusal s) 0 h) refl

  pub step-plan : refusal s ≡ 0 → (p ≡ plan_length (job_of s) → ⊥) → step_refusal s p a b ≡ 11
  unfolding step_refusal
  step-plan h ne = rw (h, ne_eqb p (plan_length (job_of s)) ne) refl

  pub step_sent : refusal s ≡ 0 → (a ≡ (job_of s).tree.n - 1 → ⊥) → step_refusal s p a b ≡ 11
  unfolding step_refusal
  step_sent h ne =
      let no : (eqb a ((job_of s).tree.n - 1) && eqb b ((job_of s).tree.n - 1)) ≡ false = rw (ne_eqb a ((job_of s).tree.n - 1) ne) refl in
      rw (h, and_no_right (eqb p (plan_length (job_of s))) no) refl

  pub step-held : refusal s ≡ 0 → (b ≡ (job_of s).tree.n - 1 → ⊥) → step_refusal s p a b ≡ 11
  unfolding step_refusal
  step-held h ne =
      let no = and_no_right (eqb a ((job_of s).tree.n - 1)) (ne_eqb b ((job_of s).tree.n - 1) ne) in
      rw (h, and_no_right (eqb p (plan_length (job_of s))) no) refl

  pub step-none : refusal s ≡ 0 → p ≡ plan_length (job_of s) → a ≡ (job_of s).tree.n - 1 → b ≡ (job_of s).tree.n - 1 → step_refusal s p a b ≡ 0
  unfolding step_refusal
  step-none h e f g = rw (h, eq-eqb p (plan_length (job_of s)) e, eq-eqb a ((job_of s).tree.n - 1) f, eq-eqb b ((job_of s).tree.n - 1) g) refl

-- what is refused so changes nothing
module _ (s plan : List ℕ) (x : Running) (sent held : List ℕ) where
  pub stays-early : (e : declared.Refusal) → job.number e ≡ step_refusal s (length plan) (length sent) (length held)
      → Stepped (Err (OfJob e)) s plan x x sent sent held held
  unfolding Stepped
  stays-early e h = (refl, (refl, (refl, inl (h, (λ z. number_none e (h ∙ z), refl)))))

  -- and so where a `?` passes the job's refusal on
  pub stays-passed : (r : Result (Option Running) Refusal) (e : declared.Refusal) → IsErrAnd r (λ y. y ≡ OfJob e)
      → job.number e ≡ step_refusal s (length plan) (length sent) (length held) → Next r s plan x sent sent held held
  stays-passed (Ok y) e h k = absurd h
  stays-passed (Err y) e h k = rw h (stays-early e k)

-- ---- columns with the same numbers on the links

module _ (j : JobData) (within : TreeWithin j.tree) (k : ℕ) (before now now' : ℕ → ℕ) (same : (v : ℕ) → Link j.tree.n v → now v ≡ now' v) where
  -- a child and its parent other than the root are links
  pair : (i c : ℕ) → 0 < i → child j.tree c i ≡ true → (now i ≡ now' i) × (now c ≡ now' c)
  pair i c p e =
      let (a, b, q) = child_in j.tree c i e in
      let lower = parent-lower j.tree within c (a, b) in
      (same i (p, omega (arith, lower, q, b)), same c (a, b))

  pub keeps_same : ColumnKeeps j k before now → ColumnKeeps j k before now'
  keeps_same keeps =
      record {
        p1 = λ i h. rw (same i (link_in j.tree.n i h)) at (keeps.p1 i h);
        p2 = λ i e. rw (same i (link_in j.tree.n i (leaf-link j.tree within i e))) at (keeps.p2 i e);
        p3 = λ i c p e. let (x, y) = pair i c p e in rw (x, y) at (keeps.p3 i c p e);
      }

  pub breaks-same : (i : ℕ) → Breaks j k before now i → Breaks j k before now' i
  breaks-same i (l, w) = (l, go w)
    where
      here : now i ≡ now' i
      here = same i (link_in j.tree.n i l)

      go : (P1 j before now i → ⊥)
          ⊎ (((leaf j.tree i ≡ true) × (P2 j k now i → ⊥))
          ⊎ (((c : ℕ) × (child j.tree c i ≡ true) × (P3 j now i c → ⊥)) ⊎ ((u : ℕ) × (0 < u) × (child j.tree i u ≡ true) × (P3 j now u i → ⊥))))
          → (P1 j before now' i → ⊥)
          ⊎ (((leaf j.tree i ≡ true) × (P2 j k now' i → ⊥))
          ⊎ (((c : ℕ) × (child j.tree c i ≡ true) × (P3 j now' i c → ⊥)) ⊎ ((u : ℕ) × (0 < u) × (child j.tree i u ≡ true) × (P3 j now' u i → ⊥))))
      go (inl f) = inl (λ p. f (rw here p))
      go (inr (inl (e, f))) = inr (inl (e, λ p. f (rw here p)))
      go (inr (inr (inl (c, e, f)))) =
          let (x, y) = pair i c (link_in j.tree.n i l).0 e in
          inr (inr (inl (c, e, λ p. f (rw (x, y) p))))
      go (inr (inr (inr (u, q, e, f)))) =
          let (x, y) = pair u i q e in
          inr (inr (inr (u, q, e, λ p. f (rw (x, y) p))))

  pub held_same : (i : ℕ) → Link j.tree.n i → held_at j k now i ≡ held_at j k now' i
  unfolding held_at
  held_same i h =
      rw (
        same i h,
        least_over_cong (λ c. child j.tree c i) now now' j.tree.n (λ c q e. let (a, b, z) = child_in j.tree c i e in same c (a, b)),
      ) refl

-- ---- the same job, by its struct and by its bytes

breaks_at_lem : (t t' : Tree) (f f' : ℕ → ℕ) (x x' k : ℕ) (before now : ℕ → ℕ) (i : ℕ) (b : Bool) → t ≡ t' → f ≡ f' → x ≡ x' → breaks t f x k before now i ≡ b → breaks t' f' x' k before now i ≡ b
breaks_at_lem t t' f f' x x' k before now i b p q r h = rw (p, q, r) at h

held_at_lem : (t t' : Tree) (f f' : ℕ → ℕ) (k : ℕ) (now : ℕ → ℕ) (i : ℕ) → t ≡ t' → f ≡ f' → held t f k now i ≡ held t' f' k now i
held_at_lem t t' f f' k now i p q = rw (p, q) refl

module _ (s : List ℕ) (job : Job) (acc : Accepted s job) (plan : List ℕ) (x : Running) where
  abbrev j : JobData
  j = job_of s

  abbrev sums : List ℕ
  sums = tab (T (job_of s)) (frame_count s + 1)

  abbrev now : ℕ → ℕ
  now = family_in (taken job plan x)

  nodes_is : job.nodes ≡ j.tree.n
  nodes_is = ap (λ (t : Tree). t.n) acc.held

  count : job.nodes - 1 ≡ j.tree.n - 1
  count = ap (λ (n : ℕ). n - 1) nodes_is

  -- on the links what is taken is the next column
  column_is : (v : ℕ) → Link j.tree.n v → now v ≡ column j plan (suc x.slot) v
  column_is v h =
      get_or-tab (after job.nodes (λ v. rows_in (width_of job) plan v (suc x.slot)) (family_in x.carried)) most_nodes v (omega (arith, h, acc.within.tree.nodes_to))
      ∙ after-link (λ v. rows_in (width_of job) plan v (suc x.slot)) (family_in x.carried) job.nodes v h.0 (omega (arith, h, nodes_is))
      ∙ ap (λ (w : ℕ). rows_in w plan v (suc x.slot)) (width_is s job acc)

  carried_is : taken job plan x ≡ carried_after j (column j plan (suc x.slot)) x.carried
  unfolding after carried_after
  carried_is =
      ap₂ (λ (n w : ℕ). tab (after n (λ v. rows_in w plan v (suc x.slot)) (family_in x.carried)) most_nodes) nodes_is (width_is s job acc)

  module _ (sent₀ sent₁ held₀ held₁ : List ℕ) (early : step_refusal s (length plan) (length sent₀) (length held₀) ≡ 0)
      (slots : x.slot < H j) where
    pub stepped : (y : Running) → Advanced (Ok y) job sums plan x sent₀ sent₁ held₀ held₁
        → Stepped (Ok Taken) s plan x y sent₀ sent₁ held₀ held₁
    unfolding Advanced Stepped
    stepped y (fine, (next, (sent, holds))) =
        let keeps = no_breach j acc.within.tree (suc x.slot) (carried_in x) now (λ i h.
        breaks_at_lem (tree_in job) j.tree (sums_in sums) (T j) (last_in sums) (T j j.M) (suc x.slot) (carried_in x) now i false acc.held
        (sums_of_lem j) (last_of j) (fine i (h.0, omega (arith, h, nodes_is)))) in (
          early,
          (
            slots,
            (
              keeps_same j acc.within.tree (suc x.slot) (carried_in x) now _ column_is keeps,
              (
                next ∙ ap (λ (l : List ℕ). record { slot = suc x.slot; carried = l }) carried_is,
                (
                  sent ∙ ap (tab _) count ∙ tab_cong _ _ (j.tree.n - 1)
                      (λ i h. ap (λ (z : ℕ). z - carried_in x (suc i)) (column_is (suc i) (omega arith, omega arith))),
                  holds ∙ ap (tab _) count ∙ tab_cong _ _ (j.tree.n - 1) (λ i h.
                      held_at_lem (tree_in job) j.tree (sums_in sums) (T j) (suc x.slot) now (suc i) acc.held (sums_of_lem j)
                      ∙ held_is j acc.within.tree (suc x.slot) (carried_in x) now (suc i) (omega arith, omega arith)
                      ∙ held_same j acc.within.tree (suc x.slot) (carried_in x) now _ column_is (suc i) (omega arith, omega arith)),
                ),
              ),
            ),
          ),
        )

    pub stays : (e : Refusal) → Advanced (Err e) job sums plan x sent₀ sent₁ held₀ held₁
        → Stepped (Err e) s plan x x sent₀ sent₁ held₀ held₁
    unfolding Advanced Stepped
    stays (OfJob e) h = absurd h
    stays (BrokenRule l) (sent, (holds, (linked, found))) =
        let broken = breach j acc.within.tree (suc x.slot) (carried_in x) now l (linked.0, omega (arith, linked, nodes_is))
        (breaks_at_lem (tree_in job) j.tree (sums_in sums) (T j) (last_in sums) (T j j.M) (suc x.slot) (carried_in x) now l true acc.held
        (sums_of_lem j) (last_of j) found) in (
          refl,
          (
            sent,
            (
              holds,
              inr (
                early,
                (slots, (refl, breaks-same j acc.within.tree (suc x.slot) (carried_in x) now _ column_is l broken)),
              ),
            ),
          ),
        )

    -- and so where a `?` hands the refusal on
    pub stays-on : (r : Result (Option Running) Refusal) (e : Refusal) → IsErrAnd r (λ y. y ≡ e)
        → Advanced (Err e) job sums plan x sent₀ sent₁ held₀ held₁
        → Next r s plan x sent₀ sent₁ held₀ held₁
    stays-on (Ok y) e h w = absurd h
    stays-on (Err y) e h w = rw h (stays e w)
