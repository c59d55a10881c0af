-- Laws of runs: a plan that keeps the rules is taken to its end, and a plan that is taken to its end keeps them.
use mathlib.Core.Bool.{Bool, true, false, cond, ◌&&◌}
use mathlib.Core.List.{List}
use mathlib.Core.Path.{◌≡◌, refl, ap, sym, ◌∙◌}
use mathlib.Core.Logic.{⊎_elim}
use Prim.Native.Nat.{ℕ, zero, suc, ◌-◌, ◌≤◌, ◌<◌}
use native.Mathlib.Omega.{arith}
use native.Mathlib.Decide.{ℕ_discrete}
use lib.Dec.{eqb}
use lib.ListN.{length, get_or}
use borrow.Author.Tests.{eq-eqb, ne_eqb}
use Rattle.base.proofs.TableLaws.{length-tab, get_or-tab}
use Rattle.job.specs.Limits.{most_nodes}
use Rattle.job.specs.Tree.{JobData, TreeWithin, link, leaf, child, T, H, plan_length}
use Rattle.job.specs.Bytes.{job_of}
use Rattle.job.specs.Refusal.{refusal}
use Rattle.job.proofs.RefusalLaws.{accepted_within}
use Rattle.job.proofs.TreeLaws.{link_in}
use Rattle.job.proofs.SumsLaws.{job-film}
use Rattle.curves.proofs.CurveEq.{D-starts}
use Rattle.planner.specs.Rules.{P1, P2, P3, ColumnKeeps, Keeps}
use Rattle.planner.specs.Answer.{plan_in, Answers}
use Rattle.planner.specs.declared.Planned.{Planned}
use Rattle.running.specs.declared.Running.{Running}
use Rattle.std.proofs.Common.{Ok, Err}
use Rattle.running.specs.declared.Progress.TheVariants.{Taken, Done}
use Rattle.running.specs.Running.{Outcome, link_named, carried_in, column, held_at, step_refusal, carried_after, Stepped, start, Run}
use Rattle.running.specs.Running.{RunsToItsEnd}
use Rattle.running.proofs.StepLaws.{breach_refutes, held_within}
use Rattle.running.proofs.AnswerLaws.{step_read}

-- rows of n - 1 numbers are not refused where others were not
same-refusal : (s : List ℕ) (p a b : ℕ) → step_refusal s p a b ≡ 0 → step_refusal s p ((job_of s).tree.n - 1) ((job_of s).tree.n - 1) ≡ 0
unfolding step_refusal
same-refusal s p a b h =
    let n = (job_of s).tree.n - 1 in
    rw (eq-eqb n n refl) (go (eqb (refusal s) 0) (eqb p (plan_length (job_of s))) (eqb a n && eqb b n) (refusal s) h)
  where
    go : (r p q : Bool) (w : ℕ) → cond r (cond (p && q) 0 11) w ≡ 0 → cond r (cond (p && true) 0 11) w ≡ 0
    go true true q w h = refl
    go true false q w h = h
    go false p q w h = h

module _ (s plan : List ℕ) where
  abbrev job : JobData
  job = job_of s

  -- ---- one step

  module _ (x y : Running) (sent₀ sent₁ held₀ held₁ : List ℕ) where
    -- the column that a step has taken keeps the rules
    column-keeps : Stepped (Ok Taken) s plan x y sent₀ sent₁ held₀ held₁
        → ColumnKeeps job (suc x.slot) (carried_in x) (column job plan (suc x.slot))
    unfolding Stepped
    column-keeps h = h.1.1.0

    -- the slot after it is the next
    slot_next : Stepped (Ok Taken) s plan x y sent₀ sent₁ held₀ held₁ → y.slot ≡ suc x.slot
    unfolding Stepped
    slot_next h = ap (λ (z : Running). z.slot) h.1.1.1.0

    -- and that column is carried
    carried_next : TreeWithin job.tree → Stepped (Ok Taken) s plan x y sent₀ sent₁ held₀ held₁ → (v : ℕ) → link job.tree.n v ≡ true
        → carried_in y v ≡ plan_in job plan v (suc x.slot)
    unfolding Stepped carried_after
    carried_next within h v l =
        ap (λ (z : Running). carried_in z v) h.1.1.1.0
        ∙ get_or-tab (λ u. cond (link job.tree.n u) (plan_in job plan u (suc x.slot)) (get_or x.carried u 0)) most_nodes v (omega (arith, within.nodes_to, (link_in job.tree.n v l).1))
        ∙ rw l

    refusal_next : Stepped (Ok Taken) s plan x y sent₀ sent₁ held₀ held₁ → step_refusal s (length plan) (length sent₁) (length held₁) ≡ 0
    unfolding Stepped
    refusal_next h =
        rw (h.1.1.1.1.0, h.1.1.1.1.1, length-tab, length-tab) (same-refusal s (length plan) (length sent₀) (length held₀) h.0)

    -- what each node holds after it is within its memory
    held_next : TreeWithin job.tree → Stepped (Ok Taken) s plan x y sent₀ sent₁ held₀ held₁ → (i : ℕ) → suc i < job.tree.n
        → get_or held₁ i 0 ≤ job.tree.memory (suc i)
    unfolding Stepped
    held_next within h i l =
        let e = ap (λ (z : List ℕ). get_or z i 0) h.1.1.1.1.1 in
        omega (
          arith,
          e,
          get_or-tab (λ i. held_at job (suc x.slot) (column job plan (suc x.slot)) (suc i)) (job.tree.n - 1) i (omega arith),
          held_within job within (suc x.slot) (carried_in x) (column job plan (suc x.slot)) (column-keeps h) (suc i) (omega arith),
        )

    -- a column that keeps the rules is taken while slots are left
    is_taken : TreeWithin job.tree → step_refusal s (length plan) (length sent₀) (length held₀) ≡ 0 → x.slot < H job
        → ColumnKeeps job (suc x.slot) (carried_in x) (column job plan (suc x.slot)) → (o : Outcome)
        → Stepped o s plan x y sent₀ sent₁ held₀ held₁ → o ≡ Ok Taken
    unfolding Stepped
    is_taken within z l keeps (Ok Taken) h = refl
    is_taken within z l keeps (Ok Done) h = absurd (omega (arith, h.1.0))
    is_taken within z l keeps (Err e) h =
        absurd (⊎_elim
        (λ r. r.1.0 z)
        (λ r. breach_refutes job within (suc x.slot) (carried_in x) (column job plan (suc x.slot)) (link_named e) r.1.1.1 keeps)
        h.1.1.1)

    -- and where none is left the step says done
    is_done : step_refusal s (length plan) (length sent₀) (length held₀) ≡ 0 → H job ≤ x.slot → (o : Outcome)
        → Stepped o s plan x y sent₀ sent₁ held₀ held₁ → o ≡ Ok Done
    unfolding Stepped
    is_done z l (Ok Taken) h = absurd (omega (arith, h.1.0))
    is_done z l (Ok Done) h = refl
    is_done z l (Err e) h = absurd (⊎_elim (λ r. r.1.0 z) (λ r. omega (arith, r.1.0)) h.1.1.1)

  -- ---- runs

  -- nothing is carried at the start
  starts_empty : TreeWithin job.tree → (x : Running) → x ≡ start → (v : ℕ) → link job.tree.n v ≡ true → carried_in x v ≡ 0
  starts_empty within x e v l =
      ap (λ (z : Running). carried_in z v) e ∙ get_or-tab (λ u. 0) most_nodes v (omega (arith, within.nodes_to, (link_in job.tree.n v l).1))

  module _ (within : TreeWithin job.tree) (keeps : Keeps job (plan_in job plan)) (state : ℕ → Running) (outcome : ℕ → Outcome) (sent held : ℕ → List ℕ)
      (fits : step_refusal s (length plan) (length (sent 0)) (length (held 0)) ≡ 0) (m : ℕ) (run : Run s plan m state outcome sent held) where
    -- before step k: slot k, the plan's column k, and rows that are not refused
    abbrev Ready : ℕ → Type 0
    Ready k =
        ((state k).slot ≡ k)
        × ((v : ℕ) → link job.tree.n v ≡ true → carried_in (state k) v ≡ plan_in job plan v k)
        × (step_refusal s (length plan) (length (sent k)) (length (held k)) ≡ 0)

    next_keeps : (k : ℕ) → k < H job → Ready k → ColumnKeeps job (suc (state k).slot) (carried_in (state k)) (column job plan (suc (state k).slot))
    next_keeps k l (a, b, z) =
        rw a (record {
          p1 = λ i h. let p = keeps.p1 k l i h in (rw (b i h) p.0, p.1);
          p2 = λ i h. keeps.p2 (suc k) l i h;
          p3 = λ i c p h. keeps.p3 (suc k) l i c p h;
        })

    taken_at : (k : ℕ) → k < m → k < H job → Ready k → outcome k ≡ Ok Taken
    taken_at k q l r =
        is_taken (state k) (state (suc k)) (sent k) (sent (suc k)) (held k) (held (suc k)) within r.2 (rw r.0 l) (next_keeps k l r) (outcome k) (run.steps k q)

    step_at : (k : ℕ) → k < m → k < H job → Ready k
        → Stepped (Ok Taken) s plan (state k) (state (suc k)) (sent k) (sent (suc k)) (held k) (held (suc k))
    step_at k q l r = rw (taken_at k q l r) at (run.steps k q)

    ready : (k : ℕ) → k ≤ m → k ≤ H job → Ready k
    ready zero q l =
        (ap (λ (z : Running). z.slot) run.starts, λ v h. starts_empty within (state 0) run.starts v h ∙ sym (keeps.starts v h), fits)
    ready (suc k) q l =
        let r = ready k (omega arith) (omega arith) in
        let h = step_at k q l r in (
          slot_next (state k) (state (suc k)) (sent k) (sent (suc k)) (held k) (held (suc k)) h ∙ ap suc r.0,
          λ v e. carried_next (state k) (state (suc k)) (sent k) (sent (suc k)) (held k) (held (suc k)) within h v e ∙ ap (λ (z : ℕ). plan_in job plan v (suc z)) r.0,
          refusal_next (state k) (state (suc k)) (sent k) (sent (suc k)) (held k) (held (suc k)) h,
        )

  -- a plan that keeps the rules runs to its end
  pub runs-to_its_end : TreeWithin (job_of s).tree → Keeps (job_of s) (plan_in (job_of s) plan)
      → (state : ℕ → Running) (outcome : ℕ → Outcome) (sent held : ℕ → List ℕ) → step_refusal s (length plan) (length (sent 0)) (length (held 0)) ≡ 0
      → Run s plan (suc (H (job_of s))) state outcome sent held → RunsToItsEnd s plan state outcome held
  runs-to_its_end within keeps state outcome sent held fits run =
      let e = H job in
      let r = at e (omega arith) in
      record {
        taken = λ k l. taken_at within keeps state outcome sent held fits (suc (H job)) run k (omega arith) l (at k (omega arith));
        done = is_done (state e) (state (suc e)) (sent e) (sent (suc e)) (held e) (held (suc e)) r.2 (omega (arith, r.0)) (outcome e) (run.steps e (omega arith));
        last_column = r.1;
        held_within = λ k i l q.
            held_next (state k) (state (suc k)) (sent k) (sent (suc k)) (held k) (held (suc k)) within
            (step_at within keeps state outcome sent held fits (suc (H job)) run k (omega arith) l (at k (omega arith)))
            i
            q;
      }
    where
      at : (k : ℕ) → k ≤ H job → Ready within keeps state outcome sent held fits (suc (H job)) run k
      at k l = ready within keeps state outcome sent held fits (suc (H job)) run k (omega arith) l

  module _ (within : TreeWithin job.tree) (state : ℕ → Running) (outcome : ℕ → Outcome) (sent held : ℕ → List ℕ) (run : Run s plan (H job) state outcome sent held)
      (taken : (k : ℕ) → k < H job → outcome k ≡ Ok Taken) where
    -- the plan with zeros as column 0
    abbrev Started : ℕ → ℕ → ℕ
    Started i k = cond (eqb k 0) 0 (plan_in job plan i k)

    started_next : (i k : ℕ) → Started i (suc k) ≡ plan_in job plan i (suc k)
    started_next i k = rw (ne_eqb (suc k) 0 (λ q. omega arith))

    step_of : (k : ℕ) → k < H job → Stepped (Ok Taken) s plan (state k) (state (suc k)) (sent k) (sent (suc k)) (held k) (held (suc k))
    step_of k l = rw (taken k l) at (run.steps k l)

    slot_of : (k : ℕ) → k ≤ H job → (state k).slot ≡ k
    slot_of zero l = ap (λ (z : Running). z.slot) run.starts
    slot_of (suc k) l =
        slot_next (state k) (state (suc k)) (sent k) (sent (suc k)) (held k) (held (suc k)) (step_of k l) ∙ ap suc (slot_of k (omega arith))

    carried_of : (k : ℕ) → k ≤ H job → (v : ℕ) → link job.tree.n v ≡ true → carried_in (state k) v ≡ Started v k
    carried_of zero l v h = starts_empty within (state 0) run.starts v h
    carried_of (suc k) l v h =
        carried_next (state k) (state (suc k)) (sent k) (sent (suc k)) (held k) (held (suc k)) within (step_of k l) v h
        ∙ ap (λ (z : ℕ). plan_in job plan v (suc z)) (slot_of k (omega arith))
        ∙ sym (started_next v k)

    column_of : (k : ℕ) → k < H job → ColumnKeeps job (suc k) (carried_in (state k)) (column job plan (suc k))
    column_of k l =
        rw (slot_of k (omega arith)) at (column-keeps (state k) (state (suc k)) (sent k) (sent (suc k)) (held k) (held (suc k)) (step_of k l))

    leaves_of : (k : ℕ) → k ≤ H job → (i : ℕ) → leaf job.tree i ≡ true → P2 job k (λ v. Started v k) i
    leaves_of zero l i h = omega (arith, D-starts job.tree within (T job) (T job job.M) (H job) (job-film job) i)
    leaves_of (suc k) l i h = rw (started_next i k) ((column_of k l).p2 i h)

    pairs_of : (k : ℕ) → k ≤ H job → (i c : ℕ) → 0 < i → child job.tree c i ≡ true → P3 job (λ v. Started v k) i c
    pairs_of zero l i c p h = omega arith
    pairs_of (suc k) l i c p h = rw (started_next i k, started_next c k) ((column_of k l).p3 i c p h)

    links_of : (k : ℕ) → k < H job → (i : ℕ) → link job.tree.n i ≡ true → P1 job (λ v. Started v k) (λ v. Started v (suc k)) i
    links_of k l i h = rw (← carried_of k (omega arith) i h, started_next i k) ((column_of k l).p1 i h)

  -- where H steps in a row are taken, the plan's columns 1 to H, with zeros as column 0, keep the rules
  pub taken-keeps : TreeWithin (job_of s).tree → (state : ℕ → Running) (outcome : ℕ → Outcome) (sent held : ℕ → List ℕ) → Run s plan (H (job_of s)) state outcome sent held
      → ((k : ℕ) → k < H (job_of s) → outcome k ≡ Ok Taken) → Keeps (job_of s) (λ i k. cond (eqb k 0) 0 (plan_in (job_of s) plan i k))
  taken-keeps within state outcome sent held run taken =
      record {
        starts = λ i h. refl;
        p1 = links_of within state outcome sent held run taken;
        p2 = leaves_of within state outcome sent held run taken;
        p3 = pairs_of within state outcome sent held run taken;
      }

-- a plan given by the memory question runs to its end: its answer says that the plan keeps the rules
pub answered-keeps : (planned : Planned) (s plan₀ plan₁ peaks₀ peaks₁ : List ℕ) → Answers (Ok planned) s plan₀ plan₁ peaks₀ peaks₁
    → Keeps (job_of s) (plan_in (job_of s) plan₁)
unfolding Answers
answered-keeps planned s plan₀ plan₁ peaks₀ peaks₁ h = h.1.1.1.1.0.keeps

-- where none of 1 to 11 applies, the job is within the limits
none_within : (s : List ℕ) (p a b : ℕ) → step_refusal s p a b ≡ 0 → TreeWithin (job_of s).tree
none_within s p a b z = go (ℕ_discrete (refusal s) 0)
  where
    go : Dec (refusal s ≡ 0) → TreeWithin (job_of s).tree
    go (yes e) = (accepted_within s e).tree
    go (no ne) = absurd (ne (sym (step_read s p a b ne) ∙ z))

-- so a plan given by the memory question runs to its end
pub answered-runs : (planned : Planned) (s plan₀ plan₁ peaks₀ peaks₁ : List ℕ) → Answers (Ok planned) s plan₀ plan₁ peaks₀ peaks₁
    → (state : ℕ → Running) (outcome : ℕ → Outcome) (sent held : ℕ → List ℕ) → step_refusal s (length plan₁) (length (sent 0)) (length (held 0)) ≡ 0
    → Run s plan₁ (suc (H (job_of s))) state outcome sent held → RunsToItsEnd s plan₁ state outcome held
answered-runs planned s plan₀ plan₁ peaks₀ peaks₁ answer state outcome sent held fits run =
    runs-to_its_end s plan₁ (none_within s (length plan₁) (length (sent 0)) (length (held 0)) fits)
    (answered-keeps planned s plan₀ plan₁ peaks₀ peaks₁ answer) state outcome sent held fits run
