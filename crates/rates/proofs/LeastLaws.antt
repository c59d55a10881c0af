-- Demand 3 of the rate question: the delay is the least that serves, the memories have the least total with which it serves and are the
-- least in order of those that have it, and put back they are answered with a plan within the rates.
use mathlib.Core.Bool.{true, false, cond}
use mathlib.Core.List.{List}
use mathlib.Core.Path.{◌≡◌, refl, ap, sym, fun_ext, ◌∙◌}
use mathlib.Core.Logic.{⊎_elim}
use Prim.Native.Nat.{ℕ, zero, suc, ◌+◌, ◌-◌, ◌≤◌, ◌<◌}
use native.Mathlib.Omega.{arith}
use lib.ListN.{length, get_or}
use Rattle.base.proofs.BoolLaws.{true_or_false}
use Rattle.base.proofs.TableLaws.{get_or-tab}
use Rattle.job.specs.Limits.{longest_delay, greatest_memory}
use Rattle.job.specs.Tree.{JobData, JobWithin, link, leaf, T, H, plan_length}
use Rattle.job.specs.Bytes.{per_node, job_of}
use Rattle.job.specs.Refusal.{refusal}
use Rattle.job.proofs.SlotLaws.{T_top, T-fits, total_in_memory}
use Rattle.job.proofs.TreeLaws.{link_is, link_in}
use Rattle.smoothing.specs.Tree.{Link}
use Rattle.smoothing.specs.Tree as theory-tree
use Rattle.smoothing.specs.Row.{peak}
use Rattle.smoothing.specs.Rates as theory
use Rattle.smoothing.specs.Rates.{RateQuestion, WellFormedRates, LeastMemories}
use Rattle.smoothing.proofs.LazyLaws.{lazy-least}
use Rattle.smoothing.proofs.NeedLaws.{need-least}
use Rattle.smoothing.proofs.SumLaws.{total-same}
use Rattle.smoothing.proofs.ChoiceLaws.{chosen-under}
use Rattle.smoothing.proofs.LeastMemoryLaws.{serves_fast, memory-least}
use Rattle.job.proofs.SumsLaws.{job-film}
use Rattle.planner.specs.Rules.{Best}
use Rattle.std.specs.Prelude.{Result, Ok, Err}
use Rattle.planner.specs.declared.Planned.{Planned}
use Rattle.planner.specs.declared.Refusal.{Refusal}
use Rattle.planner.specs.Answer.{Answers, number_of, plan_in}
use Rattle.planner.proofs.AnswerLaws.{early_none}
use Rattle.writing.specs.PutBack.{answered_job, memories_in}
use Rattle.rates.specs.Rates.{Serves, total, least_rate, start_delay, memory}
use Rattle.pacing.specs.Pace.{in_time}
use Rattle.pacing.proofs.DelayLaws as pacing
use Rattle.rates.proofs.TheoryLaws.{question, good, in_time_fast, fast_in_time, memory_is, total_is}
use Rattle.rates.proofs.ServeLaws.{serves-to, serves-from}

-- ---- memories that agree on the links

module _ (n : ℕ) (b b' : ℕ → ℕ) (same : (i : ℕ) → Link n i → b i ≡ b' i) where
  per_node-same : per_node n b ≡ per_node n b'
  unfolding per_node
  per_node-same = fun_ext each
    where
      each : (i : ℕ) → cond (link n i) (b i) 0 ≡ cond (link n i) (b' i) 0
      each i =
          ⊎_elim
          (λ (e : link n i ≡ true). rw (e, same i (link_in n i e)) refl)
          (λ (e : link n i ≡ false). rw e refl)
          (true_or_false (link n i))

answered-same : (j : JobData) (w : ℕ) (b b' : ℕ → ℕ) → ((i : ℕ) → Link j.tree.n i → b i ≡ b' i)
    → answered_job j w b ≡ answered_job j w b'
answered-same j w b b' same =
    ap (λ (m : ℕ → ℕ). record {
      tree = record {
        n = j.tree.n;
        parent = j.tree.parent;
        delay = λ i. cond (leaf j.tree i) w 0;
        memory = m;
        rate = j.tree.rate;
      };
      M = j.M;
      frame = j.frame;
    })
    (per_node-same j.tree.n b b' same)

serves-same : (j : JobData) (w : ℕ) (b b' : ℕ → ℕ) → ((i : ℕ) → Link j.tree.n i → b i ≡ b' i) → Serves j w b' → Serves j w b
serves-same j w b b' same served = rw (answered-same j w b b' same) served

-- ---- the delay and the memories of an accepted job

module _ (j : JobData) (within : JobWithin j) where
  abbrev Q : RateQuestion
  Q = question j.tree j.M (T j)

  fair : WellFormedRates Q
  fair = good j.tree j.M (T j) within.tree (job-film j)

  in_time_lem : (w : ℕ) (b : ℕ → ℕ) → Serves j w b → in_time (least_rate j.tree) j.M (T j) w ≡ true
  in_time_lem w b served =
      fast_in_time j.tree j.M (T j) within.tree (job-film j) w ((serves_fast Q fair w).0 (b, serves-to j within w b served))

  -- no delay that is shorter serves
  pub delay-least : (w : ℕ) → w ≤ longest_delay → w ≡ start_delay j.tree j.M (T j) → (w' : ℕ) (b' : ℕ → ℕ) → Serves j w' b' → w ≤ w'
  unfolding start_delay
  delay-least w h e w' b' served =
      omega (arith, e, pacing.delay-least (least_rate j.tree) j.M (T j) w' (in_time_lem w' b' served))

  -- where the first in time is past the longest, none serves
  pub none-serves : longest_delay < start_delay j.tree j.M (T j) → (w : ℕ) (b : ℕ → ℕ) → w ≤ longest_delay → Serves j w b → ⊥
  unfolding start_delay
  none-serves past w b h served =
      omega (arith, pacing.delay-least (least_rate j.tree) j.M (T j) w (in_time_lem w b served))

  module _ (w : ℕ) (fits : w ≤ longest_delay) (is-delay : w ≡ start_delay j.tree j.M (T j)) where
    first_in_time : in_time (least_rate j.tree) j.M (T j) w ≡ true
    unfolding start_delay
    first_in_time = rw is-delay (pacing.delay_in_time (least_rate j.tree) j.M (T j) (omega (arith, is-delay)))

    least : LeastMemories Q w (theory.memory Q w)
    least = memory-least Q fair w (in_time_fast j.tree j.M (T j) within.tree (job-film j) w first_in_time)

    module _ (b : ℕ → ℕ) (is-memory : (i : ℕ) → Link j.tree.n i → b i ≡ memory j.tree j.M (T j) w i) where
      is_theory : (i : ℕ) → Link j.tree.n i → b i ≡ theory.memory Q w i
      is_theory i h = is-memory i h ∙ ap (λ (f : ℕ → ℕ). f i) (memory_is j.tree j.M (T j) w)

      pub memory-serves : Serves j w b
      memory-serves = serves-same j w b (theory.memory Q w) is_theory (serves-from j within w (theory.memory Q w) least.serves)

      -- the total, by the theory's word
      total_theory : total j.tree b ≡ theory-tree.total j.tree.n (theory.memory Q w)
      total_theory = total_is j.tree b ∙ total-same j.tree.n b (theory.memory Q w) is_theory

      pub total-least : (b' : ℕ → ℕ) → Serves j w b' → total j.tree b ≤ total j.tree b'
      total-least b' served =
          omega (arith, total_theory, least.least_total b' (serves-to j within w b' served), total_is j.tree b')

      pub least_in_order : (b' : ℕ → ℕ) → Serves j w b' → total j.tree b' ≡ total j.tree b → (i : ℕ) → link j.tree.n i ≡ true
          → ((k : ℕ) → link j.tree.n k ≡ true → k < i → b' k ≡ b k) → b i ≤ b' i
      least_in_order b' served same i h before =
          let l = link_in j.tree.n i h in
          let totals = sym (total_is j.tree b') ∙ same ∙ total_theory in
          omega (
            arith,
            is_theory i l,
            least.least_in_order b' (serves-to j within w b' served) totals i l
                (λ k g m. before k (link_is j.tree.n k g.0 g.1) m ∙ is_theory k g),
          )

      -- no memory is past its bound: no need is more than the film
      need-fits : (i : ℕ) → theory.need Q w i ≤ T j j.M
      need-fits i =
          need-least Q fair w i (T j j.M)
          (λ k h. omega (
            arith,
            lazy-least (j.M + w) (theory.floor_rate Q i) (theory.D Q w) (λ x. T j j.M) k h (λ x p l. T_top j (x - w))
                (λ x p l. omega arith),
          ))

      pub memory-fits : (i : ℕ) → link j.tree.n i ≡ true → b i ≤ greatest_memory
      memory-fits i e =
          let h = link_in j.tree.n i e in
          omega (
            arith,
            is_theory i h,
            chosen-under j.tree.n j.tree.parent (theory.need Q w) fair.ordered (T j j.M) (λ v g. need-fits v) i h,
            T-fits j within j.M,
            total_in_memory,
          )

-- ---- put back

-- of any bytes that say the job with w and b: where w serves with b, the memory question answers 0 and no peak passes its link's rate
pub within-rates : (s' : List ℕ) (j : JobData) (w : ℕ) (b : ℕ → ℕ) → job_of s' ≡ answered_job j w b → refusal s' ≡ 0 → Serves j w b
    → (answer : Result Planned Refusal) (plan₀ plan₁ peaks₀ peaks₁ : List ℕ)
    → length plan₀ ≡ plan_length (job_of s') → length peaks₀ ≡ j.tree.n - 1
    → Answers answer s' plan₀ plan₁ peaks₀ peaks₁
    → (number_of answer ≡ 0) × ((i : ℕ) → link j.tree.n i ≡ true → memories_in peaks₁ i ≤ j.tree.rate i)
unfolding Answers
within-rates s' j w b same read (S, (keeps, fits)) (Err e) plan₀ plan₁ peaks₀ peaks₁ long short says =
    absurd
    (⊎_elim
    (λ early. early.1 (early_none s' (length plan₀) (length peaks₀) read long (short ∙ ap (λ (x : JobData). x.tree.n - 1) (sym same))))
    (λ none. none.1.1 S (rw same keeps))
    says.1.1)
within-rates s' j w b same read (S, (keeps, fits)) (Ok planned) plan₀ plan₁ peaks₀ peaks₁ long short says =
    (refl, λ i h. at i (link_in j.tree.n i h) h)
  where
    best : Best (job_of s') (plan_in (job_of s') plan₁)
    best = says.1.1.1.1.0

    peak_at : (i : ℕ) → Link j.tree.n i → memories_in peaks₁ i ≡ peak (H (job_of s')) (plan_in (job_of s') plan₁ i)
    peak_at zero l = absurd (omega (arith, l.0))
    peak_at (suc i) l =
        let e : suc i - 1 ≡ i = omega arith in
        rw e
        (ap (λ (x : List ℕ). get_or x i 0) says.1.1.1.1.1
        ∙ get_or-tab (λ v. peak (H (job_of s')) (plan_in (job_of s') plan₁ (suc v))) ((job_of s').tree.n - 1) i
        (omega (arith, l.1, ap (λ (x : JobData). x.tree.n) same)))

    at : (i : ℕ) → Link j.tree.n i → link j.tree.n i ≡ true → memories_in peaks₁ i ≤ j.tree.rate i
    at i l h =
        omega (
          arith,
          peak_at i l,
          best.least_peaks S (rw same keeps) i (ap (λ (x : JobData). link x.tree.n i) same ∙ h),
          ap (λ (x : JobData). peak (H x) (S i)) same,
          fits i h,
        )
