-- Document 01's eight starred cases: one test, computed over the table from job bytes, and what a line that passes it says.
use mathlib.Core.Bool.{Bool, true, false, cond, not, ◌&&◌, ◌||◌}
use mathlib.Core.List.{List, [], ◌∷◌}
use mathlib.Core.Path.{◌≡◌, refl, ap, sym, ◌∙◌}
use mathlib.Core.Logic.{◌⊎◌, inl, inr, ⊎_elim}
use Prim.Native.Nat.{ℕ, suc, ◌+◌, ◌-◌, ◌≤◌, ◌<◌}
use native.Mathlib.Omega.{arith}
use native.Mathlib.Nat.{mul-le-mul_left}
use lib.Dec.{eqb, ltb}
use Rattle.std.specs.Prelude.{Ok, Err}
use lib.ListN.{length, get_or}
use borrow.Author.Tests.{ltb-true, ltb-false, eqb-true}
use Rattle.base.specs.Number.{number}
use Rattle.base.specs.Range.{sum, some, how_many, sum_over, fold, least_over, greatest}
use Rattle.base.specs.Table.{tab, rows_of}
use Rattle.base.proofs.BoolLaws.{true_or_false, and_left, and_right, or_cases, otherwise, not_both, lt_or_le}
use Rattle.base.proofs.RangeLaws.{none_passes, which_passes, first_is}
use Rattle.base.proofs.TableLaws.{length-tab}
use Rattle.job.specs.Limits.{longest_delay}
use Rattle.job.specs.Tree.{JobData, JobWithin, link, child, has_child, leaf, meets, below, T, greatest_delay, H}
use Rattle.job.specs.Bytes.{mark, version, node_count, frame_count, parent_at, delay_at, memory_at, rate_at, frame_at, wanted_length, per_node}
use Rattle.job.specs.Bytes.{job_of}
use Rattle.job.specs.Refusal.{refusal}
use Rattle.job.proofs.RefusalLaws.{accepted_within}
use Rattle.job.proofs.SlotLaws.{leaf-link}
use Rattle.job.proofs.TreeLaws.{leaf_in}
use Rattle.smoothing.specs.Tree.{put, unless_root, turn_up, turn_down, pass_up, pass_down, close, «open»}
use Rattle.smoothing.specs.Choice.{second_need, handed, ask_of, ask, chosen}
use Rattle.smoothing.specs.Row.{peak, ceil_div, least_peak, lazy_before, lazy}
use Rattle.smoothing.specs.Plan.{lower, upper, link_peak, lazy_plan, plan}
use Rattle.curves.specs.Curves.{D, lower_in, lower_curve, room_in, room, least_up, upper_curve, leaf_below, low, high}
use Rattle.job.specs.Sums.{sums_in}
use Rattle.job.proofs.SumsLaws.{sums_of_lem, job_sums}
use Rattle.planner.specs.Answer.{no_plan, Answers, plan_in, rows_defined}
use Rattle.planner.proofs.KeepLaws.{problem_of, no_plan_lem, plan_best}
use Rattle.planner.proofs.AnswerLaws.{early_none}
use Rattle.writing.specs.PutBack.{memories_in}
use Rattle.pacing.specs.Pace.{in_time, no_delay, ahead, most_ahead}
use Rattle.pacing.proofs.DelayLaws.{in_time_each, each_in_time}
use Rattle.rates.specs.Rates.{total, floor_rate, least_rate, start_delay, memory}
use Rattle.rates.specs.Answer.{Sizes}
use Rattle.rates.specs.Work.{memory_by}
use Rattle.rates.specs.Starred.{spell, Line, table, MemorySays, RateSays, Says, Holds}
use Rattle.rates.proofs.AnswerLaws as rates
use Rattle.rates.proofs.LeastLaws.{memory-serves}
use Rattle.rates.proofs.WorkLaws.{needs_of, memories_by}

-- ---- the test of a line

-- two lists have the same entries
same : {A : Type 0} → (A → A → Bool) → List A → List A → Bool
same eq [] [] = true
same eq [] (y ∷ l) = false
same eq (x ∷ k) [] = false
same eq (x ∷ k) (y ∷ l) = eq x y && same eq k l

same_rows : List (List ℕ) → List (List ℕ) → Bool
same_rows = same (same eqb)

-- at some leaf and slot lower exceeds upper
starving : JobData → Bool
starving j =
    some
    (λ i. leaf j.tree i && some (λ k. ltb (upper_curve j.tree (T j) (T j j.M) i k) (lower_curve j.tree (T j) i k)) (H j + 1))
    j.tree.n

-- the peaks of a plan
peaks_in : JobData → List ℕ → List ℕ
peaks_in j plan = tab (λ i. peak (H j) (plan_in j plan (suc i))) (j.tree.n - 1)

-- the memories of a job, by passes over its film
memories_of : JobData → List ℕ
memories_of j = tab (λ i. memory_by j.tree (needs_of j.tree (tab (T j) (j.M + 1))) (suc i)) (j.tree.n - 1)

-- a delay is in time at the least rate
on_time : JobData → ℕ → Bool
on_time j w = in_time (least_rate j.tree) j.M (T j) w

-- a refusal by this number: the other values are 0 and nothing is filled
refused_so : ℕ → List ℕ → List (List ℕ) → Bool
refused_so number values filled = same eqb values (number ∷ 0 ∷ 0 ∷ []) && same_rows filled []

-- the plan that the curves define, with its peaks
planned_so : JobData → List ℕ → List (List ℕ) → Bool
planned_so j values filled =
    same eqb values (0 ∷ H j ∷ T j j.M ∷ []) && same_rows filled (peaks_in j (get_or filled 1 []) ∷ rows_defined j ∷ [])

-- a delay that is in time while the one before it is not, with the memories and their total
sized_so : JobData → List ℕ → List (List ℕ) → Bool
sized_so j values filled =
    on_time j (get_or values 1 0)
    && ((eqb (get_or values 1 0) 0 || not (on_time j (get_or values 1 0 - 1)))
    && (same eqb values (0 ∷ get_or values 1 0 ∷ total j.tree (memories_in (get_or filled 0 [])) ∷ []) && same_rows filled
    (memories_of j ∷ [])))

memory_test : List ℕ → List ℕ → List (List ℕ) → Bool
memory_test s values filled =
    eqb (refusal s) 0 && cond (starving (job_of s)) (refused_so no_plan values filled) (planned_so (job_of s) values filled)

rate_test : List ℕ → List ℕ → List (List ℕ) → Bool
rate_test s values filled =
    eqb (refusal s) 0 && cond (on_time (job_of s) longest_delay) (sized_so (job_of s) values filled) (refused_so no_delay values filled)

passes : Line → Bool
passes line =
    cond line.memory (memory_test line.job line.values line.filled) (rate_test line.job line.values line.filled)

pass_all : List Line → Bool
pass_all [] = true
pass_all (line ∷ lines) = passes line && pass_all lines

-- ---- what passes is so

same_is : {A : Type 0} (eq : A → A → Bool) → ((x y : A) → eq x y ≡ true → x ≡ y) → (k l : List A) → same eq k l ≡ true → k ≡ l
unfolding same
same_is eq right [] [] h = refl
same_is eq right [] (y ∷ l) h = absurd (not_both h refl)
same_is eq right (x ∷ k) [] h = absurd (not_both h refl)
same_is eq right (x ∷ k) (y ∷ l) h =
    rw (right x y (and_left (eq x y) (same eq k l) h), same_is eq right k l (and_right (eq x y) (same eq k l) h)) refl

same_row : (k l : List ℕ) → same eqb k l ≡ true → k ≡ l
same_row = same_is eqb eqb-true

same-rows : (k l : List (List ℕ)) → same_rows k l ≡ true → k ≡ l
unfolding same_rows
same-rows = same_is (same eqb) same_row

-- a longer delay is in time where a shorter one is
time_grows : (j : JobData) (w w' : ℕ) → w ≤ w' → on_time j w ≡ true → on_time j w' ≡ true
unfolding on_time
time_grows j w w' h e =
    let r = least_rate j.tree in
    each_in_time r j.M (T j) w'
    (λ m l. let more : m + w ≤ m + w' = omega arith in omega (arith, in_time_each r j.M (T j) w e m l, mul-le-mul_left r more))

-- ---- the memory question

module _ (s : List ℕ) (none : refusal s ≡ 0) where
  abbrev j : JobData
  j = job_of s

  within : JobWithin (job_of s)
  within = accepted_within s none

  -- no leaf starves: the answer is the plan that the curves define, with its peaks
  planned : starving (job_of s) ≡ false
      → MemorySays s (0 ∷ H (job_of s) ∷ T (job_of s) (job_of s).M ∷ []) (peaks_in (job_of s) (rows_defined (job_of s)) ∷ rows_defined
      (job_of s) ∷ [])
  unfolding starving peaks_in Answers
  planned fed (Err e) plan₀ plan₁ peaks₀ peaks₁ long short says =
      let fine : (i : ℕ) → leaf j.tree i ≡ true → (k : ℕ) → k ≤ H j → lower_curve j.tree (T j) i k ≤ upper_curve j.tree (T j)
      (T j j.M) i k =
      λ i l k h.
      let inner = none_passes _ j.tree.n fed i (leaf_in j.tree i l) in
      ltb-false _ _ (none_passes _ (H j + 1) (rw l at inner) k (omega arith)) in
      absurd
      (⊎_elim
      (λ early. early.1 (early_none s (length plan₀) (length peaks₀) none long short))
      (λ no. no.1.1 (plan (problem_of j)) (plan_best j within fine).keeps)
      says.1.1)
  planned fed (Ok answer) plan₀ plan₁ peaks₀ peaks₁ long short says =
      let rows : plan₁ ≡ rows_defined j = says.1.1.1.0 in
      let tops : peaks₁ ≡ tab (λ i. peak (H j) (plan_in j (rows_defined j) (suc i))) (j.tree.n - 1) = says.1.1.1.1.1 ∙ rw rows refl in
      (rw (says.1.0, says.1.1.0) refl, rw (rows, tops) refl)

  -- one starves: the answer is 12
  starved : starving (job_of s) ≡ true → MemorySays s (12 ∷ 0 ∷ 0 ∷ []) []
  unfolding starving Answers
  starved found (Err e) plan₀ plan₁ peaks₀ peaks₁ long short says =
      ⊎_elim
      (λ early. absurd (early.1 (early_none s (length plan₀) (length peaks₀) none long short)))
      (λ no. (rw no.1.0 refl, refl))
      says.1.1
  starved found (Ok answer) plan₀ plan₁ peaks₀ peaks₁ long short says =
      let (i, l, e) = which_passes _ j.tree.n found in
      let (k, q, f) = which_passes _ (H j + 1) (and_right (leaf j.tree i) _ e) in
      absurd
      (no_plan_lem j within i (leaf-link j.tree within.tree i (and_left (leaf j.tree i) _ e)) k (omega arith) (ltb-true _ _ f)
      (plan_in j plan₁) says.1.1.1.1.0.keeps)

  -- ---- the rate question

  -- the first delay that is in time is a delay that is, while the one before it is not
  delay_at_lem : (w : ℕ) → w ≤ longest_delay → on_time (job_of s) w ≡ true → (eqb w 0 || not (on_time (job_of s) (w - 1))) ≡ true
      → w ≡ start_delay (job_of s).tree (job_of s).M (T (job_of s))
  unfolding start_delay on_time
  delay_at_lem w h right slow =
      first_is (in_time (least_rate j.tree) j.M (T j)) (longest_delay + 1) w (omega arith) (λ q. right)
      (λ y q. otherwise (on_time j y) (λ e.
      ⊎_elim
      (λ (z : eqb w 0 ≡ true). omega (arith, eqb-true w 0 z))
      (λ (z : not (on_time j (w - 1)) ≡ true). not_both (rw (time_grows j y (w - 1) (omega arith) e) at z) refl)
      (or_cases (eqb w 0) (not (on_time j (w - 1))) slow)))

  -- and it is no longer than the longest, where that is in time
  delay-fits : (w : ℕ) → on_time (job_of s) longest_delay ≡ true → (eqb w 0 || not (on_time (job_of s) (w - 1))) ≡ true → w ≤ longest_delay
  delay-fits w late slow =
      ⊎_elim
      (λ (z : eqb w 0 ≡ true). omega (arith, eqb-true w 0 z))
      (λ (z : not (on_time j (w - 1)) ≡ true). ⊎_elim
      (λ (l : longest_delay < w). absurd (not_both (rw (time_grows j longest_delay (w - 1) (omega arith) late) at z) refl))
      (λ (l : w ≤ longest_delay). l)
      (lt_or_le longest_delay w))
      (or_cases (eqb w 0) (not (on_time j (w - 1))) slow)

  delay-none : on_time (job_of s) longest_delay ≡ false → longest_delay + 1 ≡ start_delay (job_of s).tree (job_of s).M (T (job_of s))
  unfolding start_delay on_time
  delay-none late =
      first_is (in_time (least_rate j.tree) j.M (T j)) (longest_delay + 1) (longest_delay + 1) (omega arith) (λ q. absurd (omega arith))
      (λ y q. otherwise (on_time j y) (λ e. not_both (time_grows j y longest_delay (omega arith) e) late))

  sized : (w : ℕ) → w ≤ longest_delay → w ≡ start_delay (job_of s).tree (job_of s).M (T (job_of s))
      → RateSays s (0 ∷ w ∷ total (job_of s).tree (memories_in (memories_of (job_of s))) ∷ []) (memories_of (job_of s) ∷ [])
  unfolding memories_of Sizes
  sized w fits is-delay (Err e) memories₀ memories₁ long says =
      absurd
      (⊎_elim
      (λ early. early.1 (rates.early_none s (length memories₀) none long))
      (λ no. no.1.1 w (memory j.tree j.M (T j) w) fits (memory-serves j within w fits is-delay (memory j.tree j.M (T j) w)
      (λ i h. refl)))
      says.1)
  sized w fits is-delay (Ok sizing) memories₀ memories₁ long says =
      let is-w : sizing.delay ≡ w = says.1.1.0 ∙ sym is-delay in
      let sums = tab (T j) (j.M + 1) in
      let by : tab (λ i. memory_by j.tree (needs_of j.tree sums) (suc i)) (j.tree.n - 1) ≡ tab
      (λ i. memory j.tree j.M (T j) w (suc i)) (j.tree.n - 1) =
      memories_by j.tree within.tree sums (job_sums j within) j.M (length-tab (T j) (j.M + 1)) w
      ∙ ap (λ (f : ℕ → ℕ). tab (λ i. memory j.tree j.M f w (suc i)) (j.tree.n - 1)) (sums_of_lem j) in
      let filled : memories₁ ≡ memories_of j = rw is-w at says.1.1.1.0 ∙ sym by in
      (rw (is-w, says.1.1.1.1.0, filled) refl, rw filled refl)

  none_in_time : longest_delay < start_delay (job_of s).tree (job_of s).M (T (job_of s)) → RateSays s (no_delay ∷ 0 ∷ 0 ∷ []) []
  unfolding Sizes
  none_in_time past (Err e) memories₀ memories₁ long says =
      ⊎_elim
      (λ early. absurd (early.1 (rates.early_none s (length memories₀) none long)))
      (λ no. (rw no.1.0 refl, refl))
      says.1
  none_in_time past (Ok sizing) memories₀ memories₁ long says = absurd (omega (arith, says.1.0, says.1.1.0))

-- ---- a line that passes is true

rate-says_at : (s : List ℕ) (v v' : List ℕ) (f f' : List (List ℕ)) → v ≡ v' → f ≡ f' → RateSays s v' f' → RateSays s v f
rate-says_at s v v' f f' p q h = rw (p, q) h

module _ (values : List ℕ) (filled : List (List ℕ)) where
  refused_so_lem : (number : ℕ) → refused_so number values filled ≡ true → (values ≡ number ∷ 0 ∷ 0 ∷ []) × (filled ≡ [])
  unfolding refused_so
  refused_so_lem number h =
      let value = same eqb values (number ∷ 0 ∷ 0 ∷ []) in
      let rows = same_rows filled [] in
      (same_row _ _ (and_left value rows h), same-rows _ _ (and_right value rows h))

  planned_so_lem : (j : JobData) → planned_so j values filled ≡ true
      → (values ≡ 0 ∷ H j ∷ T j j.M ∷ []) × (filled ≡ peaks_in j (rows_defined j) ∷ rows_defined j ∷ [])
  unfolding planned_so
  planned_so_lem j h =
      let value = same eqb values (0 ∷ H j ∷ T j j.M ∷ []) in
      let rows = same_rows filled (peaks_in j (get_or filled 1 []) ∷ rows_defined j ∷ []) in
      let are = same-rows filled _ (and_right value rows h) in
      let is-plan : get_or filled 1 [] ≡ rows_defined j = ap (λ (f : List (List ℕ)). get_or f 1 []) are in
      (same_row _ _ (and_left value rows h), are ∙ ap (λ (p : List ℕ). peaks_in j p ∷ rows_defined j ∷ []) is-plan)

  sized_so_lem : (j : JobData) → sized_so j values filled ≡ true
      → (on_time j (get_or values 1 0) ≡ true)
      × (((eqb (get_or values 1 0) 0 || not (on_time j (get_or values 1 0 - 1))) ≡ true)
      × ((values ≡ 0 ∷ get_or values 1 0 ∷ total j.tree (memories_in (memories_of j)) ∷ []) × (filled ≡ memories_of j ∷ [])))
  unfolding sized_so
  sized_so_lem j h =
      let now = on_time j (get_or values 1 0) in
      let late = eqb (get_or values 1 0) 0 || not (on_time j (get_or values 1 0 - 1)) in
      let value = same eqb values (0 ∷ get_or values 1 0 ∷ total j.tree (memories_in (get_or filled 0 [])) ∷ []) in
      let rows = same_rows filled (memories_of j ∷ []) in
      let rest = and_right now (late && (value && rows)) h in
      let last = and_right late (value && rows) rest in
      let are = same-rows filled _ (and_right value rows last) in
      let is-memories : get_or filled 0 [] ≡ memories_of j = ap (λ (f : List (List ℕ)). get_or f 0 []) are in (
        and_left now (late && (value && rows)) h,
        (
          and_left late (value && rows) rest,
          (
            same_row values _ (and_left value rows last) ∙ ap (λ (m : List ℕ). 0 ∷ get_or values 1 0 ∷ total j.tree (memories_in m) ∷ [])
                is-memories,
            are,
          ),
        ),
      )

memory-line : (s values : List ℕ) (filled : List (List ℕ)) → memory_test s values filled ≡ true → MemorySays s values filled
unfolding memory_test
memory-line s values filled h = go (and_right (eqb (refusal s) 0) _ h) (true_or_false (starving (job_of s)))
  where
    none : refusal s ≡ 0
    none = eqb-true (refusal s) 0 (and_left (eqb (refusal s) 0) _ h)

    go : cond (starving (job_of s)) (refused_so no_plan values filled) (planned_so (job_of s) values filled) ≡ true
        → (starving (job_of s) ≡ true) ⊎ (starving (job_of s) ≡ false) → MemorySays s values filled
    go test (inl e) = let (are, rows) = refused_so_lem values filled 12 (rw e at test) in rw (are, rows) (starved s none e)
    go test (inr e) = let (are, rows) = planned_so_lem values filled (job_of s) (rw e at test) in rw (are, rows) (planned s none e)

rate_line : (s values : List ℕ) (filled : List (List ℕ)) → rate_test s values filled ≡ true → RateSays s values filled
unfolding rate_test
rate_line s values filled h = go (and_right (eqb (refusal s) 0) _ h) (true_or_false (on_time (job_of s) longest_delay))
  where
    none : refusal s ≡ 0
    none = eqb-true (refusal s) 0 (and_left (eqb (refusal s) 0) _ h)

    go : cond (on_time (job_of s) longest_delay) (sized_so (job_of s) values filled) (refused_so no_delay values filled) ≡ true
        → (on_time (job_of s) longest_delay ≡ true) ⊎ (on_time (job_of s) longest_delay ≡ false) → RateSays s values filled
    go test (inl e) =
        let (right, (slow, (are, rows))) = sized_so_lem values filled (job_of s) (rw e at test) in
        let fits = delay-fits s none (get_or values 1 0) e slow in
        rate-says_at s values _ filled _ are rows (sized s none (get_or values 1 0) fits (delay_at_lem s none (get_or values 1 0) fits right slow))
    go test (inr e) =
        let (are, rows) = refused_so_lem values filled no_delay (rw e at test) in
        rw (are, rows) (none_in_time s none (omega (arith, delay-none s none e)))

line_is : (line : Line) → passes line ≡ true → Says line.memory line.job line.values line.filled
unfolding passes
line_is line h = go line.memory h
  where
    go : (b : Bool) → cond b (memory_test line.job line.values line.filled) (rate_test line.job line.values line.filled)
        ≡ true
        → Says b line.job line.values line.filled
    go true h = memory-line _ _ _ h
    go false h = rate_line _ _ _ h

lines_are : (lines : List Line) → pass_all lines ≡ true → Holds lines
unfolding pass_all
lines_are [] h = tt
lines_are (line ∷ lines) h =
    (line_is line (and_left (passes line) (pass_all lines) h), lines_are lines (and_right (passes line) (pass_all lines) h))

-- ---- the table

all_pass : pass_all table ≡ true
unfolding spell number sum some fold link child has_child leaf mark version node_count frame_count parent_at delay_at memory_at rate_at frame_at
    wanted_length per_node refusal T H greatest_delay meets below least_over D leaf_below lower_in lower_curve room_in room least_up upper_curve
    starving greatest tab rows_of put unless_root turn_up turn_down pass_up pass_down close «open» ceil_div least_peak lazy_before lazy lower upper
    link_peak lazy_plan plan low high peak least_rate in_time floor_rate sums_in ahead most_ahead how_many second_need handed ask_of ask chosen sum_over total same same_rows peaks_in
    memories_of on_time refused_so planned_so sized_so memory_test rate_test passes pass_all
all_pass = refl

pub starred : Holds table
starred = lines_are table all_pass
