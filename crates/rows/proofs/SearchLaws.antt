-- Laws for the search for a least peak: one look and one pass from what the code computes, and the range of each number.
use Prim.Native.Nat.{ℕ, zero, suc, ◌+◌, ◌-◌, ◌*◌, ◌/◌, ◌%◌, ◌≤◌, ◌<◌, max, min}
use mathlib.Core.Path.{◌≡◌, sym, ◌∙◌}
use mathlib.Core.Bool.{cond}
use mathlib.Core.Logic.{⊎_elim}
use mathlib.Core.List.{List}
use native.Mathlib.Nat.{mul-le-mul_left, div-add-mod', mod-lt, div-eq_of_lt-le, suc-mul}
use native.Mathlib.Decide.{ℕ_discrete}
use Rattle.std.specs.Int.{div_ceil}
use native.Mathlib.Numerals.{add-one}
use native.Mathlib.Omega.{arith}
use lib.Dec.{ltb}
use lib.ListN.{length}
use Rattle.smoothing.specs.Row.{ceil_div, least_peak}
use Rattle.smoothing.specs.Newton.{Search, every, look, pass}
use Rattle.base.proofs.BoolLaws.{true_or_false}
use Rattle.smoothing.proofs.RowLaws.{least_peak_is_least}
use Rattle.smoothing.proofs.NewtonPassLaws.{Excess, pass_attains, excess-every, pass-every_one}
use Rattle.smoothing.proofs.NewtonLaws.{cover_more, cover_below, no_excess}
use Rattle.rows.specs.Row.{row_in}
use Rattle.job.specs.Limits.{greatest_total}
use Rattle.rows.specs.Search.{Searchable}

-- a quotient rounded up, as std's `div_ceil` has it
pub div_ceil-is : (x d : ℕ) → 0 < d → div_ceil x d ≡ ceil_div x d
unfolding ceil_div
div_ceil-is x d h = go (ℕ_discrete (x % d) 0)
  where
    parts : x / d * d + x % d ≡ x
    parts = div-add-mod' x d

    low : x % d < d
    low = mod-lt x h

    go : Dec (x % d ≡ 0) → x / d + min 1 (x % d) ≡ (x + (d - 1)) / d
    go (yes e) = rw e (sym (div-eq_of_lt-le d (omega arith) (omega (arith, suc-mul (x / d) d))))
    go (no ne) =
        let one : min 1 (x % d) ≡ 1 = omega arith in
        rw one (sym (div-eq_of_lt-le d (omega (arith, suc-mul (x / d) d)) (omega (arith, suc-mul (x / d) d, suc-mul (x / d + 1) d))))

-- a look, number by number
pub look_is : (lower upper p : ℕ) (s : Search) (reach gap here excess span : ℕ)
    → reach ≡ min s.reach upper → gap ≡ cond (ltb upper s.reach) 1 (s.gap + 1) → here ≡ lower - (reach + p)
    → excess ≡ max s.excess here → span ≡ cond (ltb s.excess here) gap s.span
    → record { reach = reach + p; gap = gap; excess = excess; span = span } ≡ look (λ _. lower) (λ _. upper) p 0 s
unfolding look
look_is lower upper p s reach gap here excess span a b c d e = rw (e, d, c, b, a, add-one)

module _ (lower upper : ℕ → ℕ) (p : ℕ) where
  pub pass-none : (y : ℕ) → y ≡ upper 0 → record { reach = y; gap = 0; excess = 0; span = 0 } ≡ pass lower upper p 0
  unfolding pass
  pass-none y e = rw e

  pub pass_more : (k x y : ℕ) (s r : Search) → s ≡ pass lower upper p k → r ≡ look (λ _. x) (λ _. y) p 0 s
      → x ≡ lower (k + 1) → y ≡ upper k → r ≡ pass lower upper p (k + 1)
  unfolding pass look
  pass_more k x y s r e h a b = h ∙ rw (e, a, b, add-one)

  pub gap_within : (k : ℕ) → (pass lower upper p k).gap ≤ k
  unfolding pass look
  gap_within zero = omega arith
  gap_within (suc k) =
      let s = pass lower upper p k in
      ⊎_elim (λ e. rw e (omega arith)) (λ e. rw e (omega (arith, gap_within k))) (true_or_false (ltb (upper k) s.reach))

module _ (l u : List ℕ) (s : Searchable l u) where
  abbrev least : ℕ
  least = least_peak (length l - 1) (row_in l) (row_in u)

  -- the least peak is in range
  pub least_range : least ≤ greatest_total
  least_range =
      (least_peak_is_least (length l - 1) (row_in l) (row_in u)).1 greatest_total (λ j k h i.
      omega (arith, s.lower_to k (omega (arith, s.some_slot)), mul-le-mul_left greatest_total (one_slot j k h)))
    where
      one_slot : (j k : ℕ) → j < k → 1 ≤ k - j
      one_slot j k h = omega arith

  -- the pass at p over every stride-th slot
  abbrev coarse : ℕ → ℕ → Search
  coarse p stride = pass (every stride (row_in l)) (every stride (row_in u)) (p * stride) ((length l - 1) / stride)

  -- one step, from such a pass with what it found
  module _ (p stride : ℕ) (found : Search) (positive : 0 < stride) (is : found ≡ coarse p stride) where
    -- the excess that it found is one of two slots
    attained : 0 < found.excess → Excess (row_in l) (row_in u) p (length l - 1) found.excess (found.span * stride)
    attained = rw is (λ h. excess-every (row_in l) (row_in u) (length l - 1) p stride positive _ _ (pass_attains _ _ (p * stride) _ h))

    -- an excess and its span are in range
    pub step_range : 0 < found.excess
        → (found.excess ≤ greatest_total) × ((0 < found.span * stride) × (found.span * stride ≤ greatest_total))
    step_range h =
        let at = attained h in
        let low : row_in l at.0 ≤ greatest_total = s.lower_to at.0 (omega (arith, at.3, s.some_slot)) in
        (omega (arith, at.5), (omega (arith, at.2, at.4), omega (arith, at.3, at.4, s.slots_to)))

    -- the next peak is higher, and not above the least
    pub step-peak : 0 < found.excess → let next = p + div_ceil found.excess (found.span * stride) in (p < next) × (next ≤ least)
    step-peak h =
        rw (div_ceil-is found.excess (found.span * stride) (step_range h).1.0) (
          cover_more (row_in l) (row_in u) (length l - 1) p found.excess (found.span * stride) (attained h) h,
          cover_below (row_in l) (row_in u) (length l - 1) p found.excess (found.span * stride) (attained h) h,
        )

    -- with no excess in any slot the search is at its end
    pub step-done : found.excess ≡ 0 → p ≤ least → stride ≡ 1 → p ≡ least
    step-done e h one = omega (arith, no_excess (row_in l) (row_in u) (length l - 1) p (rw (all_slots one) at e))
      where
        all_slots : stride ≡ 1 → found ≡ pass (row_in l) (row_in u) p (length l - 1)
        all_slots one = rw one at is ∙ pass-every_one (row_in l) (row_in u) (length l - 1) p
