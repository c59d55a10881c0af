-- From the lines of an accepted job to what is answered.
use mathlib.Core.List.{List, [], ◌∷◌}
use mathlib.Core.Path.{◌≡◌, refl, ap, sym, ◌∙◌}
use mathlib.Core.Logic.{◌⊎◌, inl, inr, ⊎_elim}
use Prim.Native.Nat.{ℕ, ◌+◌, ◌-◌, ◌*◌, ◌≤◌, ◌<◌}
use native.Mathlib.Omega.{arith}
use native.Mathlib.Decide.{ℕ_discrete}
use lib.ListN.{length, get_or}
use borrow.Author.Tests.{le-ltb, lt-ltb, eq-eqb, ne_eqb}
use Rattle.base.proofs.BoolLaws.{lt_or_le}
use Rattle.base.proofs.TableLaws.{length-tab, get_d_rows}
use Rattle.job.specs.Limits.{longest_delay}
use Rattle.job.specs.Tree.{JobData, T}
use Rattle.job.specs.Bytes.{frame_count, job_of}
use Rattle.job.specs.Refusal.{bad_lent, refusal}
use Rattle.job.specs.Sums.{sums_in, sums_of}
use Rattle.job.proofs.RefusalLaws.{or_else_second}
use Rattle.job.proofs.SumsLaws.{sums_of_lem}
use Rattle.pacing.specs.Pace.{delay_at, no_delay}
use Rattle.radio.specs.Radio.{memory_at, line_with, line_of, lines_of, lines_for}
use Rattle.std.specs.Prelude.{Ok}
use Rattle.radio.specs.Answer.{most_rates, bad_rates, line_length, lent_refusal, LineSays, Answers}
use Rattle.radio.proofs.ServeLaws.{least, none-serves}

-- ---- refusals 16 and 11

module _ (rates lent : ℕ) where
  pub no_rates : rates ≡ 0 → lent_refusal rates lent ≡ bad_rates
  unfolding lent_refusal
  no_rates e = rw e refl

  module _ (some : rates ≡ 0 → ⊥) where
    pub many_rates : most_rates < rates → lent_refusal rates lent ≡ bad_rates
    unfolding lent_refusal
    many_rates h = rw (ne_eqb rates 0 some, lt-ltb most_rates rates h) refl

    pub wrong_list : rates ≤ most_rates → (lent ≡ rates * line_length → ⊥) → lent_refusal rates lent ≡ bad_lent
    unfolding lent_refusal
    wrong_list to ne = rw (ne_eqb rates 0 some, le-ltb most_rates rates to, ne_eqb lent (rates * line_length) ne) refl

    pub right_list : rates ≤ most_rates → lent ≡ rates * line_length → lent_refusal rates lent ≡ 0
    unfolding lent_refusal
    right_list to e = rw (ne_eqb rates 0 some, le-ltb most_rates rates to, eq-eqb lent (rates * line_length) e) refl

  -- where neither applies, the list is as long as it should be
  pub list_fits : lent_refusal rates lent ≡ 0 → lent ≡ rates * line_length
  list_fits none = go (ℕ_discrete lent (rates * line_length)) (ℕ_discrete rates 0) (lt_or_le most_rates rates)
    where
      go : Dec (lent ≡ rates * line_length) → Dec (rates ≡ 0) → (most_rates < rates) ⊎ (rates ≤ most_rates) → lent ≡ rates * line_length
      go (yes e) any many = e
      go (no ne) (yes e) many = absurd (omega (arith, no_rates e))
      go (no ne) (no some) (inl many) = absurd (omega (arith, many_rates some many))
      go (no ne) (no some) (inr to) = absurd (omega (arith, wrong_list some to ne))

-- ---- one line

module _ (M : ℕ) (T : ℕ → ℕ) (R d : ℕ) where
  pub line-none : longest_delay < d → line_with M T R d ≡ no_delay ∷ 0 ∷ 0 ∷ []
  unfolding line_with
  line-none h = rw (lt-ltb longest_delay d h) refl

  pub line-some : d ≤ longest_delay → line_with M T R d ≡ 0 ∷ d ∷ memory_at M T R d ∷ []
  unfolding line_with
  line-some h = rw (le-ltb longest_delay d h) refl

  length_with : length (line_with M T R d) ≡ line_length
  length_with =
      ⊎_elim
      (λ (l : longest_delay < d). rw (line-none l) refl)
      (λ (l : d ≤ longest_delay). rw (line-some l) refl)
      (lt_or_le longest_delay d)

pub length-line : (M : ℕ) (T : ℕ → ℕ) (R : ℕ) → length (line_of M T R) ≡ line_length
unfolding line_of
length-line M T R = length_with M T R _

-- a list of numbers says what a line should
abbrev Says : JobData → ℕ → List ℕ → Type 0
Says j R line = LineSays j R (get_or line 0 0) (get_or line 1 0) (get_or line 2 0)

with_says : (j : JobData) (R d : ℕ) → d ≡ delay_at R j.M (T j) → Says j R (line_with j.M (T j) R d)
with_says j R d e =
    ⊎_elim
    (λ (l : longest_delay < d). rw (line-none j.M (T j) R d l) (inr (refl, (refl, (refl, none-serves j R (omega arith))))))
    (λ (l : d ≤ longest_delay). rw (line-some j.M (T j) R d l) (inl (refl, (l, least j R d e l))))
    (lt_or_le longest_delay d)

line-says : (j : JobData) (R : ℕ) → Says j R (line_of j.M (T j) R)
unfolding line_of
line-says j R = with_says j R _ refl

-- ---- all lines

pub lines_say : (j : JobData) (rates lines : List ℕ) → lines ≡ lines_for j rates → (i : ℕ) → i < length rates
    → let at = i * line_length in LineSays j (get_or rates i 0) (get_or lines at 0) (get_or lines (at + 1) 0) (get_or lines (at + 2) 0)
lines_say j rates lines e i h =
    let rows : ℕ → List ℕ = λ k. line_of j.M (T j) (get_or rates k 0) in
    let long : (k : ℕ) → length (rows k) ≡ line_length = λ k. length-line j.M (T j) (get_or rates k 0) in
    let at : (c : ℕ) → c < line_length → get_or lines (i * line_length + c) 0 ≡ get_or (rows i) c 0 =
    λ c l. ap (λ (x : List ℕ). get_or x (i * line_length + c) 0) e ∙ get_d_rows rows line_length (length rates) i c long h l in
    let none : i * line_length + 0 ≡ i * line_length = omega arith in
    let start : get_or lines (i * line_length) 0 ≡ get_or (rows i) 0 0 = rw none at (at 0 (omega arith)) in
    rw (start, at 1 (omega arith), at 2 (omega arith)) (line-says j (get_or rates i 0))

-- ---- from the slice of an accepted job's sums

pub lines_are : (s rates : List ℕ) → lines_of (length (sums_of s) - 1) (sums_in (sums_of s)) rates ≡ lines_for (job_of s) rates
lines_are s rates =
    let ends : length (sums_of s) - 1 ≡ (job_of s).M = omega (arith, length-tab (T (job_of s)) (frame_count s + 1)) in
    rw (ends, sums_of_lem (job_of s)) refl

-- ---- what is answered

module _ (s rates lines₀ : List ℕ) where
  pub answered : (lines₁ : List ℕ) → refusal s ≡ 0 → lent_refusal (length rates) (length lines₀) ≡ 0 → lines₁ ≡ lines_for (job_of s) rates
      → Answers s rates lines₀ (Ok tt) lines₁
  answered lines₁ none fits are =
      record {
        number_is = sym (or_else_second (refusal s) _ none ∙ fits);
        lines = are;
        each = λ z. lines_say (job_of s) rates lines₁ are;
      }
