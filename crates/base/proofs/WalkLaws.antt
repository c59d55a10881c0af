-- Laws of the walk over a set: take the lowest member, clear it, go on while there is one.
use mathlib.Core.Bool.{true, false, not, ◌&&◌}
use mathlib.Core.Path.{◌≡◌, refl, ap, sym, ◌∙◌}
use mathlib.Core.Logic.{⊎_elim, ◌⊎◌, inl, inr}
use Prim.Native.Nat.{ℕ, suc, ◌-◌, ◌^◌, ◌≤◌, ◌<◌}
use native.Mathlib.Omega.{arith}
use lib.Dec.{eqb, leb}
use borrow.Author.Tests.{eq-eqb, ne_eqb, le-leb, lt-leb, leb-true}
use Rattle.base.specs.Range.{first, fold}
use Rattle.base.specs.Set.{has, word_bits}
use Rattle.base.proofs.BoolLaws.{not_both, lt_or_le, and_left, and_right, and_true, and_no_right}
use Rattle.base.proofs.RangeLaws.{fold_skip, fold-take}
use Rattle.base.proofs.SetLaws.{has-none, first_in, first_lt, first-first}

-- `rest` has the members of s from `place` on
abbrev pub Left : ℕ → ℕ → ℕ → Type 0
Left s rest place = (j : ℕ) → has rest j ≡ (has s j && leb place j)

-- what `without_lowest` says: next is rest without its lowest member
abbrev pub Without : ℕ → ℕ → Type 0
Without rest next = (j : ℕ) → has next j ≡ (has rest j && not (eqb j (first (has rest) word_bits)))

left_all : (s : ℕ) → Left s s 0
left_all s j = rw (le-leb 0 j (omega arith), and_true)

module _ (s rest place : ℕ) (left : Left s rest place) where
  -- from its place on, the rest has what s has
  left_past : (j : ℕ) → place ≤ j → has rest j ≡ has s j
  left_past j h = left j ∙ rw (le-leb place j h, and_true)

  module _ (fits : rest < 2 ^ 64) (some_in : 0 < rest) where
    -- the lowest of the rest is a member of s, not before the place
    left_in : (has s (first (has rest) word_bits) ≡ true) × (place ≤ first (has rest) word_bits)
    left_in =
        let t = first (has rest) word_bits in
        let h : (has s t && leb place t) ≡ true = sym (left t) ∙ first_in rest fits some_in in
        (and_left (has s t) (leb place t) h, leb-true place t (and_right (has s t) (leb place t) h))

    -- between the place and it s has no member
    left_gap : (j : ℕ) → place ≤ j → j < first (has rest) word_bits → has s j ≡ false
    left_gap j a b = sym (left_past j a) ∙ first-first rest fits some_in j b

    left_next : (next : ℕ) → Without rest next → Left s next (suc (first (has rest) word_bits))
    left_next next e j = e j ∙ past (lt_or_le t j)
      where
        t : ℕ
        t = first (has rest) word_bits

        past : (t < j) ⊎ (j ≤ t) → (has rest j && not (eqb j t)) ≡ (has s j && leb (suc t) j)
        past (inl l) =
            rw (ne_eqb j t (omega arith), le-leb (suc t) j l, and_true, and_true) (left_past j (omega (arith, left_in.1)))
        past (inr l) =
            ⊎_elim
            (λ (q : j < t). rw (first-first rest fits some_in j q) refl)
            (λ (q : t ≤ j). and_no_right (has rest j) (ap not (eq-eqb j t (omega arith))))
            (lt_or_le j t)
            ∙ sym (and_no_right (has s j) (lt-leb (suc t) j (omega arith)))

-- where nothing is left, s has no member from the place on
left_none : (s place : ℕ) → Left s 0 place → (j : ℕ) → place ≤ j → has s j ≡ false
left_none s place left j h = sym (left_past s 0 place left j h) ∙ has-none j

-- What holds along a walk over s that takes its members into `acc`: those before `place` have been taken in, once and in increasing
-- order, and nothing else.
pub record Walked {A : Type 0} (step : A → ℕ → A) (z : A) (s rest : ℕ) (acc : A) : Type 0 where
  pub place : ℕ
  pub within : place ≤ word_bits
  pub fits : rest < 2 ^ 64
  pub left : Left s rest place
  pub so_far : acc ≡ fold step z (has s) place

module _ {A : Type 0} (step : A → ℕ → A) (z : A) (s : ℕ) where
  pub walk_start : s < 2 ^ 64 → Walked step z s s z
  unfolding fold
  walk_start h = record { place = 0; within = omega arith; fits = h; left = left_all s; so_far = refl }

  -- the member met next is one of s
  pub walk_in : (rest : ℕ) (acc : A) → Walked step z s rest acc → 0 < rest → has s (first (has rest) word_bits) ≡ true
  walk_in rest acc w h = (left_in s rest w.place w.left w.fits h).0

  pub walk_next : (rest next : ℕ) (acc : A) → Walked step z s rest acc → 0 < rest → next ≤ rest - 1 → Without rest next
      → Walked step z s next (step acc (first (has rest) word_bits))
  walk_next rest next acc w h le e =
      let t = first (has rest) word_bits in
      let gap : fold step z (has s) t ≡ fold step z (has s) w.place =
      fold_skip step z (has s) w.place t (left_in s rest w.place w.left w.fits h).1 (left_gap s rest w.place w.left w.fits h) in
      record {
        place = suc t;
        within = first_lt rest w.fits h;
        fits = omega (arith, w.fits);
        left = left_next s rest w.place w.left w.fits h next e;
        so_far = rw (fold-take step z (has s) t (walk_in rest acc w h), gap, w.so_far) refl;
      }

  pub walk_done : (acc : A) → Walked step z s 0 acc → acc ≡ fold step z (has s) word_bits
  walk_done acc w =
      w.so_far ∙ sym (fold_skip step z (has s) w.place 64 w.within (λ j a b. left_none s w.place w.left j a))

-- What holds along a walk over s that looks at its members: each before `place` has been seen to have P.
pub record Seen (P : ℕ → Type 0) (s rest : ℕ) : Type 0 where
  pub place : ℕ
  pub fits : rest < 2 ^ 64
  pub left : Left s rest place
  pub seen : (i : ℕ) → i < place → has s i ≡ true → P i

module _ (P : ℕ → Type 0) (s : ℕ) where
  pub seen_start : s < 2 ^ 64 → Seen P s s
  seen_start h = record { place = 0; fits = h; left = left_all s; seen = λ i q t. absurd (omega arith) }

  pub seen_in : (rest : ℕ) → Seen P s rest → 0 < rest → has s (first (has rest) word_bits) ≡ true
  seen_in rest w h = (left_in s rest w.place w.left w.fits h).0

  pub seen_next : (rest next : ℕ) → Seen P s rest → 0 < rest → next ≤ rest - 1 → Without rest next → P (first (has rest) word_bits) → Seen P s next
  seen_next rest next w h le e here =
      record {
        place = suc t;
        fits = omega (arith, w.fits);
        left = left_next s rest w.place w.left w.fits h next e;
        seen = λ i q m. one i m (lt_or_le i t) q (lt_or_le i w.place);
      }
    where
      t : ℕ
      t = first (has rest) word_bits

      one : (i : ℕ) → has s i ≡ true → (i < t) ⊎ (t ≤ i) → i < suc t → (i < w.place) ⊎ (w.place ≤ i) → P i
      one i m (inl l) q (inl p) = w.seen i p m
      one i m (inl l) q (inr p) = absurd (not_both m (left_gap s rest w.place w.left w.fits h i p l))
      one i m (inr l) q p = let e : i ≡ t = omega arith in rw e here

  pub seen_all : Seen P s 0 → (i : ℕ) → has s i ≡ true → P i
  seen_all w i m =
      ⊎_elim
      (λ (l : i < w.place). w.seen i l m)
      (λ (l : w.place ≤ i). absurd (not_both m (left_none s w.place w.left i l)))
      (lt_or_le i w.place)
