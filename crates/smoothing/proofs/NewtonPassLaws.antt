-- Newton's search, one pass: the excess that it finds bounds that of every slot, and is that of some slot.
use mathlib.Core.Path.{◌≡◌, refl, ap, fun_ext, ◌∙◌}
use mathlib.Core.Logic.{⊎_elim}
use Prim.Native.Nat.{ℕ, zero, suc, ◌+◌, ◌-◌, ◌*◌, ◌/◌, ◌≤◌, ◌<◌}
use native.Mathlib.Nat.{mul-one, mul-sub, mul-lt-mul_of_pos_right, le-div_iff_mul-le, div-one}
use native.Mathlib.Omega.{arith}
use native.Mathlib.Decide.{dec_lt}
use lib.Dec.{ltb}
use borrow.Author.Tests.{ltb-true, ltb-false, lt-ltb, le-ltb}
use Rattle.base.proofs.BoolLaws.{true_or_false, last_or_below}
use Rattle.smoothing.specs.Newton.{every, look, pass}
use Rattle.smoothing.proofs.RowLaws.{times_more}

module _ (lower upper : ℕ → ℕ) (p : ℕ) where
  -- the reach is at most what every earlier slot allows, and is what the slot at its gap allows
  reach-below : (k j : ℕ) → j < k → (pass lower upper p k).reach ≤ upper j + p * (k - j)
  unfolding pass look
  reach-below zero j h = absurd (omega arith)
  reach-below (suc k) j h =
      ⊎_elim
      (λ e. rw e (let d : suc k - k ≡ 1 = omega arith in rw d (omega arith)))
      (λ l. omega (arith, reach-below k j l, times_more p j k (omega arith)))
      (last_or_below j k h)

  reach_at_gap : (k : ℕ) → let s = pass lower upper p k in (s.gap ≤ k) × (s.reach ≡ upper (k - s.gap) + p * s.gap)
  unfolding pass look
  reach_at_gap zero = (omega arith, omega arith)
  reach_at_gap (suc k) =
      let s = pass lower upper p k in
      let ih = reach_at_gap k in
      ⊎_elim
      (λ e.
      let l = ltb-true (upper k) s.reach e in
      let d : upper (suc k - 1) ≡ upper k = ap upper (omega arith) in
      rw e (omega arith, omega arith))
      (λ e.
      let l = ltb-false (upper k) s.reach e in
      let d : upper (suc k - suc s.gap) ≡ upper (k - s.gap) = ap upper (omega arith) in
      rw e (omega arith, omega arith))
      (true_or_false (ltb (upper k) s.reach))

  gap_positive : (k : ℕ) → 0 < (pass lower upper p (suc k)).gap
  unfolding pass look
  gap_positive k =
      let s = pass lower upper p k in
      ⊎_elim (λ e. rw e (omega arith)) (λ e. rw e (omega arith)) (true_or_false (ltb (upper k) s.reach))

  -- no slot up to k is in excess by more than the excess found
  pub pass_bounds : (k i j : ℕ) → j < i → i ≤ k → lower i ≤ upper j + p * (i - j) + (pass lower upper p k).excess
  unfolding pass look
  pass_bounds zero i j h l = absurd (omega arith)
  pass_bounds (suc k) i j h l =
      ⊎_elim
      (λ e. rw e (omega (arith, reach-below (suc k) j (omega arith))))
      (λ m. omega (arith, pass_bounds k i j h (omega arith)))
      (last_or_below i (suc k) (omega arith))

  -- lower at i exceeds by x what upper at j allows, where i lies g slots after j
  abbrev pub Excess : ℕ → ℕ → ℕ → Type 0
  Excess k x g = (i : ℕ) × (j : ℕ) × (j < i) × (i ≤ k) × (g ≡ i - j) × (lower i ≡ upper j + p * g + x)

  -- one look finds a greater excess, or keeps the old one
  look_new : (k : ℕ) → let s = pass lower upper p k in let s' = pass lower upper p (suc k) in s.excess < lower (suc k) - s'.reach
      → (s'.excess ≡ lower (suc k) - s'.reach) × (s'.span ≡ s'.gap)
  unfolding pass look
  look_new k h = (omega arith, rw (lt-ltb _ _ h))

  look_kept : (k : ℕ) → let s = pass lower upper p k in let s' = pass lower upper p (suc k) in lower (suc k) - s'.reach ≤ s.excess
      → (s'.excess ≡ s.excess) × (s'.span ≡ s.span)
  unfolding pass look
  look_kept k h = (omega arith, rw (le-ltb _ _ h))

  -- the excess found, where there is one, is that of some slot, over its span
  pub pass_attains : (k : ℕ) → let s = pass lower upper p k in 0 < s.excess → Excess k s.excess s.span
  unfolding pass
  pass_attains zero h = absurd (omega arith)
  pass_attains (suc k) h = go (dec_lt (pass lower upper p k).excess (lower (suc k) - (pass lower upper p (suc k)).reach)) (pass_attains k)
    where
      go : let s = pass lower upper p k in let s' = pass lower upper p (suc k) in
          Dec (s.excess < lower (suc k) - s'.reach) → (0 < s.excess → Excess k s.excess s.span) → Excess (suc k) s'.excess s'.span
      go (yes l) ih =
          let s' = pass lower upper p (suc k) in
          let found = look_new k l in
          let reached = reach_at_gap (suc k) in (
            suc k,
            suc k - s'.gap,
            omega (arith, gap_positive k),
            omega arith,
            omega arith,
            rw found.1 (omega arith),
          )
      go (no l) ih =
          let same = look_kept k (omega arith) in
          let old = ih (omega arith) in
          rw (same.0, same.1) (old.0, old.1, old.2, omega (arith, old.3), old.4, old.5)

  -- without an excess the span is 0
  pub span_none : (k : ℕ) → (pass lower upper p k).excess ≡ 0 → (pass lower upper p k).span ≡ 0
  unfolding pass
  span_none zero e = refl
  span_none (suc k) e = go (dec_lt (pass lower upper p k).excess (lower (suc k) - (pass lower upper p (suc k)).reach)) (span_none k)
    where
      go : let s = pass lower upper p k in let s' = pass lower upper p (suc k) in
          Dec (s.excess < lower (suc k) - s'.reach) → (s.excess ≡ 0 → s.span ≡ 0) → s'.span ≡ 0
      go (yes l) ih = absurd (omega (arith, look_new k l))
      go (no l) ih = let same = look_kept k (omega arith) in same.1 ∙ ih (omega arith)

-- ---- a coarse pass

module _ (lower upper : ℕ → ℕ) (H p : ℕ) where
  -- an excess over every stride-th slot is one over every slot
  pub excess-every : (stride : ℕ) → 0 < stride → (x g : ℕ)
      → Excess (every stride lower) (every stride upper) (p * stride) (H / stride) x g → Excess lower upper p H x (g * stride)
  excess-every stride h x g at = (
    at.0 * stride,
    at.1 * stride,
    mul-lt-mul_of_pos_right at.2 h,
    (le-div_iff_mul-le h).0 at.3,
    rw at.4 (omega (arith, mul-sub stride at.0 at.1)),
    omega (arith, at.5),
  )

  -- at stride 1 the pass is that over every slot
  pub pass-every_one : pass (every 1 lower) (every 1 upper) (p * 1) (H / 1) ≡ pass lower upper p H
  pass-every_one = rw (mul-one p, div-one H, every_one lower, every_one upper)
    where
      every_one : (row : ℕ → ℕ) → every 1 row ≡ row
      every_one row = fun_ext (λ k. ap row (mul-one k))
