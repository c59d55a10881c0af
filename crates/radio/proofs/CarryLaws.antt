-- What the link has carried, slot by slot, and its greatest excess over what is played.
use mathlib.Core.List.{List}
use mathlib.Core.Path.{◌≡◌, refl, fun_ext}
use mathlib.Core.Logic.{⊎_elim}
use Prim.Native.Nat.{ℕ, zero, suc, ◌+◌, ◌-◌, ◌*◌, ◌≤◌, ◌<◌, max, min}
use native.Mathlib.Omega.{arith}
use native.Mathlib.Numerals.{add-one}
use native.Mathlib.Nat.{mul-le-mul_left}
use lib.ListN.{length, get_or}
use Rattle.base.specs.Range.{greatest}
use Rattle.base.proofs.BoolLaws.{lt_or_le, iff_same}
use Rattle.base.proofs.RangeLaws.{greatest-above, greatest-under}
use Rattle.job.specs.Sums.{Film, HoldsSums, sums_in, last_in}
use Rattle.job.proofs.SumsLaws.{film-to, sum_at}
use Rattle.smoothing.specs.Row.{greatest_excess}
use Rattle.smoothing.proofs.RowLaws.{greatest_excess-above, greatest_excess-least}
use Rattle.pacing.specs.Pace.{in_time, delay_at}
use Rattle.pacing.proofs.DelayLaws.{in_time_each, each_in_time}
use Rattle.radio.specs.Radio.{carried, memory_at}
use Rattle.radio.specs.Work.{excess_before}

-- it never falls
pub carried-grows : (top R k x : ℕ) → k ≤ x → carried top R k ≤ carried top R x
carried-grows top R k x h = omega (arith, mul-le-mul_left R h)

-- ---- a rate above T(M) carries as much as T(M)

pub carried_same : (top R k : ℕ) → carried top (min R top) k ≡ carried top R k
carried_same top R zero = omega arith
carried_same top R (suc k) =
    ⊎_elim
    (λ (l : R < top). let e : min R top ≡ R = omega arith in rw e refl)
    (λ (l : top ≤ R). let e : min R top ≡ top = omega arith in rw e (omega (arith, least top, least R)))
    (lt_or_le R top)
  where
    least : (x : ℕ) → x ≤ x * suc k
    least x = let h : 1 ≤ suc k = omega arith in omega (arith, mul-le-mul_left x h)

module _ (M : ℕ) (T : ℕ → ℕ) (film : Film T (T M)) (R : ℕ) where
  -- so the same delays are in time
  in_time_same : (w : ℕ) → in_time (min R (T M)) M T w ≡ in_time R M T w
  in_time_same w =
      iff_same _ _
      (λ e. each_in_time R M T w (λ m l. omega (
        arith,
        in_time_each (min R (T M)) M T w e m l,
        film.under m,
        carried_same (T M) R (m + w),
      )))
      (λ e. each_in_time (min R (T M)) M T w (λ m l. omega (
        arith,
        in_time_each R M T w e m l,
        film.under m,
        carried_same (T M) R (m + w),
      )))

  pub delay-same : delay_at (min R (T M)) M T ≡ delay_at R M T
  delay-same = let e : in_time (min R (T M)) M T ≡ in_time R M T = fun_ext in_time_same in rw e refl

  -- and the memory is the same
  pub memory-same : (d : ℕ) → memory_at M T (min R (T M)) d ≡ memory_at M T R d
  unfolding memory_at
  memory-same d = let e : carried (T M) (min R (T M)) ≡ carried (T M) R = fun_ext (carried_same (T M) R) in rw e refl

-- ---- of a slice that holds the sums

module _ (sums : List ℕ) (holds : HoldsSums sums) where
  abbrev M : ℕ
  M = length sums - 1

  pub film : Film (sums_in sums) (sums_in sums M)
  film = film-to sums holds M (omega (arith, holds.some_sum))

  pub total_is : last_in sums ≡ sums_in sums M
  unfolding last_in
  total_is = sum_at sums M (omega (arith, holds.some_sum))

  -- ---- the greatest excess of what is carried over what is played

  module _ (r d : ℕ) where
    ahead : ℕ → ℕ
    ahead i = carried (last_in sums) r (d + i) - sums_in sums i

    -- a slot more
    pub excess_more : (m : ℕ) → m < length sums
        → max (excess_before sums r d m) (carried (last_in sums) r (d + m) - get_or sums m 0) ≡ excess_before sums r d (m + 1)
    unfolding greatest
    excess_more m h = rw (add-one, sum_at sums m h) refl

    -- a stretch of slots, by the last of which no more is carried than would raise it at the first
    pub excess_stretch : (m to : ℕ) → m < to → to ≤ length sums
        → carried (last_in sums) r (d + (to - 1)) - get_or sums m 0 ≤ excess_before sums r d m
        → excess_before sums r d m ≡ excess_before sums r d to
    unfolding ahead
    excess_stretch m to some inside h =
        omega (
          arith,
          greatest-under ahead m (greatest ahead to) (λ i l. greatest-above ahead to i (omega arith)),
          greatest-under ahead to (greatest ahead m) (λ i l.
              ⊎_elim
              (λ (q : i < m). greatest-above ahead m i q)
              (λ (q : m ≤ i). omega (
                arith,
                h,
                sum_at sums m (omega arith),
                film.grows m i q,
                carried-grows (last_in sums) r (d + i) (d + (to - 1)) (omega arith),
              ))
              (lt_or_le i m)),
        )

    -- until slot d nothing is played, so no slot before it has a greater excess
    pub excess_all : (m : ℕ) → m ≡ length sums → excess_before sums r d m ≡ memory_at M (sums_in sums) r d
    unfolding memory_at ahead
    excess_all m e =
        let row = carried (sums_in sums M) r in
        let played : ℕ → ℕ = λ k. sums_in sums (k - d) in
        omega (
          arith,
          greatest-under ahead m (greatest_excess (M + d) row played) (λ i l.
              let back : d + i - d ≡ i = omega arith in
              omega (arith, total_is, rw back at (greatest_excess-above (M + d) row played (d + i) (omega arith)))),
          greatest_excess-least (M + d) row played (greatest ahead m) (λ k h.
              ⊎_elim
              (λ (q : k < d).
              let none : d + 0 ≡ d = omega arith in
              omega (
                arith,
                total_is,
                film.starts,
                carried-grows (sums_in sums M) r k d (omega arith),
                rw none at (greatest-above ahead m 0 (omega (arith, holds.some_sum))),
              ))
              (λ (q : d ≤ k).
              let back : d + (k - d) ≡ k = omega arith in
              omega (arith, total_is, rw back at (greatest-above ahead m (k - d) (omega (arith, holds.some_sum)))))
              (lt_or_le k d)),
        )
