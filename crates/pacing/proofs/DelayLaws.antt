-- The least delay in time, found frame by frame.
use mathlib.Core.Bool.{Bool, true, false, not}
use mathlib.Core.Path.{◌≡◌, refl}
use mathlib.Core.Logic.{⊎_elim}
use Prim.Native.Nat.{ℕ, suc, ◌+◌, ◌-◌, ◌*◌, ◌≤◌, ◌<◌, min}
use native.Mathlib.Omega.{arith}
use native.Mathlib.Nat.{mul_comm, mul-suc, mul-le-mul_left}
use Rattle.std.specs.Int.{div_ceil}
use Rattle.std.proofs.lemmas.Grind.{div_ceil_times}
use native.Mathlib.Decide.{dec_lt}
use lib.Dec.{ltb}
use borrow.Author.Tests.{le-ltb, ltb-false}
use Rattle.base.specs.Range.{some}
use Rattle.base.proofs.BoolLaws.{not_both, otherwise, lt_or_le, last_or_below}
use Rattle.base.proofs.RangeLaws.{none_passes, all_fail, first_is, first-least, first_passes, first_under}
use Rattle.job.specs.Limits.{longest_delay}
use Rattle.pacing.specs.Pace.{in_time, delay_at}
use Rattle.pacing.specs.Work.{DelayForSlot, DelayBefore}

-- ---- what it is to be in time

module _ (r M : ℕ) (T : ℕ → ℕ) (w : ℕ) where
  slow : ℕ → Bool
  slow m = ltb (r * (m + w)) (T m)

  pub in_time_each : in_time r M T w ≡ true → (m : ℕ) → m ≤ M → T m ≤ r * (m + w)
  unfolding in_time slow
  in_time_each e m h = ltb-false (r * (m + w)) (T m) (none_passes slow (M + 1) (not-true (some slow (M + 1)) e) m (omega arith))
    where
      not-true : (b : Bool) → not b ≡ true → b ≡ false
      not-true true e = absurd (not_both e refl)
      not-true false e = refl

  pub each_in_time : ((m : ℕ) → m ≤ M → T m ≤ r * (m + w)) → in_time r M T w ≡ true
  unfolding in_time slow
  each_in_time each = rw (all_fail slow (M + 1) (λ m l. le-ltb (r * (m + w)) (T m) (each m (omega arith)))) refl

-- ---- the least delay in time

module _ (r M : ℕ) (T : ℕ → ℕ) where
  -- no delay that is in time is less
  pub delay-least : (w : ℕ) → in_time r M T w ≡ true → delay_at r M T ≤ w
  delay-least w e =
      ⊎_elim
      (λ (l : w < longest_delay + 1). (first-least (in_time r M T) (longest_delay + 1) w l e).0)
      (λ (l : longest_delay + 1 ≤ w). omega (arith, first_under (in_time r M T) (longest_delay + 1)))
      (lt_or_le w (longest_delay + 1))

  -- up to the longest it is in time
  pub delay_in_time : delay_at r M T ≤ longest_delay → in_time r M T (delay_at r M T) ≡ true
  delay_in_time h = first_passes (in_time r M T) (longest_delay + 1) (omega arith)

-- ---- one frame

module _ (T r m w : ℕ) (fits : w ≤ longest_delay + 1) where
  -- not in time yet, it is as many slots as T has rates, rounded up, less the m slots since the start
  module _ (h : r * (m + w) < T) (p : 0 < r) where
    pub slots_past : m + w < div_ceil T r
    slots_past =
        ⊎_elim
        (λ (l : m + w < div_ceil T r). l)
        (λ (l : div_ceil T r ≤ m + w). absurd (omega (
          arith,
          (div_ceil_times T r p).0,
          mul-le-mul_left r l,
          mul_comm (div_ceil T r) r,
        )))
        (lt_or_le (m + w) (div_ceil T r))

    no_fewer : (y : ℕ) → T ≤ r * y → div_ceil T r ≤ y
    no_fewer y c =
        ⊎_elim
        (λ (l : y < div_ceil T r). absurd (omega (
          arith,
          (div_ceil_times T r p).1,
          mul-le-mul_left r (fewer y l),
          mul_comm (div_ceil T r) r,
          mul-suc r y,
          c,
        )))
        (λ (l : div_ceil T r ≤ y). l)
        (lt_or_le y (div_ceil T r))
      where
        fewer : (a : ℕ) → a < div_ceil T r → suc a ≤ div_ceil T r
        fewer a l = omega arith

    pub slot_after : DelayForSlot T r m w (min (div_ceil T r - m) (longest_delay + 1))
    slot_after =
        let past = slots_past in
        record {
          from = omega arith;
          to = omega arith;
          late = λ l.
              let q : m + min (div_ceil T r - m) (longest_delay + 1) ≡ div_ceil T r = omega arith in
              rw q (omega (arith, (div_ceil_times T r p).0, mul_comm (div_ceil T r) r));
          least = λ y a b c. omega (arith, no_fewer (m + y) c);
        }

-- ---- frame by frame

module _ (T : ℕ → ℕ) (r : ℕ) where
  pub delay_before_none : (m w : ℕ) → m ≡ 0 → w ≡ 0 → DelayBefore T r m w
  delay_before_none m w none least = record { to = omega arith; late = λ l i h. absurd (omega arith); least = λ y a b. omega arith }

  pub delay_before_more : (m w x : ℕ) → DelayBefore T r m w → DelayForSlot (T m) r m w x → DelayBefore T r (m + 1) x
  delay_before_more m w x d l =
      record {
        to = l.to;
        late = λ h i q.
            ⊎_elim
            (λ (e : i ≡ m). rw e (l.late h))
            (λ (k : i < m). omega (arith, d.late (omega (arith, l.from)) i k, mul-le-mul_left r (more i)))
            (last_or_below i m (omega arith));
        least = λ y h each. l.least y (d.least y h (λ i k. each i (omega arith))) h (each m (omega arith));
      }
    where
      more : (i : ℕ) → i + w ≤ i + x
      more i = omega (arith, l.from)

  -- a stretch of slots of which the last is in time at the first
  pub delay_before_stretch : ((i k : ℕ) → i ≤ k → T i ≤ T k) → (m to w : ℕ) → m < to → T (to - 1) ≤ r * (m + w) → DelayBefore T r m w
      → DelayBefore T r to w
  delay_before_stretch grows m to w some h d =
      record {
        to = d.to;
        late = λ l i q. go l i q (dec_lt i m);
        least = λ y l each. d.least y l (λ i q. each i (omega arith));
      }
    where
      go : w ≤ longest_delay → (i : ℕ) → i < to → Dec (i < m) → T i ≤ r * (i + w)
      go l i q (yes before-m) = d.late l i before-m
      go l i q (no ne) =
          let on : m + w ≤ i + w = omega arith in
          omega (arith, grows i (to - 1) (omega arith), h, mul-le-mul_left r on)

  -- after the last slot it is the least for all; and where none up to the longest is in time for some slots, none is for all
  pub delay_before_is : (M m w : ℕ) → m ≤ M + 1 → (w ≤ longest_delay → m ≡ M + 1) → DelayBefore T r m w → w ≡ delay_at r M T
  delay_before_is M m w h all d =
      first_is (in_time r M T) (longest_delay + 1) w d.to
      (λ l. each_in_time r M T w (λ i k. d.late (omega arith) i (omega (arith, all (omega arith)))))
      (λ y l. otherwise (in_time r M T y) (λ u. omega (
        arith,
        d.to,
        d.least y (omega (arith, d.to))
            (λ i k. in_time_each r M T y u i (omega arith)),
      )))
