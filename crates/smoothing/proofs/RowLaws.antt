-- Laws of one row: its rises, its peak and its excess over another row; and that the least peak is the least number that is enough.
use mathlib.Core.Path.{◌≡◌}
use Prim.Native.Nat.{ℕ, zero, suc, ◌+◌, ◌-◌, ◌*◌, ◌≤◌, ◌<◌}
use native.Mathlib.Omega.{arith}
use native.Mathlib.Nat.{div-lt_iff_lt-mul}
use native.Mathlib.Decide.{ℕ_discrete}
use Rattle.base.specs.Range.{greatest, IsLeast}
use Rattle.base.proofs.RangeLaws.{greatest-above, greatest-under}
use Rattle.smoothing.specs.Row.{peak, greatest_excess, ceil_div, Enough, least_peak}

-- ---- a product with a distance

-- one slot more
pub times_more : (q k i : ℕ) → k ≤ i → q * (suc i - k) ≡ q * (i - k) + q
times_more q k i h = let e : suc i - k ≡ suc (i - k) = omega arith in rw e (omega arith)

pub times_none : (q k : ℕ) → q * (k - k) ≡ 0
times_none q k = let e : k - k ≡ 0 = omega arith in rw e (omega arith)

-- ---- rises

-- a row with rises of at most q, over several slots
pub rise_over : (H q : ℕ) (s : ℕ → ℕ) → ((k : ℕ) → k < H → s (suc k) ≤ s k + q)
    → (j k : ℕ) → j ≤ k → k ≤ H → s k ≤ s j + q * (k - j)
rise_over H q s rises j zero h r = let e : j ≡ 0 = omega arith in rw e (omega arith)
rise_over H q s rises j (suc k) h r = go (ℕ_discrete j (suc k)) (λ l. rise_over H q s rises j k l (omega arith))
  where
    go : Dec (j ≡ suc k) → (j ≤ k → s k ≤ s j + q * (k - j)) → s (suc k) ≤ s j + q * (suc k - j)
    go (yes e) ih = rw e (omega arith)
    go (no ne) ih = omega (arith, ih (omega arith), rises k (omega arith), times_more q j k (omega arith))

-- a row that never falls, over several slots
pub grow_over : (H : ℕ) (s : ℕ → ℕ) → ((k : ℕ) → k < H → s k ≤ s (suc k)) → (j k : ℕ) → j ≤ k → k ≤ H → s j ≤ s k
grow_over H s grows j zero h r = let e : j ≡ 0 = omega arith in rw e (omega arith)
grow_over H s grows j (suc k) h r = go (ℕ_discrete j (suc k)) (λ l. grow_over H s grows j k l (omega arith))
  where
    go : Dec (j ≡ suc k) → (j ≤ k → s j ≤ s k) → s j ≤ s (suc k)
    go (yes e) ih = rw e (omega arith)
    go (no ne) ih = omega (arith, ih (omega arith), grows k (omega arith))

-- ---- the peak

pub peak-rises : (H : ℕ) (s : ℕ → ℕ) (k : ℕ) → k < H → s (suc k) ≤ s k + peak H s
unfolding peak
peak-rises H s k h = omega (arith, greatest-above (λ k. s (suc k) - s k) H k h)

pub peak-least : (H : ℕ) (s : ℕ → ℕ) (q : ℕ) → ((k : ℕ) → k < H → s (suc k) ≤ s k + q) → peak H s ≤ q
unfolding peak
peak-least H s q rises = greatest-under (λ k. s (suc k) - s k) H q (λ k h. omega (arith, rises k h))

-- the peak depends on slots 0 to H alone
pub peak-same : (H : ℕ) (s s' : ℕ → ℕ) → ((k : ℕ) → k ≤ H → s k ≡ s' k) → peak H s ≡ peak H s'
peak-same H s s' same =
    omega (
      arith,
      peak-least H s (peak H s') (λ k h. omega (arith, same k (omega arith), same (suc k) h, peak-rises H s' k h)),
      peak-least H s' (peak H s) (λ k h. omega (arith, same k (omega arith), same (suc k) h, peak-rises H s k h)),
    )

-- ---- the greatest excess

pub greatest_excess-above : (H : ℕ) (s d : ℕ → ℕ) (k : ℕ) → k ≤ H → s k ≤ d k + greatest_excess H s d
unfolding greatest_excess
greatest_excess-above H s d k h = omega (arith, greatest-above (λ k. s k - d k) (suc H) k (omega arith))

pub greatest_excess-least : (H : ℕ) (s d : ℕ → ℕ) (x : ℕ) → ((k : ℕ) → k ≤ H → s k ≤ d k + x) → greatest_excess H s d ≤ x
unfolding greatest_excess
greatest_excess-least H s d x below = greatest-under (λ k. s k - d k) (suc H) x (λ k h. omega (arith, below k (omega arith)))

-- ---- rounding up

pub ceil_div_covers : (x d q : ℕ) → 0 < d → ceil_div x d ≤ q → x ≤ q * d
unfolding ceil_div
ceil_div_covers x d q p h = omega (arith, (div-lt_iff_lt-mul {x = x + (d - 1)} {y = suc q} p).0 (omega arith))

pub ceil_div-least : (x d q : ℕ) → 0 < d → x ≤ q * d → ceil_div x d ≤ q
unfolding ceil_div
ceil_div-least x d q p h = omega (arith, (div-lt_iff_lt-mul {x = x + (d - 1)} {y = suc q} p).1 (omega arith))

-- ---- the least peak

module _ (H : ℕ) (lower upper : ℕ → ℕ) where
  least_peak-enough : Enough H lower upper (least_peak H lower upper)
  unfolding least_peak
  least_peak-enough j k p h =
      let a = greatest-above (λ j. ceil_div (lower k - upper j) (k - j)) k j p in
      let c = greatest-above (λ k. greatest (λ j. ceil_div (lower k - upper j) (k - j)) k) (suc H) k (omega arith) in
      omega (arith, ceil_div_covers (lower k - upper j) (k - j) (least_peak H lower upper) (omega arith) (omega arith))

  -- the quotient of document 01 is the least p with lower k ≤ upper j + p * (k - j) for all j < k ≤ H
  pub least_peak_is_least : IsLeast (Enough H lower upper) (least_peak H lower upper)
  unfolding least_peak
  least_peak_is_least = (
    least_peak-enough,
    λ q enough.
        greatest-under _ (suc H) q (λ k h. greatest-under _ k q (λ j p.
        ceil_div-least (lower k - upper j) (k - j) q (omega arith) (omega (arith, enough j k p (omega arith))))),
  )
