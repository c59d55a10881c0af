-- Laws of the lazy row: it is the least row above f with rises of at most q.
use mathlib.Core.Path.{◌≡◌}
use Prim.Native.Nat.{ℕ, zero, suc, ◌+◌, ◌-◌, ◌*◌, ◌≤◌, ◌<◌, max}
use native.Mathlib.Omega.{arith}
use native.Mathlib.Decide.{ℕ_discrete}
use Rattle.smoothing.specs.Row.{Enough, lazy_before, lazy}
use Rattle.smoothing.proofs.RowLaws.{times_more, times_none}

-- what holds at slot H, and at each slot where it holds at the next one, holds at every slot up to H
pub from_last : (H : ℕ) (Holds : ℕ → Type 0) → Holds H → ((k : ℕ) → k < H → Holds (suc k) → Holds k) → (k : ℕ) → k ≤ H → Holds k
from_last H Holds base step k h = go (H - k) k (omega arith)
  where
    go : (d k : ℕ) → k + d ≡ H → Holds k
    go zero k e = let z : k ≡ H = omega arith in rw z base
    go (suc d) k e = step k (omega arith) (go d (suc k) (omega arith))

module _ (H q : ℕ) (f : ℕ → ℕ) where
  -- ---- the two equations that define it

  pub lazy_last : lazy H q f H ≡ f H
  unfolding lazy lazy_before
  lazy_last = let e : H - H ≡ 0 = omega arith in rw e

  pub lazy-back : (k : ℕ) → k < H → lazy H q f k ≡ max (f k) (lazy H q f (suc k) - q)
  unfolding lazy lazy_before
  lazy-back k h = let e : H - k ≡ suc (H - suc k) = omega arith in rw e

  -- ---- above f, and its rises

  pub lazy-above : (k : ℕ) → k ≤ H → f k ≤ lazy H q f k
  lazy-above = from_last H (λ k. f k ≤ lazy H q f k) (omega (arith, lazy_last)) (λ k h next. omega (arith, lazy-back k h))

  pub lazy-rises : (k : ℕ) → k < H → lazy H q f (suc k) ≤ lazy H q f k + q
  lazy-rises k h = omega (arith, lazy-back k h)

  pub lazy-grows : ((k : ℕ) → k < H → f k ≤ f (suc k)) → (k : ℕ) → k < H → lazy H q f k ≤ lazy H q f (suc k)
  lazy-grows grows k h = omega (arith, lazy-back k h, grows k h, lazy-above (suc k) h)

  -- ---- the least such row

  -- at slot k it is at most any row that from there on lies above f and rises by at most q
  pub lazy-least : (g : ℕ → ℕ) (k : ℕ) → k ≤ H → ((i : ℕ) → k ≤ i → i ≤ H → f i ≤ g i)
      → ((i : ℕ) → k ≤ i → i < H → g (suc i) ≤ g i + q) → lazy H q f k ≤ g k
  lazy-least g k h above rises =
      from_last H (λ i. k ≤ i → lazy H q f i ≤ g i)
      (λ l. omega (arith, lazy_last, above H l (omega arith)))
      (λ i j next l. omega (arith, lazy-back i j, above i l (omega arith), rises i l j, next (omega arith))) k h (omega arith)

  -- where q is enough, it stays under the upper row
  pub lazy-under : (upper : ℕ → ℕ) → Enough H f upper q → ((k : ℕ) → k ≤ H → f k ≤ upper k) → (k : ℕ) → k ≤ H → lazy H q f k ≤ upper k
  lazy-under upper enough below k h =
      omega (arith, times_none q k, lazy-least (λ i. upper k + q * (i - k)) k h above (λ i p r. omega (arith, times_more q k i p)))
    where
      above : (i : ℕ) → k ≤ i → i ≤ H → f i ≤ upper k + q * (i - k)
      above i p r = go (ℕ_discrete k i)
        where
          go : Dec (k ≡ i) → f i ≤ upper k + q * (i - k)
          go (yes e) = rw e (omega (arith, below i r))
          go (no ne) = enough k i (omega arith) r

-- ---- two lazy rows

-- at a larger rate it is lower
pub lazy_faster : (H q p : ℕ) (f : ℕ → ℕ) → q ≤ p → (k : ℕ) → k ≤ H → lazy H p f k ≤ lazy H q f k
lazy_faster H q p f faster =
    from_last H (λ k. lazy H p f k ≤ lazy H q f k)
    (omega (arith, lazy_last H p f, lazy_last H q f)) (λ k h next. omega (arith, lazy-back H p f k h, lazy-back H q f k h))

-- two rows of which the second lies above the first, by c at most, have lazy rows of that kind
pub lazy_near : (H q : ℕ) (f g : ℕ → ℕ) (c : ℕ) → ((k : ℕ) → k ≤ H → (f k ≤ g k) × (g k ≤ f k + c))
    → (k : ℕ) → k ≤ H → (lazy H q f k ≤ lazy H q g k) × (lazy H q g k ≤ lazy H q f k + c)
lazy_near H q f g c near =
    from_last H (λ k. (lazy H q f k ≤ lazy H q g k) × (lazy H q g k ≤ lazy H q f k + c))
    (omega (arith, lazy_last H q f, lazy_last H q g, near H (omega arith)))
    (λ k h next. omega (arith, lazy-back H q f k h, lazy-back H q g k h, near k (omega arith), next))
