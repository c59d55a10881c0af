-- Laws of places round the end of a slice.
use mathlib.Core.Path.{◌≡◌}
use mathlib.Core.Logic.{⊎_elim}
use Prim.Native.Nat.{ℕ, ◌+◌, ◌-◌, ◌≤◌, ◌<◌}
use native.Mathlib.Omega.{arith}
use borrow.Author.Tests.{lt-ltb, le-ltb}
use Rattle.base.proofs.BoolLaws.{lt_or_le}
use Rattle.store.specs.Store.{onward, back}

-- ---- by whether the end is passed

pub onward_near : (m p n : ℕ) → p + n < m → onward m p n ≡ p + n
unfolding onward
onward_near m p n h = rw (lt-ltb (p + n) m h)

pub onward_round : (m p n : ℕ) → m ≤ p + n → onward m p n ≡ p + n - m
unfolding onward
onward_round m p n h = rw (le-ltb (p + n) m h)

pub back_near : (m p n : ℕ) → n ≤ p → back m p n ≡ p - n
unfolding back
back_near m p n h = rw (le-ltb p n h)

pub back_round : (m p n : ℕ) → p < n → back m p n ≡ p + m - n
unfolding back
back_round m p n h = rw (lt-ltb p n h)

module _ {A : Type 0} (m p n : ℕ) where
  by_onward : (p + n < m → onward m p n ≡ p + n → A) → (m ≤ p + n → onward m p n ≡ p + n - m → A) → A
  by_onward near round = ⊎_elim (λ h. near h (onward_near m p n h)) (λ h. round h (onward_round m p n h)) (lt_or_le (p + n) m)

  by_back : (n ≤ p → back m p n ≡ p - n → A) → (p < n → back m p n ≡ p + m - n → A) → A
  by_back near round = ⊎_elim (λ h. round h (back_round m p n h)) (λ h. near h (back_near m p n h)) (lt_or_le p n)

pub back_to : (m p n : ℕ) → p ≤ m → n ≤ m → back m p n ≤ m
back_to m p n h k = by_back m p n (λ a e. omega arith) (λ a e. omega arith)

-- ---- from a place p of the slice

module _ (m p : ℕ) (inside : p < m) where
  pub onward-inside : (n : ℕ) → n ≤ m → onward m p n < m
  onward-inside n h = by_onward m p n (λ a e. omega arith) (λ a e. omega arith)

  pub back_inside : (n : ℕ) → n ≤ m → back m p n < m
  back_inside n h = by_back m p n (λ a e. omega arith) (λ a e. omega arith)

  -- n after it and n + k back is k before it
  pub back-onward : (n k : ℕ) → n + k ≤ m → back m (onward m p n) (n + k) ≡ back m p k
  back-onward n k h =
      by_onward m p n
      (λ a e. by_back m p k
      (λ b f. by_back m (onward m p n) (n + k) (λ c g. omega arith) (λ c g. omega arith))
      (λ b f. by_back m (onward m p n) (n + k) (λ c g. omega arith) (λ c g. omega arith)))
      (λ a e. by_back m p k
      (λ b f. by_back m (onward m p n) (n + k) (λ c g. omega arith) (λ c g. omega arith))
      (λ b f. omega arith))

  -- n after it and n - j back is j after it
  pub back_less : (n j : ℕ) → j < n → n ≤ m → back m (onward m p n) (n - j) ≡ onward m p j
  back_less n j h k =
      by_onward m p n
      (λ a e. by_onward m p j
      (λ b f. by_back m (onward m p n) (n - j) (λ c g. omega arith) (λ c g. omega arith))
      (λ b f. omega arith))
      (λ a e. by_onward m p j
      (λ b f. by_back m (onward m p n) (n - j) (λ c g. omega arith) (λ c g. omega arith))
      (λ b f. by_back m (onward m p n) (n - j) (λ c g. omega arith) (λ c g. omega arith)))

  -- w before it and i after that is w - i before it
  pub onward-back : (w i : ℕ) → i ≤ w → w ≤ m → onward m (back m p w) i ≡ back m p (w - i)
  onward-back w i h k =
      by_back m p w
      (λ a e. by_back m p (w - i)
      (λ b f. by_onward m (back m p w) i (λ c g. omega arith) (λ c g. omega arith))
      (λ b f. omega arith))
      (λ a e. by_back m p (w - i)
      (λ b f. by_onward m (back m p w) i (λ c g. omega arith) (λ c g. omega arith))
      (λ b f. by_onward m (back m p w) i (λ c g. omega arith) (λ c g. omega arith)))

  -- how far after p a place lies: j where it is j after it, and m - k where it is k before it
  pub after-onward : (j : ℕ) → j < m → back m (onward m p j) p ≡ j
  after-onward j h =
      by_onward m p j
      (λ a e. by_back m (onward m p j) p (λ c g. omega arith) (λ c g. omega arith))
      (λ a e. by_back m (onward m p j) p (λ c g. omega arith) (λ c g. omega arith))

  pub after-back : (k : ℕ) → 0 < k → k ≤ m → back m (back m p k) p ≡ m - k
  after-back k some h =
      by_back m p k
      (λ a e. by_back m (back m p k) p (λ c g. omega arith) (λ c g. omega arith))
      (λ a e. by_back m (back m p k) p (λ c g. omega arith) (λ c g. omega arith))
