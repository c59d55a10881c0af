-- Laws of sets of numbers as 64-bit words: single digits, the lowest member, how many members.
use mathlib.Core.Bool.{Bool, true, false, not, ◌&&◌, ◌||◌}
use mathlib.Core.Path.{◌≡◌, refl, ap, sym, ◌∙◌}
use mathlib.Core.Logic.{⊎_elim, ◌⊎◌, inl, inr}
use Prim.Native.Nat.{ℕ, zero, suc, ◌+◌, ◌-◌, ◌*◌, ◌/◌, ◌%◌, ◌^◌, ◌≤◌, ◌<◌, min, max}
use native.Mathlib.Nat.{pow-suc, div-one, pow-succ', div-div-eq-div-mul, one-mul}
use native.Mathlib.Omega.{arith}
use lib.Pow.{shl_exact}
use lib.Arith.{digits_div, digits_mod}
use lib.Bits.{bit_and, bit_or, bit_xor, differ, and_step, or_step, xor_step, and_self}
use lib.Count.{count_trailing_zeros, under, ones, ones_step, trailing_of_zero}
use lib.Dec.{eqb, ltb}
use borrow.Author.Tests.{eq-eqb, ne_eqb, eqb-true, eqb-false, lt-ltb, le-ltb}
use Rattle.base.specs.Range.{how_many, first}
use Rattle.base.specs.Set.{has, word_bits}
use Rattle.base.proofs.BoolLaws.{true_or_false, lt_or_le, and_true, and_no_right, or_false}
use Rattle.base.proofs.RangeLaws.{first_is}

-- ---- digits, one after the other

-- digit i of n
unfoldable bit : ℕ → ℕ → ℕ
bit zero n = n % 2
bit (suc i) n = bit i (n / 2)

bit_lt : (i n : ℕ) → bit i n < 2
unfolding bit
bit_lt zero n = omega arith
bit_lt (suc i) n = bit_lt i (n / 2)

bit_of_zero : (i : ℕ) → bit i 0 ≡ 0
unfolding bit
bit_of_zero zero = refl
bit_of_zero (suc i) = bit_of_zero i

bit_shift : (i n : ℕ) → n / 2 ^ i % 2 ≡ bit i n
unfolding bit
bit_shift zero n = rw div-one refl
bit_shift (suc i) n = rw (pow-succ', ← div-div-eq-div-mul n 2 (2 ^ i)) (bit_shift i (n / 2))

has_bit : (s i : ℕ) → has s i ≡ eqb (bit i s) 1
unfolding has
has_bit s i = rw bit_shift

bit_is : (s i : ℕ) → has s i ≡ true → bit i s ≡ 1
bit_is s i h = eqb-true (bit i s) 1 (sym (has_bit s i) ∙ h)

bit_isn't : (s i : ℕ) → has s i ≡ false → bit i s ≡ 0
bit_isn't s i h = let ne : bit i s ≡ 1 → ⊥ = eqb-false (bit i s) 1 (sym (has_bit s i) ∙ h) in omega (arith, bit_lt i s)

has_is : (s i : ℕ) → bit i s ≡ 1 → has s i ≡ true
has_is s i h = has_bit s i ∙ eq-eqb (bit i s) 1 h

has_isn't : (s i : ℕ) → bit i s ≡ 0 → has s i ≡ false
has_isn't s i h = has_bit s i ∙ ne_eqb (bit i s) 1 (omega arith)

-- ---- the empty set, both, either, one without the other, one

pub has-none : (i : ℕ) → has 0 i ≡ false
has-none i = has_isn't 0 i (bit_of_zero i)

min_lt : (a b : ℕ) → a < 2 → min a b < 2
min_lt a b h = omega arith

max_lt : (a b : ℕ) → a < 2 → b < 2 → max a b < 2
max_lt a b h k = omega arith

differ_lt : (a b : ℕ) → a < 2 → b < 2 → differ a b < 2
differ_lt zero b h k = k
differ_lt (suc a) zero h k = h
differ_lt (suc a) (suc b) h k = differ_lt a b (omega arith) (omega arith)

bit-bit_and : (i a b : ℕ) → bit i (bit_and a b) ≡ min (bit i a) (bit i b)
unfolding bit
bit-bit_and zero a b = ap (λ (x : ℕ). x % 2) (and_step a b) ∙ digits_mod (bit_and (a / 2) (b / 2)) (min_lt (a % 2) (b % 2) (omega arith))
bit-bit_and (suc i) a b =
    ap (λ (x : ℕ). bit i (x / 2)) (and_step a b)
    ∙ ap (bit i) (digits_div (bit_and (a / 2) (b / 2)) (min_lt (a % 2) (b % 2) (omega arith)))
    ∙ bit-bit_and i (a / 2) (b / 2)

bit-bit_or : (i a b : ℕ) → bit i (bit_or a b) ≡ max (bit i a) (bit i b)
unfolding bit
bit-bit_or zero a b = ap (λ (x : ℕ). x % 2) (or_step a b) ∙ digits_mod (bit_or (a / 2) (b / 2)) (max_lt (a % 2) (b % 2) (omega arith) (omega arith))
bit-bit_or (suc i) a b =
    ap (λ (x : ℕ). bit i (x / 2)) (or_step a b)
    ∙ ap (bit i) (digits_div (bit_or (a / 2) (b / 2)) (max_lt (a % 2) (b % 2) (omega arith) (omega arith)))
    ∙ bit-bit_or i (a / 2) (b / 2)

pub has_both : (a b i : ℕ) → has (bit_and a b) i ≡ (has a i && has b i)
has_both a b i = go (true_or_false (has a i)) (true_or_false (has b i))
  where
    go : (has a i ≡ true) ⊎ (has a i ≡ false) → (has b i ≡ true) ⊎ (has b i ≡ false) → has (bit_and a b) i ≡ (has a i && has b i)
    go (inl p) (inl q) = rw (p, q) (has_is (bit_and a b) i (omega (arith, bit-bit_and i a b, bit_is a i p, bit_is b i q)))
    go (inl p) (inr q) = rw (p, q) (has_isn't (bit_and a b) i (omega (arith, bit-bit_and i a b, bit_isn't b i q)))
    go (inr p) q = rw p (has_isn't (bit_and a b) i (omega (arith, bit-bit_and i a b, bit_isn't a i p)))

pub has_either : (a b i : ℕ) → has (bit_or a b) i ≡ (has a i || has b i)
has_either a b i = go (true_or_false (has a i)) (true_or_false (has b i))
  where
    go : (has a i ≡ true) ⊎ (has a i ≡ false) → (has b i ≡ true) ⊎ (has b i ≡ false) → has (bit_or a b) i ≡ (has a i || has b i)
    go (inl p) q = rw p (has_is (bit_or a b) i (omega (arith, bit-bit_or i a b, bit_is a i p, bit_lt i b)))
    go (inr p) (inl q) = rw (p, q) (has_is (bit_or a b) i (omega (arith, bit-bit_or i a b, bit_isn't a i p, bit_is b i q)))
    go (inr p) (inr q) = rw (p, q) (has_isn't (bit_or a b) i (omega (arith, bit-bit_or i a b, bit_isn't a i p, bit_isn't b i q)))

bit-bit_xor : (i a b : ℕ) → bit i (bit_xor a b) ≡ differ (bit i a) (bit i b)
unfolding bit
bit-bit_xor zero a b = ap (λ (x : ℕ). x % 2) (xor_step a b)
    ∙ digits_mod (bit_xor (a / 2) (b / 2)) (differ_lt (a % 2) (b % 2) (omega arith) (omega arith))
bit-bit_xor (suc i) a b =
    ap (λ (x : ℕ). bit i (x / 2)) (xor_step a b)
    ∙ ap (bit i) (digits_div (bit_xor (a / 2) (b / 2)) (differ_lt (a % 2) (b % 2) (omega arith) (omega arith)))
    ∙ bit-bit_xor i (a / 2) (b / 2)

-- what is in a and not in b, as the word (a | b) ^ b
pub has-outside : (a b i : ℕ) → has (bit_xor (bit_or a b) b) i ≡ (has a i && not (has b i))
has-outside a b i = go (true_or_false (has a i)) (true_or_false (has b i))
  where
    digit : bit i (bit_xor (bit_or a b) b) ≡ differ (max (bit i a) (bit i b)) (bit i b)
    digit = bit-bit_xor i (bit_or a b) b ∙ rw (bit-bit_or i a b)

    go : (has a i ≡ true) ⊎ (has a i ≡ false) → (has b i ≡ true) ⊎ (has b i ≡ false)
        → has (bit_xor (bit_or a b) b) i ≡ (has a i && not (has b i))
    go (inl p) (inl q) = rw (p, q) (has_isn't _ i (digit ∙ rw (bit_is a i p, bit_is b i q) refl))
    go (inl p) (inr q) = rw (p, q) (has_is _ i (digit ∙ rw (bit_is a i p, bit_isn't b i q) refl))
    go (inr p) (inl q) = rw p (has_isn't _ i (digit ∙ rw (bit_isn't a i p, bit_is b i q) refl))
    go (inr p) (inr q) = rw p (has_isn't _ i (digit ∙ rw (bit_isn't a i p, bit_isn't b i q) refl))

bit_self : (j : ℕ) → bit j (2 ^ j) ≡ 1
unfolding bit
bit_self zero = refl
bit_self (suc j) = let e : 2 ^ suc j / 2 ≡ 2 ^ j = omega (arith, pow-suc 2 j) in rw e (bit_self j)

bit_other : (i j : ℕ) → (i ≡ j → ⊥) → bit i (2 ^ j) ≡ 0
unfolding bit
bit_other zero zero h = absurd (h refl)
bit_other (suc i) zero h = bit_of_zero i
bit_other zero (suc j) h = omega (arith, pow-suc 2 j)
bit_other (suc i) (suc j) h = let e : 2 ^ suc j / 2 ≡ 2 ^ j = omega (arith, pow-suc 2 j) in rw e (bit_other i j (λ (q : i ≡ j). h (ap suc q)))

pub has_one : (j i : ℕ) → has (2 ^ j) i ≡ eqb i j
has_one j i =
    ⊎_elim
    (λ (e : eqb i j ≡ true). let q : i ≡ j = eqb-true i j e in rw (e, q) (has_is (2 ^ j) j (bit_self j)))
    (λ (e : eqb i j ≡ false). rw e (has_isn't (2 ^ j) i (bit_other i j (eqb-false i j e))))
    (true_or_false (eqb i j))

-- one member more, as the word s | 1 << i; a shift by less than the word's width loses nothing
pub has_with : (s i : ℕ) → i < word_bits → (j : ℕ) → has (bit_or s (1 * 2 ^ i % 2 ^ 64)) j ≡ (has s j || (eqb j i && ltb j word_bits))
has_with s i h j =
    let fits : 1 * 2 ^ i % 2 ^ 64 ≡ 2 ^ i = shl_exact {a = 1} 1 i 64 (omega arith) (omega arith) ∙ one-mul (2 ^ i) in
    rw fits (has_either s (2 ^ i) j ∙ ap (λ (b : Bool). has s j || b) (has_one i j ∙ sym (room (true_or_false (eqb j i)))))
  where
    room : (eqb j i ≡ true) ⊎ (eqb j i ≡ false) → (eqb j i && ltb j word_bits) ≡ eqb j i
    room (inl e) = let q : j ≡ i = eqb-true j i e in rw (e, lt-ltb j word_bits (omega arith))
    room (inr e) = rw e

-- a number that a word has no room for
pub has_without : (s i : ℕ) → word_bits ≤ i → (j : ℕ) → has s j ≡ (has s j || (eqb j i && ltb j word_bits))
has_without s i h j = sym (rw (no_room (true_or_false (eqb j i))) (or_false (has s j)))
  where
    no_room : (eqb j i ≡ true) ⊎ (eqb j i ≡ false) → (eqb j i && ltb j word_bits) ≡ false
    no_room (inl e) = let q : j ≡ i = eqb-true j i e in and_no_right (eqb j i) (le-ltb j word_bits (omega arith))
    no_room (inr e) = rw e

-- a word has no member past its width
bit_past : (k n i : ℕ) → n < 2 ^ k → k ≤ i → bit i n ≡ 0
unfolding bit
bit_past zero n i h l = let e : n ≡ 0 = omega arith in rw e (bit_of_zero i)
bit_past (suc k) n zero h l = absurd (omega arith)
bit_past (suc k) n (suc i) h l = bit_past k (n / 2) i (omega (arith, pow-suc 2 k)) (omega arith)

pub has_past : (s i : ℕ) → s < 2 ^ 64 → word_bits ≤ i → has s i ≡ false
has_past s i h l = has_isn't s i (bit_past 64 s i h l)

-- ---- the lowest member

half_lt : (k n : ℕ) → n < 2 ^ suc k → n / 2 < 2 ^ k
half_lt k n h = omega (arith, pow-suc 2 k)

low_is : (k n : ℕ) → 0 < n → n < 2 ^ k → bit (count_trailing_zeros k n) n ≡ 1
unfolding bit count_trailing_zeros
low_is zero n h l = absurd (omega arith)
low_is (suc k) n h l = go (n % 2) refl (λ (q : 0 < n / 2). low_is k (n / 2) q (half_lt k n l))
  where
    go : (r : ℕ) → n % 2 ≡ r → (0 < n / 2 → bit (count_trailing_zeros k (n / 2)) (n / 2) ≡ 1) → bit (under r (count_trailing_zeros k (n / 2))) n ≡ 1
    go zero e ih = ih (omega arith)
    go (suc r) e ih = omega arith

low_first : (k n j : ℕ) → j < count_trailing_zeros k n → bit j n ≡ 0
unfolding bit count_trailing_zeros
low_first zero n j h = absurd (omega arith)
low_first (suc k) n j h = go (n % 2) refl j h (λ i q. low_first k (n / 2) i q)
  where
    go : (r : ℕ) → n % 2 ≡ r → (i : ℕ) → i < under r (count_trailing_zeros k (n / 2))
        → ((m : ℕ) → m < count_trailing_zeros k (n / 2) → bit m (n / 2) ≡ 0) → bit i n ≡ 0
    go zero e zero q ih = e
    go zero e (suc i) q ih = ih i (omega arith)
    go (suc r) e i q ih = absurd (omega arith)

low_lt : (k n : ℕ) → 0 < n → n < 2 ^ k → count_trailing_zeros k n < k
unfolding count_trailing_zeros
low_lt zero n h l = absurd (omega arith)
low_lt (suc k) n h l = go (n % 2) refl (λ (q : 0 < n / 2). low_lt k (n / 2) q (half_lt k n l))
  where
    go : (r : ℕ) → n % 2 ≡ r → (0 < n / 2 → count_trailing_zeros k (n / 2) < k) → under r (count_trailing_zeros k (n / 2)) < suc k
    go zero e ih = omega (arith, ih (omega arith))
    go (suc r) e ih = omega arith

-- the count of trailing zeros is the least member, and the word's width where there is none
pub lowest_is : (s : ℕ) → s < 2 ^ 64 → count_trailing_zeros 64 s ≡ first (has s) word_bits
lowest_is s h =
    ⊎_elim
    (λ (p : 0 < s). first_is (has s) 64 (count_trailing_zeros 64 s) (omega (arith, low_lt 64 s p h)) (λ q. has_is s _ (low_is 64 s p h)) (λ j q. has_isn't s j (low_first 64 s j q)))
    (λ (p : s ≤ 0).
    let e : s ≡ 0 = omega arith in
    rw (e, trailing_of_zero 64) (first_is (has 0) 64 64 (omega arith) (λ q. absurd (omega arith)) (λ j q. has-none j)))
    (lt_or_le 0 s)

-- of a set that has a member
module _ (s : ℕ) (fits : s < 2 ^ 64) (some_in : 0 < s) where
  pub first_in : has s (first (has s) word_bits) ≡ true
  first_in = rw (← (lowest_is s fits)) (has_is s _ (low_is 64 s some_in fits))

  pub first_lt : first (has s) word_bits < word_bits
  first_lt = rw (← (lowest_is s fits)) (low_lt 64 s some_in fits)

  pub first-first : (j : ℕ) → j < first (has s) word_bits → has s j ≡ false
  first-first j h = has_isn't s j (low_first 64 s j (omega (arith, lowest_is s fits)))

-- ---- n & (n - 1): the lowest member is taken away

unfoldable cleared : ℕ → ℕ
cleared n = bit_and n (n - 1)

cleared_odd : (n : ℕ) → n % 2 ≡ 1 → cleared n ≡ n / 2 * 2
unfolding cleared
cleared_odd n h =
    let e : (n - 1) / 2 ≡ n / 2 = omega arith in
    let d : (n - 1) % 2 ≡ 0 = omega arith in
    rw (and_step, e, d, h, and_self) (omega arith)

cleared_even : (n : ℕ) → 0 < n → n % 2 ≡ 0 → cleared n ≡ cleared (n / 2) * 2
unfolding cleared
cleared_even n p h =
    let e : (n - 1) / 2 ≡ n / 2 - 1 = omega arith in
    let d : (n - 1) % 2 ≡ 1 = omega arith in
    rw (and_step n (n - 1), e, d, h) (omega arith)

cleared_low : (k n : ℕ) → 0 < n → n < 2 ^ k → (j : ℕ) → j ≤ count_trailing_zeros k n → bit j (cleared n) ≡ 0
unfolding bit count_trailing_zeros
cleared_low zero n h l j q = absurd (omega arith)
cleared_low (suc k) n h l j q = go (n % 2) refl j q (λ (p : 0 < n / 2) i m. cleared_low k (n / 2) p (half_lt k n l) i m)
  where
    go : (r : ℕ) → n % 2 ≡ r → (j : ℕ) → j ≤ under r (count_trailing_zeros k (n / 2))
        → (0 < n / 2 → (i : ℕ) → i ≤ count_trailing_zeros k (n / 2) → bit i (cleared (n / 2)) ≡ 0) → bit j (cleared n) ≡ 0
    go zero e zero q ih = rw (cleared_even n h e) (omega arith)
    go zero e (suc i) q ih = let d : cleared (n / 2) * 2 / 2 ≡ cleared (n / 2) = omega arith in rw (cleared_even n h e, d) (ih (omega arith) i (omega arith))
    go (suc r) e zero q ih = rw (cleared_odd n (omega arith)) (omega arith)
    go (suc r) e (suc i) q ih = absurd (omega arith)

cleared_to : (k n : ℕ) → 0 < n → n < 2 ^ k → (j : ℕ) → count_trailing_zeros k n < j → bit j (cleared n) ≡ bit j n
unfolding bit count_trailing_zeros
cleared_to zero n h l j q = absurd (omega arith)
cleared_to (suc k) n h l j q = go (n % 2) refl j q (λ (p : 0 < n / 2) i m. cleared_to k (n / 2) p (half_lt k n l) i m)
  where
    go : (r : ℕ) → n % 2 ≡ r → (j : ℕ) → under r (count_trailing_zeros k (n / 2)) < j
        → (0 < n / 2 → (i : ℕ) → count_trailing_zeros k (n / 2) < i → bit i (cleared (n / 2)) ≡ bit i (n / 2)) → bit j (cleared n) ≡ bit j n
    go zero e zero q ih = absurd (omega arith)
    go zero e (suc i) q ih = let d : cleared (n / 2) * 2 / 2 ≡ cleared (n / 2) = omega arith in rw (cleared_even n h e, d) (ih (omega arith) i (omega arith))
    go (suc r) e zero q ih = absurd (omega arith)
    go (suc r) e (suc i) q ih = let d : n / 2 * 2 / 2 ≡ n / 2 = omega arith in rw (cleared_odd n (omega arith), d) refl

pub has_cleared : (s : ℕ) → s < 2 ^ 64 → 0 < s → (j : ℕ) → has (bit_and s (s - 1)) j ≡ (has s j && not (eqb j (first (has s) word_bits)))
unfolding cleared
has_cleared s h p j = rw (← (lowest_is s h)) (go (lt_or_le (count_trailing_zeros 64 s) j))
  where
    t : ℕ
    t = count_trailing_zeros 64 s

    go : (t < j) ⊎ (j ≤ t) → has (cleared s) j ≡ (has s j && not (eqb j t))
    go (inl l) =
        rw (ne_eqb j t (omega arith), and_true)
        (has_bit (cleared s) j ∙ ap (λ (b : ℕ). eqb b 1) (cleared_to 64 s p h j l) ∙ sym (has_bit s j))
    go (inr l) =
        has_isn't (cleared s) j (cleared_low 64 s p h j l)
        ∙ sym
        (⊎_elim
        (λ (q : j < t). rw (has_isn't s j (low_first 64 s j q)))
        (λ (q : t ≤ j). and_no_right (has s j) (ap not (eq-eqb j t (omega arith))))
        (lt_or_le j t))

-- ---- how many members

members : ℕ → ℕ → ℕ
members zero n = 0
members (suc k) n = members k n + bit k n

members_low : (k n : ℕ) → members (suc k) n ≡ n % 2 + members k (n / 2)
unfolding members bit
members_low zero n = omega arith
members_low (suc k) n = rw (members_low k n) (omega arith)

ones_members : (k n : ℕ) → n < 2 ^ k → ones n ≡ members k n
unfolding members ones
ones_members zero n h = let e : n ≡ 0 = omega arith in rw e refl
ones_members (suc k) n h = ones_step n ∙ ap (λ (x : ℕ). n % 2 + x) (ones_members k (n / 2) (half_lt k n h)) ∙ sym (members_low k n)

members_how_many : (k n : ℕ) → members k n ≡ how_many (has n) k
unfolding members how_many
members_how_many zero n = refl
members_how_many (suc k) n =
    ⊎_elim
    (λ (e : has n k ≡ true). rw (e, bit_is n k e, members_how_many k n))
    (λ (e : has n k ≡ false). rw (e, bit_isn't n k e, members_how_many k n))
    (true_or_false (has n k))

-- the count of ones is how many members there are
pub count_is : (s : ℕ) → s < 2 ^ 64 → ones s ≡ how_many (has s) word_bits
count_is s h = ones_members 64 s h ∙ members_how_many 64 s
