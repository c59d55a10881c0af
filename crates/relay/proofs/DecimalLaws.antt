-- Laws of numbers in decimal: the rule without a limit, that the library writes the same, and what the digits say.
use mathlib.Core.Bool.{cond, true, false}
use mathlib.Core.List.{List, [], ◌∷◌, ◌++◌}
use mathlib.Core.Path.{◌≡◌, refl, ◌∙◌}
use mathlib.Core.Logic.{⊎_elim}
use Prim.Native.Nat.{ℕ, zero, suc, ◌+◌, ◌-◌, ◌*◌, ◌/◌, ◌%◌, ◌<◌}
use native.Mathlib.Omega.{arith}
use lib.Dec.{ltb}
use lib.ListN.{get_or, length, length-append, get_or-append}
use borrow.Author.Tests.{ltb-true, ltb-false, lt-ltb, le-ltb}
use Rattle.std.specs.Fmt.{decimal}
use Rattle.std.proofs.Common.{Fits, w64}
use Rattle.std.proofs.Math.Facts.{Fits-lt-pow}
use Rattle.std.proofs.lemmas.Fmt.{decimal_by_steps}
use Rattle.base.proofs.BoolLaws.{true_or_false}
use Rattle.relay.specs.Decimal.{digit, digits_within, digits}

-- a limit above the number is never felt
enough : (f g n : ℕ) → n < f → n < g → digits_within f n ≡ digits_within g n
unfolding digits_within
enough zero g n h k = absurd (omega arith)
enough (suc f) zero n h k = absurd (omega arith)
enough (suc f) (suc g) n h k =
    ⊎_elim
    (λ (e : ltb n 10 ≡ true). rw e refl)
    (λ (e : ltb n 10 ≡ false). rw (e, enough f g (n / 10) (omega (arith, ltb-false n 10 e)) (omega (arith, ltb-false n 10 e))) refl)
    (true_or_false (ltb n 10))

-- the rule without a limit
pub digits_rule : (n : ℕ) → digits n ≡ cond (ltb n 10) (digit n ∷ []) (digits (n / 10) ++ (digit (n % 10) ∷ []))
unfolding digits digits_within
digits_rule n =
    ⊎_elim
    (λ (e : ltb n 10 ≡ true). rw e refl)
    (λ (e : ltb n 10 ≡ false). rw (e, enough n (suc (n / 10)) (n / 10) (omega (arith, ltb-false n 10 e)) (omega arith)) refl)
    (true_or_false (ltb n 10))

pub digits-small : (n : ℕ) → n < 10 → digits n ≡ digit n ∷ []
digits-small n h = digits_rule n ∙ rw (lt-ltb n 10 h) refl

pub digits_more : (n : ℕ) → 9 < n → digits n ≡ digits (n / 10) ++ (digit (n % 10) ∷ [])
digits_more n h = digits_rule n ∙ rw (le-ltb n 10 (omega arith)) refl

-- what the library writes of a number of 64 bits
pub digits_printed : (n : ℕ) → Fits w64 n → decimal n ≡ digits n
digits_printed n h =
    decimal_by_steps
    (λ m ds. ds ≡ digits m)
    (λ m small. let e : 48 + m ≡ digit m = omega arith in rw (digits-small m small, e) refl)
    (λ m ds large front.
    let e : 48 + m % 10 ≡ digit (m % 10) = omega arith in
    rw (digits_more m large, ← front, e) refl)
    n (Fits-lt-pow h)

length_more : (n : ℕ) → 9 < n → length (digits n) ≡ length (digits (n / 10)) + 1
length_more n h = rw (digits_more n h) (length-append (digits (n / 10)) (digit (n % 10) ∷ []))

length-small : (n : ℕ) → n < 10 → length (digits n) ≡ 1
length-small n h = rw (digits-small n h) refl

length_some : (n : ℕ) → 0 < length (digits n)
length_some n =
    ⊎_elim
    (λ (e : ltb n 10 ≡ true). omega (arith, length-small n (ltb-true n 10 e)))
    (λ (e : ltb n 10 ≡ false). omega (arith, length_more n (ltb-false n 10 e)))
    (true_or_false (ltb n 10))

-- ---- what the digits say

-- the number that these characters spell in decimal after others that spell n
abbrev pub spelled_after : ℕ → List ℕ → ℕ
spelled_after n [] = n
spelled_after n (x ∷ l) = spelled_after (n * 10 + (x - 48)) l

spelled_append : (n : ℕ) (l m : List ℕ) → spelled_after n (l ++ m) ≡ spelled_after (spelled_after n l) m
spelled_append n [] m = refl
spelled_append n (x ∷ l) m = spelled_append (n * 10 + (x - 48)) l m

within-spell : (f n : ℕ) → n < f → spelled_after 0 (digits_within f n) ≡ n
unfolding digits_within
within-spell zero n h = absurd (omega arith)
within-spell (suc f) n h =
    ⊎_elim
    (λ (e : ltb n 10 ≡ true). rw e (omega arith))
    (λ (e : ltb n 10 ≡ false).
    let d = digits_within f (n / 10) in
    let front : spelled_after 0 d ≡ n / 10 = within-spell f (n / 10) (omega (arith, ltb-false n 10 e)) in
    rw (e, spelled_append 0 d (digit (n % 10) ∷ []), front) (omega arith))
    (true_or_false (ltb n 10))

-- a number's digits spell it
pub digits-spell : (n : ℕ) → spelled_after 0 (digits n) ≡ n
unfolding digits
digits-spell n = within-spell (suc n) n (omega arith)

-- no zero stands before them
within_lead : (f n : ℕ) → n < f → 0 < n → 48 < get_or (digits_within f n) 0 0
unfolding digits digits_within
within_lead zero n h p = absurd (omega arith)
within_lead (suc f) n h p =
    ⊎_elim
    (λ (e : ltb n 10 ≡ true). rw e (omega arith))
    (λ (e : ltb n 10 ≡ false).
    let d = digits_within f (n / 10) in
    let same : d ≡ digits (n / 10) = enough f (suc (n / 10)) (n / 10) (omega (arith, ltb-false n 10 e)) (omega arith) in
    let some : 0 < length d = rw same (length_some (n / 10)) in
    rw (e, get_or-append d (digit (n % 10) ∷ []) 0 0 some)
    (within_lead f (n / 10) (omega (arith, ltb-false n 10 e)) (omega (arith, ltb-false n 10 e))))
    (true_or_false (ltb n 10))

pub digits_lead : (n : ℕ) → 0 < n → 48 < get_or (digits n) 0 0
unfolding digits
digits_lead n = within_lead (suc n) n (omega arith)
