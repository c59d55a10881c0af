-- Laws of loops that build a set member by member with `with`.
use mathlib.Core.Bool.{Bool, true, false, ◌&&◌, ◌||◌}
use mathlib.Core.Path.{◌≡◌, refl, ap, sym, ◌∙◌}
use mathlib.Core.Logic.{◌⊎◌, inl, inr, ⊎_elim}
use Prim.Native.Nat.{ℕ, ◌+◌, ◌≤◌, ◌<◌}
use native.Mathlib.Omega.{arith}
use lib.Dec.{eqb, ltb}
use borrow.Author.Tests.{lt-ltb, le-ltb, eq-eqb, eqb-true, eqb-false}
use Rattle.base.specs.Set.{has, word_bits}
use Rattle.base.proofs.BoolLaws.{true_or_false, iff_same, and_no_right, or_false, lt_or_le}
use Rattle.base.proofs.SetLaws.{has-none}

pub eqb-sym : (a b : ℕ) → eqb a b ≡ eqb b a
eqb-sym a b = iff_same (eqb a b) (eqb b a) (λ h. eq-eqb b a (sym (eqb-true a b h))) (λ h. eq-eqb a b (sym (eqb-true b a h)))

-- what `with` says: r is s with i
abbrev pub With : ℕ → ℕ → ℕ → Type 0
With s i r = (j : ℕ) → has r j ≡ (has s j || (eqb j i && ltb j word_bits))

-- ---- in any order: s has those of a word's numbers that pass p

abbrev pub Passing : (ℕ → Bool) → ℕ → Type 0
Passing p s = (k : ℕ) → has s k ≡ (p k && ltb k word_bits)

pub passing_none : Passing (λ k. false) 0
passing_none k = has-none k

pub passing_more : (p : ℕ → Bool) (s i r : ℕ) → Passing p s → With s i r → Passing (λ k. p k || eqb i k) r
passing_more p s i r h w k = w k ∙ ap (λ (b : Bool). b || (eqb k i && ltb k word_bits)) (h k) ∙ rw (eqb-sym k i) (go (p k) (eqb i k) (ltb k word_bits))
  where
    go : (a e w : Bool) → ((a && w) || (e && w)) ≡ ((a || e) && w)
    go true e true = refl
    go true true false = refl
    go true false false = refl
    go false e w = refl

-- ---- in increasing order: s has those below i that pass p

abbrev pub Collected : (ℕ → Bool) → ℕ → ℕ → Type 0
Collected p i s = (k : ℕ) → has s k ≡ (p k && ltb k i)

pub collected_none : (p : ℕ → Bool) (i : ℕ) → ((k : ℕ) → k < i → p k ≡ false) → Collected p i 0
collected_none p i h k =
    has-none k
    ∙ sym (⊎_elim (λ (l : k < i). rw (h k l)) (λ (l : i ≤ k). and_no_right (p k) (le-ltb k i l)) (lt_or_le k i))

-- up to i and up to i + 1 is the same but for i itself
next : (k i : ℕ) → (k ≡ i → ⊥) → ltb k (i + 1) ≡ ltb k i
next k i ne =
    ⊎_elim
    (λ (l : k < i). lt-ltb k (i + 1) (omega arith) ∙ sym (lt-ltb k i l))
    (λ (l : i ≤ k). le-ltb k (i + 1) (omega arith) ∙ sym (le-ltb k i l))
    (lt_or_le k i)

pub collected_take : (p : ℕ → Bool) (i s r : ℕ) → i < word_bits → p i ≡ true → Collected p i s → With s i r → Collected p (i + 1) r
collected_take p i s r h t c w k = w k ∙ rw (c k) (go (true_or_false (eqb k i)))
  where
    go : (eqb k i ≡ true) ⊎ (eqb k i ≡ false) → ((p k && ltb k i) || (eqb k i && ltb k word_bits)) ≡ (p k && ltb k (i + 1))
    go (inl e) =
        let q : k ≡ i = eqb-true k i e in
        let pk : p k ≡ true = rw q t in
        rw (e, pk, lt-ltb k word_bits (omega arith), lt-ltb k (i + 1) (omega arith), le-ltb k i (omega arith))
    go (inr e) = rw (e, or_false (p k && ltb k i)) (ap (λ (b : Bool). p k && b) (sym (next k i (eqb-false k i e))))

pub collected_skip : (p : ℕ → Bool) (i s : ℕ) → p i ≡ false → Collected p i s → Collected p (i + 1) s
collected_skip p i s f c k = c k ∙ go (true_or_false (eqb k i))
  where
    go : (eqb k i ≡ true) ⊎ (eqb k i ≡ false) → (p k && ltb k i) ≡ (p k && ltb k (i + 1))
    go (inl e) = let q : k ≡ i = eqb-true k i e in let pk : p k ≡ false = rw q f in rw pk
    go (inr e) = ap (λ (b : Bool). p k && b) (sym (next k i (eqb-false k i e)))

pub collected_done : (p : ℕ → Bool) (i s : ℕ) → ((k : ℕ) → p k ≡ true → k < i) → Collected p i s → (k : ℕ) → has s k ≡ p k
collected_done p i s h c k = c k ∙ go (true_or_false (p k))
  where
    go : (p k ≡ true) ⊎ (p k ≡ false) → (p k && ltb k i) ≡ p k
    go (inl e) = rw (e, lt-ltb k i (h k e))
    go (inr e) = rw e
