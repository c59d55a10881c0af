-- Laws of the list of a set's members: it is empty or the lowest member and the rest's list; what is folded over it.
use mathlib.Core.Bool.{Bool, true, false}
use mathlib.Core.List.{List, [], ◌∷◌, ◌++◌, append-nil, append_assoc}
use mathlib.Core.Logic.{⊎_elim}
use mathlib.Core.Path.{◌≡◌, refl, ap, subst, sym, ◌∙◌}
use Prim.Native.Nat.{ℕ, zero, suc, ◌+◌, ◌-◌, ◌^◌, ◌≤◌, ◌<◌}
use native.Mathlib.Nat.{add-suc}
use native.Mathlib.Omega.{arith}
use lib.Bits.{bit_and, and_le_r}
use lib.ListN.{length}
use borrow.Author.Tests.{le-leb, lt-leb}
use Rattle.std.specs.List as list
use Rattle.std.specs.List.{All}
use Rattle.std.proofs.lemmas.List.Elements.{All-nil, All-push, All-head, All-tail, All-weaker}
use Rattle.std.proofs.lemmas.List.Sums.{fold_push}
use Rattle.base.specs.Range.{first, fold}
use Rattle.base.specs.Set.{has, members, word_bits}
use Rattle.base.proofs.BoolLaws.{true_or_false, lt_or_le, and_true, and_no_right}
use Rattle.base.proofs.RangeLaws.{fold_skip}
use Rattle.base.proofs.SetLaws.{has-none, has_cleared}
use Rattle.base.proofs.WalkLaws.{Without, Walked, walk_start, walk_next, Seen, seen_start, seen_next, seen_all}

-- the numbers below n that pass, in a list
passing : (ℕ → Bool) → ℕ → List ℕ
passing p n = fold (λ l i. l ++ (i ∷ [])) [] p n

folded : {A : Type 0} (step : A → ℕ → A) (z : A) (p : ℕ → Bool) (n : ℕ) → list.fold step z (passing p n) ≡ fold step z p n
unfolding passing fold
folded step z p zero = refl
folded step z p (suc n) =
    ⊎_elim
    (λ (e : p n ≡ true). rw e (fold_push step z (passing p n) n ∙ ap (λ a. step a n) (folded step z p n)))
    (λ (e : p n ≡ false). rw e (folded step z p n))
    (true_or_false (p n))

passing_in : (p : ℕ → Bool) (n : ℕ) → All (λ i. (i < n) × (p i ≡ true)) (passing p n)
unfolding passing fold
passing_in p zero = All-nil _
passing_in p (suc n) =
    let up : All (λ i. (i < suc n) × (p i ≡ true)) (passing p n) = All-weaker (λ i. (i < n) × (p i ≡ true)) (λ i. (i < suc n) × (p i ≡ true)) (λ i h. (omega (arith, h.0), h.1)) _ (passing_in p n) in
    ⊎_elim
    (λ (e : p n ≡ true). rw e (All-push (λ i. (i < suc n) × (p i ≡ true)) _ n up (omega arith, e)))
    (λ (e : p n ≡ false). rw e up)
    (true_or_false (p n))

-- Along a walk that lists the members it meets: what it has met and the members that are left are all of them.
module _ (s rest : ℕ) (met : List ℕ) (w : Walked (λ l i. l ++ (i ∷ [])) [] s rest met) where
  along : (d : ℕ) → passing (has s) (w.place + d) ≡ met ++ passing (has rest) (w.place + d)
  unfolding passing fold
  along zero =
      let e : w.place + 0 ≡ w.place = omega arith in
      let none : passing (has rest) w.place ≡ [] =
      fold_skip _ [] (has rest) 0 w.place (omega arith) (λ j a b. w.left j ∙ and_no_right (has s j) (lt-leb w.place j b)) in
      rw (e, none, append-nil) (sym w.so_far)
  along (suc d) =
      let n = w.place + d in
      let same : has rest n ≡ has s n = w.left n ∙ rw (le-leb w.place n (omega arith), and_true) refl in
      ⊎_elim
      (λ (e : has s n ≡ true). rw (add-suc w.place d, e, same ∙ e, along d) (append_assoc met (passing (has rest) n) (n ∷ [])))
      (λ (e : has s n ≡ false). rw (add-suc w.place d, e, same ∙ e) (along d))
      (true_or_false (has s n))

  listed : members s ≡ met ++ members rest
  unfolding passing
  listed =
      let e : w.place + (word_bits - w.place) ≡ word_bits = omega (arith, w.within) in
      rw e at (along (word_bits - w.place))

pub members_none : members 0 ≡ []
unfolding fold
members_none = fold_skip (λ l i. l ++ (i ∷ [])) [] (has 0) 0 word_bits (omega arith) (λ j a b. has-none j)

-- the lowest, and then those of the set without it
pub members_then : (s t : ℕ) → s < 2 ^ 64 → 0 < s → t ≤ s - 1 → Without s t → members s ≡ first (has s) word_bits ∷ members t
members_then s t h some_in le rest =
    listed s t (first (has s) word_bits ∷ []) (walk_next _ [] s s t [] (walk_start _ [] s h) some_in le rest)

pub members_next : (s : ℕ) → s < 2 ^ 64 → 0 < s → members s ≡ first (has s) word_bits ∷ members (bit_and s (s - 1))
members_next s h some_in = members_then s (bit_and s (s - 1)) h some_in (and_le_r s _) (has_cleared s h some_in)

-- what is folded over the members is folded over the numbers that are in the set
pub fold_members : {A : Type 0} (step : A → ℕ → A) (z : A) (s : ℕ) → list.fold step z (members s) ≡ fold step z (has s) word_bits
unfolding passing fold
fold_members step z s = folded step z (has s) word_bits

-- each of them has a place in a word, and is in the set
pub members_in : (s : ℕ) → All (λ i. (i < word_bits) × (has s i ≡ true)) (members s)
unfolding passing fold
members_in s = passing_in (has s) word_bits

-- of the members that are left, the next has a place in a word and is in the set
pub next_in : (s i : ℕ) (rest : List ℕ) → members s ≡ i ∷ rest → (i < word_bits) × (has s i ≡ true)
next_in s i rest e =
    let P : ℕ → Type 0 = λ i. (i < word_bits) × (has s i ≡ true) in
    All-head P i rest (subst (All P) e (members_in s))

-- What holds of all members is seen of each along a walk over them.
some_left : (s d : ℕ) → length (members s) ≡ suc d → 0 < s
some_left s d e =
    ⊎_elim
    (λ (h : 0 < s). h)
    (λ (h : s ≤ 0).
    let z : s ≡ 0 = omega arith in
    absurd (omega (arith, sym e ∙ ap (λ n. length (members n)) z ∙ ap length members_none)))
    (lt_or_le 0 s)

none_left : (s : ℕ) → s < 2 ^ 64 → length (members s) ≡ 0 → s ≡ 0
none_left s h e =
    ⊎_elim
    (λ (l : 0 < s). absurd (omega (arith, ap length (members_next s h l), e)))
    (λ (l : s ≤ 0). omega arith)
    (lt_or_le 0 s)

module _ (P : ℕ → Type 0) (s : ℕ) where
  seen_rest : (d rest : ℕ) → length (members rest) ≡ d → All P (members rest) → Seen P s rest → Seen P s 0
  seen_rest zero rest e all w = rw (none_left rest w.fits e) at w
  seen_rest (suc d) rest e all w =
      let h = some_left rest d e in
      let t = bit_and rest (rest - 1) in
      let next = members_next rest w.fits h in
      let here : All P (first (has rest) word_bits ∷ members t) = rw next at all in
      seen_rest d t (omega (arith, ap length next, e)) (All-tail P _ _ here)
      (seen_next P s rest t w h (and_le_r rest _) (has_cleared rest w.fits h) (All-head P _ _ here))

  pub seen_listed : s < 2 ^ 64 → All P (members s) → (i : ℕ) → has s i ≡ true → P i
  seen_listed h all = seen_all P s (seen_rest (length (members s)) s refl all (seen_start P s h))
