-- Laws of a row of which a lent part is filled anew: each place is before the part, within it or after it.
use mathlib.Core.Path.{◌≡◌, refl, sym, ◌∙◌}
use mathlib.Core.List.{List}
use mathlib.Core.Logic.{⊎_elim}
use Prim.Native.Nat.{ℕ, ◌+◌, ◌-◌, ◌≤◌, ◌<◌, max, min}
use native.Mathlib.Omega.{arith}
use borrow.Rule.Slice.PartMut.{put_mid, same_len_mid}
use lib.ListN.{length, take, drop, get_or, length-take, length-drop}
use lib.Seq.{drop-drop, get_or-take, get_or-drop}
use Rattle.base.specs.Table.{tab}
use Rattle.base.proofs.BoolLaws.{lt_or_le}
use Rattle.base.proofs.PartLaws.{part_before, part_inside, part_after}
use Rattle.base.proofs.TableLaws.{length-tab, get_or-tab}
use Rattle.job.specs.Sums.{HoldsSums, sums_in, last_in}
use Rattle.curves.proofs.RowLaws.{row_is}
use Rattle.job.proofs.SumsLaws.{film_of}

-- a place of a part
pub part_get : (l : List ℕ) (a n j : ℕ) → j < n → get_or (take n (drop a l)) j 0 ≡ get_or l (a + j) 0
part_get l a n j h = get_or-take n (drop a l) j 0 h ∙ get_or-drop a l j 0

pub part_length : (l : List ℕ) (a n : ℕ) → a + n ≤ length l → length (take n (drop a l)) ≡ n
part_length l a n h = simp (length-take, length-drop) (omega arith)

module _ (l r : List ℕ) (a n : ℕ) (f : ℕ → ℕ) (fits : a + n ≤ length l) (is : r ≡ tab f n) where
  long : length r ≡ n
  long = rw is (length-tab f n)

  pub mid_length : length (put_mid a n l r) ≡ length l
  mid_length = same_len_mid a n l r (long ∙ sym (part_length l a n fits))

  pub mid_before : (k : ℕ) → k < a → get_or (put_mid a n l r) k 0 ≡ get_or l k 0
  mid_before k h = rw drop-drop (part_before l r a n fits long k h)

  pub mid_after : (k : ℕ) → a + n ≤ k → get_or (put_mid a n l r) k 0 ≡ get_or l k 0
  mid_after k h = rw drop-drop (part_after l r a n fits long k h)

  pub mid_inside : (k : ℕ) → a ≤ k → k < a + n → get_or (put_mid a n l r) k 0 ≡ f (k - a)
  mid_inside k h q =
      let e : a + (k - a) ≡ k = omega arith in
      rw drop-drop (rw e at (part_inside l r a n fits long (k - a) (omega arith)) ∙ rw is (get_or-tab f n (k - a) (omega arith)))

-- the delay where a part is left, and the place of T within T(0) to T(M) and past it
delay_in : (delay end a n held : ℕ) → a ≡ min delay end → n ≡ min (end - a) held → 0 < n → a ≡ delay
delay_in delay end a n held s c h = omega arith

delay_past : (delay end a k : ℕ) → a ≡ min delay end → a ≤ k → k < end → a ≡ delay
delay_past delay end a k s h q = omega arith

count_in : (end a n held : ℕ) → n ≡ min (end - a) held → n ≤ held
count_in end a n held c = omega arith

count_past : (end a n held k : ℕ) → n ≡ min (end - a) held → a + n ≤ k → k < end → n ≡ held
count_past end a n held k c h q = omega arith

place_in : (j held : ℕ) → j < held → min j (held - 1) ≡ j
place_in j held h = omega arith

place_past : (j held : ℕ) → held ≤ j → min j (held - 1) ≡ held - 1
place_past j held h = omega arith

-- ---- a row of which the part from a to a + n takes in T(0) to T(n - 1), and what lies after it takes in T(M)

module _ (step : ℕ → ℕ → ℕ) (l sums from x y : List ℕ) (held : HoldsSums sums) (delay a n m₁ m₂ : ℕ)
    (start : a ≡ min delay (length l)) (count : n ≡ min (length l - a) (length sums)) (first : m₁ ≡ n) (rest : m₂ ≡ length l - (a + n))
    (same : (j : ℕ) → j < n → get_or from j 0 ≡ get_or sums j 0)
    (x-is : x ≡ tab (λ k. step (get_or (take m₁ (drop a l)) k 0) (get_or from k 0)) (length (take m₁ (drop a l))))
    (y-is : y ≡ tab (λ k. step (get_or (take m₂ (drop (a + n) (put_mid a m₁ l x))) k 0) (last_in sums)) (length (take m₂ (drop (a + n) (put_mid a m₁ l x))))) where
  l₁ : List ℕ
  l₁ = put_mid a m₁ l x

  in_one : a + m₁ ≤ length l
  in_one = omega arith

  one_is : x ≡ tab (λ k. step (get_or (take m₁ (drop a l)) k 0) (get_or from k 0)) m₁
  one_is = rw (part_length l a m₁ in_one) at x-is

  one_long : length l₁ ≡ length l
  unfolding l₁
  one_long = mid_length l x a m₁ _ in_one one_is

  in_two : a + n + m₂ ≤ length l₁
  in_two = omega (arith, one_long)

  two_is : y ≡ tab (λ k. step (get_or (take m₂ (drop (a + n) l₁)) k 0) (last_in sums)) m₂
  unfolding l₁
  two_is = rw (part_length l₁ (a + n) m₂ in_two) at y-is

  pub parts_length : length (put_mid (a + n) m₂ (put_mid a m₁ l x) y) ≡ length l
  unfolding l₁
  parts_length = mid_length l₁ y (a + n) m₂ _ in_two two_is ∙ one_long

  pub parts_before : (k : ℕ) → k < a → get_or (put_mid (a + n) m₂ (put_mid a m₁ l x) y) k 0 ≡ get_or l k 0
  unfolding l₁
  parts_before k h = mid_before l₁ y (a + n) m₂ _ in_two two_is k (omega arith) ∙ mid_before l x a m₁ _ in_one one_is k h

  T-inside : (k : ℕ) → k - a < n → get_or sums (k - a) 0 ≡ sums_in sums (k - delay)
  unfolding sums_in
  T-inside k h =
      rw (← (delay_in delay (length l) a n (length sums) start count (positive (k - a) n h)), place_in (k - a) (length sums) (below (k - a) n (length sums) h (count_in (length l) a n (length sums) count))) refl
    where
      positive : (x y : ℕ) → x < y → 0 < y
      positive x y h = omega arith

      below : (x y z : ℕ) → x < y → y ≤ z → x < z
      below x y z p q = omega arith

  parts_inside : (k : ℕ) → a ≤ k → k < a + n → get_or (put_mid (a + n) m₂ (put_mid a m₁ l x) y) k 0 ≡ step (get_or l k 0) (sums_in sums (k - delay))
  unfolding l₁
  parts_inside k h q =
      let e : a + (k - a) ≡ k = omega arith in
      mid_before l₁ y (a + n) m₂ _ in_two two_is k q
      ∙ mid_inside l x a m₁ _ in_one one_is k h (omega arith)
      ∙ rw (part_get l a m₁ (k - a) (omega arith), e, same (k - a) (omega arith), T-inside k (omega arith))

  T-after : (k : ℕ) → a + n ≤ k → k < length l → last_in sums ≡ sums_in sums (k - delay)
  unfolding sums_in last_in
  T-after k h q =
      rw (← (delay_past delay (length l) a k start (less a n k h) q), place_past (k - a) (length sums) (far a n (length sums) k (count_past (length l) a n (length sums) k count h q) h)) refl
    where
      less : (x y z : ℕ) → x + y ≤ z → x ≤ z
      less x y z p = omega arith

      far : (x y z k : ℕ) → y ≡ z → x + y ≤ k → z ≤ k - x
      far x y z k e p = omega arith

  parts_after : (k : ℕ) → a + n ≤ k → k < length l → get_or (put_mid (a + n) m₂ (put_mid a m₁ l x) y) k 0 ≡ step (get_or l k 0) (sums_in sums (k - delay))
  unfolding l₁
  parts_after k h q =
      let e : a + n + (k - (a + n)) ≡ k = omega arith in
      mid_inside l₁ y (a + n) m₂ _ in_two two_is k h (omega arith)
      ∙ rw (part_get l₁ (a + n) m₂ (k - (a + n)) (omega arith), e, mid_after l x a m₁ _ in_one one_is k (omega arith), T-after k h q)

  -- each place from a on has taken in its T
  pub parts_from : (k : ℕ) → a ≤ k → k < length l → get_or (put_mid (a + n) m₂ (put_mid a m₁ l x) y) k 0 ≡ step (get_or l k 0) (sums_in sums (k - delay))
  parts_from k h q =
      ⊎_elim (λ (c : k < a + n). parts_inside k h c) (λ (c : a + n ≤ k). parts_after k c q) (lt_or_le k (a + n))

-- before the delay there is T(0)
T_before : (sums : List ℕ) → HoldsSums sums → (delay k : ℕ) → k ≤ delay → sums_in sums (k - delay) ≡ 0
T_before sums held delay k h = let e : k - delay ≡ 0 = omega arith in rw e (film_of sums held).starts

module _ (l sums from x y : List ℕ) (held : HoldsSums sums) (delay less a n m₁ m₂ : ℕ)
    (start : a ≡ min delay (length l)) (count : n ≡ min (length l - a) (length sums)) (first : m₁ ≡ n) (rest : m₂ ≡ length l - (a + n))
    (same : (j : ℕ) → j < n → get_or from j 0 ≡ get_or sums j 0)
    (x-is : x ≡ tab (λ k. max (get_or (take m₁ (drop a l)) k 0) (get_or from k 0 - less)) (length (take m₁ (drop a l))))
    (y-is : y ≡ tab (λ k. max (get_or (take m₂ (drop (a + n) (put_mid a m₁ l x))) k 0) (last_in sums - less)) (length (take m₂ (drop (a + n) (put_mid a m₁ l x))))) where
  pub raise_parts : put_mid (a + n) m₂ (put_mid a m₁ l x) y ≡ tab (λ k. max (get_or l k 0) (sums_in sums (k - delay) - less)) (length l)
  raise_parts =
      row_is _ _ (length l)
      (parts_length (λ o v. max o (v - less)) l sums from x y held delay a n m₁ m₂ start count first rest same x-is y-is)
      (λ k q. ⊎_elim
      (λ (c : k < a).
      parts_before (λ o v. max o (v - less)) l sums from x y held delay a n m₁ m₂ start count first rest same x-is y-is k c
      ∙ rw (T_before sums held delay k (early delay (length l) a k start c)) (nothing (get_or l k 0) less))
      (λ (c : a ≤ k). parts_from (λ o v. max o (v - less)) l sums from x y held delay a n m₁ m₂ start count first rest same x-is y-is k c q)
      (lt_or_le k a))
    where
      early : (delay end a k : ℕ) → a ≡ min delay end → k < a → k ≤ delay
      early delay end a k s h = omega arith

      nothing : (o less : ℕ) → o ≡ max o (0 - less)
      nothing o less = omega arith

module _ (l sums from x y z : List ℕ) (held : HoldsSums sums) (delay plus a n m₀ m₁ m₂ : ℕ)
    (start : a ≡ min delay (length l)) (count : n ≡ min (length l - a) (length sums)) (zeroth : m₀ ≡ a) (first : m₁ ≡ n) (rest : m₂ ≡ length l - (a + n))
    (same : (j : ℕ) → j < n → get_or from j 0 ≡ get_or sums j 0)
    (z-is : z ≡ tab (λ k. min (get_or (take m₀ (drop 0 l)) k 0) plus) (length (take m₀ (drop 0 l))))
    (x-is : x ≡ tab (λ k. min (get_or (take m₁ (drop a (put_mid 0 m₀ l z))) k 0) (get_or from k 0 + plus)) (length (take m₁ (drop a (put_mid 0 m₀ l z)))))
    (y-is : y ≡ tab (λ k. min (get_or (take m₂ (drop (a + n) (put_mid a m₁ (put_mid 0 m₀ l z) x))) k 0) (last_in sums + plus)) (length (take m₂ (drop (a + n) (put_mid a m₁ (put_mid 0 m₀ l z) x))))) where
  in_zero : 0 + m₀ ≤ length l
  in_zero = omega arith

  zero_is : z ≡ tab (λ k. min (get_or (take m₀ (drop 0 l)) k 0) plus) m₀
  zero_is = rw (part_length l 0 m₀ in_zero) at z-is

  zero-long : length (put_mid 0 m₀ l z) ≡ length l
  zero-long = mid_length l z 0 m₀ _ in_zero zero_is

  pub lower_parts : put_mid (a + n) m₂ (put_mid a m₁ (put_mid 0 m₀ l z) x) y
      ≡ tab (λ k. min (get_or l k 0) (sums_in sums (k - delay) + plus)) (length l)
  lower_parts =
      let l₀ = put_mid 0 m₀ l z in
      let start₀ : a ≡ min delay (length l₀) = rw zero-long start in
      let count₀ : n ≡ min (length l₀ - a) (length sums) = rw zero-long count in
      let rest₀ : m₂ ≡ length l₀ - (a + n) = rw zero-long rest in
      row_is _ _ (length l)
      (parts_length (λ o v. min o (v + plus)) l₀ sums from x y held delay a n m₁ m₂ start₀ count₀ first rest₀ same x-is y-is ∙ zero-long)
      (λ k q. ⊎_elim
      (λ (c : k < a).
      parts_before (λ o v. min o (v + plus)) l₀ sums from x y held delay a n m₁ m₂ start₀ count₀ first rest₀ same x-is y-is k c
      ∙ mid_inside l z 0 m₀ _ in_zero zero_is k (omega arith) (short k c)
      ∙ rw (part_get l 0 m₀ (k - 0) (shorter k c), T_before sums held delay k (early delay (length l) a k start c)) (plain k))
      (λ (c : a ≤ k).
      parts_from (λ o v. min o (v + plus)) l₀ sums from x y held delay a n m₁ m₂ start₀ count₀ first rest₀ same x-is y-is k c (rw zero-long q)
      ∙ rw (mid_after l z 0 m₀ _ in_zero zero_is k (later k c)))
      (lt_or_le k a))
    where
      early : (delay end a k : ℕ) → a ≡ min delay end → k < a → k ≤ delay
      early delay end a k s h = omega arith

      short : (k : ℕ) → k < a → k < 0 + m₀
      short k h = rw zeroth (go a h)
        where
          go : (x : ℕ) → k < x → k < 0 + x
          go x h = omega arith

      shorter : (k : ℕ) → k < a → k - 0 < m₀
      shorter k h = rw zeroth (go a h)
        where
          go : (x : ℕ) → k < x → k - 0 < x
          go x h = omega arith

      later : (k : ℕ) → a ≤ k → 0 + m₀ ≤ k
      later k h = rw zeroth (go a h)
        where
          go : (x : ℕ) → x ≤ k → 0 + x ≤ k
          go x h = omega arith

      plain : (k : ℕ) → min (get_or l (0 + (k - 0)) 0) plus ≡ min (get_or l k 0) (0 + plus)
      plain k =
          let e : 0 + (k - 0) ≡ k = omega arith in
          let f : 0 + plus ≡ plus = omega arith in
          rw (e, f)
