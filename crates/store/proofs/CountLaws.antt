-- Laws of the counts, looked at in two parts: those of the children, and those of children that the store hasn't got.
use mathlib.Core.Bool.{Bool, true, false, cond, ◌||◌}
use mathlib.Core.List.{List, ◌++◌}
use mathlib.Core.Path.{◌≡◌, refl, ap, sym, ◌∙◌}
use mathlib.Core.Logic.{◌⊎◌, inl, inr}
use Prim.Native.Nat.{ℕ, zero, suc, ◌+◌, ◌-◌, ◌≤◌, ◌<◌}
use native.Mathlib.Nat.{add-zero, add-suc}
use native.Mathlib.Omega.{arith}
use lib.Dec.{ltb}
use lib.ListN.{length, get_or, take, drop}
use lib.Seq.{get_or-take, length-take-le, ext_get_or}
use borrow.Author.Tests.{lt-ltb, le-ltb, ltb-true, ltb-false}
use Rattle.std.specs.List.{list_any}
use borrow.Rule.Slice.PartMut.{mid_of, put_mid, mid_len}
use Rattle.base.specs.Range.{some, greatest}
use Rattle.base.specs.Table.{tab}
use Rattle.base.proofs.ListLaws.{list_any_some}
use Rattle.base.proofs.BoolLaws.{true_or_false, or_false, lt_or_le, iff_same}
use Rattle.base.proofs.RangeLaws.{some_cong, none_passes, which_passes, greatest-above, greatest-under}
use Rattle.base.proofs.TableLaws.{length-tab, get_or-tab}
use Rattle.store.specs.Store.{most_children, waiting_for, free, count_wrong, appended}
use Rattle.store.specs.declared.Store.{Store}
use Rattle.store.proofs.StoreLaws.{Possible, waiting_to}
use Rattle.store.proofs.StretchLaws.{put-length, put-inside, put-after, put_front, mid_byte}

some-split : (p : ℕ → Bool) (k d : ℕ) → some p (k + d) ≡ (some p k || some (λ i. p (k + i)) d)
unfolding some
some-split p k zero = rw add-zero (sym (or_false (some p k)))
some-split p k (suc d) = rw (add-suc k d, some-split p k d) (assoc (some p k) _ _)
  where
    assoc : (a b c : Bool) → ((a || b) || c) ≡ (a || (b || c))
    assoc true b c = refl
    assoc false b c = refl

-- whether an element of a list passes that holds f 0, .., f (n - 1)
any_is : (p : ℕ → Bool) (l : List ℕ) (f : ℕ → ℕ) (n : ℕ) → length l ≡ n → ((i : ℕ) → i < n → get_or l i 0 ≡ f i)
    → list_any p l ≡ some (λ i. p (f i)) n
any_is p l f n long is = list_any_some p l ∙ rw long (some_cong _ _ n (λ i h. rw (is i h)))

module _ (s : Store) (counted : length s.waiting ≡ most_children) (few : s.children ≤ most_children) where
  abbrev own : List ℕ
  own = take s.children s.waiting

  abbrev absent : List ℕ
  absent = mid_of s.children (most_children - s.children) s.waiting

  own_length : length own ≡ s.children
  own_length = length-take-le s.children s.waiting (omega (arith, counted))

  pub own_above : (most : ℕ) → list_any (ltb most) own ≡ some (λ c. ltb most (waiting_for s c)) s.children
  own_above most = any_is (ltb most) own (waiting_for s) s.children own_length (λ c h. get_or-take s.children s.waiting c 0 h)

  pub counts_are : some (count_wrong s) most_children ≡ (list_any (ltb s.length) own || list_any (ltb 0) absent)
  counts_are =
      let all : s.children + (most_children - s.children) ≡ most_children = omega arith in
      let others : list_any (ltb 0) absent ≡ some (λ i. ltb 0 (waiting_for s (s.children + i))) (most_children - s.children) =
      any_is (ltb 0) absent (λ i. waiting_for s (s.children + i)) (most_children - s.children)
      (mid_len s.children most_children s.waiting (omega (arith, counted)))
      (λ i h. mid_byte s.waiting s.children most_children i h) in
      rw (own_above s.length, others)
      (ap (some (count_wrong s)) (sym all)
      ∙ (some-split (count_wrong s) s.children (most_children - s.children)
      ∙ rw (
        some_cong (count_wrong s) (λ c. ltb s.length (waiting_for s c)) s.children (λ c h. rw (lt-ltb c s.children h)),
        some_cong (λ i. count_wrong s (s.children + i)) (λ i. ltb 0 (waiting_for s (s.children + i))) (most_children - s.children)
            (λ i h. rw (le-ltb (s.children + i) s.children (omega arith))),
      )))

  -- with n bytes more for each child
  abbrev raised : ℕ → List ℕ
  raised n = tab (λ c. get_or own c 0 + n) (length own)

  pub counts_raised : (n : ℕ) → raised n ++ drop s.children s.waiting ≡ (appended s n).waiting
  counts_raised n =
      put_front s.waiting (raised n) s.children (omega (arith, counted)) (omega (arith, size))
      ∙ ext_get_or 0 _ _ (long ∙ sym (length-tab _ most_children)) (λ c h. let inside : c < most_children = omega (arith, long) in
      cell c inside (lt_or_le c s.children) ∙ sym (get_or-tab (λ d. waiting_for s d + cond (ltb d s.children) n 0) most_children c inside))
    where
      size : length (raised n) ≡ s.children - 0
      size = length-tab _ (length own) ∙ omega (arith, own_length)

      long : length (put_mid 0 (s.children - 0) s.waiting (raised n)) ≡ most_children
      long = put-length s.waiting (raised n) 0 s.children (omega arith) (omega arith) size ∙ counted

      cell : (c : ℕ) → c < most_children → (c < s.children) ⊎ (s.children ≤ c)
          → get_or (put_mid 0 (s.children - 0) s.waiting (raised n)) c 0 ≡ waiting_for s c + cond (ltb c s.children) n 0
      cell c h (inl k) =
          let start : c - 0 ≡ c = omega arith in
          let count : get_or (raised n) c 0 ≡ get_or own c 0 + n = get_or-tab (λ d. get_or own d 0 + n) (length own) c (omega (arith, own_length)) in
          put-inside s.waiting (raised n) 0 s.children (omega arith) (omega arith) size c (omega arith) k
          ∙ rw (start, lt-ltb c s.children k) (count ∙ rw (get_or-take s.children s.waiting c 0 k))
      cell c h (inr k) =
          put-after s.waiting (raised n) 0 s.children (omega arith) (omega arith) size c k
          ∙ rw (le-ltb c s.children k) (omega arith)

-- n bytes don't fit just where they are more than the slice is long, or more waits for some child than leaves room for them
module _ (s : Store) (possible : Possible s) (n : ℕ) where
  abbrev above : ℕ → Bool
  above c = ltb (s.length - n) (waiting_for s c)

  abbrev left : ℕ
  left = s.length - greatest (waiting_for s) s.children

  pub full_long : s.length < n → ltb (free s) n ≡ true
  unfolding free
  full_long h = lt-ltb left n (omega arith)

  pub full_is : n ≤ s.length → ltb (free s) n ≡ some above s.children
  unfolding free
  full_is h =
      iff_same (ltb left n) (some above s.children) (λ e. found (ltb-true left n e) (true_or_false (some above s.children))) (λ e.
      let (c, l, t) = which_passes above s.children e in
      lt-ltb left n (omega (
        arith,
        ltb-true (s.length - n) (waiting_for s c) t,
        greatest-above (waiting_for s) s.children c l,
        waiting_to s possible c l,
      )))
    where
      found : left < n → (some above s.children ≡ true) ⊎ (some above s.children ≡ false) → some above s.children ≡ true
      found e (inl t) = t
      found e (inr f) =
          let under = greatest-under (waiting_for s) s.children (s.length - n)
          (λ c l. ltb-false (s.length - n) (waiting_for s c) (none_passes above s.children f c l)) in
          absurd (omega arith)
