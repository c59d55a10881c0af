-- Laws of two stretches, up to the end of a slice and from its start: written and read so, bytes go round the end.
use mathlib.Core.Bool.{cond}
use mathlib.Core.List.{List, ◌++◌}
use mathlib.Core.Path.{◌≡◌, refl, sym, ◌∙◌}
use mathlib.Core.Logic.{◌⊎◌, inl, inr}
use Prim.Native.Nat.{ℕ, ◌+◌, ◌-◌, ◌≤◌, ◌<◌, min}
use native.Mathlib.Omega.{arith}
use lib.Dec.{ltb}
use lib.ListN.{length, get_or, take, drop}
use lib.Seq.{get_or-take, get_or-drop, length-take-le, ext_get_or}
use borrow.Author.Tests.{lt-ltb, le-ltb}
use borrow.Rule.Slice.PartMut.{mid_of, put_mid, Post-is, mid_len, same_len_mid}
use Rattle.base.specs.Table.{tab}
use Rattle.base.proofs.BoolLaws.{lt_or_le}
use Rattle.base.proofs.PartLaws.{part_before, part_inside, part_after}
use Rattle.base.proofs.TableLaws.{length-tab, get_or-tab}
use Rattle.store.specs.Store.{onward, back, written}
use Rattle.store.proofs.RoundLaws.{onward_near, onward_round, back_near, back_round}
use Rattle.store.proofs.StoreLaws.{written_cell}

-- ---- a stretch from a to e that is replaced by r

module _ (l r : List ℕ) (a e : ℕ) (from : a ≤ e) (to : e ≤ length l) (same : length r ≡ e - a) where
  put_is : put_mid a (e - a) l r ≡ take a l ++ (r ++ drop (a + (e - a)) l)
  put_is = let end : a + (e - a) ≡ e = omega arith in rw (Post-is a e l from, end)

  pub put-length : length (put_mid a (e - a) l r) ≡ length l
  put-length = same_len_mid a (e - a) l r (same ∙ sym (mid_len a e l to))

  put_before : (q : ℕ) → q < a → get_or (put_mid a (e - a) l r) q 0 ≡ get_or l q 0
  put_before q h = rw put_is (part_before l r a (e - a) (omega arith) same q h)

  pub put-inside : (q : ℕ) → a ≤ q → q < e → get_or (put_mid a (e - a) l r) q 0 ≡ get_or r (q - a) 0
  put-inside q h k =
      let here : a + (q - a) ≡ q = omega arith in
      rw put_is (rw here at (part_inside l r a (e - a) (omega arith) same (q - a) (omega arith)))

  pub put-after : (q : ℕ) → e ≤ q → get_or (put_mid a (e - a) l r) q 0 ≡ get_or l q 0
  put-after q h = rw put_is (part_after l r a (e - a) (omega arith) same q (omega arith))

-- the first e that are replaced
pub put_front : (l r : List ℕ) (e : ℕ) → e ≤ length l → length r ≡ e → r ++ drop e l ≡ put_mid 0 (e - 0) l r
put_front l r e to same =
    let end : 0 + (e - 0) ≡ e = omega arith in
    let whole : put_mid 0 (e - 0) l r ≡ take 0 l ++ (r ++ drop (0 + (e - 0)) l) = put_is l r 0 e (omega arith) to (omega arith) in
    sym (rw end at whole)

-- a stretch that is read
pub mid_byte : (l : List ℕ) (a e i : ℕ) → i < e - a → get_or (mid_of a (e - a) l) i 0 ≡ get_or l (a + i) 0
mid_byte l a e i h = get_or-take (e - a) (drop a l) i 0 h ∙ get_or-drop a l i 0

-- ---- written from place p on

module _ (l bytes : List ℕ) (p f : ℕ) (place : p ≤ length l) (fits : length bytes ≤ length l) (first : f ≡ min (length bytes) (length l - p))
  where
    abbrev m : ℕ
    m = length l

    abbrev n : ℕ
    n = length bytes

    -- the bytes before the end and after it, and the slice with the ones and with both
    abbrev before : List ℕ
    before = take f bytes

    abbrev after : List ℕ
    after = mid_of f (n - f) bytes

    abbrev once : List ℕ
    once = put_mid p (p + f - p) l before

    abbrev twice : List ℕ
    twice = put_mid 0 (n - f - 0) once after

    before_length : length before ≡ p + f - p
    before_length = omega (arith, length-take-le f bytes (omega arith))

    after-length : length after ≡ n - f - 0
    after-length = mid_len f n bytes (omega arith) ∙ omega arith

    once_length : length once ≡ m
    once_length = put-length l before p (p + f) (omega arith) (omega arith) before_length

    pub write_stretches : after ++ drop (n - f) once ≡ written p l bytes
    unfolding written
    write_stretches =
        put_front once after (n - f) (omega (arith, once_length)) (omega (arith, after-length))
        ∙ ext_get_or 0 _ _ (long ∙ sym (length-tab _ m)) (λ q h. let inside : q < m = omega (arith, long) in
        cell q inside (lt_or_le q (n - f)) (lt_or_le q p) (lt_or_le q (p + f)) ∙ sym (written_cell m p l bytes refl q inside))
      where
        long : length twice ≡ m
        long = put-length once after 0 (n - f) (omega arith) (omega (arith, once_length)) after-length ∙ once_length

        second : (q : ℕ) → n - f ≤ q → get_or twice q 0 ≡ get_or once q 0
        second q h = put-after once after 0 (n - f) (omega arith) (omega (arith, once_length)) after-length q h

        -- a byte of the slice that stays: it lies n or more places after p
        stays : (q : ℕ) → get_or twice q 0 ≡ get_or l q 0 → n ≤ back m q p
            → get_or twice q 0 ≡ cond (ltb (back m q p) n) (get_or bytes (back m q p) 0) (get_or l q 0)
        stays q is far = is ∙ rw (le-ltb (back m q p) n far)

        -- and a new one: it lies i places after p
        comes : (q i : ℕ) → get_or twice q 0 ≡ get_or bytes i 0 → back m q p ≡ i → i < n
            → get_or twice q 0 ≡ cond (ltb (back m q p) n) (get_or bytes (back m q p) 0) (get_or l q 0)
        comes q i is far few = is ∙ rw (far, lt-ltb i n few)

        cell : (q : ℕ) → q < m → (q < n - f) ⊎ (n - f ≤ q) → (q < p) ⊎ (p ≤ q) → (q < p + f) ⊎ (p + f ≤ q)
            → get_or twice q 0 ≡ cond (ltb (back m q p) n) (get_or bytes (back m q p) 0) (get_or l q 0)
        cell q h (inl a) b c =
            let start : q - 0 ≡ q = omega arith in
            comes q (f + q)
            (put-inside once after 0 (n - f) (omega arith) (omega (arith, once_length)) after-length q (omega arith) a
            ∙ rw start (mid_byte bytes f n q a))
            (back_round m q p (omega arith) ∙ omega arith) (omega arith)
        cell q h (inr a) (inl b) c =
            stays q (second q a ∙ put_before l before p (p + f) (omega arith) (omega arith) before_length q b)
            (omega (arith, back_round m q p b))
        cell q h (inr a) (inr b) (inl c) =
            comes q (q - p)
            (second q a ∙ put-inside l before p (p + f) (omega arith) (omega arith) before_length q b c
            ∙ get_or-take f bytes (q - p) 0 (omega arith))
            (back_near m q p b) (omega arith)
        cell q h (inr a) (inr b) (inr c) =
            stays q (second q a ∙ put-after l before p (p + f) (omega arith) (omega arith) before_length q c)
            (omega (arith, back_near m q p b))

-- ---- read from place p on

module _ (l out : List ℕ) (p f : ℕ) (place : p ≤ length l) (fits : length out ≤ length l) (first : f ≡ min (length out) (length l - p)) where
  abbrev front : List ℕ
  front = mid_of p (p + f - p) l

  abbrev rest : List ℕ
  rest = take (length out - f) l

  abbrev begun : List ℕ
  begun = put_mid 0 (f - 0) out front

  abbrev whole : List ℕ
  whole = put_mid f (length out - f) begun rest

  front_length : length front ≡ f - 0
  front_length = mid_len p (p + f) l (omega arith) ∙ omega arith

  rest_length : length rest ≡ length out - f
  rest_length = length-take-le (length out - f) l (omega arith)

  begun-length : length begun ≡ length out
  begun-length = put-length out front 0 f (omega arith) (omega arith) front_length

  pub read_stretches : put_mid f (length (front ++ drop f out) - f) (front ++ drop f out) rest
      ≡ tab (λ i. get_or l (onward (length l) p i) 0) (length out)
  read_stretches =
      rw (put_front out front f (omega arith) (omega (arith, front_length)), begun-length)
      (ext_get_or 0 _ _ (long ∙ sym (length-tab _ (length out))) (λ i h. let inside : i < length out = omega (arith, long) in
      cell i inside (lt_or_le i f) ∙ sym (get_or-tab (λ j. get_or l (onward (length l) p j) 0) (length out) i inside)))
    where
      long : length whole ≡ length out
      long = put-length begun rest f (length out) (omega arith) (omega (arith, begun-length)) rest_length ∙ begun-length

      cell : (i : ℕ) → i < length out → (i < f) ⊎ (f ≤ i) → get_or whole i 0 ≡ get_or l (onward (length l) p i) 0
      cell i h (inl a) =
          let start : i - 0 ≡ i = omega arith in
          put_before begun rest f (length out) (omega arith) (omega (arith, begun-length)) rest_length i a
          ∙ put-inside out front 0 f (omega arith) (omega arith) front_length i (omega arith) a
          ∙ rw (start, onward_near (length l) p i (omega arith)) (mid_byte l p (p + f) i (omega arith))
      cell i h (inr a) =
          let start : p + i - length l ≡ i - f = omega arith in
          put-inside begun rest f (length out) (omega arith) (omega (arith, begun-length)) rest_length i a (omega arith)
          ∙ rw (onward_round (length l) p i (omega arith), start) (get_or-take (length out - f) l (i - f) 0 (omega arith))
