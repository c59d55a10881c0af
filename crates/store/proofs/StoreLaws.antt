-- Laws of a store: what it is where calls could leave it, and what an append and a take make of it and of the bytes that wait.
use mathlib.Core.Bool.{false, cond, not, ◌||◌}
use mathlib.Core.List.{List, [], ◌++◌}
use mathlib.Core.Path.{◌≡◌, refl, sym, ◌∙◌}
use mathlib.Core.Logic.{◌⊎◌, inl, inr, ⊎_elim}
use Prim.Native.Nat.{ℕ, ◌+◌, ◌-◌, ◌≤◌, ◌<◌}
use native.Mathlib.Decide.{ℕ_discrete}
use native.Mathlib.Omega.{arith}
use lib.Dec.{eqb, ltb}
use lib.ListN.{length, get_or, take, drop, length-append, length-drop, get_or-append}
use lib.Seq.{get_or-append-add, get_or-take, get_or-drop, length-take-le, get_or-set_same, get_or-set_other, ext_get_or}
use borrow.Author.Tests.{lt-ltb, le-ltb, ltb-false, ltb-true, eqb-true, eqb-false, eq-eqb, ne_eqb, not-false}
use Rattle.base.specs.Range.{some}
use Rattle.base.specs.Table.{tab}
use Rattle.base.proofs.BoolLaws.{and_no_right, or_no_left, or_no_right, lt_or_le}
use Rattle.base.proofs.RangeLaws.{none_passes, all_fail, greatest-above, greatest-under}
use Rattle.base.proofs.TableLaws.{length-tab, get_or-tab}
use Rattle.store.specs.Store.{most_children, onward, back, waiting_for, waiting_bytes, free, count_wrong, place_wrong, impossible, unfit}
use Rattle.store.specs.Store.{appended, taken, written}
use Rattle.store.specs.declared.Store.{Store}
use Rattle.store.proofs.RoundLaws.{onward-inside, onward_round, onward-back, back_inside, back-onward, back_less}
use Rattle.store.proofs.RoundLaws.{after-onward, after-back}

-- ---- a store that calls could leave, in facts

pub record Possible (s : Store) : Type 0 where
  pub few : s.children ≤ most_children
  pub placed : (s.place ≡ 0) ⊎ ((0 < s.children) × (s.place < s.length))
  pub counts : (c : ℕ) → c < most_children → waiting_for s c ≤ cond (ltb c s.children) s.length 0

place-facts : (s : Store) → place_wrong s.length s.children s.place ≡ false
    → (s.place ≡ 0) ⊎ ((0 < s.children) × (s.place < s.length))
place-facts s h = go (ℕ_discrete s.place 0)
  where
    go : Dec (s.place ≡ 0) → (s.place ≡ 0) ⊎ ((0 < s.children) × (s.place < s.length))
    go (yes e) = inl e
    go (no e) =
        let k : (eqb s.children 0 || not (ltb s.place s.length)) ≡ false = rw (ne_eqb s.place 0 e) at h in
        let some : s.children ≡ 0 → ⊥ = eqb-false s.children 0 (or_no_left (eqb s.children 0) (not (ltb s.place s.length)) k) in
        inr (omega arith, ltb-true _ _ (not-false _ (or_no_right (eqb s.children 0) _ k)))

place_is : (s : Store) → (s.place ≡ 0) ⊎ ((0 < s.children) × (s.place < s.length))
    → place_wrong s.length s.children s.place ≡ false
place_is s (inl e) = rw (eq-eqb s.place 0 e)
place_is s (inr h) =
    rw (ne_eqb s.children 0 (λ e. omega arith), lt-ltb s.place s.length h.1)
    (and_no_right (not (eqb s.place 0)) {b = false} refl)

module _ (s : Store) where
  pub possible_facts : impossible s ≡ false → Possible s
  unfolding impossible
  possible_facts h =
      let rest = or_no_right (ltb most_children s.children) _ h in record {
        few = ltb-false _ _ (or_no_left _ _ h);
        placed = place-facts s (or_no_left _ _ rest);
        counts =
            λ c l. ltb-false _ _ (none_passes (count_wrong s) most_children
            (or_no_right (place_wrong s.length s.children s.place) _ rest) c l);
      }

  pub possible_is : Possible s → impossible s ≡ false
  unfolding impossible
  possible_is h =
      rw (
        le-ltb most_children s.children h.few,
        place_is s h.placed,
        all_fail (count_wrong s) most_children (λ c l. le-ltb _ _ (h.counts c l)),
      )

  -- and a slice that fits it
  pub unfit-facts : (long : ℕ) → unfit s long ≡ false → Possible s × (long ≡ s.length)
  unfolding unfit
  unfit-facts long h =
      (possible_facts (or_no_right (not (eqb long s.length)) _ h), eqb-true long s.length (not-false _ (or_no_left _ _ h)))

  pub few_children : (long : ℕ) → unfit s long ≡ false → s.children ≤ most_children
  few_children long h = (unfit-facts long h).0.few

  pub unfit-not : (long : ℕ) → Possible s → long ≡ s.length → unfit s long ≡ false
  unfolding unfit
  unfit-not long possible is = rw (eq-eqb long s.length is) (possible_is possible)

  module _ (possible : Possible s) where
    pub place_in : 0 < s.length → s.place < s.length
    place_in h = ⊎_elim (λ e. omega arith) (λ k. k.1) possible.placed

    pub place-to : s.place ≤ s.length
    place-to = ⊎_elim (λ e. omega arith) (λ k. omega arith) possible.placed

    -- what waits for a child is in the slice
    pub waiting_to : (c : ℕ) → c < s.children → waiting_for s c ≤ s.length
    waiting_to c h = rw (lt-ltb c s.children h) at (possible.counts c (omega (arith, possible.few)))

    -- and there is room for what is free beside it
    pub free-fits : (n c : ℕ) → n ≤ free s → c < s.children → waiting_for s c + n ≤ s.length
    unfolding free
    free-fits n c h l =
        omega (arith, greatest-above (waiting_for s) s.children c l, greatest-under (waiting_for s) s.children s.length waiting_to)

-- ---- an append

module _ (s : Store) (possible : Possible s) (some : 0 < s.children) (n : ℕ) (fits : n ≤ free s) where
  fits_all : n ≤ s.length
  fits_all = omega (arith, free-fits s possible n 0 fits some)

  pub waiting_more : (c : ℕ) → c < most_children → waiting_for (appended s n) c ≡ waiting_for s c + cond (ltb c s.children) n 0
  waiting_more c h = get_or-tab (λ d. waiting_for s d + cond (ltb d s.children) n 0) most_children c h

  pub append_possible : Possible (appended s n)
  append_possible = record {
    few = possible.few;
    placed =
        ⊎_elim (λ (h : s.length ≡ 0). inl (place_0 h))
        (λ h. inr (some, onward-inside s.length s.place (place_in s possible (omega arith)) n fits_all)) (zero_or s.length);
    counts = λ c h. rw (waiting_more c h) (count c h (lt_or_le c s.children));
  }
    where
      place_0 : s.length ≡ 0 → onward s.length s.place n ≡ 0
      place_0 h = omega (arith, onward_round s.length s.place n (omega arith), fits_all, place-to s possible)

      zero_or : (m : ℕ) → (m ≡ 0) ⊎ (0 < m)
      zero_or m = ⊎_elim (λ (h : 0 < m). inr h) (λ (h : m ≤ 0). inl (omega arith)) (lt_or_le 0 m)

      count : (c : ℕ) → c < most_children → (c < s.children) ⊎ (s.children ≤ c)
          → waiting_for s c + cond (ltb c s.children) n 0 ≤ cond (ltb c s.children) s.length 0
      count c h (inl l) = rw (lt-ltb c s.children l) (free-fits s possible n c fits l)
      count c h (inr l) = let k = possible.counts c h in rw (le-ltb c s.children l) (omega (arith, rw (le-ltb c s.children l) at k))

-- ---- the slice with bytes from place p on: where it held a byte that is kept, and where it holds one of them

module _ (m p : ℕ) (slice bytes : List ℕ) (long : length slice ≡ m) where
  pub written_cell : (q : ℕ) → q < m
      → get_or (written p slice bytes) q 0 ≡ cond (ltb (back m q p) (length bytes)) (get_or bytes (back m q p) 0) (get_or slice q 0)
  unfolding written
  written_cell q h =
      rw long (get_or-tab (λ x. cond (ltb (back m x p) (length bytes)) (get_or bytes (back m x p) 0) (get_or slice x 0)) m q h)

  pub written_before : p < m → (k : ℕ) → 0 < k → length bytes + k ≤ m
      → get_or (written p slice bytes) (back m p k) 0 ≡ get_or slice (back m p k) 0
  written_before inside k some fits =
      let far : back m (back m p k) p ≡ m - k = after-back m p inside k some (omega arith) in
      written_cell (back m p k) (back_inside m p inside k (omega arith)) ∙ rw (far, le-ltb (m - k) (length bytes) (omega arith))

  pub written_after : p < m → (j : ℕ) → j < length bytes → length bytes ≤ m → get_or (written p slice bytes) (onward m p j) 0 ≡ get_or bytes j 0
  written_after inside j few fits =
      let far : back m (onward m p j) p ≡ j = after-onward m p inside j (omega arith) in
      written_cell (onward m p j) (onward-inside m p inside j (omega arith)) ∙ rw (far, lt-ltb j (length bytes) few)

-- ---- what waits for a child

pub length_waiting : (s : Store) (l : List ℕ) (c : ℕ) → length (waiting_bytes s l c) ≡ waiting_for s c
unfolding waiting_bytes
length_waiting s l c = length-tab _ (waiting_for s c)

pub none_waits : (s : Store) (l : List ℕ) (c : ℕ) → waiting_for s c ≡ 0 → waiting_bytes s l c ≡ []
unfolding waiting_bytes tab
none_waits s l c h = rw h

pub waiting_byte : (s : Store) (l : List ℕ) (c i : ℕ) → i < waiting_for s c
    → get_or (waiting_bytes s l c) i 0 ≡ get_or l (back s.length s.place (waiting_for s c - i)) 0
unfolding waiting_bytes
waiting_byte s l c i h = get_or-tab (λ j. get_or l (back s.length s.place (waiting_for s c - j)) 0) (waiting_for s c) i h

-- an append leaves the bytes that wait for a child, and puts the new ones after them
module _ (s : Store) (possible : Possible s) (l bytes : List ℕ) (long : length l ≡ s.length) (fits : length bytes ≤ free s) (c : ℕ)
    (child : c < s.children) where
  abbrev n : ℕ
  n = length bytes

  abbrev w : ℕ
  w = waiting_for s c

  abbrev s' : Store
  s' = appended s n

  abbrev l' : List ℕ
  l' = written s.place l bytes

  together : w + n ≤ s.length
  together = free-fits s possible n c fits child

  more : waiting_for s' c ≡ w + n
  more =
      waiting_more s possible (omega arith) n fits c (omega (arith, possible.few)) ∙ rw (lt-ltb c s.children child)

  byte : (i : ℕ) → i < w + n → get_or (waiting_bytes s' l' c) i 0 ≡ get_or l' (back s.length s'.place (w + n - i)) 0
  byte i h = waiting_byte s' l' c i (omega (arith, more)) ∙ rw more

  old : (i : ℕ) → i < w → get_or (waiting_bytes s' l' c) i 0 ≡ get_or (waiting_bytes s l c) i 0
  old i h =
      let inside : s.place < s.length = place_in s possible (omega (arith, together)) in
      let e : w + n - i ≡ n + (w - i) = omega arith in
      byte i (omega arith)
      ∙ rw (e, back-onward s.length s.place inside n (w - i) (omega (arith, together)))
      (written_before s.length s.place l bytes long inside (w - i) (omega arith) (omega (arith, together)))
      ∙ sym (waiting_byte s l c i h)

  new : (j : ℕ) → j < n → get_or (waiting_bytes s' l' c) (w + j) 0 ≡ get_or bytes j 0
  new j h =
      let inside : s.place < s.length = place_in s possible (omega (arith, together)) in
      let e : w + n - (w + j) ≡ n - j = omega arith in
      byte (w + j) (omega arith)
      ∙ rw (e, back_less s.length s.place inside n j h (omega (arith, together)))
      (written_after s.length s.place l bytes long inside j h (omega (arith, together)))

  pub append_bytes : waiting_bytes s' l' c ≡ waiting_bytes s l c ++ bytes
  append_bytes =
      ext_get_or 0 _ _ (length_waiting s' l' c ∙ more ∙ sym both) (λ i h. cell i (omega (arith, length_waiting s' l' c, more)) (lt_or_le i w))
    where
      both : length (waiting_bytes s l c ++ bytes) ≡ w + n
      both = rw (length-append (waiting_bytes s l c) bytes, length_waiting s l c)

      cell : (i : ℕ) → i < w + n → (i < w) ⊎ (w ≤ i) → get_or (waiting_bytes s' l' c) i 0 ≡ get_or (waiting_bytes s l c ++ bytes) i 0
      cell i h (inl k) = old i k ∙ sym (get_or-append (waiting_bytes s l c) bytes 0 i (omega (arith, length_waiting s l c)))
      cell i h (inr k) =
          let e : w + (i - w) ≡ i = omega arith in
          let here : get_or (waiting_bytes s l c ++ bytes) (w + (i - w)) 0 ≡ get_or bytes (i - w) 0 =
          rw (length_waiting s l c) at (get_or-append-add (waiting_bytes s l c) bytes (i - w) 0) in
          rw e at (new (i - w) (omega arith) ∙ sym here)

-- ---- a take

-- the first n bytes that wait for child c, read from the slice from where the oldest lies
pub take_round : (s : Store) → Possible s → (l : List ℕ) (c n : ℕ) → c < s.children → n ≤ waiting_for s c
    → tab (λ i. get_or l (onward s.length (back s.length s.place (waiting_for s c)) i) 0) n ≡ take n (waiting_bytes s l c)
take_round s possible l c n child enough =
    ext_get_or 0 _ _ (length-tab _ n ∙ sym size)
    (λ i h. cell i (omega (arith, length-tab (λ j. get_or l (onward s.length (back s.length s.place (waiting_for s c)) j) 0) n)))
  where
    size : length (take n (waiting_bytes s l c)) ≡ n
    size = length-take-le n (waiting_bytes s l c) (omega (arith, length_waiting s l c))

    cell : (i : ℕ) → i < n
        → get_or (tab (λ j. get_or l (onward s.length (back s.length s.place (waiting_for s c)) j) 0) n) i 0
        ≡ get_or (take n (waiting_bytes s l c)) i 0
    cell i h =
        let fits = waiting_to s possible c child in
        let inside = place_in s possible (omega arith) in
        get_or-tab (λ j. get_or l (onward s.length (back s.length s.place (waiting_for s c)) j) 0) n i h
        ∙ rw (onward-back s.length s.place inside (waiting_for s c) i (omega arith) fits)
        (sym (get_or-take n (waiting_bytes s l c) i 0 h ∙ waiting_byte s l c i (omega arith)))

module _ (s : Store) (long : length s.waiting ≡ most_children) (c n : ℕ) (child : c < most_children) where
  pub waiting_less : waiting_for (taken s c n) c ≡ waiting_for s c - n
  waiting_less = get_or-set_same s.waiting c (waiting_for s c - n) 0 (omega arith)

  pub waiting_other : (d : ℕ) → (d ≡ c → ⊥) → waiting_for (taken s c n) d ≡ waiting_for s d
  waiting_other d h = get_or-set_other s.waiting c d (waiting_for s c - n) 0 h

  pub take_possible : Possible s → Possible (taken s c n)
  take_possible possible = record {
    few = possible.few;
    placed = possible.placed;
    counts = λ d h. count d (possible.counts d h) (ℕ_discrete d c);
  }
    where
      count : (d : ℕ) → waiting_for s d ≤ cond (ltb d s.children) s.length 0 → Dec (d ≡ c)
          → waiting_for (taken s c n) d ≤ cond (ltb d s.children) s.length 0
      count d h (yes e) =
          let here : waiting_for s c ≤ cond (ltb c s.children) s.length 0 = rw e at h in
          rw e (omega (arith, waiting_less, here))
      count d h (no e) = rw (waiting_other d e) h

  -- it leaves the bytes that wait for the others, and takes the first from those that wait for the child
  pub take_other : (l : List ℕ) (d : ℕ) → (d ≡ c → ⊥) → waiting_bytes (taken s c n) l d ≡ waiting_bytes s l d
  unfolding waiting_bytes
  take_other l d h = rw (waiting_other d h)

  pub take_bytes : (l : List ℕ) → waiting_bytes (taken s c n) l c ≡ drop n (waiting_bytes s l c)
  take_bytes l =
      ext_get_or 0 _ _ (length_waiting (taken s c n) l c ∙ waiting_less ∙ sym rest)
      (λ i h. cell i (omega (arith, length_waiting (taken s c n) l c, waiting_less)))
    where
      rest : length (drop n (waiting_bytes s l c)) ≡ waiting_for s c - n
      rest = rw (length-drop n (waiting_bytes s l c), length_waiting s l c)

      cell : (i : ℕ) → i < waiting_for s c - n → get_or (waiting_bytes (taken s c n) l c) i 0 ≡ get_or (drop n (waiting_bytes s l c)) i 0
      cell i h =
          let e : waiting_for s c - n - i ≡ waiting_for s c - (n + i) = omega arith in
          waiting_byte (taken s c n) l c i (omega (arith, waiting_less))
          ∙ rw (waiting_less, e) (sym (get_or-drop n (waiting_bytes s l c) i 0 ∙ waiting_byte s l c (n + i) (omega arith)))
