-- Laws of tables: lengths, single places, one store more, one row more.
use mathlib.Core.Path.{◌≡◌, refl, ap, sym, ◌∙◌}
use mathlib.Core.List.{List, [], ◌∷◌, ◌++◌, append_assoc, append-nil}
use mathlib.Core.Logic.{⊎_elim}
use Prim.Native.Nat.{ℕ, zero, suc, ◌+◌, ◌-◌, ◌*◌, ◌≤◌, ◌<◌}
use native.Mathlib.Omega.{arith}
use native.Mathlib.Nat.{suc-mul, mul-le-mul_right}
use native.Mathlib.Numerals.{add-one}
use lib.ListN.{length, take, drop, get_or, set, length-append, length-take, length-drop, get_or-append, get_or-eq_default, length-set}
use lib.Seq.{take_at, drop_at, set_at, drop-cons, drop-drop, drop-length, get_or_at, get_or-append-add, get_or-set_same, get_or-set_other, ext_get_or}
use native.Mathlib.Decide.{ℕ_discrete}
use Rattle.base.specs.Table.{tab, rows_of, Filled}
use Rattle.base.proofs.BoolLaws.{last_or_below}

pub length-tab : (f : ℕ → ℕ) (n : ℕ) → length (tab f n) ≡ n
unfolding tab
length-tab f zero = refl
length-tab f (suc n) = simp (length-append, length-tab f n) (add-one n)

pub length-rows : (r : ℕ → List ℕ) (w n : ℕ) → ((i : ℕ) → length (r i) ≡ w) → length (rows_of r n) ≡ n * w
unfolding rows_of
length-rows r w zero h = omega arith
length-rows r w (suc n) h = simp (length-append, length-rows r w n h, h n, suc-mul)

-- ---- single places

pub get_or-tab : (f : ℕ → ℕ) (n k : ℕ) → k < n → get_or (tab f n) k 0 ≡ f k
unfolding tab
get_or-tab f zero k h = absurd (omega arith)
get_or-tab f (suc n) k h =
    ⊎_elim
    (λ (q : k ≡ n). rw q (get_or_at (tab f n) (f n) [] 0 n (length-tab f n)))
    (λ (l : k < n). get_or-append (tab f n) (f n ∷ []) 0 k (rw length-tab l) ∙ get_or-tab f n k l)
    (last_or_below k n h)

pub get_or-tab_past : (f : ℕ → ℕ) (n k : ℕ) → n ≤ k → get_or (tab f n) k 0 ≡ 0
get_or-tab_past f n k h = get_or-eq_default (tab f n) 0 (rw length-tab h)

-- two tables with the same numbers are the same
pub tab_cong : (f g : ℕ → ℕ) (n : ℕ) → ((k : ℕ) → k < n → f k ≡ g k) → tab f n ≡ tab g n
unfolding tab
tab_cong f g zero h = refl
tab_cong f g (suc n) h = rw (tab_cong f g n (λ k q. h k (omega arith)), h n (omega arith))

-- a list is the table of its own places
pub tab_of_list : (l : List ℕ) (n : ℕ) → length l ≡ n → l ≡ tab (λ i. get_or l i 0) n
tab_of_list l n h =
    ext_get_or 0 l _ (h ∙ sym (length-tab (λ i. get_or l i 0) n)) (λ i q. sym (get_or-tab (λ i. get_or l i 0) n i (omega arith)))

-- a store makes another table, which has the number stored there and the same elsewhere
pub tab-set : (f g : ℕ → ℕ) (n k x : ℕ) → k < n → g k ≡ x → ((i : ℕ) → (i ≡ k → ⊥) → f i ≡ g i) → set (tab f n) k x ≡ tab g n
tab-set f g n k x h here elsewhere =
    ext_get_or 0 _ _ (length-set (tab f n) k x ∙ length-tab f n ∙ sym (length-tab g n)) (λ i q.
    cell i (omega (arith, length-set (tab f n) k x, length-tab f n)) (ℕ_discrete i k))
  where
    cell : (i : ℕ) → i < n → Dec (i ≡ k) → get_or (set (tab f n) k x) i 0 ≡ get_or (tab g n) i 0
    cell i q (yes e) = rw e (get_or-set_same (tab f n) k x 0 (rw length-tab h) ∙ sym (get_or-tab g n k h ∙ here))
    cell i q (no e) = get_or-set_other (tab f n) k i x 0 e ∙ get_or-tab f n i q ∙ elsewhere i e ∙ sym (get_or-tab g n i q)

-- the cell (i, k) lies within a table of n rows of width w
pub row_end : (i n w : ℕ) → i < n → i * w + w ≤ n * w
row_end i n w h = rw (← suc-mul i w) (mul-le-mul_right w h)

pub cell_in : (i n w k : ℕ) → i < n → k < w → i * w + k < n * w
cell_in i n w k h j = omega (arith, row_end i n w h)

pub get_d_rows : (r : ℕ → List ℕ) (w n i k : ℕ) → ((j : ℕ) → length (r j) ≡ w) → i < n → k < w
    → get_or (rows_of r n) (i * w + k) 0 ≡ get_or (r i) k 0
unfolding rows_of
get_d_rows r w zero i k h hi hk = absurd (omega arith)
get_d_rows r w (suc n) i k h hi hk =
    let m : length (rows_of r n) ≡ n * w = length-rows r w n h in
    ⊎_elim
    (λ (q : i ≡ n). rw (q, ← m) (get_or-append-add (rows_of r n) (r n) k 0))
    (λ (l : i < n). get_or-append (rows_of r n) (r n) 0 (i * w + k) (omega (arith, row_end i n w l)) ∙ get_d_rows r w n i k h l hk)
    (last_or_below i n hi)

-- ---- a loop that fills a list from the front

-- a store at the end of the part that is filled
tab_store : (f : ℕ → ℕ) (k : ℕ) (l : List ℕ) → k < length l
    → set (tab f k ++ drop k l) k (f k) ≡ tab f (k + 1) ++ drop (k + 1) l
unfolding tab
tab_store f k l h =
    rw (add-one, drop-cons l k 0 h, append_assoc) (set_at (tab f k) (get_or l k 0) (drop (suc k) l) (f k) k (length-tab f k))

pub filled_none : (f : ℕ → ℕ) (l : List ℕ) → Filled f 0 l l
unfolding tab
filled_none f l = (omega arith, (refl, refl))

pub filled_more : (f : ℕ → ℕ) (k : ℕ) (l p : List ℕ) → Filled f k l p → k < length l → Filled f (k + 1) l (set p k (f k))
filled_more f k l p h i =
    (omega arith, (length-set p k (f k) ∙ h.1.0, ap (λ (q : List ℕ). set q k (f k)) h.1.1 ∙ tab_store f k l i))

-- the place that is filled next still has what it had
pub filled-ahead : (f : ℕ → ℕ) (k : ℕ) (l p : List ℕ) → Filled f k l p → k < length l → get_or p k 0 ≡ get_or l k 0
filled-ahead f k l p h i = rw (h.1.1, drop-cons l k 0 i) (get_or_at (tab f k) (get_or l k 0) (drop (suc k) l) 0 k (length-tab f k))

-- what is filled stays filled, seen from where a loop begins
pub filled_again : (f : ℕ → ℕ) (k : ℕ) (l p : List ℕ) → Filled f k l p → Filled f k p p
filled_again f k l p h =
    let d : drop k p ≡ drop k l = ap (drop k) h.1.1 ∙ drop_at (tab f k) (drop k l) k (length-tab f k) in
    (omega (arith, h.1.0), (refl, rw d h.1.1))

pub filled-done : (f : ℕ → ℕ) (k : ℕ) (l p : List ℕ) → Filled f k l p → length l ≤ k → p ≡ tab f (length l)
filled-done f k l p h i =
    let e : k ≡ length l = omega arith in
    h.1.1 ∙ rw (e, drop-length, append-nil)

-- ---- a loop that fills a table row by row

-- one row more: the part from a to e, at row i, is replaced by that row
pub rows_more : (r : ℕ → List ℕ) (w i a e : ℕ) (l p : List ℕ) → ((j : ℕ) → length (r j) ≡ w) → p ≡ rows_of r i ++ drop a l
    → a ≡ i * w → e ≡ a + w → take a p ++ (r i ++ drop (e - a) (drop a p)) ≡ rows_of r (i + 1) ++ drop e l
unfolding rows_of
rows_more r w i a e l p h q ha he =
    let n : length (rows_of r i) ≡ a = length-rows r w i h ∙ sym ha in
    let m : a + (e - a) ≡ e = omega arith in
    rw (q, take_at (rows_of r i) (drop a l) a n, drop_at (rows_of r i) (drop a l) a n, drop-drop, m, add-one, append_assoc)

pub rows-done : (r : ℕ → List ℕ) (w i n a : ℕ) (l p : List ℕ) → p ≡ rows_of r i ++ drop a l → i ≡ n → length l ≡ n * w → a ≡ i * w → p ≡ rows_of r n
rows-done r w i n a l p q h k e = q ∙ rw (h, e ∙ ap (λ (x : ℕ). x * w) h ∙ sym k, drop-length, append-nil)

-- ---- a part of a list

pub length_part : (a e : ℕ) (l : List ℕ) → a ≤ e → e ≤ length l → length (take (e - a) (drop a l)) ≡ e - a
length_part a e l h k = simp (length-take, length-drop) (omega arith)

-- a part that is put back as r
pub put_part : (a e : ℕ) (l ys r : List ℕ) → a ≤ e → ys ≡ r → take a l ++ (ys ++ drop (e - a) (drop a l)) ≡ take a l ++ (r ++ drop e l)
put_part a e l ys r h q = let m : a + (e - a) ≡ e = omega arith in rw (q, drop-drop, m)
