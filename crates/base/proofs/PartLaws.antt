-- Laws of a part of a list that is replaced by another of its length, and of a table given by its cells.
use mathlib.Core.Path.{◌≡◌, refl, sym, ◌∙◌}
use mathlib.Core.List.{List, [], ◌∷◌, ◌++◌}
use Prim.Native.Nat.{ℕ, zero, suc, ◌+◌, ◌-◌, ◌*◌, ◌≤◌, ◌<◌}
use native.Mathlib.Omega.{arith}
use native.Mathlib.Nat.{suc-mul}
use lib.ListN.{length, take, drop, get_or, length-drop, take-append-drop, get_or-append}
use lib.Seq.{drop_at, get_or-append-add, get_or-take, get_or-drop, length-take-le, ext_get_or}
use Rattle.base.specs.Table.{tab, rows_of}
use Rattle.base.proofs.TableLaws.{tab_cong, tab_of_list, cell_in, length-rows, length_part, get_d_rows, row_end}

-- ---- the places of l where the part from a to a + w is replaced by r

module _ (l r : List ℕ) (a w : ℕ) (fits : a + w ≤ length l) (same : length r ≡ w) where
  front : length (take a l) ≡ a
  front = length-take-le a l (omega arith)

  pub part_before : (i : ℕ) → i < a → get_or (take a l ++ (r ++ drop (a + w) l)) i 0 ≡ get_or l i 0
  part_before i h = get_or-append (take a l) _ 0 i (omega (arith, front)) ∙ get_or-take a l i 0 h

  pub part_inside : (k : ℕ) → k < w → get_or (take a l ++ (r ++ drop (a + w) l)) (a + k) 0 ≡ get_or r k 0
  part_inside k h =
      let e : length (take a l) + k ≡ a + k = omega (arith, front) in
      rw e at (get_or-append-add (take a l) (r ++ drop (a + w) l) k 0) ∙ get_or-append r _ 0 k (omega arith)

  pub part_after : (i : ℕ) → a + w ≤ i → get_or (take a l ++ (r ++ drop (a + w) l)) i 0 ≡ get_or l i 0
  part_after i h =
      let e : length (take a l) + (length r + (i - (a + w))) ≡ i = omega (arith, front) in
      let d : a + w + (i - (a + w)) ≡ i = omega arith in
      rw e at (get_or-append-add (take a l) (r ++ drop (a + w) l) (length r + (i - (a + w))) 0)
      ∙ get_or-append-add r (drop (a + w) l) (i - (a + w)) 0
      ∙ rw d at (get_or-drop (a + w) l (i - (a + w)) 0)

-- ---- a list is the table of its cells

pub rows_of_cells : (F : ℕ → ℕ → ℕ) (w m : ℕ) (l : List ℕ) → length l ≡ m * w
    → ((i k : ℕ) → i < m → k < w → get_or l (i * w + k) 0 ≡ F i k) → l ≡ rows_of (λ i. tab (F i) w) m
unfolding rows_of
rows_of_cells F w zero [] h cells = refl
rows_of_cells F w zero (x ∷ l) h cells = absurd (omega (arith, suc-length x l))
  where
    suc-length : (x : ℕ) (l : List ℕ) → length (x ∷ l) ≡ suc (length l)
    suc-length x l = refl
rows_of_cells F w (suc m) l h cells =
    let a : length l ≡ m * w + w = h ∙ suc-mul m w in
    let first : take (m * w) l ≡ rows_of (λ i. tab (F i) w) m =
    rows_of_cells F w m (take (m * w) l) (length-take-le (m * w) l (omega arith))
    (λ i k p q. get_or-take (m * w) l (i * w + k) 0 (cell_in i m w k p q) ∙ cells i k (omega arith) q) in
    let rest : length (drop (m * w) l) ≡ w = length-drop (m * w) l ∙ omega arith in
    let last : drop (m * w) l ≡ tab (F m) w =
    tab_of_list (drop (m * w) l) w rest ∙ tab_cong _ (F m) w (λ k q. get_or-drop (m * w) l k 0 ∙ cells m k (omega arith) q) in
    sym (take-append-drop (m * w) l) ∙ rw (first, last)

-- ---- rows that are replaced one after the other

-- where the first i rows have been replaced, the part from a to e, at row i, is still that row
pub row_left : (r s : ℕ → List ℕ) (w i m a e : ℕ) (p : List ℕ) → ((j : ℕ) → length (r j) ≡ w) → ((j : ℕ) → length (s j) ≡ w)
    → p ≡ rows_of r i ++ drop a (rows_of s m) → i < m → a ≡ i * w → e ≡ a + w → take (e - a) (drop a p) ≡ s i
row_left r s w i m a e p hr hs is h start end =
    let n : length (rows_of r i) ≡ a = length-rows r w i hr ∙ sym start in
    let rest : drop a p ≡ drop a (rows_of s m) = rw (is, drop_at (rows_of r i) (drop a (rows_of s m)) a n) in
    let fits : e ≤ length (rows_of s m) = omega (arith, length-rows s w m hs, row_end i m w h) in
    let wide : e - a ≡ w = omega arith in
    let long : length (take (e - a) (drop a (rows_of s m))) ≡ length (s i) = length_part a e (rows_of s m) (omega arith) fits ∙ wide ∙ sym (hs i) in
    rw rest
    (ext_get_or 0 _ (s i) long (λ k q.
    let short : k < w = omega (arith, long, hs i) in
    get_or-take (e - a) (drop a (rows_of s m)) k 0 (omega arith) ∙ get_or-drop a (rows_of s m) k 0 ∙ rw start (get_d_rows s w m i k hs h short)))
