-- Two rows of one list that is split between them: what each holds, and the list with one of them replaced.
use Prim.Native.Nat.{ℕ, ◌+◌, ◌-◌, ◌≤◌}
use mathlib.Core.Path.{◌≡◌, ap, ◌∙◌}
use mathlib.Core.List.{List, ◌++◌, append_assoc}
use native.Mathlib.Omega.{arith}
use lib.ListN.{length, take, drop, get_or, length-drop}
use lib.Seq.{take_at, drop-drop, drop-append-add, get_or-take, get_or-drop, length-take-le}
use Rattle.std.proofs.lemmas.List.{take-append-le, drop-append-le}
use Rattle.base.specs.Table.{tab}
use Rattle.base.proofs.TableLaws.{tab_cong, tab_of_list, length_part}
use Rattle.rows.specs.Closing.{with_part}

-- ---- the row from place a on in front of place b, and the one from place b on

module _ (l : List ℕ) (b w : ℕ) (fits : b + w ≤ length l) where
  pub row_of_front : (a : ℕ) (front : List ℕ) → front ≡ take b l → a + w ≤ b
      → take (a + w - a) (drop a front) ≡ tab (λ k. get_or l (a + k) 0) w
  row_of_front a front is h =
      let n : a + w - a ≡ w = omega arith in
      let m : length (take b l) ≡ b = length-take-le b l (omega arith) in
      rw is
      (tab_of_list (take (a + w - a) (drop a (take b l))) w (length_part a (a + w) (take b l) (omega arith) (omega arith) ∙ n)
      ∙ tab_cong _ _ w (λ k q. get_or-take (a + w - a) (drop a (take b l)) k 0 (omega arith) ∙ get_or-drop a (take b l) k 0 ∙ get_or-take b l (a + k) 0 (omega arith)))

  pub row_of_rest : (rest : List ℕ) → rest ≡ drop b l → take w rest ≡ tab (λ k. get_or l (b + k) 0) w
  row_of_rest rest is =
      rw is
      (tab_of_list (take w (drop b l)) w (length-take-le w (drop b l) (omega (arith, length-drop b l)))
      ∙ tab_cong _ _ w (λ k q. get_or-take w (drop b l) k 0 q ∙ get_or-drop b l k 0))

-- ---- the list with one of them replaced

module _ (f : ℕ → ℕ) (w : ℕ) (l front rest r : List ℕ) (whole : l ≡ front ++ rest) (is : r ≡ tab f w) where
  pub put_front : (a b : ℕ) → length front ≡ b → a + w ≤ b
      → take a front ++ (r ++ drop (a + w - a) (drop a front)) ++ rest ≡ with_part f a w l
  put_front a b n h =
      let m : a + (a + w - a) ≡ a + w = omega arith in
      rw (whole, is, drop-drop, m, take-append-le a front rest (omega arith), drop-append-le (a + w) front rest (omega arith))
      (append_assoc (take a front) (tab f w ++ drop (a + w) front) rest ∙ ap (λ (x : List ℕ). take a front ++ x) (append_assoc (tab f w) (drop (a + w) front) rest))

  pub put_rest : (b : ℕ) → length front ≡ b → front ++ (r ++ drop w rest) ≡ with_part f b w l
  put_rest b n = rw (whole, is, take_at front rest b n, ← n, drop-append-add front rest w)
