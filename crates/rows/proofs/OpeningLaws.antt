-- Laws for opening rows: a row lowered to another of the same list, and both passes.
use Prim.Native.Nat.{ℕ, ◌+◌, ◌-◌, ◌*◌, ◌≤◌, ◌<◌, min}
use mathlib.Core.Path.{◌≡◌, refl, ap, ◌∙◌}
use mathlib.Core.List.{List, ◌++◌}
use native.Mathlib.Nat.{add-zero}
use native.Mathlib.Omega.{arith}
use native.Mathlib.Decide.{dec_lt}
use lib.ListN.{length, take, drop, get_or, length-append, length-drop}
use lib.Seq.{length-take-le}
use Rattle.base.specs.Table.{tab}
use Rattle.base.proofs.TableLaws.{length-tab, get_or-tab, tab_cong}
use Rattle.base.proofs.PartLaws.{part_before, part_inside, part_after}
use Rattle.smoothing.specs.Tree.{Tree, pass_up, pass_down, open_up, «open»}
use Rattle.smoothing.proofs.LoopLaws.{pass_down_turn_rows}
use Rattle.job.specs.Limits.{greatest_total}
use Rattle.rows.specs.Row.{row_in, InRange}
use Rattle.rows.specs.Closing.{slot_in, with_part}
use Rattle.rows.proofs.ClosingLaws.{row_at}

-- ---- a row lowered in the midst of others

-- numbers that are no more than those in range are in range
pub part_range : (f : ℕ → ℕ) (a w : ℕ) (l p : List ℕ) → a + w ≤ length l → p ≡ with_part f a w l
    → ((k : ℕ) → k < w → f k ≤ get_or l (a + k) 0) → InRange l → InRange p
part_range f a w l p h e below range i q = go (dec_lt i a) (dec_lt i (a + w))
  where
    long : length p ≡ length l
    long = rw e (simp (length-append, length-take-le a l (omega arith), length-tab f w, length-drop) (omega arith))

    at : get_or p i 0 ≡ get_or (with_part f a w l) i 0
    at = ap (λ (x : List ℕ). get_or x i 0) e

    go : Dec (i < a) → Dec (i < a + w) → row_in p i ≤ greatest_total
    go (yes c) d = omega (arith, at, part_before l (tab f w) a w h (length-tab f w) i c, range i (omega (arith, long)))
    go (no c) (yes d) =
        let k : a + (i - a) ≡ i = omega arith in
        let inside : get_or (with_part f a w l) i 0 ≡ f (i - a) =
        rw k at (part_inside l (tab f w) a w h (length-tab f w) (i - a) (omega arith)) ∙ get_or-tab f w (i - a) (omega arith) in
        omega (arith, at, inside, rw k at (below (i - a) (omega arith)), range i (omega (arith, long)))
    go (no c) (no d) = omega (arith, at, part_after l (tab f w) a w h (length-tab f w) i (omega arith), range i (omega (arith, long)))

-- ---- one turn of the pass down

module _ (T : Tree) (w : ℕ) (l : List ℕ) (i to from : ℕ) (p : 0 < i) (inner : 0 < T.parent i) where
  pub open_down_turn : to ≡ (i - 1) * w → from ≡ (T.parent i - 1) * w → to + w ≤ length l → (k : ℕ) → k < w → (f : ℕ → ℕ)
      → slot_in w l k ≡ pass_down T.parent (λ v x y. min x y) (i - 1) f
      → slot_in w (with_part (λ j. min (get_or l (to + j) 0) (get_or l (from + j) 0 + 0)) to w l) k ≡ pass_down T.parent (λ v x y. min x y) i f
  open_down_turn start other h k q f is =
      ap (λ (r : List ℕ). slot_in w (take to l ++ (r ++ drop (to + w) l)) k)
      (tab_cong _ _ w (λ j m. rw (row_at w l i to j p start, row_at w l (T.parent i) from j inner other, add-zero)))
      ∙ pass_down_turn_rows w l T.parent (λ v x y. min x y) i to (to + w) k p (omega arith) start refl h q f is

-- both passes, one after the other
pub open_is : (T : Tree) (h up down : ℕ → ℕ) → up ≡ pass_up T.parent (open_up T) (T.n - 1) h
    → down ≡ pass_down T.parent (λ v x y. min x y) (T.n - 1) up → down ≡ «open» T h
unfolding «open»
open_is T h up down u d = d ∙ ap (pass_down T.parent (λ v x y. min x y) (T.n - 1)) u
