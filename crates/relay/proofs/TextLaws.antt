-- Laws of lines.
use mathlib.Core.List.{List, [], ◌∷◌, ◌++◌, append_assoc, append-nil}
use mathlib.Core.Path.{◌≡◌, refl, sym, ◌∙◌}
use Prim.Native.Nat.{ℕ, ◌+◌, ◌*◌, ◌≤◌, ◌<◌}
use native.Mathlib.Omega.{arith}
use native.Mathlib.Nat.{suc-mul}
use native.Mathlib.Numerals.{add-one}
use lib.ListN.{length, take, get_or}
use lib.Seq.{take-suc}
use Rattle.base.specs.Table.{rows_of}
use Rattle.base.proofs.TableLaws.{row_end}
use Rattle.relay.specs.Decimal.{digits}
use Rattle.relay.specs.Text.{space, spaced, line_end, line}

pub spaced-append : (l m : List ℕ) → spaced (l ++ m) ≡ spaced l ++ spaced m
unfolding spaced
spaced-append [] m = refl
spaced-append (n ∷ l) m = rw (spaced-append l m) (sym (append_assoc (space ∷ digits n) (spaced l) (spaced m)))

pub spaced_one : (n : ℕ) → spaced (n ∷ []) ≡ space ∷ digits n
unfolding spaced
spaced_one n = append-nil (space ∷ digits n)

-- a row's text, one number more
pub spaced_more : (l : List ℕ) (k : ℕ) → k < length l → spaced (take (k + 1) l) ≡ spaced (take k l) ++ (space ∷ digits (get_or l k 0))
spaced_more l k h =
    rw (add-one k, take-suc l k 0 h) (spaced-append (take k l) (get_or l k 0 ∷ []) ∙ rw (spaced_one (get_or l k 0)) refl)

-- a row's text after others, and one number more of it: the space, then the digits
pub row_added : (l before text after : List ℕ) (k n : ℕ) → k < length l → get_or l k 0 ≡ n → text ≡ before ++ spaced (take k l)
    → after ≡ (text ++ (space ∷ [])) ++ digits n → after ≡ before ++ spaced (take (k + 1) l)
row_added l before text after k n h x e is =
    rw (is, e, ← x, spaced_more l k h)
    (append_assoc (before ++ spaced (take k l)) (space ∷ []) (digits (get_or l k 0))
    ∙ append_assoc before (spaced (take k l)) (space ∷ digits (get_or l k 0)))

-- a number, the numbers of two rows and the line's end
pub line_text : (before : List ℕ) (n : ℕ) (few row : List ℕ)
    → (((before ++ digits n) ++ spaced few) ++ spaced row) ++ (line_end ∷ []) ≡ before ++ line n (few ++ row)
line_text before n few row =
    rw (spaced-append few row, append_assoc (spaced few) (spaced row) (line_end ∷ []))
    (append_assoc ((before ++ digits n) ++ spaced few) (spaced row) (line_end ∷ [])
    ∙ append_assoc (before ++ digits n) (spaced few) (spaced row ++ (line_end ∷ []))
    ∙ append_assoc before (digits n) (spaced few ++ (spaced row ++ (line_end ∷ []))))

-- the lines of nodes 1 to i, and then one more
pub line_added : (r : ℕ → List ℕ) (i : ℕ) (before text after added : List ℕ) → text ≡ before ++ rows_of r i → after ≡ text ++ added
    → added ≡ r i → after ≡ before ++ rows_of r (i + 1)
unfolding rows_of
line_added r i before text after added e f is = rw (add-one i, f, e, is) (append_assoc before (rows_of r i) (r i))

-- ---- room for the lines of all nodes, where each takes at most w

pub line-fits : (at end i n w room : ℕ) → end ≤ at + i * w → at + n * w ≤ room → i < n → end + w ≤ room
line-fits at end i n w room a b h = omega (arith, row_end i n w h)

pub line_next : (at end next i w : ℕ) → end ≤ at + i * w → next ≤ end + w → next ≤ at + (i + 1) * w
line_next at end next i w a b = rw (add-one i, suc-mul i w) (omega arith)
