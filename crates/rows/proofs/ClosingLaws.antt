-- Laws for closing rows: one turn of each pass, and the row of a link, closed.
use Prim.Native.Nat.{ℕ, zero, suc, ◌+◌, ◌-◌, ◌*◌, ◌≤◌, ◌<◌, max}
use mathlib.Core.Bool.{cond}
use mathlib.Core.Path.{◌≡◌, refl, ap, ap₂, sym, ◌∙◌}
use mathlib.Core.List.{List, ◌++◌}
use native.Mathlib.Nat.{suc-mul}
use native.Mathlib.Omega.{arith}
use native.Mathlib.Decide.{ℕ_discrete}
use borrow.Author.Tests.{eq-eqb, ne_eqb, lt-ltb}
use lib.Dec.{eqb}
use lib.ListN.{length, take, drop, get_or}
use lib.Seq.{get_or-take, get_or-drop}
use Rattle.base.specs.Table.{tab}
use Rattle.base.proofs.TableLaws.{length-tab, get_or-tab, tab_cong, tab_of_list, length_part, row_end}
use Rattle.smoothing.specs.Tree.{Tree, Link, Ordered, put, unless_root, turn_down, pass_up, pass_down, close_up, close_down, close}
use Rattle.smoothing.specs.Lists.{rows_in}
use Rattle.smoothing.proofs.PassLaws.{put_other, unless_root_root, unless_root_inner, pass_down_at}
use Rattle.smoothing.proofs.LoopLaws.{pass_up_turn_rows, rows_in_replace}
use Rattle.rows.specs.Row.{row_in}
use Rattle.rows.specs.Closing.{slot_in, with_part, lent_row, Due}
use Rattle.rows.specs.declared.Links.{Links}

-- ---- one turn of each pass

-- the row of a link other than the root's
pub row_at : (w : ℕ) (l : List ℕ) (v a k : ℕ) → 0 < v → a ≡ (v - 1) * w → get_or l (a + k) 0 ≡ rows_in w l v k
row_at w l zero a k h e = absurd (omega arith)
row_at w l (suc i) a k h e = let d : suc i - 1 ≡ i = omega arith in rw (e, d)

-- it lies within the first v rows
pub row_within : (v w : ℕ) → 0 < v → (v - 1) * w + w ≡ v * w
row_within zero w h = absurd (omega arith)
row_within (suc i) w h = let d : suc i - 1 ≡ i = omega arith in rw d (sym (suc-mul i w))

-- and is the part from a to e
pub row_part : (w : ℕ) (l : List ℕ) (v a e : ℕ) → 0 < v → a ≡ (v - 1) * w → e ≡ a + w → e ≤ length l
    → take (e - a) (drop a l) ≡ tab (rows_in w l v) w
row_part w l v a e p start end h =
    let n : e - a ≡ w = omega arith in
    tab_of_list (take (e - a) (drop a l)) w (length_part a e l (omega arith) h ∙ n)
    ∙ tab_cong _ (rows_in w l v) w (λ k q.
    get_or-take (e - a) (drop a l) k 0 (omega arith) ∙ get_or-drop a l k 0 ∙ row_at w l v a k p start)

-- two rows taken together, slot by slot
pub tab_both : (op : ℕ → ℕ → ℕ) (f g : ℕ → ℕ) (w : ℕ) (p q : List ℕ) → p ≡ tab f w → q ≡ tab g w
    → tab (λ k. op (row_in p k) (row_in q k)) (length p) ≡ tab (λ k. op (f k) (g k)) w
tab_both op f g w p q d e =
    rw (d, e, length-tab f w) (tab_cong _ _ w (λ k h. ap₂ op (get_or-tab f w k h) (get_or-tab g w k h)))

-- a link's row lies within the plan
pub row_fits : (v n w : ℕ) → 0 < v → v < n → (v - 1) * w + w ≤ (n - 1) * w
row_fits v n w p h = row_end (v - 1) (n - 1) w (omega arith)

-- the row of a parent lies before that of its child, and that within the plan
pub rows_apart : (s : Links) (v w : ℕ) → Link s.nodes v → let u = get_or s.parent.now v 0 in 0 < u
    → ((u - 1) * w + w ≤ (v - 1) * w) × ((v - 1) * w + w ≤ (s.nodes - 1) * w)
rows_apart s v w link inner =
    (row_end (get_or s.parent.now v 0 - 1) (v - 1) w (omega (arith, s.ordered v link)), row_fits v s.nodes w link.0 link.1)

pub up_turn : (parent : ℕ → ℕ) (op : ℕ → ℕ → ℕ → ℕ) (w : ℕ) (l : List ℕ) (i a b : ℕ) → 0 < i → 0 < parent i → a ≡ (parent i - 1) * w → b ≡ (i - 1) * w
    → a + w ≤ length l → (k : ℕ) → k < w
    → pass_up parent op i (slot_in w l k) ≡ pass_up parent op (i - 1) (slot_in w (with_part (λ j. op i (get_or l (a + j) 0) (get_or l (b + j) 0)) a w l) k)
up_turn parent op w l i a b p inner start other h k q =
    pass_up_turn_rows w l parent op i a (a + w) k p (omega arith) start refl h q
    ∙ ap (λ (r : List ℕ). pass_up parent op (i - 1) (slot_in w (take a l ++ (r ++ drop (a + w) l)) k))
    (tab_cong _ _ w (λ j m. rw (row_at w l (parent i) a j inner start, row_at w l i b j p other)))

pass_down-suc : (parent : ℕ → ℕ) (op : ℕ → ℕ → ℕ → ℕ) (i : ℕ) (f g : ℕ → ℕ) → g ≡ pass_down parent op i f
    → put g (suc i) (unless_root parent op (suc i) (g (suc i)) (g (parent (suc i)))) ≡ pass_down parent op (suc i) f
unfolding pass_down turn_down
pass_down-suc parent op i f g is = ap (λ (h : ℕ → ℕ). put h (suc i) (unless_root parent op (suc i) (h (suc i)) (h (parent (suc i))))) is

-- the root's row is 0 in every slot, so that a child of the root keeps its row in its turn
pub down_turn : (T : Tree) (w : ℕ) (l : List ℕ) (i a : ℕ) → 0 < i → a ≡ (i - 1) * w → a + w ≤ length l → (k : ℕ) → k < w
    → (f : ℕ → ℕ) → slot_in w l k ≡ pass_down T.parent (close_down T) (i - 1) f
    → let row : ℕ → ℕ = λ j. max (rows_in w l i j) (rows_in w l (T.parent i) j - T.b (T.parent i)) in
    slot_in w (with_part row a w l) k ≡ pass_down T.parent (close_down T) i f
down_turn T w l zero a p start h k q f is = absurd (omega arith)
down_turn T w l (suc i) a p start h k q f is =
    let e : suc i - 1 ≡ i = omega arith in
    rows_in_replace w l _ (suc i) a (a + w) k p start refl h q
    ∙ ap (put (slot_in w l k) (suc i)) (taken (ℕ_discrete (T.parent (suc i)) 0))
    ∙ pass_down-suc T.parent (close_down T) i f (slot_in w l k) (rw e at is)
  where
    taken : Dec (T.parent (suc i) ≡ 0) → max (rows_in w l (suc i) k) (rows_in w l (T.parent (suc i)) k - T.b (T.parent (suc i)))
        ≡ unless_root T.parent (close_down T) (suc i) (rows_in w l (suc i) k) (rows_in w l (T.parent (suc i)) k)
    taken (yes z) = rw (unless_root_root T.parent (close_down T) (suc i) (rows_in w l (suc i) k) (rows_in w l (T.parent (suc i)) k) z, z) (omega arith)
    taken (no ne) = sym (unless_root_inner T.parent (close_down T) (suc i) (rows_in w l (suc i) k) (rows_in w l (T.parent (suc i)) k) ne)

-- ---- the lent row

pub lent_none : (w : ℕ) (parent plan lent : List ℕ) → lent ≡ lent_row 1 w parent plan lent
unfolding lent_row
lent_none w parent plan lent = refl

-- the turn of link v leaves its parent's row, which was copied, as it is
pub lent_turn : (w : ℕ) (parent l p lent copy : List ℕ) (f : ℕ → ℕ) (v : ℕ) → 0 < v → get_or parent v 0 < v → (v - 1) * w + w ≤ length l
    → p ≡ with_part f ((v - 1) * w) w l → copy ≡ tab (rows_in w l (get_or parent v 0)) w → copy ≡ lent_row (v + 1) w parent p lent
unfolding lent_row
lent_turn w parent l p lent copy f v pos low room is e =
    let d : v + 1 - 1 ≡ v = omega arith in
    rw (lt-ltb 1 (v + 1) (omega arith), d)
    (e ∙ tab_cong _ _ w (λ k h.
    sym (ap (λ (q : List ℕ). rows_in w q (get_or parent v 0) k) is
    ∙ ap (λ (g : ℕ → ℕ). g (get_or parent v 0)) (rows_in_replace w l _ v ((v - 1) * w) ((v - 1) * w + w) k pos refl refl room h)
    ∙ put_other (slot_in w l k) v _ (get_or parent v 0) (omega arith))))

-- both passes, one after the other
pub close_is : (T : Tree) (f up down : ℕ → ℕ) → up ≡ pass_up T.parent (λ v x y. max x y) (T.n - 1) f
    → down ≡ pass_down T.parent (close_down T) (T.n - 1) up → down ≡ close T f
unfolding close
close_is T f up down u d = d ∙ ap (pass_down T.parent (close_down T) (T.n - 1)) u

-- ---- the row of a link, closed

-- a link's closed number, from its own after the pass up and the closed one of its parent
close_at : (T : Tree) → Ordered T → (f : ℕ → ℕ) (v : ℕ) → Link T.n v
    → max (pass_up T.parent (close_up T) (T.n - 1) f v) (cond (eqb (T.parent v) 0) 0 (close T f (T.parent v)) - T.b (T.parent v)) ≡ close T f v
unfolding close
close_at T ordered f v link = go (ℕ_discrete (T.parent v) 0)
  where
    up : ℕ → ℕ
    up = pass_up T.parent (close_up T) (T.n - 1) f

    down : ℕ → ℕ
    down = pass_down T.parent (close_down T) (T.n - 1) up

    at : down v ≡ unless_root T.parent (close_down T) v (up v) (down (T.parent v))
    at = pass_down_at T.parent (close_down T) (T.n - 1) (λ w p h. ordered w (p, omega (arith, link))) up v link.0 (omega (arith, link))

    go : Dec (T.parent v ≡ 0) → max (up v) (cond (eqb (T.parent v) 0) 0 (down (T.parent v)) - T.b (T.parent v)) ≡ down v
    go (yes z) = rw (eq-eqb (T.parent v) 0 z) (omega (arith, at ∙ unless_root_root T.parent (close_down T) v (up v) (down (T.parent v)) z))
    go (no ne) = rw (ne_eqb (T.parent v) 0 ne) (sym (at ∙ unless_root_inner T.parent (close_down T) v (up v) (down (T.parent v)) ne))

pub finished : (T : Tree) (F : ℕ → ℕ → ℕ) (v : ℕ) (row above : List ℕ) (memory : ℕ) → Due T F v row above memory
    → tab (λ k. max (row_in row k) (row_in above k - memory)) (length row) ≡ tab (λ k. close T (F k) v) (length row)
finished T F v row above memory due =
    tab_both (λ x y. max x (y - memory)) _ _ (length row) row above due.row_up due.above_closed
    ∙ tab_cong _ _ (length row) (λ k h. rw due.memory_above (close_at T due.ordered (F k) v due.link))
