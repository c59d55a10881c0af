-- What links loops to the definitions: one turn of each pass, on families and on rows one after the other in one list; and a lazy row
-- filled from its end.
use mathlib.Core.Path.{◌≡◌, refl, sym, ap, fun_ext, ◌∙◌}
use mathlib.Core.Logic.{◌≢◌}
use mathlib.Core.List.{List, [], ◌∷◌, ◌++◌, append_assoc, append-nil}
use Prim.Native.Nat.{ℕ, zero, suc, ◌+◌, ◌-◌, ◌*◌, ◌≤◌, ◌<◌, max, min}
use native.Mathlib.Omega.{arith}
use native.Mathlib.Decide.{ℕ_discrete, dec_le, dec_lt}
use lib.ListN.{length, take, drop, get_or, set, length-set}
use lib.Seq.{take-suc, drop-cons, set_at, length-take-le, take-length, drop-length}
use Rattle.base.specs.Table.{tab, rows_of}
use Rattle.base.proofs.TableLaws.{length-tab, get_or-tab, row_end}
use Rattle.base.proofs.PartLaws.{part_before, part_inside, part_after, rows_of_cells}
use Rattle.smoothing.specs.Tree.{put, unless_root, turn_up, turn_down, pass_up, pass_down}
use Rattle.smoothing.specs.Row.{lazy}
use Rattle.smoothing.specs.Lists.{rows_in, FilledFrom}
use Rattle.smoothing.proofs.PassLaws.{put_same, put_other, unless_root_root, unless_root_inner}
use Rattle.smoothing.proofs.LazyLaws.{lazy_last, lazy-back}

-- ---- one turn of each pass, on families

put_own : (f : ℕ → ℕ) (u : ℕ) → put f u (f u) ≡ f
put_own f u = fun_ext (λ v. go v (ℕ_discrete v u))
  where
    go : (v : ℕ) → Dec (v ≡ u) → put f u (f u) v ≡ f v
    go v (yes e) = rw e (put_same f u (f u))
    go v (no ne) = put_other f u (f u) v ne

module _ (parent : ℕ → ℕ) (op : ℕ → ℕ → ℕ → ℕ) where
  -- for i = m down to 1: with u the parent of i, f[u] = op(i, f[u], f[i]), unless u is the root
  pub pass_up_turn : (i : ℕ) → 0 < i → (f : ℕ → ℕ) → parent i ≢ 0
      → pass_up parent op i f ≡ pass_up parent op (i - 1) (put f (parent i) (op i (f (parent i)) (f i)))
  unfolding pass_up turn_up
  pass_up_turn zero p f ne = absurd (omega arith)
  pass_up_turn (suc i) p f ne =
      let e : suc i - 1 ≡ i = omega arith in
      rw e (ap (λ x. pass_up parent op i (put f (parent (suc i)) x)) (unless_root_inner parent op (suc i) _ _ ne))

  pub pass_up_skip : (i : ℕ) → 0 < i → (f : ℕ → ℕ) → parent i ≡ 0 → pass_up parent op i f ≡ pass_up parent op (i - 1) f
  unfolding pass_up turn_up
  pass_up_skip zero p f z = absurd (omega arith)
  pass_up_skip (suc i) p f z =
      let e : suc i - 1 ≡ i = omega arith in
      rw e (ap (pass_up parent op i) (ap (put f (parent (suc i))) (unless_root_root parent op (suc i) _ _ z) ∙ put_own f (parent (suc i))))

  pub pass_up-done : (f : ℕ → ℕ) (i : ℕ) → i ≡ 0 → pass_up parent op i f ≡ f
  unfolding pass_up
  pass_up-done f i e = rw e

  -- for i = 1 up to m: with u the parent of i, f[i] = op(i, f[i], f[u]), unless u is the root
  pub pass_down_turn : (i : ℕ) → 0 < i → (f g : ℕ → ℕ) → parent i ≢ 0 → g ≡ pass_down parent op (i - 1) f
      → put g i (op i (g i) (g (parent i))) ≡ pass_down parent op i f
  unfolding pass_down turn_down
  pass_down_turn zero p f g ne q = absurd (omega arith)
  pass_down_turn (suc i) p f g ne q =
      let e : suc i - 1 ≡ i = omega arith in
      ap (put g (suc i)) (sym (unless_root_inner parent op (suc i) _ _ ne))
      ∙ ap (λ (h : ℕ → ℕ). put h (suc i) (unless_root parent op (suc i) (h (suc i)) (h (parent (suc i))))) (rw e at q)

  pub pass_down_skip : (i : ℕ) → 0 < i → (f g : ℕ → ℕ) → parent i ≡ 0 → g ≡ pass_down parent op (i - 1) f → g ≡ pass_down parent op i f
  unfolding pass_down turn_down
  pass_down_skip zero p f g z q = absurd (omega arith)
  pass_down_skip (suc i) p f g z q =
      let e : suc i - 1 ≡ i = omega arith in
      sym (ap (put g (suc i)) (unless_root_root parent op (suc i) _ _ z) ∙ put_own g (suc i))
      ∙ ap (λ (h : ℕ → ℕ). put h (suc i) (unless_root parent op (suc i) (h (suc i)) (h (parent (suc i))))) (rw e at q)

  pub pass_down-none : (f : ℕ → ℕ) (i : ℕ) → i ≡ 0 → f ≡ pass_down parent op i f
  unfolding pass_down
  pass_down-none f i e = rw e

-- ---- on rows one after the other in one list

module _ (w : ℕ) (l : List ℕ) where
  -- the row of link u, from place a to place e, replaced by g: one place of the family is replaced, at every slot
  pub rows_in_replace : (g : ℕ → ℕ) (u a e k : ℕ) → 0 < u → a ≡ (u - 1) * w → e ≡ a + w → e ≤ length l → k < w
      → (λ v. rows_in w (take a l ++ (tab g w ++ drop e l)) v k) ≡ put (λ v. rows_in w l v k) u (g k)
  rows_in_replace g u a e k p start end h q = fun_ext at
    where
      place : (i : ℕ) → i ≡ u - 1 → a ≡ i * w
      place i d = rw d start

      cell : (i : ℕ) → Dec (suc i ≡ u) → Dec (suc i < u) → get_or (take a l ++ (tab g w ++ drop e l)) (i * w + k) 0 ≡ put (λ v. rows_in w l v k) u (g k) (suc i)
      cell i (yes d) o =
          rw (end, ← place i (omega arith), d) (part_inside l (tab g w) a w (omega arith) (length-tab g w) k q ∙ get_or-tab g w k q ∙ sym (put_same _ u (g k)))
      cell i (no d) (yes o) =
          rw end (part_before l (tab g w) a w (omega arith) (length-tab g w) (i * w + k) (omega (arith, row_end i (u - 1) w (omega arith))))
          ∙ sym (put_other _ u (g k) (suc i) d)
      cell i (no d) (no o) =
          rw end (part_after l (tab g w) a w (omega arith) (length-tab g w) (i * w + k) (omega (arith, row_end (u - 1) i w (omega arith))))
          ∙ sym (put_other _ u (g k) (suc i) d)

      at : (v : ℕ) → rows_in w (take a l ++ (tab g w ++ drop e l)) v k ≡ put (λ v. rows_in w l v k) u (g k) v
      at zero = sym (put_other _ u (g k) 0 (omega arith))
      at (suc i) = cell i (ℕ_discrete (suc i) u) (dec_lt (suc i) u)

  -- one turn of the pass up on all slots: the row of the parent u is replaced
  pub pass_up_turn_rows : (parent : ℕ → ℕ) (op : ℕ → ℕ → ℕ → ℕ) (i a e k : ℕ) → 0 < i → parent i ≢ 0
      → a ≡ (parent i - 1) * w → e ≡ a + w → e ≤ length l → k < w
      → let row : ℕ → ℕ = λ k. op i (rows_in w l (parent i) k) (rows_in w l i k) in
      pass_up parent op i (λ v. rows_in w l v k) ≡ pass_up parent op (i - 1) (λ v. rows_in w (take a l ++ (tab row w ++ drop e l)) v k)
  pass_up_turn_rows parent op i a e k p ne start end h q =
      pass_up_turn parent op i p (λ v. rows_in w l v k) ne
      ∙ ap (pass_up parent op (i - 1)) (sym (rows_in_replace _ (parent i) a e k (omega arith) start end h q))

  -- one turn of the pass down on all slots: the row of link i is replaced
  pub pass_down_turn_rows : (parent : ℕ → ℕ) (op : ℕ → ℕ → ℕ → ℕ) (i a e k : ℕ) → 0 < i → parent i ≢ 0
      → a ≡ (i - 1) * w → e ≡ a + w → e ≤ length l → k < w
      → (f : ℕ → ℕ) → (λ v. rows_in w l v k) ≡ pass_down parent op (i - 1) f
      → let row : ℕ → ℕ = λ k. op i (rows_in w l i k) (rows_in w l (parent i) k) in
      (λ v. rows_in w (take a l ++ (tab row w ++ drop e l)) v k) ≡ pass_down parent op i f
  pass_down_turn_rows parent op i a e k p ne start end h q f is =
      rows_in_replace _ i a e k p start end h q ∙ pass_down_turn parent op i p f (λ v. rows_in w l v k) ne is

  -- a list of m rows is the table of the rows that it holds
  pub rows_in-table : (F : ℕ → ℕ → ℕ) (m : ℕ) → length l ≡ m * w
      → ((v k : ℕ) → 0 < v → v ≤ m → k < w → rows_in w l v k ≡ F v k) → l ≡ rows_of (λ i. tab (F (suc i)) w) m
  rows_in-table F m h each = rows_of_cells (λ i. F (suc i)) w m l h (λ i k p q. each (suc i) k (omega arith) (omega arith) q)

-- ---- a lazy row filled from its end

-- for k = H + 1 down to 1: next = max(f[k - 1], next - q), row[k - 1] = next; at first next is f at slot H, and before each turn it is the
-- lazy row's value at slot k, or at H where k is past it
pub lazy-start : (H q : ℕ) (f : ℕ → ℕ) (k : ℕ) → k ≡ suc H → f H ≡ lazy H q f (min k H)
lazy-start H q f k e = let d : min k H ≡ H = omega arith in rw d (sym (lazy_last H q f))

pub lazy_turn : (H q : ℕ) (f : ℕ → ℕ) (k : ℕ) → 0 < k → k ≤ suc H
    → max (f (k - 1)) (lazy H q f (min k H) - q) ≡ lazy H q f (min (k - 1) H)
lazy_turn H q f k p h = go (dec_le k H)
  where
    go : Dec (k ≤ H) → max (f (k - 1)) (lazy H q f (min k H) - q) ≡ lazy H q f (min (k - 1) H)
    go (yes l) =
        let e : min k H ≡ suc (k - 1) = omega arith in
        let d : min (k - 1) H ≡ k - 1 = omega arith in
        rw (e, d) (sym (lazy-back H q f (k - 1) (omega arith)))
    go (no l) =
        let e : min k H ≡ H = omega arith in
        let d : min (k - 1) H ≡ H = omega arith in
        let c : k - 1 ≡ H = omega arith in
        rw (e, d, c, lazy_last H q f) (omega arith)

module _ (f : ℕ → ℕ) where
  pub filled_from_none : (l : List ℕ) → FilledFrom f (length l) l l
  filled_from_none l =
      let e : drop (length l) (tab f (length l)) ≡ [] = rw (length-tab f (length l)) at (drop-length (tab f (length l))) in
      (omega arith, (refl, rw (take-length, e, append-nil)))

  pub filled_from_more : (k : ℕ) (l p : List ℕ) → 0 < k → FilledFrom f k l p → FilledFrom f (k - 1) l (set p (k - 1) (f (k - 1)))
  filled_from_more zero l p pos filled = absurd (omega arith)
  filled_from_more (suc k) l p pos filled =
      let row = tab f (length l) in
      let h : k < length l = filled.0 in
      let e : suc k - 1 ≡ k = omega arith in
      let rest : drop k row ≡ f k ∷ drop (suc k) row =
      drop-cons row k 0 (omega (arith, length-tab f (length l))) ∙ ap (λ x. x ∷ drop (suc k) row) (get_or-tab f (length l) k h) in
      rw e (
        omega arith,
        (
          length-set p k (f k) ∙ filled.1.0,
          rw (filled.1.1, rest, take-suc l k 0 h, append_assoc)
              (set_at (take k l) (get_or l k 0) (drop (suc k) row) (f k) k (length-take-le k l (omega arith))),
        ),
      )

  pub filled_from_done : (k : ℕ) (l p : List ℕ) → FilledFrom f k l p → k ≡ 0 → p ≡ tab f (length l)
  filled_from_done k l p filled z = filled.1.1 ∙ rw z
