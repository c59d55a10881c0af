-- Laws of the upper rows of all links, filled in two passes over the tree, and of a lower row that comes from its parent's.
use mathlib.Core.Bool.{true, false}
use mathlib.Core.Path.{◌≡◌, refl, ap, sym, ◌∙◌}
use mathlib.Core.Logic.{◌≢◌}
use mathlib.Core.List.{List, ◌++◌}
use Prim.Native.Nat.{ℕ, zero, suc, ◌+◌, ◌-◌, ◌*◌, ◌≤◌, ◌<◌, max}
use native.Mathlib.Omega.{arith}
use native.Mathlib.Decide.{dec_lt}
use lib.ListN.{length, get_or, set, get_or-append, length-append}
use lib.Seq.{get_or-append-add}
use Rattle.base.specs.Set.{has}
use Rattle.base.specs.Table.{tab, rows_of}
use Rattle.base.proofs.TableLaws.{length-tab, get_or-tab, get_d_rows, tab_cong}
use Rattle.base.proofs.PartLaws.{rows_of_cells}
use Rattle.job.specs.Limits.{greatest_total}
use Rattle.job.specs.Tree.{Tree, TreeWithin, leaf, leaf_at}
use Rattle.smoothing.specs.Tree.{Link, «open»}
use Rattle.smoothing.specs.Plan.{upper}
use Rattle.smoothing.proofs.ClosedLaws.{open_monotone}
use Rattle.rows.specs.Row.{raised_row, InRange}
use Rattle.rows.specs.Closing.{slot_in}
use Rattle.curves.specs.Curves.{lower_curve, upper_curve, high, problem}
use Rattle.job.specs.Sums.{sums_in, last_in, HoldsSums}
use Rattle.job.proofs.SumsLaws.{film_of}
use Rattle.curves.specs.Rows.{most_played, raised_by_all, lowered_by, roof, high_rows, upper_rows, leaf_lower}
use Rattle.curves.proofs.LowerLaws.{parent-lower, D-leaf, lower-step}
use Rattle.curves.proofs.UpperLaws.{high-under}
use Rattle.curves.proofs.CurveEq.{upper_is, lower_top}
use Rattle.curves.proofs.LeafLaws.{D_of_set}
use Rattle.curves.proofs.RowLaws.{zero_slot}

-- ---- one row of what a link's own rules allow

pub roof-leaf : (t : Tree) → TreeWithin t → (sums : List ℕ) (top i n : ℕ) → leaf t i ≡ true
    → lowered_by t sums i (tab (λ k. top) n) ≡ tab (roof t (sums_in sums) top i) n
unfolding lowered_by roof
roof-leaf t w sums top i n e =
    rw length-tab
    (tab_cong _ _ n (λ k h. rw e (omega (arith, get_or-tab (λ k. top) n k h, D-leaf t w (sums_in sums) i k e))))

pub roof_inner : (t : Tree) (T : ℕ → ℕ) (top i n : ℕ) → leaf t i ≡ false → tab (λ k. top) n ≡ tab (roof t T top i) n
unfolding roof
roof_inner t T top i n e = tab_cong _ _ n (λ k h. rw e refl)

pub high_slots : (t : Tree) (T : ℕ → ℕ) (top i n : ℕ) → set (tab (roof t T top i) n) 0 0 ≡ tab (high t T top i) n
unfolding roof high
high_slots t T top i n = zero_slot (roof t T top i) (high t T top i) n refl (λ k. refl)

-- ---- the rows of all links

-- a bound for each row bounds them all
rows_all : (r : ℕ → List ℕ) (b m : ℕ) → ((i k : ℕ) → k < length (r i) → get_or (r i) k 0 ≤ b)
    → (k : ℕ) → k < length (rows_of r m) → get_or (rows_of r m) k 0 ≤ b
unfolding rows_of
rows_all r b zero each k h = absurd (omega arith)
rows_all r b (suc m) each k h = go (dec_lt k (length (rows_of r m))) (rows_all r b m each k)
  where
    go : Dec (k < length (rows_of r m)) → (k < length (rows_of r m) → get_or (rows_of r m) k 0 ≤ b) → get_or (rows_of r m ++ r m) k 0 ≤ b
    go (yes l) ih = omega (arith, get_or-append (rows_of r m) (r m) 0 k l, ih l)
    go (no l) ih =
        let e : length (rows_of r m) + (k - length (rows_of r m)) ≡ k = omega arith in
        let at : get_or (rows_of r m ++ r m) k 0 ≡ get_or (r m) (k - length (rows_of r m)) 0 =
        rw e at (get_or-append-add (rows_of r m) (r m) (k - length (rows_of r m)) 0) in
        omega (arith, at, each m (k - length (rows_of r m)) (omega (arith, length-append (rows_of r m) (r m))))

module _ (t : Tree) (w : TreeWithin t) (T : ℕ → ℕ) (top n m : ℕ) where
  pub high_range : top ≤ greatest_total → InRange (high_rows t T top n m)
  high_range fits =
      rows_all (λ i. tab (high t T top (suc i)) n) greatest_total m
      (λ i k h.
      omega (arith, get_or-tab (high t T top (suc i)) n k (rw length-tab at h), high-under t w T top (suc i) k, fits))

  -- opening looks at the links alone
  open_links : (f g : ℕ → ℕ) → ((v : ℕ) → Link t.n v → f v ≡ g v) → (v : ℕ) → Link t.n v
      → «open» (problem t T top 0).tree f v ≡ «open» (problem t T top 0).tree g v
  open_links f g same v h =
      omega (
        arith,
        open_monotone (problem t T top 0).tree (parent-lower t w) f g (λ u l. omega (arith, same u l)) v h,
        open_monotone (problem t T top 0).tree (parent-lower t w) g f (λ u l. omega (arith, same u l)) v h,
      )

  -- what the links' own rules allow, opened at every slot: the upper curves
  pub opened : m ≡ t.n - 1 → (l r : List ℕ) → l ≡ high_rows t T top n m → length r ≡ m * n
      → ((k : ℕ) → k < n → slot_in n r k ≡ «open» (problem t T top 0).tree (slot_in n l k)) → r ≡ upper_rows t T top n m
  unfolding upper
  opened links l r is long each =
      rows_of_cells (λ i. upper_curve t T top (suc i)) n m r long
      (λ i k h q.
      ap (λ (f : ℕ → ℕ). f (suc i)) (each k q)
      ∙ open_links (slot_in n l k) (λ v. high t T top v k) (λ v link. cell v link k q) (suc i) (omega arith, omega arith)
      ∙ sym (upper_is t w T top 0 (suc i) k (omega arith, omega arith)))
    where
      cell : (v : ℕ) → Link t.n v → (k : ℕ) → k < n → slot_in n l k v ≡ high t T top v k
      cell zero link k q = absurd (omega (arith, link.0))
      cell (suc i) link k q =
          ap (λ (x : List ℕ). get_or x (i * n + k) 0) is
          ∙ get_d_rows (λ i. tab (high t T top (suc i)) n) n m i k (λ x. length-tab _ n) (omega (arith, link.1)) q
          ∙ get_or-tab (high t T top (suc i)) n k q

-- ---- a lower row from its parent's

-- what it is made of stays within what a film can have
pub less_in_range : (t : Tree) → TreeWithin t → (sums : List ℕ) → HoldsSums sums → (c n less : ℕ) → Link t.n c
    → (l r : List ℕ) → l ≡ tab (lower_curve t (sums_in sums) c) n → r ≡ tab (λ k. get_or l k 0 - less) n → InRange r
less_in_range t w sums held c n less link l r is e k q =
    let h : k < n = rw (e, length-tab) at q in
    let at : get_or l k 0 ≡ lower_curve t (sums_in sums) c k = rw is (get_or-tab (lower_curve t (sums_in sums) c) n k h) in
    let made : get_or r k 0 ≡ get_or l k 0 - less = rw e (get_or-tab (λ k. get_or l k 0 - less) n k h) in
    omega (arith, at, made, lower_top t w (sums_in sums) (last_in sums) 0 (film_of sums held) c k link, held.fits)

module _ (t : Tree) (w : TreeWithin t) (sums : List ℕ) (v : ℕ) (link : Link t.n v) (inner : t.parent v ≢ 0) (n : ℕ) (l : List ℕ)
    (above : l ≡ tab (lower_curve t (sums_in sums) (t.parent v)) n) where
  module _ (set : ℕ) (is : (i : ℕ) → has set i ≡ leaf_at t v i) where
    -- slot by slot
    from-parent : (k : ℕ) → k < n
        → lower_curve t (sums_in sums) v k ≡ max (most_played t (sums_in sums) set k) (get_or l k 0 - t.memory (t.parent v))
    from-parent k h =
        let at : get_or l k 0 ≡ lower_curve t (sums_in sums) (t.parent v) k =
        rw above (get_or-tab (lower_curve t (sums_in sums) (t.parent v)) n k h) in
        lower-step t w (sums_in sums) v k link inner ∙ rw (at, D_of_set t w v link.1 set is (sums_in sums) k)

    -- in the parent's row itself
    pub near_own : raised_by_all t sums set 0 (tab (λ k. get_or l k 0 - t.memory (t.parent v)) n) ≡ tab (lower_curve t (sums_in sums) v) n
    unfolding raised_by_all
    near_own =
        rw length-tab
        (tab_cong _ _ n (λ k h. omega (arith, from-parent k h, get_or-tab (λ k. get_or l k 0 - t.memory (t.parent v)) n k h)))

    -- in a row of its own
    pub near_other : raised_row l (t.memory (t.parent v)) (raised_by_all t sums set 0 (tab (λ _. 0) n))
        ≡ tab (lower_curve t (sums_in sums) v) n
    unfolding raised_by_all
    near_other =
        rw (length-tab, length-tab)
        (tab_cong _ _ n (λ k h.
        omega (
          arith,
          from-parent k h,
          get_or-tab (λ _. 0) n k h,
          get_or-tab (λ k. max (get_or (tab (λ _. 0) n) k 0) (most_played t (sums_in sums) set k - 0)) n k h,
        )))

-- ---- a leaf's lower curve from its parent's

module _ (t : Tree) (w : TreeWithin t) (T : ℕ → ℕ) (i k : ℕ) (is_leaf : leaf t i ≡ true) (link : Link t.n i) (inner : t.parent i ≢ 0) where
  pub leaf-lower_is : leaf_lower (T (k - t.delay i)) (lower_curve t T (t.parent i) k) (t.memory (t.parent i)) ≡ lower_curve t T i k
  unfolding leaf_lower
  leaf-lower_is = omega (arith, lower-step t w T i k link inner, D-leaf t w T i k is_leaf)
