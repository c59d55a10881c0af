-- Laws of the loop that fills a row with the lower curve of node i: it goes up from i and takes in the leaves of one node after another.
use mathlib.Core.Bool.{not, cond, ◌&&◌}
use mathlib.Core.Path.{◌≡◌, refl, ap, sym, ◌∙◌}
use mathlib.Core.List.{List}
use mathlib.Core.Logic.{◌≢◌}
use Prim.Native.Nat.{ℕ, ◌+◌, ◌-◌, ◌*◌, ◌≤◌, ◌<◌, max}
use native.Mathlib.Omega.{arith}
use native.Mathlib.Decide.{ℕ_discrete}
use borrow.Author.Tests.{eq-eqb, ne_eqb}
use lib.Dec.{eqb}
use lib.ListN.{length, get_or}
use Rattle.base.specs.Set.{has}
use Rattle.base.specs.Table.{tab}
use Rattle.base.proofs.TableLaws.{length-tab, get_or-tab}
use Rattle.job.specs.Limits.{greatest_memory}
use Rattle.job.specs.Sums.{sums_in}
use Rattle.job.specs.Tree.{Tree, TreeWithin, leaf_at}
use Rattle.job.proofs.TreeLaws.{link_is}
use Rattle.smoothing.specs.Tree.{Link}
use Rattle.curves.specs.Curves.{D, lower_curve}
use Rattle.curves.specs.Rows.{most_played, raised_by_all, TakenIn}
use Rattle.curves.proofs.LowerLaws.{parent-lower, lower_root, lower-step}
use Rattle.curves.proofs.LeafLaws.{at_parent, played_parts, D_of_set}
use Rattle.curves.proofs.RowLaws.{row_is, less_each}

-- what the ancestors of node a bring to the lower curve of a node from which `less` lies on the way up to a
unfoldable pub from_above : Tree → (ℕ → ℕ) → ℕ → ℕ → ℕ → ℕ
from_above t T a less k =
    let parent = t.parent a in
    cond (eqb parent 0) 0 (lower_curve t T parent k - (less + t.memory parent))

-- a slot that takes in what is new of what a node brings
taken_new : (row old new own above all : ℕ) → old ≤ row → own ≡ max old new → max row (max own above) ≡ all
    → max (max row new) above ≡ all
taken_new row old new own above all h e q = omega arith

module _ (t : Tree) (sums : List ℕ) where
  -- What holds when the leaves at or below a, which are in `seen`, have been taken in: `less` is the memory of the nodes above i up to a,
  -- and what is not in the row yet is what the ancestors of a bring.
  pub record LowerSoFar (i n a less seen taken : ℕ) (row : List ℕ) : Type 0 where
    pub here : (0 < a) × (a ≤ i)
    pub small : less ≤ (i - a) * greatest_memory
    pub long : length row ≡ n
    pub taken_in : TakenIn sums taken less row
    pub own : (l : ℕ) → has seen l ≡ leaf_at t a l
    pub own_in : (k : ℕ) → k < n → most_played t (sums_in sums) seen k - less ≤ get_or row k 0
    pub rest : (k : ℕ) → k < n → max (get_or row k 0) (from_above t (sums_in sums) a less k) ≡ lower_curve t (sums_in sums) i k

  module _ (w : TreeWithin t) (i : ℕ) (link : Link t.n i) where
    from_root : (a less k : ℕ) → t.parent a ≡ 0 → from_above t (sums_in sums) a less k ≡ 0
    unfolding from_above
    from_root a less k e = rw (eq-eqb (t.parent a) 0 e)

    from-parent : (a less k : ℕ) → t.parent a ≢ 0
        → from_above t (sums_in sums) a less k ≡ lower_curve t (sums_in sums) (t.parent a) k - (less + t.memory (t.parent a))
    unfolding from_above
    from-parent a less k ne = rw (ne_eqb (t.parent a) 0 ne)

    -- a node's lower curve is what its leaves bring and what its ancestors bring
    split : (a less k : ℕ) → Link t.n a
        → lower_curve t (sums_in sums) a k - less ≡ max (D t (sums_in sums) a k - less) (from_above t (sums_in sums) a less k)
    split a less k h = go (ℕ_discrete (t.parent a) 0)
      where
        go : Dec (t.parent a ≡ 0)
            → lower_curve t (sums_in sums) a k - less ≡ max (D t (sums_in sums) a k - less) (from_above t (sums_in sums) a less k)
        go (yes e) = omega (arith, lower_root t w (sums_in sums) a k h e, from_root a less k e)
        go (no ne) = omega (arith, lower-step t w (sums_in sums) a k h ne, from-parent a less k ne)

    pub lower-start : (m set taken : ℕ) (row : List ℕ) → ((l : ℕ) → has set l ≡ leaf_at t i l)
        → row ≡ raised_by_all t sums set 0 (tab (λ _. 0) m)
        → TakenIn sums taken 0 row → LowerSoFar i (length row) i 0 set taken row
    unfolding raised_by_all
    lower-start m set taken row is e in' =
        let long : length row ≡ m = rw e (length-tab _ _ ∙ length-tab _ m) in
        let at : (k : ℕ) → k < length row → get_or row k 0 ≡ most_played t (sums_in sums) set k = λ k q.
        rw (e, length-tab) (get_or-tab _ m k (omega arith) ∙ omega (arith, get_or-tab (λ _. 0) m k (omega arith))) in
        record {
          here = (link.0, omega arith);
          small = omega arith;
          long = refl;
          taken_in = in';
          own = is;
          own_in = λ k q. omega (arith, at k q);
          rest = λ k q. omega (arith, at k q, split i 0 k link, D_of_set t w i link.1 set is (sums_in sums) k);
        }

    module _ (n a less seen taken : ℕ) (row : List ℕ) (s : LowerSoFar i n a less seen taken row) where
      pub lower-done : t.parent a ≡ 0 → row ≡ tab (lower_curve t (sums_in sums) i) n
      lower-done z = row_is _ row n s.long (λ k q. omega (arith, s.rest k q, from_root a less k z))

      module _ (ne : t.parent a ≢ 0) where
        up_link : Link t.n a
        up_link = omega (arith, s.here, link.1)

        -- the node taken in next
        pub lower_up : (0 < t.parent a) × (t.parent a < a)
        lower_up = let q = parent-lower t w a up_link in (omega arith, q)

        next_link : Link t.n (t.parent a)
        next_link = omega (arith, lower_up, up_link)

        pub lower-fits : less + t.memory (t.parent a) ≤ (i - t.parent a) * greatest_memory
        lower-fits = omega (
          arith,
          s.small,
          s.here,
          lower_up,
          w.memories (t.parent a) (link_is t.n (t.parent a) next_link.0 next_link.1),
        )

        pub lower-taken : TakenIn sums taken (less + t.memory (t.parent a)) row
        lower-taken k q = (omega (arith, (s.taken_in k q).0), (s.taken_in k q).1)

        module _ (set new : ℕ) (is : (l : ℕ) → has set l ≡ leaf_at t (t.parent a) l)
            (is-new : (l : ℕ) → has new l ≡ (has set l && not (has seen l))) where
          -- what the node brings is what the one before has brought and what the new ones bring
          parts : (k : ℕ) → most_played t (sums_in sums) set k ≡ max (most_played t (sums_in sums) seen k) (most_played t (sums_in sums) new k)
          parts k =
              played_parts t (sums_in sums) k set seen new (λ l m. is l ∙ at_parent t w a l up_link (sym (s.own l) ∙ m)) is-new

          pub lower_next : (row' : List ℕ) (less' taken' : ℕ) → less' ≡ less + t.memory (t.parent a)
              → row' ≡ raised_by_all t sums new less' row
              → TakenIn sums taken' less' row' → LowerSoFar i n (t.parent a) less' set taken' row'
          unfolding raised_by_all
          lower_next row' less' taken' el e in' =
              let at : (k : ℕ) → k < n → get_or row' k 0 ≡ max (get_or row k 0) (most_played t (sums_in sums) new k - less') = λ k q.
              rw e (get_or-tab _ (length row) k (omega (arith, s.long))) in
              let old : (k : ℕ) → k < n → most_played t (sums_in sums) seen k - less' ≤ get_or row k 0 =
              λ k q. omega (arith, s.own_in k q) in
              let brings : (k : ℕ)
              → most_played t (sums_in sums) set k - less'
              ≡ max (most_played t (sums_in sums) seen k - less') (most_played t (sums_in sums) new k - less') = λ k.
              ap (λ (x : ℕ). x - less') (parts k) ∙ less_each _ _ less' in
              record {
                here = (lower_up.0, omega (arith, s.here, lower_up));
                small = rw el lower-fits;
                long = rw e (length-tab _ (length row)) ∙ s.long;
                taken_in = in';
                own = is;
                own_in = λ k q. omega (arith, at k q, old k q, brings k);
                rest = λ k q.
                    rw (at k q)
                    (taken_new _ _ _ _ _ _ (old k q) (brings k)
                    (rw (
                      from-parent a less k ne,
                      ← el,
                      split (t.parent a) less' k next_link,
                      D_of_set t w (t.parent a) next_link.1 set is (sums_in sums) k,
                    ) at (s.rest k q)));
              }
