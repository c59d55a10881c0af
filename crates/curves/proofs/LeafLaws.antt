-- Laws of the leaves at or below a node, as a set has them: which is the earliest, and that D is the most that any of them plays.
use mathlib.Core.Bool.{Bool, true, false, not, ◌&&◌, ◌||◌}
use mathlib.Core.Path.{◌≡◌, refl, ap, ap₂, sym, ◌∙◌}
use mathlib.Core.List.{List, [], ◌∷◌}
use Rattle.std.specs.List as list
use mathlib.Core.Logic.{◌⊎◌, inl, inr, ⊎_elim}
use Prim.Native.Nat.{ℕ, zero, suc, ◌-◌, ◌≤◌, ◌<◌, ◌^◌, min, max}
use native.Mathlib.Omega.{arith}
use lib.Dec.{eqb, ltb}
use lib.Bits.{bit_and}
use lib.ListN.{length, get_or}
use borrow.Author.Tests.{eqb-true, eq-eqb, ltb-true, ltb-false, lt-ltb}
use Rattle.base.specs.Range.{first, fold}
use Rattle.base.specs.Set.{has, members, word_bits}
use Rattle.base.proofs.MemberLaws.{fold_members, members_next, next_in}
use Rattle.base.proofs.BoolLaws.{true_or_false, not_both, otherwise, and_left, and_right, or_right}
use Rattle.base.proofs.BoolLaws.{or_cases, cond_both, lt_or_le, last_or_below}
use Rattle.base.proofs.RangeLaws.{greatest_over-above, greatest_over-under, greatest_over_either, which_passes}
use Rattle.base.proofs.RangeLaws.{least_over-below, least_over-above}
use Rattle.base.proofs.SetLaws.{has-none, has_past, first_in}
use Rattle.job.specs.Tree.{Tree, TreeWithin, leaf, below, leaf_at}
use Rattle.job.proofs.TreeLaws.{leaf_in, leaf_no_parent, child-below, below_in, below_cases, below_trans}
use Rattle.smoothing.specs.Tree.{Link}
use Rattle.curves.specs.Curves.{leaf_below, plays, D}
use Rattle.curves.specs.Rows.{least_delay, earlier, earliest_of, most_played}
use Rattle.curves.proofs.LowerLaws.{parent-lower, leaf-below, leaf-below_in, some-leaf, D-leaf, D-above, D-under}

-- a member has a place in the word
pub member_lt : (set i : ℕ) → set < 2 ^ 64 → has set i ≡ true → i < word_bits
member_lt set i fits m = ⊎_elim (λ l. l) (λ l. absurd (not_both m (has_past set i fits l))) (lt_or_le i word_bits)

-- ---- the earliest

-- a set without a member is empty
pub no_member : (set : ℕ) → set < 2 ^ 64 → members set ≡ [] → set ≡ 0
no_member set fits e =
    ⊎_elim
    (λ (h : 0 < set). let m : suc (length (members (bit_and set (set - 1)))) ≡ 0 = ap length (sym (members_next set fits h) ∙ e) in absurd (omega (arith, m)))
    (λ h. omega arith)
    (lt_or_le 0 set)

-- a set that has a member is not
pub some_member : (set i : ℕ) (rest : List ℕ) → members set ≡ i ∷ rest → 0 < set
some_member set i rest e =
    ⊎_elim
    (λ l. l)
    (λ l. let z : set ≡ 0 = omega arith in absurd (not_both (rw z at ((next_in set i rest e).1)) (has-none i)))
    (lt_or_le 0 set)

module _ (delay : List ℕ) where
  earlier-delay : (i l : ℕ) → get_or delay (earlier delay i l) 0 ≡ min (get_or delay i 0) (get_or delay l 0)
  unfolding earlier
  earlier-delay i l =
      cond_both (ltb (get_or delay l 0) (get_or delay i 0)) (λ x. get_or delay x 0 ≡ min (get_or delay i 0) (get_or delay l 0)) l i
      (λ e. omega (arith, ltb-true (get_or delay l 0) (get_or delay i 0) e))
      (λ e. omega (arith, ltb-false (get_or delay l 0) (get_or delay i 0) e))

  module _ (p : ℕ → Bool) (z : ℕ) where
    -- it is one of those that pass
    pub earliest_in : p z ≡ true → (n : ℕ) → p (fold (earlier delay) z p n) ≡ true
    unfolding fold earlier
    earliest_in h zero = h
    earliest_in h (suc n) =
        ⊎_elim
        (λ (e : p n ≡ true).
        let g = fold (earlier delay) z p n in
        rw e (cond_both (ltb (get_or delay n 0) (get_or delay g 0)) (λ x. p x ≡ true) n g (λ _. e) (λ _. earliest_in h n)))
        (λ (e : p n ≡ false). rw e (earliest_in h n))
        (true_or_false (p n))

    -- and none of them starts before it
    pub earliest_least : (n i : ℕ) → i < n → p i ≡ true → get_or delay (fold (earlier delay) z p n) 0 ≤ get_or delay i 0
    unfolding fold
    earliest_least zero i h t = absurd (omega arith)
    earliest_least (suc n) i h t = go (true_or_false (p n)) (last_or_below i n h) (earliest_least n i)
      where
        go : (p n ≡ true) ⊎ (p n ≡ false) → (i ≡ n) ⊎ (i < n)
            → (i < n → p i ≡ true → get_or delay (fold (earlier delay) z p n) 0 ≤ get_or delay i 0)
            → get_or delay (fold (earlier delay) z p (suc n)) 0 ≤ get_or delay i 0
        go (inl e) (inl q) ih = rw (e, q) (omega (arith, earlier-delay (fold (earlier delay) z p n) n))
        go (inl e) (inr q) ih = rw e (omega (arith, earlier-delay (fold (earlier delay) z p n) n, ih q t))
        go (inr e) (inl q) ih = absurd (not_both (rw q at t) e)
        go (inr e) (inr q) ih = rw e (ih q t)

  -- the earliest of a set that is not empty is a member
  pub earliest_member : (set : ℕ) → set < 2 ^ 64 → 0 < set → has set (earliest_of delay set) ≡ true
  earliest_member set fits h = earliest_in (has set) (first (has set) word_bits) (first_in set fits h) word_bits

  -- the first member and then the others, as a walk meets them
  earlier-self : (i : ℕ) → earlier delay i i ≡ i
  unfolding earlier
  earlier-self i = cond_both (ltb (get_or delay i 0) (get_or delay i 0)) (λ x. x ≡ i) i i (λ _. refl) (λ _. refl)

  pub earliest_members : (set i : ℕ) (rest : List ℕ) → set < 2 ^ 64 → members set ≡ i ∷ rest
      → list.fold (earlier delay) i rest ≡ earliest_of delay set
  earliest_members set i rest fits e =
      let is_first : first (has set) word_bits ≡ i = ap (λ (l : List ℕ). get_or l 0 0) (sym (members_next set fits (some_member set i rest e)) ∙ e) in
      ap (λ (z : ℕ). list.fold (earlier delay) z rest) (sym (earlier-self i))
      ∙ ap₂ (list.fold (earlier delay)) (sym is_first) (sym e)
      ∙ fold_members (earlier delay) (first (has set) word_bits) set

-- ---- the most that a leaf of a set plays

both_parts : (a b : Bool) → (b ≡ true → a ≡ true) → a ≡ (b || (a && not b))
both_parts a true h = h refl
both_parts true false h = refl
both_parts false false h = refl

-- the member of a set of one
pub only_member : (one i : ℕ) → ((j : ℕ) → has one j ≡ (has 0 j || (eqb j i && ltb j word_bits))) → (j : ℕ) → has one j ≡ true → j ≡ i
only_member one i is j m = eqb-true j i (and_left (eqb j i) (ltb j word_bits) (rw (has-none j) at (sym (is j) ∙ m)))

module _ (t : Tree) (T : ℕ → ℕ) (k : ℕ) where
  pub played-none : most_played t T 0 k ≡ 0
  unfolding most_played
  played-none = omega (arith, greatest_over-under (has 0) (λ l. plays t T l k) word_bits 0 (λ l q m. absurd (not_both m (has-none l))))

  -- of one leaf
  pub played_one : (one i : ℕ) → i < word_bits → ((j : ℕ) → has one j ≡ (has 0 j || (eqb j i && ltb j word_bits)))
      → most_played t T one k ≡ plays t T i k
  unfolding most_played
  played_one one i h is =
      omega (
        arith,
        greatest_over-above (has one) (λ l. plays t T l k) word_bits i h (is i
            ∙ rw (has-none i, eq-eqb i i refl, lt-ltb i word_bits h) refl),
        greatest_over-under (has one) (λ l. plays t T l k) word_bits (plays t T i k) (λ l q m. rw (only_member one i is l m) (omega arith)),
      )

  -- of a part and of what is outside it
  pub played_parts : (set part rest : ℕ) → ((j : ℕ) → has part j ≡ true → has set j ≡ true)
      → ((j : ℕ) → has rest j ≡ (has set j && not (has part j)))
      → most_played t T set k ≡ max (most_played t T part k) (most_played t T rest k)
  unfolding most_played
  played_parts set part rest among is =
      greatest_over_either (has set) (has part) (has rest) (λ l. plays t T l k) word_bits
      (λ j. both_parts (has set j) (has part j) (among j) ∙ ap (λ (b : Bool). has part j || b) (sym (is j)))

-- ---- leaves at or below a node

module _ (t : Tree) (w : TreeWithin t) where
  -- nothing is below a leaf
  no_leaf_by : (b l a : ℕ) → l ≤ b → below t l a ≡ true → leaf t a ≡ false
  no_leaf_by zero l a hb h = absurd (omega (arith, below_in t l a h))
  no_leaf_by (suc b) l a hb h =
      let (p, q) = below_in t l a h in
      let lt = parent-lower t w l (p, q) in
      ⊎_elim
      (λ (e : t.parent l ≡ a). otherwise (leaf t a) (λ f. leaf_no_parent t a l f p q e))
      (λ (e : below t (t.parent l) a ≡ true). no_leaf_by b (t.parent l) a (omega arith) e)
      (below_cases t w.parents l a h)

  leaf_at_in : (a l : ℕ) → leaf_at t a l ≡ true → (leaf t l ≡ true) × ((leaf_below t a l ≡ true) ⊎ (l ≡ a))
  unfolding leaf_at
  leaf_at_in a l h =
      let f = and_left (leaf t l) _ h in (
        f,
        ⊎_elim
            (λ (b : below t l a ≡ true). inl (leaf-below t w a l f b))
            (λ (e : eqb l a ≡ true). inr (eqb-true l a e))
            (or_cases (below t l a) (eqb l a) (and_right (leaf t l) _ h)),
      )

  at_below : (a l : ℕ) → leaf_below t a l ≡ true → leaf_at t a l ≡ true
  unfolding leaf_at
  at_below a l h = let (f, b) = leaf-below_in t w a l h in rw (f, b)

  at_self : (a : ℕ) → leaf t a ≡ true → leaf_at t a a ≡ true
  unfolding leaf_at
  at_self a h = rw h (or_right (below t a a) (eq-eqb a a refl))

  -- those of a node are among those of its parent
  pub at_parent : (a l : ℕ) → Link t.n a → leaf_at t a l ≡ true → leaf_at t (t.parent a) l ≡ true
  at_parent a l link h =
      let (f, c) = leaf_at_in a l h in
      let up = child-below t w.parents a (t.parent a) link.0 link.1 refl in
      at_below (t.parent a) l (leaf-below t w (t.parent a) l f (⊎_elim
      (λ (b : leaf_below t a l ≡ true). below_trans t w.parents l a (t.parent a) (leaf-below_in t w a l b).1 up)
      (λ (e : l ≡ a). rw e up)
      c))

  module _ (a : ℕ) (h : a < t.n) (set : ℕ) (is : (l : ℕ) → has set l ≡ leaf_at t a l) where
    -- a leaf has itself alone
    of_leaf : leaf t a ≡ true → (l : ℕ) → has set l ≡ true → l ≡ a
    of_leaf e l m =
        ⊎_elim
        (λ (b : leaf_below t a l ≡ true). absurd (not_both e (no_leaf_by l l a (omega arith) (leaf-below_in t w a l b).1)))
        (λ (q : l ≡ a). q)
        (leaf_at_in a l (sym (is l) ∙ m)).1

    -- any other node has those below it
    of_inner : leaf t a ≡ false → (l : ℕ) → has set l ≡ true → leaf_below t a l ≡ true
    of_inner e l m =
        let (f, c) = leaf_at_in a l (sym (is l) ∙ m) in
        ⊎_elim (λ (b : leaf_below t a l ≡ true). b) (λ (q : l ≡ a). absurd (not_both (rw q at f) e)) c

    has_self : leaf t a ≡ true → has set a ≡ true
    has_self e = is a ∙ at_self a e

    has-below : (l : ℕ) → leaf_below t a l ≡ true → has set l ≡ true
    has-below l b = is l ∙ at_below a l b

    in_word : (l : ℕ) → leaf t l ≡ true → l < word_bits
    in_word l f = omega (arith, leaf_in t l f, w.nodes_to)

    -- D is the most that any of them plays
    pub D_of_set : (T : ℕ → ℕ) (k : ℕ) → D t T a k ≡ most_played t T set k
    unfolding most_played
    D_of_set T k = ⊎_elim leaf_case inner_case (true_or_false (leaf t a))
      where
        leaf_case : leaf t a ≡ true → D t T a k ≡ most_played t T set k
        leaf_case e =
            omega (
              arith,
              D-leaf t w T a k e,
              greatest_over-above (has set) (λ l. plays t T l k) word_bits a (in_word a e) (has_self e),
              greatest_over-under (has set) (λ l. plays t T l k) word_bits (plays t T a k) (λ l q m. rw (of_leaf e l m) (omega arith)),
            )

        inner_case : leaf t a ≡ false → D t T a k ≡ most_played t T set k
        inner_case e =
            omega (
              arith,
              D-under t w T a k (most_played t T set k) e (λ l b.
                  greatest_over-above (has set) (λ l. plays t T l k) word_bits l (in_word l (leaf-below_in t w a l b).0) (has-below l b)),
              greatest_over-under (has set) (λ l. plays t T l k) word_bits (D t T a k) (λ l q m. D-above t w T a l k e (of_inner e l m)),
            )

    -- there is one
    pub some_in : 0 < set
    some_in = ⊎_elim (λ l. l) (λ l. absurd (empty (omega arith) (true_or_false (leaf t a)))) (lt_or_le 0 set)
      where
        none : set ≡ 0 → (l : ℕ) → has set l ≡ true → ⊥
        none z l m = not_both (rw z at m) (has-none l)

        empty : set ≡ 0 → (leaf t a ≡ true) ⊎ (leaf t a ≡ false) → ⊥
        empty z (inl e) = none z a (has_self e)
        empty z (inr e) = let (l, q, b) = which_passes (leaf_below t a) t.n (some-leaf t w a h e) in none z l (has-below l b)

    -- the earliest has the least delay
    pub least_of_set : (r : ℕ) → has set r ≡ true → ((l : ℕ) → has set l ≡ true → t.delay r ≤ t.delay l) → t.delay r ≡ least_delay t a
    unfolding least_delay
    least_of_set r m least =
        ⊎_elim
        (λ (e : leaf t a ≡ true). rw e (ap t.delay (of_leaf e r m)))
        (λ (e : leaf t a ≡ false).
        rw e
        (omega (
          arith,
          least_over-below (leaf_below t a) t.delay t.n r (leaf_in t r (leaf-below_in t w a r (of_inner e r m)).0) (of_inner e r m),
          least_over-above (leaf_below t a) t.delay t.n (t.delay r) (some-leaf t w a h e) (λ l q b. least l (has-below l b)),
        )))
        (true_or_false (leaf t a))
