-- What walks over sets of nodes find: floor rates, the least rate of all, how many children a node has and what it hands on to them.
use mathlib.Core.Bool.{Bool, true, false, cond, ◌&&◌, ◌||◌}
use mathlib.Core.List.{List}
use mathlib.Core.Path.{◌≡◌, refl, ap, sym, ◌∙◌}
use mathlib.Core.Logic.{⊎_elim}
use Prim.Native.Nat.{ℕ, ◌+◌, ◌≤◌, ◌<◌, max, min}
use native.Mathlib.Omega.{arith}
use native.Mathlib.Decide.{ℕ_discrete}
use lib.Dec.{eqb, ltb}
use lib.ListN.{get_or}
use borrow.Author.Tests.{lt-ltb, eq-eqb, eqb-true}
use Rattle.base.specs.Range.{how_many, fold, two_least}
use Rattle.base.specs.Set.{has, word_bits}
use Rattle.base.proofs.BoolLaws.{and_left, or_right, or_cases, iff_same, otherwise}
use Rattle.base.proofs.CountLaws.{how_many-fold}
use Rattle.base.proofs.RangeLaws.{some-passes, fold_cong, fold_skip, fold-least}
use Rattle.base.proofs.TableLaws.{get_or-tab}
use Rattle.job.specs.Limits.{most_nodes, greatest_rate, greatest_total}
use Rattle.job.specs.Tree.{Tree, TreeWithin, link, child, below}
use Rattle.job.proofs.TreeLaws.{link_is, link_in, child_in, below_in, below_root}
use Rattle.smoothing.specs.Tree as theory
use Rattle.smoothing.specs.Tree.{child_count}
use Rattle.smoothing.proofs.ChoiceLaws.{second_walk, handed_more, ask_root, ask_next, chosen-under}
use Rattle.rates.specs.Rates.{at_or_below, floor_rate, least_rate}
use Rattle.rates.specs.Work.{on_links, NeedsWithin, handed_by, ask_by, memory_by}
use Rattle.rates.proofs.TheoryLaws.{child-same, ordered}

-- a walk over a set of nodes looks at the nodes alone
walk_nodes : {A : Type 0} (step : A → ℕ → A) (z : A) (n set : ℕ) (p : ℕ → Bool) → n ≤ word_bits → ((k : ℕ) → has set k ≡ p k) → ((k : ℕ) → p k ≡ true → k < n)
    → fold step z (has set) word_bits ≡ fold step z p n
walk_nodes step z n set p h is within =
    fold_cong step z (has set) p word_bits (λ k q. is k)
    ∙ fold_skip step z p n word_bits h (λ k l q. otherwise (p k) (λ e. omega (arith, within k e)))

-- what node k hands on of what it is asked for, by a list of needs
abbrev pub onward : Tree → List ℕ → ℕ → ℕ
onward t needs k = handed_by t needs k (ask_by t needs k)

module _ (t : Tree) (tree : TreeWithin t) where
  -- ---- rates

  module _ (set i : ℕ) (is-link : link t.n i ≡ true) (is : (k : ℕ) → has set k ≡ (below t k i || (eqb k i && ltb k word_bits))) where
    is_at_or_below : (k : ℕ) → has set k ≡ at_or_below t i k
    is_at_or_below k =
        is k
        ∙ iff_same (below t k i || (eqb k i && ltb k word_bits)) (at_or_below t i k)
        (λ e. ⊎_elim
        (λ (b : below t k i ≡ true). or_right (eqb k i) b)
        (λ (b : (eqb k i && ltb k word_bits) ≡ true). rw (and_left (eqb k i) (ltb k word_bits) b) refl)
        (or_cases (below t k i) (eqb k i && ltb k word_bits) e))
        (λ e. ⊎_elim
        (λ (b : eqb k i ≡ true).
        let small : k < word_bits = omega (arith, eqb-true k i b, link_in t.n i is-link, tree.nodes_to) in
        or_right (below t k i) (rw (b, lt-ltb k word_bits small) refl))
        (λ (b : below t k i ≡ true). rw b refl)
        (or_cases (eqb k i) (below t k i) e))

    linked : (k : ℕ) → at_or_below t i k ≡ true → (0 < k) × (k < t.n)
    linked k e =
        ⊎_elim
        (λ (b : eqb k i ≡ true). rw (eqb-true k i b) (link_in t.n i is-link))
        (λ (b : below t k i ≡ true). below_in t k i b)
        (or_cases (eqb k i) (below t k i) e)

    pub floor_walk : fold (λ g k. min g (t.rate k)) greatest_rate (has set) word_bits ≡ floor_rate t i
    unfolding floor_rate
    floor_walk =
        walk_nodes (λ g k. min g (t.rate k)) greatest_rate t.n set (at_or_below t i) tree.nodes_to is_at_or_below
        (λ k e. (linked k e).1)
        ∙ fold-least (at_or_below t i) t.rate greatest_rate t.n
        (some-passes (at_or_below t i) t.n i (link_in t.n i is-link).1 (rw (eq-eqb i i refl) refl))
        (λ k l e. tree.rates k (link_is t.n k (linked k e).0 l))

  pub least_walk : (set : ℕ) → ((k : ℕ) → has set k ≡ below t k 0) → fold (λ g k. min g (t.rate k)) greatest_rate
      (has set) word_bits ≡ least_rate t
  unfolding least_rate
  least_walk set is =
      let every : (k : ℕ) → below t k 0 ≡ link t.n k =
      λ k. iff_same (below t k 0) (link t.n k)
      (λ e. let (a, b) = below_in t k 0 e in link_is t.n k a b)
      (λ e. let (a, b) = link_in t.n k e in below_root t tree.parents k a b) in
      let one : 1 < t.n = omega (arith, tree.nodes_from) in
      walk_nodes (λ g k. min g (t.rate k)) greatest_rate t.n set (link t.n) tree.nodes_to (λ k. is k ∙ every k)
      (λ k e. (link_in t.n k e).1)
      ∙ fold-least (link t.n) t.rate greatest_rate t.n
      (some-passes (link t.n) t.n 1 one (link_is t.n 1 (omega arith) one))
      (λ k l e. tree.rates k e)

  -- ---- children

  module _ (i set : ℕ) (is : (k : ℕ) → has set k ≡ child t k i) where
    children_walk : {A : Type 0} (step : A → ℕ → A) (z : A) → fold step z (has set) word_bits ≡ fold step z (theory.child t.parent i) t.n
    children_walk step z =
        walk_nodes step z t.n set (λ c. child t c i) tree.nodes_to is (λ k e. (child_in t k i e).1)
        ∙ fold_cong step z (λ c. child t c i) (theory.child t.parent i) t.n (λ c l. sym (child-same t i c l))

    pub children_count : how_many (has set) word_bits ≡ child_count t.n t.parent i
    children_count =
        how_many-fold (has set) word_bits ∙ children_walk (λ g c. g + 1) 0 ∙ sym (how_many-fold (theory.child t.parent i) t.n)

    -- of two or more children the walk finds what is handed on
    pub handed_walk : (needs : List ℕ) (x : ℕ) → 1 < child_count t.n t.parent i
        → (fold (two_least (λ c. get_or needs c 0)) (x, x) (has set) word_bits).1 ≡ handed_by t needs i x
    handed_walk needs x many =
        ap (λ (g : ℕ × ℕ). g.1) (children_walk (two_least (λ c. get_or needs c 0)) (x, x))
        ∙ second_walk t.n t.parent (λ c. get_or needs c 0) i x many
        ∙ sym (handed_more t.n t.parent (λ c. get_or needs c 0) i x many)

  -- what the next node is asked for, from what the nodes before it hand on
  pub asked_next : (needs : List ℕ) (i : ℕ) → link t.n i ≡ true
      → max (get_or needs i 0) (get_or (on_links i (onward t needs) 0) (t.parent i) 0) ≡ ask_by t needs i
  asked_next needs i h = go (ℕ_discrete (t.parent i) 0)
    where
      place : get_or (on_links i (onward t needs) 0) (t.parent i) 0 ≡ cond (link i (t.parent i)) (onward t needs (t.parent i)) 0
      place = get_or-tab (λ k. cond (link i k) (onward t needs k) 0) most_nodes (t.parent i)
          (omega (arith, tree.parents i h, link_in t.n i h, tree.nodes_to))

      go : Dec (t.parent i ≡ 0) → max (get_or needs i 0) (get_or (on_links i (onward t needs) 0) (t.parent i) 0) ≡ ask_by t needs i
      go (yes e) =
          let none : link i (t.parent i) ≡ false = otherwise (link i (t.parent i)) (λ q. omega (arith, link_in i (t.parent i) q, e)) in
          omega (arith, rw none at place, ask_root t.n t.parent (λ c. get_or needs c 0) i e)
      go (no ne) =
          let some : link i (t.parent i) ≡ true = link_is i (t.parent i) (omega arith) (tree.parents i h) in
          omega (arith, rw some at place, ask_next t.n t.parent (λ c. get_or needs c 0) (ordered t tree) i (link_in t.n i h) ne)

  -- no memory is more than a film
  pub memory-small : (needs : List ℕ) → NeedsWithin t needs → (i : ℕ) → link t.n i ≡ true → memory_by t needs i ≤ greatest_total
  memory-small needs small i h =
      chosen-under t.n t.parent (λ c. get_or needs c 0) (ordered t tree) greatest_total
      (λ v g. small v (link_is t.n v g.0 g.1)) i (link_in t.n i h)
