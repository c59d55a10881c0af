-- Laws of trees: links, leaves and inner nodes, what is below what.
use mathlib.Core.Bool.{Bool, true, false, not, ◌&&◌, ◌||◌}
use mathlib.Core.Path.{◌≡◌, refl, ap, sym, ◌∙◌}
use mathlib.Core.Logic.{◌⊎◌, inl, inr, ⊎_elim}
use Prim.Native.Nat.{ℕ, zero, suc, ◌+◌, ◌≤◌, ◌<◌}
use native.Mathlib.Numerals.{add-one}
use native.Mathlib.Omega.{arith}
use lib.Dec.{ltb, eqb}
use borrow.Author.Tests.{lt-ltb, le-ltb, ltb-true, eq-eqb, eqb-true}
use Rattle.base.specs.Range.{some}
use Rattle.base.specs.Set.{has, word_bits}
use Rattle.base.proofs.BoolLaws.{true_or_false, not_both, otherwise, and_left, and_right, and_true}
use Rattle.base.proofs.BoolLaws.{and_no_right, or_right, or_cases, lt_or_le}
use Rattle.base.proofs.RangeLaws.{some-passes, which_passes}
use Rattle.job.specs.Tree.{Tree, TreeWithin, link, child, has_child, leaf, meets, below, leaf_at}

-- ---- links

pub link_is : (n i : ℕ) → 0 < i → i < n → link n i ≡ true
unfolding link
link_is n i h k = rw (lt-ltb 0 i h, lt-ltb i n k)

pub link_in : (n i : ℕ) → link n i ≡ true → (0 < i) × (i < n)
unfolding link
link_in n i h = (ltb-true 0 i (and_left (ltb 0 i) (ltb i n) h), ltb-true i n (and_right (ltb 0 i) (ltb i n) h))

pub link_past : (n i : ℕ) → n ≤ i → link n i ≡ false
unfolding link
link_past n i h = and_no_right (ltb 0 i) (le-ltb i n h)

-- a question to the links, for a loop that asks link 1 first and then one link more in each turn
module _ (n : ℕ) (p : ℕ → Bool) where
  pub some-link-none : some (λ i. link n i && p i) 1 ≡ false
  unfolding some link
  some-link-none = refl

  pub some-link_more : (i : ℕ) → 0 < i → i < n → some (λ i. link n i && p i) (i + 1) ≡ (some (λ i. link n i && p i) i || p i)
  unfolding some
  some-link_more i h k = rw (add-one, link_is n i h k)

-- ---- children

-- a node that has a child, by that child
pub child_of : (t : Tree) (i : ℕ) → has_child t i ≡ true → (c : ℕ) × (0 < c) × (c < t.n) × (t.parent c ≡ i)
unfolding has_child child
child_of t i h =
    let (c, l, e) = which_passes (λ c. link t.n c && eqb (t.parent c) i) t.n h in
    let (p, q) = link_in t.n c (and_left (link t.n c) (eqb (t.parent c) i) e) in
    (c, p, q, eqb-true (t.parent c) i (and_right (link t.n c) (eqb (t.parent c) i) e))

pub has-child : (t : Tree) (c : ℕ) → 0 < c → c < t.n → has_child t (t.parent c) ≡ true
unfolding has_child child
has-child t c h k =
    some-passes (λ x. link t.n x && eqb (t.parent x) (t.parent c)) t.n c k (rw (link_is t.n c h k, eq-eqb (t.parent c) (t.parent c) refl))

-- a node is a leaf or has a child, and not both
pub leaf_or_child : (t : Tree) (i : ℕ) → i < t.n → (leaf t i ≡ true) ⊎ (has_child t i ≡ true)
unfolding leaf
leaf_or_child t i h = ⊎_elim (λ (e : has_child t i ≡ true). inr e) (λ (e : has_child t i ≡ false). inl (rw (lt-ltb i t.n h, e))) (true_or_false (has_child t i))

pub leaf_in : (t : Tree) (i : ℕ) → leaf t i ≡ true → i < t.n
unfolding leaf
leaf_in t i h = ltb-true i t.n (and_left (ltb i t.n) (not (has_child t i)) h)

pub leaf_childless : (t : Tree) (i : ℕ) → leaf t i ≡ true → has_child t i ≡ false
unfolding leaf
leaf_childless t i h = go (has_child t i) (and_right (ltb i t.n) (not (has_child t i)) h)
  where
    go : (b : Bool) → not b ≡ true → b ≡ false
    go true e = absurd (not_both e refl)
    go false e = refl

-- nobody's parent
pub leaf_no_parent : (t : Tree) (i c : ℕ) → leaf t i ≡ true → 0 < c → c < t.n → t.parent c ≡ i → ⊥
leaf_no_parent t i c h p q e = not_both (rw e at (has-child t c p q)) (leaf_childless t i h)

pub leaf_past : (t : Tree) (i : ℕ) → t.n ≤ i → leaf t i ≡ false
unfolding leaf
leaf_past t i h = rw (le-ltb i t.n h)

-- a leaf is a node that the set of parents has not
pub leaf_of_set : (t : Tree) (inner i : ℕ) → t.n ≤ word_bits → ((k : ℕ) → has inner k ≡ (has_child t k && ltb k word_bits)) → i < t.n
    → not (has inner i) ≡ leaf t i
unfolding leaf
leaf_of_set t inner i h e k = rw (e i, lt-ltb i word_bits (omega arith), and_true, lt-ltb i t.n k) refl

-- a loop over the links that gathers parents
pub parents-none : (t : Tree) (k : ℕ) → some (λ c. child t c k) 1 ≡ false
unfolding some child link
parents-none t k = refl

pub parents_more : (t : Tree) (i k : ℕ) → 0 < i → i < t.n → some (λ c. child t c k) (i + 1) ≡ (some (λ c. child t c k) i || eqb (t.parent i) k)
unfolding some child
parents_more t i k h l = rw (add-one, link_is t.n i h l)

-- ---- below, in a tree where each parent is lower than its child

-- a child is below its parent, and what a loop over the children asks
pub child_is : (t : Tree) (c i : ℕ) → 0 < c → c < t.n → t.parent c ≡ i → child t c i ≡ true
unfolding child
child_is t c i h k e = rw (link_is t.n c h k, eq-eqb (t.parent c) i e)

pub child-link : (t : Tree) (c i : ℕ) → 0 < c → c < t.n → child t c i ≡ eqb (t.parent c) i
unfolding child
child-link t c i h k = rw (link_is t.n c h k)

pub child_root : (t : Tree) (i : ℕ) → child t 0 i ≡ false
unfolding child link
child_root t i = refl

pub child_in : (t : Tree) (c i : ℕ) → child t c i ≡ true → (0 < c) × (c < t.n) × (t.parent c ≡ i)
unfolding child
child_in t c i h =
    let (p, q) = link_in t.n c (and_left (link t.n c) (eqb (t.parent c) i) h) in
    (p, q, eqb-true (t.parent c) i (and_right (link t.n c) (eqb (t.parent c) i) h))

pub below_in : (t : Tree) (i a : ℕ) → below t i a ≡ true → (0 < i) × (i < t.n)
unfolding below meets
below_in t zero a h = absurd (not_both (and_right (ltb 0 t.n) false h) refl)
below_in t (suc i) a h = (omega arith, ltb-true (suc i) t.n (and_left (ltb (suc i) t.n) (meets t.parent (suc i) (suc i) a) h))

pub below_root_none : (t : Tree) (a : ℕ) → below t 0 a ≡ false
unfolding below meets
below_root_none t a = and_no_right (ltb 0 t.n) refl

module _ (t : Tree) (ordered : (i : ℕ) → link t.n i ≡ true → t.parent i < i) where
  parent_lt : (i : ℕ) → 0 < i → i < t.n → t.parent i < i
  parent_lt i h k = ordered i (link_is t.n i h k)

  from_root : (s a : ℕ) → meets t.parent s 0 a ≡ false
  unfolding meets
  from_root zero a = refl
  from_root (suc s) a = refl

  -- more steps than the node's number change nothing: the root has been reached
  enough : (s r i a : ℕ) → i ≤ s → i ≤ r → i < t.n → meets t.parent s i a ≡ meets t.parent r i a
  unfolding meets
  enough zero r i a hs hr hn = let e : i ≡ 0 = omega arith in rw (e, from_root r a)
  enough (suc s) r i a hs hr hn = go r i hs hr hn (λ x y. enough s x y a)
    where
      go : (r i : ℕ) → i ≤ suc s → i ≤ r → i < t.n
          → ((x y : ℕ) → y ≤ s → y ≤ x → y < t.n → meets t.parent s y a ≡ meets t.parent x y a)
          → meets t.parent (suc s) i a ≡ meets t.parent r i a
      go r zero hs hr hn ih = rw (from_root r a) refl
      go zero (suc i) hs hr hn ih = absurd (omega arith)
      go (suc r) (suc i) hs hr hn ih =
          let l : t.parent (suc i) < suc i = parent_lt (suc i) (omega arith) hn in
          ap (λ (x : Bool). eqb (t.parent (suc i)) a || x) (ih r (t.parent (suc i)) (omega arith) (omega arith) (omega arith))

  -- a node is below a where its parent is a or is below a
  pub below_step : (i a : ℕ) → 0 < i → i < t.n → below t i a ≡ (eqb (t.parent i) a || below t (t.parent i) a)
  unfolding below meets
  below_step zero a h k = absurd (omega arith)
  below_step (suc i) a h k =
      let l : t.parent (suc i) < suc i = parent_lt (suc i) h k in
      let p = t.parent (suc i) in
      rw (lt-ltb (suc i) t.n k, lt-ltb p t.n (omega arith), enough i p p a (omega arith) (omega arith) (omega arith))

  pub child-below : (c a : ℕ) → 0 < c → c < t.n → t.parent c ≡ a → below t c a ≡ true
  child-below c a h k e = below_step c a h k ∙ rw (eq-eqb (t.parent c) a e)

  pub below_up : (i a : ℕ) → 0 < i → i < t.n → below t (t.parent i) a ≡ true → below t i a ≡ true
  below_up i a h k e = below_step i a h k ∙ or_right (eqb (t.parent i) a) e

  pub below_cases : (i a : ℕ) → below t i a ≡ true → (t.parent i ≡ a) ⊎ (below t (t.parent i) a ≡ true)
  below_cases i a h =
      let (p, q) = below_in t i a h in
      ⊎_elim
      (λ (e : eqb (t.parent i) a ≡ true). inl (eqb-true (t.parent i) a e))
      (λ (e : below t (t.parent i) a ≡ true). inr e)
      (or_cases (eqb (t.parent i) a) (below t (t.parent i) a) (sym (below_step i a p q) ∙ h))

  -- what is below has the higher number; so no node is below itself
  lower_by : (b i a : ℕ) → i ≤ b → below t i a ≡ true → a < i
  lower_by zero i a hb h = let (p, q) = below_in t i a h in absurd (omega arith)
  lower_by (suc b) i a hb h =
      let (p, q) = below_in t i a h in
      let l = parent_lt i p q in
      ⊎_elim
      (λ (e : t.parent i ≡ a). omega arith)
      (λ (e : below t (t.parent i) a ≡ true). omega (arith, lower_by b (t.parent i) a (omega arith) e))
      (below_cases i a h)

  pub below-lower : (i a : ℕ) → below t i a ≡ true → a < i
  below-lower i a h = lower_by i i a (omega arith) h

  pub below-not_self : (i : ℕ) → below t i i ≡ false
  below-not_self i = otherwise (below t i i) (λ h. omega (arith, below-lower i i h))

  -- below what is below
  trans_by : (b i a c : ℕ) → i ≤ b → below t i a ≡ true → below t a c ≡ true → below t i c ≡ true
  trans_by zero i a c hb h k = let (p, q) = below_in t i a h in absurd (omega arith)
  trans_by (suc b) i a c hb h k =
      let (p, q) = below_in t i a h in
      let l = parent_lt i p q in
      ⊎_elim
      (λ (e : t.parent i ≡ a). below_up i c p q (rw e k))
      (λ (e : below t (t.parent i) a ≡ true). below_up i c p q (trans_by b (t.parent i) a c (omega arith) e k))
      (below_cases i a h)

  pub below_trans : (i a c : ℕ) → below t i a ≡ true → below t a c ≡ true → below t i c ≡ true
  below_trans i a c h k = trans_by i i a c (omega arith) h k

  -- every node but the root is below the root
  root_by : (b i : ℕ) → i ≤ b → 0 < i → i < t.n → below t i 0 ≡ true
  root_by zero i hb h k = absurd (omega arith)
  root_by (suc b) i hb h k =
      let l = parent_lt i h k in
      ⊎_elim
      (λ (q : 0 < t.parent i). below_up i 0 h k (root_by b (t.parent i) (omega arith) q (omega arith)))
      (λ (q : t.parent i ≤ 0). child-below i 0 h k (omega arith))
      (lt_or_le 0 (t.parent i))

  pub below_root : (i : ℕ) → 0 < i → i < t.n → below t i 0 ≡ true
  below_root i h k = root_by i i (omega arith) h k

  -- every inner node has a leaf below it
  leaf_by : (b i : ℕ) → t.n ≤ i + b → has_child t i ≡ true → (l : ℕ) × (leaf t l ≡ true) × (below t l i ≡ true)
  leaf_by zero i hb h =
      let (c, p, q, e) = child_of t i h in
      let l = parent_lt c p q in
      absurd (omega arith)
  leaf_by (suc b) i hb h =
      let (c, p, q, e) = child_of t i h in
      let l = parent_lt c p q in
      ⊎_elim
      (λ (k : leaf t c ≡ true). (c, k, child-below c i p q e))
      (λ (k : has_child t c ≡ true).
      let (x, f, g) = leaf_by b c (omega arith) k in
      (x, f, below_trans x c i g (child-below c i p q e)))
      (leaf_or_child t c q)

  pub inner_has-leaf : (i : ℕ) → has_child t i ≡ true → (l : ℕ) × (leaf t l ≡ true) × (below t l i ≡ true)
  inner_has-leaf i h = leaf_by t.n i (omega arith) h

-- the root of a tree of two nodes or more is no leaf
pub root_has-child : (t : Tree) → TreeWithin t → has_child t 0 ≡ true
root_has-child t w =
    let l : 1 < t.n = omega (arith, w.nodes_from) in
    let e : t.parent 1 ≡ 0 = omega (arith, w.parents 1 (link_is t.n 1 (omega arith) l)) in
    rw e at (has-child t 1 (omega arith) l)

-- the leaves at or below a node, as a word has them
pub at_word : (t : Tree) → TreeWithin t → (a l : ℕ) → (leaf t l && (below t l a || (eqb l a && ltb l word_bits))) ≡ leaf_at t a l
unfolding leaf_at
at_word t w a l =
    ⊎_elim
    (λ (e : leaf t l ≡ true). rw (lt-ltb l word_bits (omega (arith, leaf_in t l e, w.nodes_to)), and_true))
    (λ (e : leaf t l ≡ false). rw e)
    (true_or_false (leaf t l))
