-- Laws of the tests of one link, and of the column that a step takes.
use mathlib.Core.Bool.{Bool, true, false, cond, ◌&&◌}
use mathlib.Core.Path.{◌≡◌, refl, ap, sym, ◌∙◌}
use mathlib.Core.List.{List}
use Prim.Native.Nat.{ℕ, ◌+◌, ◌-◌, ◌≤◌, ◌<◌, max}
use native.Mathlib.Omega.{arith}
use native.Mathlib.Decide.{ℕ_discrete, dec_lt}
use borrow.Author.Tests.{lt-ltb, le-ltb}
use lib.Dec.{ltb}
use lib.ListN.{length, get_or, set, length-set}
use lib.Seq.{get_or-set_same, get_or-set_other, ext_get_or}
use Rattle.base.specs.Range.{fold, greatest_over}
use Rattle.base.specs.Set.{has, word_bits}
use Rattle.base.specs.Table.{tab}
use Rattle.base.proofs.BoolLaws.{otherwise}
use Rattle.base.proofs.TableLaws.{length-tab, get_or-tab, tab_of_list, tab_cong}
use Rattle.base.proofs.RangeLaws.{fold_cong, fold_skip}
use Rattle.job.specs.Tree.{Tree, TreeWithin, link, child}
use Rattle.job.proofs.TreeLaws.{child_in}
use Rattle.running.specs.Work.{after}

-- ---- the column of a step, link by link

module _ (now before : ℕ → ℕ) where
  pub after-link : (n v : ℕ) → 0 < v → v < n → after n now before v ≡ now v
  unfolding after link
  after-link n v p q = rw (lt-ltb 0 v p, lt-ltb v n q) refl

  after_other : (n v : ℕ) → n ≤ v → after n now before v ≡ before v
  unfolding after link
  after_other n v h = rw (le-ltb v n h) (none (ltb 0 v))
    where
      none : (b : Bool) → cond (b && false) (now v) (before v) ≡ before v
      none true = refl
      none false = refl

  after_root : (n v : ℕ) → v ≡ 0 → after n now before v ≡ before v
  unfolding after link
  after_root n v z = rw z refl

  pub after_none : (l : List ℕ) (m : ℕ) → length l ≡ m → ((v : ℕ) → before v ≡ get_or l v 0) → l ≡ tab (after 1 now before) m
  after_none l m long is = tab_of_list l m long ∙ tab_cong _ _ m (λ v h. sym (none v (ℕ_discrete v 0) ∙ is v))
    where
      none : (v : ℕ) → Dec (v ≡ 0) → after 1 now before v ≡ before v
      none v (yes z) = after_root 1 v z
      none v (no nz) = after_other 1 v (omega arith)

  pub after_more : (l : List ℕ) (i m : ℕ) → 0 < i → i < m → l ≡ tab (after i now before) m → set l i (now i) ≡ tab (after (i + 1) now before) m
  after_more l i m p h is =
      ext_get_or 0 _ _ (length-set l i (now i) ∙ long ∙ sym (length-tab _ m)) (λ v q. cell v (omega (arith, length-set l i (now i), long)) (ℕ_discrete v i) (dec_lt v i) (ℕ_discrete v 0))
    where
      long : length l ≡ m
      long = ap length is ∙ length-tab (after i now before) m

      old : (v : ℕ) → v < m → get_or l v 0 ≡ after i now before v
      old v q = ap (λ (x : List ℕ). get_or x v 0) is ∙ get_or-tab (after i now before) m v q

      cell : (v : ℕ) → v < m → Dec (v ≡ i) → Dec (v < i) → Dec (v ≡ 0) → get_or (set l i (now i)) v 0 ≡ get_or (tab (after (i + 1) now before) m) v 0
      cell v q (yes e) d z =
          rw e (get_or-set_same l i (now i) 0 (omega (arith, long)) ∙ sym (get_or-tab (after (i + 1) now before) m i h ∙ after-link (i + 1) i p (omega arith)))
      cell v q (no e) (yes d) (yes z) =
          get_or-set_other l i v (now i) 0 e ∙ old v q ∙ after_root i v z ∙ sym (get_or-tab (after (i + 1) now before) m v q ∙ after_root (i + 1) v z)
      cell v q (no e) (yes d) (no z) =
          get_or-set_other l i v (now i) 0 e ∙ old v q ∙ after-link i v (omega arith) d ∙ sym (get_or-tab (after (i + 1) now before) m v q ∙ after-link (i + 1) v (omega arith) (omega arith))
      cell v q (no e) (no d) z =
          get_or-set_other l i v (now i) 0 e ∙ old v q ∙ after_other i v (omega arith) ∙ sym (get_or-tab (after (i + 1) now before) m v q ∙ after_other (i + 1) v (omega arith))

-- ---- a walk over the children of a node

pub children_walked : (t : Tree) → TreeWithin t → (set i x : ℕ) (f : ℕ → ℕ) → ((k : ℕ) → has set k ≡ child t k i)
    → fold (λ g c. max g (x - f c)) 0 (has set) word_bits ≡ greatest_over (λ c. child t c i) (λ c. x - f c) t.n
children_walked t w set i x f is =
    fold_cong _ 0 (has set) (λ c. child t c i) word_bits (λ k q. is k)
    ∙ fold_skip _ 0 (λ c. child t c i) t.n word_bits w.nodes_to (λ k p q. otherwise (child t k i) (λ e. omega (arith, child_in t k i e)))
