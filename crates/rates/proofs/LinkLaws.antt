-- A list with a number for each link, filled node by node.
use mathlib.Core.Bool.{false, cond}
use mathlib.Core.Path.{◌≡◌, refl, ◌∙◌}
use Prim.Native.Nat.{ℕ, zero, suc, ◌+◌, ◌<◌}
use native.Mathlib.Omega.{arith}
use native.Mathlib.Decide.{ℕ_discrete}
use lib.ListN.{get_or, set, replicate, length-set}
use lib.Seq.{get_or-set_same, get_or-set_other}
use Rattle.base.proofs.BoolLaws.{otherwise, iff_same}
use Rattle.base.proofs.TableLaws.{length-tab, get_or-tab, tab_cong, tab_of_list}
use Rattle.job.specs.Limits.{most_nodes}
use Rattle.job.specs.Tree.{link}
use Rattle.job.proofs.TreeLaws.{link_is, link_in}
use Rattle.rates.specs.Work.{on_links}

get_d_replicate : (n x u : ℕ) → u < n → get_or (replicate n x) u 0 ≡ x
get_d_replicate zero x u h = absurd (omega arith)
get_d_replicate (suc n) x zero h = refl
get_d_replicate (suc n) x (suc u) h = get_d_replicate n x u (omega arith)

module _ (f : ℕ → ℕ) (z : ℕ) where
  pub links_none : replicate most_nodes z ≡ on_links 1 f z
  links_none =
      tab_of_list (replicate most_nodes z) most_nodes refl
      ∙ tab_cong _ (λ k. cond (link 1 k) (f k) z) most_nodes
      (λ k h.
      let none : link 1 k ≡ false = otherwise (link 1 k) (λ e. let (p, q) = link_in 1 k e in omega arith) in
      get_d_replicate most_nodes z k h ∙ rw none refl)

  pub links_more : (i : ℕ) → 0 < i → i < most_nodes → set (on_links i f z) i (f i) ≡ on_links (i + 1) f z
  links_more i some small =
      tab_of_list (set (on_links i f z) i (f i)) most_nodes (length-set (on_links i f z) i (f i) ∙ length-tab _ most_nodes)
      ∙ tab_cong _ (λ k. cond (link (i + 1) k) (f k) z) most_nodes (λ k h. at k h (ℕ_discrete k i))
    where
      at : (k : ℕ) → k < most_nodes → Dec (k ≡ i) → get_or (set (on_links i f z) i (f i)) k 0 ≡ cond (link (i + 1) k) (f k) z
      at k h (yes e) = rw (e, get_or-set_same (on_links i f z) i (f i) 0 (rw length-tab small), link_is (i + 1) i some (omega arith)) refl
      at k h (no ne) =
          let same : link i k ≡ link (i + 1) k =
          iff_same (link i k) (link (i + 1) k)
          (λ e. let (p, q) = link_in i k e in link_is (i + 1) k p (omega arith))
          (λ e. let (p, q) = link_in (i + 1) k e in link_is i k p (omega arith)) in
          get_or-set_other (on_links i f z) i k (f i) 0 ne ∙ get_or-tab (λ k. cond (link i k) (f k) z) most_nodes k h ∙ rw same refl
