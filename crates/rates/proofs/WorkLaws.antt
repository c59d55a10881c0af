-- The needs that the pass finds are document 01's, and so are the memories made of them.
use mathlib.Core.Bool.{true, cond}
use mathlib.Core.List.{List}
use mathlib.Core.Path.{◌≡◌, refl, ap, sym, ◌∙◌}
use Prim.Native.Nat.{ℕ, suc, ◌+◌, ◌-◌, ◌<◌}
use native.Mathlib.Omega.{arith}
use lib.ListN.{length, get_or}
use Rattle.base.specs.Table.{tab}
use Rattle.base.proofs.RangeLaws.{sum_over_monotone}
use Rattle.base.proofs.TableLaws.{get_or-tab, tab_cong}
use Rattle.job.specs.Limits.{most_nodes}
use Rattle.job.specs.Tree.{Tree, TreeWithin, link}
use Rattle.job.proofs.TreeLaws.{link_is, link_in}
use Rattle.smoothing.proofs.ChoiceLaws.{chosen-same}
use Rattle.job.specs.Sums.{Film, sums_in, HoldsSums}
use Rattle.job.proofs.SumsLaws.{film-to, sum_fits}
use Rattle.writing.specs.PutBack.{memories_in}
use Rattle.rates.specs.Rates.{total, floor_rate, least_rate, need, memory}
use Rattle.pacing.specs.Pace.{need_of, needs_at}
use Rattle.pacing.proofs.LeadLaws.{most_under}
use Rattle.rates.specs.Work.{floors_of, NeedsWithin, memory_by}
use Rattle.rates.proofs.TheoryLaws.{ordered}
use Rattle.rates.proofs.NeedLaws.{need-ahead}

-- the need of each node at its place, from the sums T(0) to T(M)
abbrev pub needs_of : Tree → List ℕ → List ℕ
needs_of t sums = needs_at sums (floors_of t)

-- the memory of node i in the list of all
pub memory_at_lem : (f : ℕ → ℕ) (n : ℕ) (l : List ℕ) → l ≡ tab (λ i. f (suc i)) (n - 1) → (i : ℕ) → 0 < i → i < n → memories_in l i ≡ f i
memory_at_lem f n l e i p h =
    let back : suc (i - 1) ≡ i = omega arith in
    ap (λ (x : List ℕ). get_or x (i - 1) 0) e ∙ get_or-tab (λ v. f (suc v)) (n - 1) (i - 1) (omega arith) ∙ ap f back

module _ (t : Tree) (tree : TreeWithin t) (sums : List ℕ) (holds : HoldsSums sums) (M : ℕ) (long : length sums ≡ M + 1) where
  film : Film (sums_in sums) (sums_in sums M)
  film = film-to sums holds M long

  -- ---- needs

  pub need_at : (w i : ℕ) → link t.n i ≡ true → get_or (needs_of t sums) i 0 ≡ need t M (sums_in sums) w i
  need_at w i h =
      let (p, q) = link_in t.n i h in
      let small : i < most_nodes = omega (arith, tree.nodes_to) in
      let ends : length sums - 1 ≡ M = omega arith in
      let own : get_or (floors_of t) i 0 ≡ floor_rate t i =
      get_or-tab (λ k. cond (link t.n k) (floor_rate t k) (least_rate t)) most_nodes i small ∙ rw h refl in
      get_or-tab (λ k. need_of sums (get_or (floors_of t) k 0)) most_nodes i small
      ∙ ap (need_of sums) own
      ∙ rw ends (sym (need-ahead t M (sums_in sums) tree film w i))

  pub needs_right : NeedsWithin t (needs_of t sums)
  needs_right i h =
      omega (
        arith,
        need_at 0 i h,
        need-ahead t M (sums_in sums) tree film 0 i,
        most_under (sums_in sums) (λ m. film.grows m (suc m) (omega arith)) (floor_rate t i) M,
        sum_fits sums holds M,
      )

  -- ---- memories

  pub memory_by_lem : (w i : ℕ) → link t.n i ≡ true → memory_by t (needs_of t sums) i ≡ memory t M (sums_in sums) w i
  memory_by_lem w i h =
      chosen-same t.n t.parent (λ k. get_or (needs_of t sums) k 0) (need t M (sums_in sums) w)
      (ordered t tree) (λ v g. need_at w v (link_is t.n v g.0 g.1)) i (link_in t.n i h)

  pub memories_by : (w : ℕ) → tab (λ i. memory_by t (needs_of t sums) (suc i)) (t.n - 1) ≡ tab (λ i. memory t M (sums_in sums) w (suc i))
      (t.n - 1)
  memories_by w =
      tab_cong (λ i. memory_by t (needs_of t sums) (suc i)) (λ i. memory t M (sums_in sums) w (suc i)) (t.n - 1)
      (λ i h. memory_by_lem w (suc i) (link_is t.n (suc i) (omega arith) (omega arith)))

  pub total_by : (l : List ℕ) → l ≡ tab (λ i. memory_by t (needs_of t sums) (suc i)) (t.n - 1)
      → total t (memory_by t (needs_of t sums)) ≡ total t (memories_in l)
  unfolding total
  total_by l e =
      let same : (i : ℕ) → link t.n i ≡ true → memories_in l i ≡ memory_by t (needs_of t sums) i =
      λ i h. let (p, q) = link_in t.n i h in memory_at_lem (memory_by t (needs_of t sums)) t.n l e i p q in
      omega (
        arith,
        sum_over_monotone (link t.n) (memory_by t (needs_of t sums)) (memories_in l) t.n (λ i h u. omega (arith, same i u)),
        sum_over_monotone (link t.n) (memories_in l) (memory_by t (needs_of t sums)) t.n (λ i h u. omega (arith, same i u)),
      )
