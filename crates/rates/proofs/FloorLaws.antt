-- The rates that a job's needs are asked for are within the limits.
use mathlib.Core.Bool.{true, cond}
use mathlib.Core.Path.{◌≡◌, refl}
use Prim.Native.Nat.{ℕ, ◌≤◌, ◌<◌}
use native.Mathlib.Omega.{arith}
use borrow.Author.Tests.{eq-eqb}
use Rattle.base.proofs.BoolLaws.{cond_both}
use Rattle.base.proofs.RangeLaws.{some-passes, least_over-below, least_over_attained}
use Rattle.base.proofs.TableLaws.{get_or-tab}
use Rattle.job.specs.Limits.{most_nodes, greatest_rate}
use Rattle.job.specs.Tree.{Tree, TreeWithin, link}
use Rattle.job.proofs.TreeLaws.{link_is, link_in}
use Rattle.pacing.specs.Pace.{RatesWithin}
use Rattle.rates.specs.Rates.{at_or_below, floor_rate, least_rate}
use Rattle.rates.specs.Work.{floors_of}

module _ (t : Tree) (tree : TreeWithin t) where
  -- the least rate is one of the rates
  pub least-rate-fits : least_rate t ≤ greatest_rate
  unfolding least_rate
  least-rate-fits =
      let one : 1 < t.n = omega (arith, tree.nodes_from) in
      let (v, l, e, q) = least_over_attained (link t.n) t.rate t.n
      (some-passes (link t.n) t.n 1 one (link_is t.n 1 (omega arith) one)) in
      omega (arith, q, tree.rates v e)

  -- and a floor rate is no more than the node's own
  floor_rate-fits : (i : ℕ) → link t.n i ≡ true → floor_rate t i ≤ greatest_rate
  unfolding floor_rate
  floor_rate-fits i h =
      omega (
        arith,
        least_over-below (at_or_below t i) t.rate t.n i (link_in t.n i h).1 (rw (eq-eqb i i refl) refl),
        tree.rates i
            h,
      )

  pub floors_fit : RatesWithin (floors_of t)
  floors_fit i h =
      rw (get_or-tab (λ k. cond (link t.n k) (floor_rate t k) (least_rate t)) most_nodes i h)
      (cond_both (link t.n i) (λ x. x ≤ greatest_rate) _ _ (λ e. floor_rate-fits i e) (λ e. least-rate-fits))
