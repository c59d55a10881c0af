-- Document 01's lazy schedule of a link's lower curve is the theory's lazy row, which `lazy_row` fills: the lower curve ends with T(M).
use mathlib.Core.Bool.{true, false}
use mathlib.Core.Path.{◌≡◌}
use mathlib.Core.Logic.{⊎_elim}
use Prim.Native.Nat.{ℕ, ◌-◌, ◌≤◌}
use native.Mathlib.Omega.{arith}
use native.Mathlib.Decide.{ℕ_discrete}
use Rattle.base.proofs.BoolLaws.{true_or_false}
use Rattle.base.proofs.RangeLaws.{least_over_attained}
use Rattle.job.specs.Tree.{JobData, JobWithin, link, leaf, T, H, greatest_delay}
use Rattle.job.proofs.TreeLaws.{link_in}
use Rattle.job.proofs.SlotLaws.{T_past, delay_le}
use Rattle.job.proofs.SumsLaws.{job-film}
use Rattle.smoothing.specs.Row.{lazy}
use Rattle.smoothing.specs.Tree.{Link}
use Rattle.curves.specs.Curves.{leaf_below, D, lower_curve, lazy_schedule}
use Rattle.curves.specs.Rows.{least_delay}
use Rattle.curves.proofs.LowerLaws.{some-leaf, leaf-below_in, lower_root, lower-step}
use Rattle.curves.proofs.CurveEq.{D-delay, lower_top, lazy_is}

module _ (j : JobData) (within : JobWithin j) where
  -- the delay that stands for a node is some leaf's
  least_in : (i : ℕ) → Link j.tree.n i → least_delay j.tree i ≤ greatest_delay j.tree
  unfolding least_delay
  least_in i h =
      ⊎_elim
      (λ (e : leaf j.tree i ≡ true). rw e (delay_le j.tree i e))
      (λ (e : leaf j.tree i ≡ false).
      let t = j.tree in
      let (l, q, b, same) = least_over_attained (leaf_below t i) t.delay t.n (some-leaf t within.tree i h.1 e) in
      rw e (omega (arith, same, delay_le t l (leaf-below_in t within.tree i l b).0)))
      (true_or_false (leaf j.tree i))

  lower-from : (i k : ℕ) → Link j.tree.n i → D j.tree (T j) i k ≤ lower_curve j.tree (T j) i k
  lower-from i k h = go (ℕ_discrete (j.tree.parent i) 0)
    where
      go : Dec (j.tree.parent i ≡ 0) → D j.tree (T j) i k ≤ lower_curve j.tree (T j) i k
      go (yes e) = omega (arith, lower_root j.tree within.tree (T j) i k h e)
      go (no ne) = omega (arith, lower-step j.tree within.tree (T j) i k h ne)

  lower_ends : (i : ℕ) → Link j.tree.n i → lower_curve j.tree (T j) i (H j) ≡ T j j.M
  unfolding H
  lower_ends i h =
      let film = job-film j in
      let past = T_past j (H j - least_delay j.tree i) (omega (arith, least_in i h)) in
      let d = D-delay j.tree within.tree (T j) (T j j.M) 0 film i (H j) h.1 in
      omega (arith, past, d, lower-from i (H j) h, lower_top j.tree within.tree (T j) (T j j.M) 0 film i (H j) h)

  pub lazy_schedule_lem : (i r k : ℕ) → link j.tree.n i ≡ true → k ≤ H j
      → lazy_schedule (lower_curve j.tree (T j) i) (T j j.M) (H j) r k ≡ lazy (H j) r (lower_curve j.tree (T j) i) k
  lazy_schedule_lem i r k h q = lazy_is (lower_curve j.tree (T j) i) (T j j.M) (H j) r k (lower_ends i (link_in j.tree.n i h)) q
