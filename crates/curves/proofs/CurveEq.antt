-- Document 01's curves are those of the theory: the lower curve is the close of `low`, the upper curve the open of `high`. Each is the
-- least, or the greatest, closed family of its kind, and there is only one. Then what follows where T is a film's.
use mathlib.Core.Bool.{true, false}
use mathlib.Core.Path.{◌≡◌, refl, ap, sym, ◌∙◌}
use mathlib.Core.Logic.{⊎_elim}
use Prim.Native.Nat.{ℕ, zero, suc, ◌+◌, ◌-◌, ◌≤◌, ◌<◌}
use native.Mathlib.Omega.{arith}
use Rattle.base.specs.Range.{least_over}
use Rattle.base.proofs.BoolLaws.{true_or_false}
use Rattle.base.proofs.RangeLaws.{least_over-below, least_over_attained}
use Rattle.job.specs.Tree.{Tree, TreeWithin, leaf}
use Rattle.job.proofs.TreeLaws.{leaf_in}
use Rattle.smoothing.specs.Tree.{Link}
use Rattle.smoothing.specs.Plan.{WellFormed, lower, upper}
use Rattle.smoothing.specs.Row.{lazy_before, lazy}
use Rattle.smoothing.proofs.ClosedLaws.{close-least-above, open_greatest-below, closed_constant}
use Rattle.curves.specs.Curves.{leaf_below, plays, D, lower_curve, upper_curve, low, high, problem, lazy_in, lazy_schedule}
use Rattle.job.specs.Sums.{Film}
use Rattle.curves.specs.Rows.{least_delay}
use Rattle.curves.proofs.LowerLaws.{parent-lower, leaf-below_in, some-leaf, D-leaf, D-above, D-under, low-under-D, lower_is_least}
use Rattle.curves.proofs.UpperLaws.{upper_is_greatest}

module _ (t : Tree) (w : TreeWithin t) (T : ℕ → ℕ) (top H : ℕ) where
  -- ---- the same curves

  pub lower_is : (i k : ℕ) → Link t.n i → lower_curve t T i k ≡ lower (problem t T top H) i k
  unfolding lower
  lower_is i k h =
      let ours = lower_is_least t w T k in
      let theirs = close-least-above (problem t T top H).tree (parent-lower t w) (λ v. low t T v k) in
      omega (arith, ours.least _ theirs.closed theirs.above i h, theirs.least _ ours.closed ours.above i h)

  pub upper_is : (i k : ℕ) → Link t.n i → upper_curve t T top i k ≡ upper (problem t T top H) i k
  unfolding upper
  upper_is i k h =
      let ours = upper_is_greatest t w T top k in
      let theirs = open_greatest-below (problem t T top H).tree (parent-lower t w) (λ v. high t T top v k) in
      omega (arith, ours.greatest _ theirs.closed theirs.below i h, theirs.greatest _ ours.closed ours.below i h)

  -- ---- where T is a film's

  module _ (film : Film T top) where
    plays-grows : (l j k : ℕ) → j ≤ k → plays t T l j ≤ plays t T l k
    plays-grows l j k h = film.grows (j - t.delay l) (k - t.delay l) (omega arith)

    -- D never falls
    pub D-grows : (i j k : ℕ) → j ≤ k → D t T i j ≤ D t T i k
    D-grows i j k h =
        ⊎_elim
        (λ (e : leaf t i ≡ true). omega (arith, D-leaf t w T i j e, D-leaf t w T i k e, plays-grows i j k h))
        (λ (e : leaf t i ≡ false). D-under t w T i j _ e (λ l b. omega (arith, plays-grows l j k h, D-above t w T i l k e b)))
        (true_or_false (leaf t i))

    -- D is at most T(M)
    pub D_top : (i k : ℕ) → D t T i k ≤ top
    D_top i k =
        ⊎_elim
        (λ (e : leaf t i ≡ true). omega (arith, D-leaf t w T i k e, film.under (k - t.delay i)))
        (λ (e : leaf t i ≡ false). D-under t w T i k top e (λ l b. film.under (k - t.delay l)))
        (true_or_false (leaf t i))

    -- D starts at 0
    pub D-starts : (i : ℕ) → D t T i 0 ≡ 0
    D-starts i =
        ⊎_elim
        (λ (e : leaf t i ≡ true). D-leaf t w T i 0 e ∙ none i)
        (λ (e : leaf t i ≡ false). omega (arith, D-under t w T i 0 0 e (λ l b. omega (arith, none l))))
        (true_or_false (leaf t i))
      where
        none : (l : ℕ) → plays t T l 0 ≡ 0
        none l = let e : 0 - t.delay l ≡ 0 = omega arith in rw e film.starts

    -- D is T later by the least delay of the leaves below
    pub D-delay : (i k : ℕ) → i < t.n → D t T i k ≡ T (k - least_delay t i)
    unfolding least_delay
    D-delay i k h = ⊎_elim (λ (e : leaf t i ≡ true). rw e (D-leaf t w T i k e)) (λ (e : leaf t i ≡ false). rw e (inner e)) (true_or_false (leaf t i))
      where
        inner : leaf t i ≡ false → D t T i k ≡ T (k - least_over (leaf_below t i) t.delay t.n)
        inner e =
            let (l, q, b, same) = least_over_attained (leaf_below t i) t.delay t.n (some-leaf t w i h e) in
            let m = least_over (leaf_below t i) t.delay t.n in
            let up : plays t T l k ≡ T (k - m) = rw same refl in
            let down : D t T i k ≤ T (k - m) = D-under t w T i k _ e (λ l b.
            let d : m ≤ t.delay l = least_over-below (leaf_below t i) t.delay t.n l (leaf_in t l (leaf-below_in t w i l b).0) b in
            film.grows (k - t.delay l) (k - m) (omega arith)) in
            omega (arith, D-above t w T i l k e b)

    -- the lower curve is at most T(M)
    pub lower_top : (i k : ℕ) → Link t.n i → lower_curve t T i k ≤ top
    lower_top i k h =
        (lower_is_least t w T k).least (λ v. top) (closed_constant (problem t T top H).tree top) (λ v l. omega (arith, low-under-D t w T v k, D_top v k)) i h

    low_grows : (i j k : ℕ) → j ≤ k → low t T i j ≤ low t T i k
    unfolding low
    low_grows i j k h =
        ⊎_elim
        (λ (e : leaf t i ≡ true). rw e (D-grows i j k h))
        (λ (e : leaf t i ≡ false). rw e (omega arith))
        (true_or_false (leaf t i))

    -- what the theory asks
    pub problem_well_formed : WellFormed (problem t T top H)
    unfolding high
    problem_well_formed = record {
      ordered = parent-lower t w;
      low_starts = λ i h. omega (arith, low-under-D t w T i 0, D-starts i);
      low_grows = λ i h k q. low_grows i k (suc k) (omega arith);
      high_starts = λ i h. refl;
    }

-- ---- the lazy schedule

-- where the last slot has T(M), it is the theory's lazy row
pub lazy_is : (D : ℕ → ℕ) (top H r k : ℕ) → D H ≡ top → k ≤ H → lazy_schedule D top H r k ≡ lazy H r D k
unfolding lazy_schedule lazy lazy_in lazy_before
lazy_is D top H r k e h = go (H - k) k (omega arith)
  where
    go : (after k : ℕ) → k + after ≡ H → lazy_in D top r after k ≡ lazy_before r D after k
    go zero k q = let z : H ≡ k = omega arith in sym e ∙ ap D z
    go (suc after) k q = rw (go after (suc k) (omega arith))
