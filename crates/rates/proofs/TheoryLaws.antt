-- The rate question of document 01 is the theory's: the same floor rates, needs, memories and totals.
use mathlib.Core.Bool.{Bool, true, ◌||◌}
use mathlib.Core.Path.{◌≡◌, refl, ap, sym, fun_ext}
use Prim.Native.Nat.{ℕ, zero, suc, ◌+◌, ◌≤◌, ◌<◌}
use native.Mathlib.Omega.{arith}
use native.Mathlib.Nat.{mul-le-mul_right}
use lib.Dec.{eqb, ltb}
use borrow.Author.Tests.{lt-ltb}
use Rattle.base.specs.Range.{sum_over, some, least_over}
use Rattle.base.proofs.BoolLaws.{or_false, and_true}
use Rattle.base.proofs.RangeLaws.{some_cong, some-passes, least_over-below, least_over_attained}
use Rattle.job.specs.Tree.{Tree, TreeWithin, link, child, has_child, leaf, meets, below}
use Rattle.job.proofs.TreeLaws.{link_is, link_in}
use Rattle.smoothing.specs.Tree as theory
use Rattle.smoothing.specs.Tree.{met_up, within}
use Rattle.smoothing.specs.Row.{greatest_excess, lazy}
use Rattle.smoothing.specs.Choice.{chosen}
use Rattle.smoothing.specs.Rates as theory-rates
use Rattle.smoothing.specs.Rates.{RateQuestion, WellFormedRates, FastEnough}
use Rattle.smoothing.proofs.RowLaws.{greatest_excess-above, greatest_excess-least}
use Rattle.curves.specs.Curves.{lazy_schedule}
use Rattle.job.specs.Sums.{Film}
use Rattle.curves.proofs.CurveEq.{lazy_is}
use Rattle.rates.specs.Rates.{at_or_below, total, floor_rate, least_rate, D, need, memory}
use Rattle.pacing.specs.Pace.{in_time}
use Rattle.pacing.proofs.DelayLaws.{in_time_each, each_in_time}

-- ---- the same test, the same least and the same sum

least_over-same : (p q : ℕ → Bool) (f : ℕ → ℕ) (n : ℕ) → ((i : ℕ) → i < n → p i ≡ q i) → least_over p f n ≡ least_over q f n
unfolding least_over
least_over-same p q f zero h = refl
least_over-same p q f (suc n) h =
    rw (h n (omega arith), least_over-same p q f n (λ i l. h i (omega arith)), some_cong p q n (λ i l. h i (omega arith))) refl

sum_over-same : (p q : ℕ → Bool) (f : ℕ → ℕ) (n : ℕ) → ((i : ℕ) → i < n → p i ≡ q i) → sum_over p f n ≡ sum_over q f n
unfolding sum_over
sum_over-same p q f zero h = refl
sum_over-same p q f (suc n) h = rw (h n (omega arith), sum_over-same p q f n (λ i l. h i (omega arith))) refl

-- ---- the words of the tree

met_is : (parent : ℕ → ℕ) (v d x : ℕ) → met_up parent v d x ≡ (eqb x v || meets parent d x v)
unfolding met_up meets
met_is parent v zero x = sym (or_false (eqb x v))
met_is parent v (suc d) zero = refl
met_is parent v (suc d) (suc i) = rw (met_is parent v d (parent (suc i)), lt-ltb 0 (suc i) (omega arith)) refl

module _ (t : Tree) where
  within_is : (v x : ℕ) → x < t.n → within t.parent v x ≡ at_or_below t v x
  unfolding within below
  within_is v x h = rw (lt-ltb x t.n h) (met_is t.parent v x x)

  link_positive : (v : ℕ) → v < t.n → link t.n v ≡ ltb 0 v
  unfolding link
  link_positive v h = rw (lt-ltb v t.n h) (and_true (ltb 0 v))

  pub child-same : (v c : ℕ) → c < t.n → theory.child t.parent v c ≡ child t c v
  unfolding child
  child-same v c h = rw (link_positive c h) refl

  pub leaf-same : (v : ℕ) → v < t.n → theory.leaf t.n t.parent v ≡ leaf t v
  unfolding leaf has_child
  leaf-same v h = rw (lt-ltb v t.n h, some_cong (theory.child t.parent v) (λ c. child t c v) t.n (child-same v)) refl

  pub ordered : TreeWithin t → (v : ℕ) → theory.Link t.n v → t.parent v < v
  ordered tree v h = tree.parents v (link_is t.n v h.0 h.1)

  -- ---- totals

  pub total_is : (b : ℕ → ℕ) → total t b ≡ theory.total t.n b
  unfolding total theory.total
  total_is b = sum_over-same (link t.n) (λ v. ltb 0 v) b t.n link_positive

  module _ (M : ℕ) (T : ℕ → ℕ) where
    abbrev pub question : RateQuestion
    question = record { n = t.n; parent = t.parent; r = t.rate; M = M; T = T }

    -- ---- floor rates, needs, memories

    pub floor_is : (i : ℕ) → floor_rate t i ≡ theory-rates.floor_rate question i
    unfolding floor_rate theory-rates.floor_rate
    floor_is i = least_over-same (at_or_below t i) (within t.parent i) t.rate t.n (λ x h. sym (within_is i x h))

    schedule_is : (w i k : ℕ) → k ≤ M + w → lazy_schedule (D t M T w) (T M) (M + w) (floor_rate t i) k ≡ lazy (M + w)
        (theory-rates.floor_rate question i) (D t M T w) k
    schedule_is w i k h = rw (sym (floor_is i)) (lazy_is (D t M T w) (T M) (M + w) (floor_rate t i) k (ap T (omega arith)) h)

    pub need_is : (w i : ℕ) → need t M T w i ≡ theory-rates.need question w i
    unfolding need theory-rates.need
    need_is w i =
        let d = D t M T w in
        let s = lazy_schedule d (T M) (M + w) (floor_rate t i) in
        let z = lazy (M + w) (theory-rates.floor_rate question i) d in
        omega (
          arith,
          greatest_excess-least (M + w) s d (greatest_excess (M + w) z d)
              (λ k h. omega (arith, schedule_is w i k h, greatest_excess-above (M + w) z d k h)),
          greatest_excess-least (M + w) z d (greatest_excess (M + w) s d)
              (λ k h. omega (arith, schedule_is w i k h, greatest_excess-above (M + w) s d k h)),
        )

    pub memory_is : (w : ℕ) → memory t M T w ≡ theory-rates.memory question w
    memory_is w = ap (chosen t.n t.parent) (fun_ext (need_is w))

    module _ (tree : TreeWithin t) (film : Film T (T M)) where
      pub good : WellFormedRates question
      good =
          record {
            ordered = ordered tree;
            starts = film.starts;
            grows = λ m l. film.grows m (suc m) (omega arith);
          }

      -- ---- the delay

      -- node 1 has a link
      some-link : some (link t.n) t.n ≡ true
      some-link =
          let l : 1 < t.n = omega (arith, tree.nodes_from) in
          some-passes (link t.n) t.n 1 l (link_is t.n 1 (omega arith) l)

      -- a delay is in time just where the links are fast enough for it
      pub in_time_fast : (w : ℕ) → in_time (least_rate t) M T w ≡ true → FastEnough question w
      unfolding least_rate
      in_time_fast w e v h m l =
          omega (
            arith,
            in_time_each (least_rate t) M T w e m l,
            mul-le-mul_right (m + w) (least_over-below (link t.n) t.rate t.n v h.1 (link_is t.n v h.0 h.1)),
          )

      pub fast_in_time : (w : ℕ) → FastEnough question w → in_time (least_rate t) M T w ≡ true
      unfolding least_rate
      fast_in_time w fast =
          let (v, h, e, q) = least_over_attained (link t.n) t.rate t.n some-link in
          each_in_time (least_rate t) M T w (λ m l. rw q (fast v (link_in t.n v e) m l))
