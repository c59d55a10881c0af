-- Sums over the nodes that pass a test: two of them, one alone, none; and sums over all links, also as sums over each node's children.
use mathlib.Core.Path.{◌≡◌, refl, ap, sym}
use mathlib.Core.Logic.{◌≢◌, ⊎_elim}
use mathlib.Core.Bool.{Bool, true, cond}
use Prim.Native.Nat.{ℕ, zero, suc, ◌+◌, ◌≤◌, ◌<◌}
use native.Mathlib.Omega.{arith}
use native.Mathlib.Decide.{ℕ_discrete}
use lib.Dec.{ltb}
use borrow.Author.Tests.{ne_eqb, lt-ltb, ltb-true}
use Rattle.base.specs.Range.{sum_over}
use Rattle.base.proofs.BoolLaws.{true_or_false, lt_or_le, last_or_below}
use Rattle.base.proofs.RangeLaws.{sum_over-take, sum_over_skip, sum_over_plus, sum_over_monotone}
use Rattle.smoothing.specs.Tree.{Link, child, total}
use Rattle.smoothing.proofs.BelowLaws.{child_of}

module _ (p : ℕ → Bool) (f : ℕ → ℕ) where
  -- one number more
  sum_more : (n : ℕ) → sum_over p f n ≤ sum_over p f (suc n)
  sum_more n =
      ⊎_elim (λ a. omega (arith, sum_over-take p f n a)) (λ a. omega (arith, sum_over_skip p f n a)) (true_or_false (p n))

  -- a sum is no less than any one that passes
  pub sum_one : (n u : ℕ) → u < n → p u ≡ true → f u ≤ sum_over p f n
  sum_one zero u h q = absurd (omega arith)
  sum_one (suc n) u h q =
      ⊎_elim
      (λ e. omega (arith, ap f e, sum_over-take p f n (rw e at q)))
      (λ l. omega (arith, sum_one n u l q, sum_more n))
      (last_or_below u n h)

  -- nor than any two
  sum_in_order : (n u v : ℕ) → u < v → v < n → p u ≡ true → p v ≡ true → f u + f v ≤ sum_over p f n
  sum_in_order zero u v l h q s = absurd (omega arith)
  sum_in_order (suc n) u v l h q s =
      ⊎_elim
      (λ e. omega (arith, ap f e, sum_over-take p f n (rw e at s), sum_one n u (omega arith) q))
      (λ r. omega (arith, sum_in_order n u v l r q s, sum_more n))
      (last_or_below v n h)

  pub sum_two : (n u v : ℕ) → u ≢ v → u < n → v < n → p u ≡ true → p v ≡ true → f u + f v ≤ sum_over p f n
  sum_two n u v ne h l q s =
      ⊎_elim
      (λ a. sum_in_order n u v a l q s)
      (λ a. omega (arith, sum_in_order n v u (omega arith) h s q))
      (lt_or_le u v)

  -- where none that passes has more than 0, the sum is 0
  pub sum-none : (n : ℕ) → ((i : ℕ) → i < n → p i ≡ true → f i ≡ 0) → sum_over p f n ≡ 0
  unfolding sum_over
  sum-none zero each = refl
  sum-none (suc n) each =
      let ih = sum-none n (λ i h. each i (omega arith)) in
      ⊎_elim
      (λ a. omega (arith, ih, sum_over-take p f n a, each n (omega arith) a))
      (λ a. omega (arith, ih, sum_over_skip p f n a))
      (true_or_false (p n))

  -- where one alone has, the sum is that one
  pub sum-only : (n u : ℕ) → u < n → p u ≡ true → ((i : ℕ) → i < n → i ≢ u → p i ≡ true → f i ≡ 0) → sum_over p f n ≡ f u
  sum-only zero u h q each = absurd (omega arith)
  sum-only (suc n) u h q each =
      ⊎_elim
      (λ e. omega (
        arith,
        ap f e,
        sum_over-take p f n (rw e at q),
        sum-none n (λ i l a. each i (omega arith) (λ s. omega (arith, s, e)) a),
      ))
      (λ l.
      let ih = sum-only n u l q (λ i r. each i (omega arith)) in
      ⊎_elim
      (λ a. omega (arith, ih, sum_over-take p f n a, each n (omega arith) (λ s. omega (arith, s)) a))
      (λ a. omega (arith, ih, sum_over_skip p f n a))
      (true_or_false (p n)))
      (last_or_below u n h)

-- ---- over all links

-- two families that agree on the links have one total
pub total-same : (n : ℕ) (f g : ℕ → ℕ) → ((v : ℕ) → Link n v → f v ≡ g v) → total n f ≡ total n g
unfolding total
total-same n f g same =
    omega (
      arith,
      sum_over_monotone (λ v. ltb 0 v) f g n (λ v h q. omega (arith, same v (ltb-true 0 v q, h))),
      sum_over_monotone (λ v. ltb 0 v) g f n (λ v h q. omega (arith, same v (ltb-true 0 v q, h))),
    )

pub total_plus : (n : ℕ) (f g : ℕ → ℕ) → total n (λ v. f v + g v) ≡ total n f + total n g
unfolding total
total_plus n f g = sum_over_plus (λ v. ltb 0 v) f g n

-- ---- by parents

module _ (n : ℕ) (parent : ℕ → ℕ) (ordered : (v : ℕ) → Link n v → parent v < v) (f : ℕ → ℕ) where
  -- the sum over v's children
  abbrev pub of_children : ℕ → ℕ
  of_children v = sum_over (child parent v) f n

  -- m's number as one of v's children has it
  more : ℕ → ℕ → ℕ
  more m v = cond (child parent v m) (f m) 0

  -- it comes in once, with m's parent
  once : (m : ℕ) → m < n → cond (ltb 0 m) (f m) 0 ≡ more m 0 + sum_over (λ v. ltb 0 v) (more m) n
  unfolding more
  once zero h = omega (arith, sum-none (λ v. ltb 0 v) (λ v. 0) n (λ i l q. refl))
  once (suc m) h = go (ℕ_discrete (parent (suc m)) 0)
    where
      number : ℕ
      number = cond (ltb 0 (suc m)) (f (suc m)) 0

      own : more (suc m) (parent (suc m)) ≡ number
      own = rw (child_of n parent (suc m) (omega arith, h), lt-ltb 0 (suc m) (omega arith)) refl

      other : (v : ℕ) → v ≢ parent (suc m) → more (suc m) v ≡ 0
      other v ne = rw (lt-ltb 0 (suc m) (omega arith), ne_eqb (parent (suc m)) v (λ e. ne (sym e))) refl

      go : Dec (parent (suc m) ≡ 0) → number ≡ more (suc m) 0 + sum_over (λ v. ltb 0 v) (more (suc m)) n
      go (yes e) =
          omega (
            arith,
            own,
            ap (more (suc m)) e,
            sum-none (λ v. ltb 0 v) (more (suc m)) n (λ i l q. other i (λ s. omega (arith, s, e, ltb-true 0 i q))),
          )
      go (no ne) =
          let o = ordered (suc m) (omega arith, h) in
          omega (
            arith,
            own,
            other 0 (λ s. ne (sym s)),
            sum-only (λ v. ltb 0 v) (more (suc m)) n (parent (suc m)) (omega arith) (lt-ltb 0 (parent (suc m)) (omega arith))
                (λ i l s q. other i s),
          )

  -- of the children below m alone
  up_to_lem : (m : ℕ) → m ≤ n
      → sum_over (λ v. ltb 0 v) f m ≡ sum_over (child parent 0) f m + sum_over (λ v. ltb 0 v) (λ v. sum_over (child parent v) f m) n
  unfolding sum_over more
  up_to_lem zero h = omega (arith, sum-none (λ v. ltb 0 v) (λ v. 0) n (λ i l q. refl))
  up_to_lem (suc m) h =
      omega (
        arith,
        up_to_lem m (omega arith),
        once m h,
        sum_over_plus (λ v. ltb 0 v) (λ v. sum_over (child parent v) f m) (more m) n,
      )

  -- the sum over all links is that over the children of the root and over those of each other node
  pub by_parents : total n f ≡ sum_over (child parent 0) f n + total n of_children
  unfolding total
  by_parents = up_to_lem n (omega arith)
