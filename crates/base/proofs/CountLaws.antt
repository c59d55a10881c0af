-- Laws of how many numbers pass, and of the two least numbers that a walk finds.
use mathlib.Core.Bool.{Bool, true, false, cond, ◌&&◌}
use mathlib.Core.Path.{◌≡◌, refl}
use mathlib.Core.Logic.{◌≢◌, ◌⊎◌, inl, inr, ⊎_elim}
use Prim.Native.Nat.{ℕ, zero, suc, ◌+◌, ◌≤◌, ◌<◌, max, min}
use native.Mathlib.Omega.{arith}
use lib.Dec.{leb}
use borrow.Author.Tests.{le-leb, lt-leb, leb-true}
use Rattle.base.specs.Range.{some, how_many, fold, two_least}
use Rattle.base.proofs.BoolLaws.{true_or_false, not_both, and_left, and_right, lt_or_le, last_or_below}
use Rattle.base.proofs.RangeLaws.{some-passes, which_passes}

-- ---- how many

module _ (p : ℕ → Bool) where
  how_many-take : (n : ℕ) → p n ≡ true → how_many p (suc n) ≡ how_many p n + 1
  unfolding how_many
  how_many-take n h = rw h

  how_many_skip : (n : ℕ) → p n ≡ false → how_many p (suc n) ≡ how_many p n
  unfolding how_many
  how_many_skip n h = rw h (omega arith)

  -- more than none: some passes
  one_passes : (n : ℕ) → 0 < how_many p n → some p n ≡ true
  unfolding how_many
  one_passes zero h = absurd (omega arith)
  one_passes (suc n) h =
      ⊎_elim
      (λ e. some-passes p (suc n) n (omega arith) e)
      (λ e.
      let (i, l, q) = which_passes p n (one_passes n (omega (arith, how_many_skip n e))) in
      some-passes p (suc n) i (omega arith) q)
      (true_or_false (p n))

  passes_one : (n i : ℕ) → i < n → p i ≡ true → 0 < how_many p n
  passes_one zero i h q = absurd (omega arith)
  passes_one (suc n) i h q =
      ⊎_elim
      (λ e. omega (arith, how_many-take n (rw e at q)))
      (λ l. ⊎_elim
      (λ a. omega (arith, how_many-take n a))
      (λ a. omega (arith, how_many_skip n a, passes_one n i l q))
      (true_or_false (p n)))
      (last_or_below i n h)

  pub how_many-some : (n : ℕ) → some p n ≡ true → 0 < how_many p n
  how_many-some n h = let (i, l, q) = which_passes p n h in passes_one n i l q

  pub how_many-none : (n : ℕ) → some p n ≡ false → how_many p n ≡ 0
  how_many-none n h =
      ⊎_elim
      (λ (e : 0 < how_many p n). absurd (not_both (one_passes n e) h))
      (λ (e : how_many p n ≤ 0). omega arith)
      (lt_or_le 0 (how_many p n))

  -- more than one: two different ones pass
  pub two_pass : (n : ℕ) → 1 < how_many p n → (i : ℕ) × (j : ℕ) × (i < j) × (j < n) × (p i ≡ true) × (p j ≡ true)
  unfolding how_many
  two_pass zero h = absurd (omega arith)
  two_pass (suc n) h =
      ⊎_elim
      (λ e.
      let (i, l, q) = which_passes p n (one_passes n (omega (arith, how_many-take n e))) in
      (i, n, l, omega arith, q, e))
      (λ e. let (i, j, l, r, q, u) = two_pass n (omega (arith, how_many_skip n e)) in (i, j, l, omega arith, q, u))
      (true_or_false (p n))

  in_order : (n i j : ℕ) → i < j → j < n → p i ≡ true → p j ≡ true → 1 < how_many p n
  in_order zero i j l h q u = absurd (omega arith)
  in_order (suc n) i j l h q u =
      ⊎_elim
      (λ e. omega (arith, how_many-take n (rw e at u), passes_one n i (omega arith) q))
      (λ r. ⊎_elim
      (λ a. omega (arith, how_many-take n a, in_order n i j l r q u))
      (λ a. omega (arith, how_many_skip n a, in_order n i j l r q u))
      (true_or_false (p n)))
      (last_or_below j n h)

  pub pass_two : (n i j : ℕ) → i ≢ j → i < n → j < n → p i ≡ true → p j ≡ true → 1 < how_many p n
  pass_two n i j ne h l q u =
      ⊎_elim (λ (a : i < j). in_order n i j a l q u) (λ (a : j ≤ i). in_order n j i (omega arith) h u q) (lt_or_le i j)

pub how_many-same : (p q : ℕ → Bool) (n : ℕ) → ((i : ℕ) → i < n → p i ≡ q i) → how_many p n ≡ how_many q n
unfolding how_many
how_many-same p q zero h = refl
how_many-same p q (suc n) h = rw (how_many-same p q n (λ i l. h i (omega arith)), h n (omega arith)) refl

-- as a walk counts them
pub how_many-fold : (p : ℕ → Bool) (n : ℕ) → how_many p n ≡ fold (λ g i. g + 1) 0 p n
unfolding how_many fold
how_many-fold p zero = refl
how_many-fold p (suc n) =
    ⊎_elim
    (λ (e : p n ≡ true). rw (e, how_many-fold p n) refl)
    (λ (e : p n ≡ false). rw e (omega (arith, how_many-fold p n)))
    (true_or_false (p n))

-- ---- how many up to a number

module _ (p : ℕ → Bool) (f : ℕ → ℕ) where
  -- how many that pass are no greater than x
  abbrev pub up_to : ℕ → ℕ → ℕ
  up_to x n = how_many (λ i. p i && leb (f i) x) n

  -- two different ones that pass, the second no less than the first
  pub record Pair (n i j : ℕ) : Type 0 where
    pub first_in : i < n
    pub second_in : j < n
    pub first_passes : p i ≡ true
    pub second_passes : p j ≡ true
    pub differ : i ≢ j
    pub no_less : f i ≤ f j

  -- more than one up to x: such a pair up to x
  pub pair_up_to : (x n : ℕ) → 1 < up_to x n → (i : ℕ) × (j : ℕ) × Pair n i j × (f j ≤ x)
  pair_up_to x n h = either (two_pass (λ i. p i && leb (f i) x) n h)
    where
      pair : (i j : ℕ) → i < n → j < n → (p i && leb (f i) x) ≡ true → (p j && leb (f j) x) ≡ true → i ≢ j → f i ≤ f j → Pair n i j
      pair i j l r q u ne less = record {
        first_in = l;
        second_in = r;
        first_passes = and_left (p i) _ q;
        second_passes = and_left (p j) _ u;
        differ = ne;
        no_less = less;
      }

      up_to_lem : (j : ℕ) → (p j && leb (f j) x) ≡ true → f j ≤ x
      up_to_lem j u = leb-true (f j) x (and_right (p j) _ u)

      either : (i : ℕ) × (j : ℕ) × (i < j) × (j < n) × ((p i && leb (f i) x) ≡ true) × ((p j && leb (f j) x) ≡ true)
          → (i : ℕ) × (j : ℕ) × Pair n i j × (f j ≤ x)
      either (i, j, l, r, q, u) =
          ⊎_elim
          (λ (a : f i < f j). (i, j, pair i j (omega arith) r q u (λ e. omega (arith, e)) (omega arith), up_to_lem j u))
          (λ (a : f j ≤ f i). (j, i, pair j i r (omega arith) u q (λ e. omega (arith, e)) a, up_to_lem i q))
          (lt_or_le (f i) (f j))

  pub up_to_pair : (x n i j : ℕ) → Pair n i j → f j ≤ x → 1 < up_to x n
  up_to_pair x n i j h l =
      pass_two (λ i. p i && leb (f i) x) n i j h.differ h.first_in h.second_in
      (rw (h.first_passes, le-leb (f i) x (omega (arith, h.no_less))) refl)
      (rw (h.second_passes, le-leb (f j) x l) refl)

-- ---- the two least of a start, met twice, and the numbers that pass

module _ (p : ℕ → Bool) (f : ℕ → ℕ) (start : ℕ) where
  abbrev walk : ℕ → ℕ × ℕ
  walk n = fold (two_least f) (start, start) p n

  -- how many are met up to x
  abbrev met : ℕ → ℕ → ℕ
  met x n = cond (leb start x) 2 0 + up_to p f x n

  -- so many are met up to x as x is below the least, between it and the second least, or no less than either
  Rank : ℕ → ℕ → ℕ → ℕ → Type 0
  Rank x k least second =
      ((x < least) × (x < second) × (k ≡ 0)) ⊎ (((least ≤ x) × (x < second) × (k ≡ 1)) ⊎ ((least ≤ x) × (second ≤ x) × (1 < k)))

  rank_next : (x k least second y : ℕ) → Rank x k least second → (x < y) ⊎ (y ≤ x)
      → Rank x (k + cond (leb y x) 1 0) (min least y) (min second (max least y))
  unfolding Rank
  rank_next x k least second y (inl a) (inr h) = rw (le-leb y x h) (inr (inl (omega arith, omega arith, omega arith)))
  rank_next x k least second y (inl a) (inl h) = rw (lt-leb y x h) (inl (omega arith, omega arith, omega arith))
  rank_next x k least second y (inr (inl a)) (inr h) = rw (le-leb y x h) (inr (inr (omega arith, omega arith, omega arith)))
  rank_next x k least second y (inr (inl a)) (inl h) = rw (lt-leb y x h) (inr (inl (omega arith, omega arith, omega arith)))
  rank_next x k least second y (inr (inr a)) h = inr (inr (omega arith, omega arith, omega arith))

  ranked : (x n : ℕ) → Rank x (met x n) (walk n).0 (walk n).1
  unfolding fold how_many Rank
  ranked x zero =
      ⊎_elim
      (λ (h : x < start). rw (lt-leb start x h) (inl (h, h, refl)))
      (λ (h : start ≤ x). rw (le-leb start x h) (inr (inr (h, h, omega arith))))
      (lt_or_le x start)
  ranked x (suc n) =
      let more : cond (leb start x) 2 0 + (up_to p f x n + cond (leb (f n) x) 1 0) ≡ met x n + cond (leb (f n) x) 1 0 = omega arith in
      let same : cond (leb start x) 2 0 + (up_to p f x n + 0) ≡ met x n = omega arith in
      ⊎_elim
      (λ (e : p n ≡ true). rw (e, more) (rank_next x (met x n) (walk n).0 (walk n).1 (f n) (ranked x n) (lt_or_le x (f n))))
      (λ (e : p n ≡ false). rw (e, same) (ranked x n))
      (true_or_false (p n))

  second_under : (x n : ℕ) → 1 < met x n → (walk n).1 ≤ x
  unfolding Rank
  second_under x n h = ⊎_elim (λ a. absurd (omega arith)) (λ b. ⊎_elim (λ a. absurd (omega arith)) (λ a. a.1) b) (ranked x n)

  second_met : (n : ℕ) → 1 < met (walk n).1 n
  unfolding Rank
  second_met n =
      ⊎_elim (λ a. absurd (omega arith)) (λ b. ⊎_elim (λ a. absurd (omega arith)) (λ a. a.2) b) (ranked (walk n).1 n)

  -- the second is the start, or the least up to which two pass where that is less
  pub walk_second : (n m : ℕ) → 1 < up_to p f m n → ((x : ℕ) → 1 < up_to p f x n → m ≤ x) → (fold (two_least f) (start, start) p n).1 ≡ min start m
  walk_second n m two least =
      omega (
        arith,
        second_under start n (rw (le-leb start start (omega arith)) (omega arith)),
        second_under m n (omega (arith, two)),
        ⊎_elim
            (λ (a : (walk n).1 < start). high (least (walk n).1 (omega (arith, rw (lt-leb start (walk n).1 a) at (second_met n)))))
            (λ (a : start ≤ (walk n).1). omega (arith, a))
            (lt_or_le (walk n).1 start),
      )
    where
      high : m ≤ (walk n).1 → min start m ≤ (walk n).1
      high h = omega arith
