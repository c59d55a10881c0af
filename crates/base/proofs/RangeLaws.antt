-- Laws of the questions about the numbers below n, all of them or those that pass a test.
use mathlib.Core.Bool.{Bool, true, false, cond, ◌||◌}
use mathlib.Core.Path.{◌≡◌, refl, ap, sym, ◌∙◌}
use mathlib.Core.Logic.{◌⊎◌, inl, inr, ⊎_elim}
use Prim.Native.Nat.{ℕ, zero, suc, ◌+◌, ◌-◌, ◌*◌, ◌≤◌, ◌<◌, max, min}
use native.Mathlib.Nat.{suc-mul, add-zero, add-suc}
use native.Mathlib.Omega.{arith}
use Rattle.base.specs.Range.{sum, sum_over, some, first, fold, greatest, greatest_over, least_over}
use Rattle.base.proofs.BoolLaws.{true_or_false, not_both, or_no_left, or_no_right, or_right, or_cases, cond_both}
use Rattle.base.proofs.BoolLaws.{lt_or_le, last_or_below}

-- ---- sums

pub sum_le : (f : ℕ → ℕ) (m k : ℕ) → m ≤ k → sum f m ≤ sum f k
unfolding sum
sum_le f m zero h = let e : m ≡ 0 = omega arith in rw e (omega arith)
sum_le f m (suc k) h =
    ⊎_elim
    (λ (l : m < suc k). omega (arith, sum_le f m k (omega arith)))
    (λ (l : suc k ≤ m). let e : m ≡ suc k = omega arith in rw e (omega arith))
    (lt_or_le m (suc k))

pub sum_bound : (f : ℕ → ℕ) (most m : ℕ) → ((i : ℕ) → i < m → f i ≤ most) → sum f m ≤ m * most
unfolding sum
sum_bound f most zero h = omega arith
sum_bound f most (suc m) h = rw suc-mul (omega (arith, sum_bound f most m (λ i q. h i (omega arith)), h m (omega arith)))

-- ---- sums over those that pass

module _ (p : ℕ → Bool) where
  -- one number more
  pub sum_over-take : (f : ℕ → ℕ) (n : ℕ) → p n ≡ true → sum_over p f (suc n) ≡ sum_over p f n + f n
  unfolding sum_over
  sum_over-take f n h = rw h

  pub sum_over_skip : (f : ℕ → ℕ) (n : ℕ) → p n ≡ false → sum_over p f (suc n) ≡ sum_over p f n
  unfolding sum_over
  sum_over_skip f n h = rw h (omega arith)

  pub sum_over_plus : (f g : ℕ → ℕ) (n : ℕ) → sum_over p (λ i. f i + g i) n ≡ sum_over p f n + sum_over p g n
  unfolding sum_over
  sum_over_plus f g zero = refl
  sum_over_plus f g (suc n) =
      let ih = sum_over_plus f g n in
      ⊎_elim
      (λ h. omega (arith, ih, sum_over-take (λ i. f i + g i) n h, sum_over-take f n h, sum_over-take g n h))
      (λ h. omega (arith, ih, sum_over_skip (λ i. f i + g i) n h, sum_over_skip f n h, sum_over_skip g n h))
      (true_or_false (p n))

  pub sum_over_monotone : (f g : ℕ → ℕ) (n : ℕ) → ((i : ℕ) → i < n → p i ≡ true → f i ≤ g i) → sum_over p f n ≤ sum_over p g n
  unfolding sum_over
  sum_over_monotone f g zero each = omega arith
  sum_over_monotone f g (suc n) each =
      let ih = sum_over_monotone f g n (λ i l. each i (omega arith)) in
      ⊎_elim
      (λ h. omega (arith, ih, sum_over-take f n h, sum_over-take g n h, each n (omega arith) h))
      (λ h. omega (arith, ih, sum_over_skip f n h, sum_over_skip g n h))
      (true_or_false (p n))

-- ---- some

-- none passes: each fails
pub none_passes : (p : ℕ → Bool) (n : ℕ) → some p n ≡ false → (i : ℕ) → i < n → p i ≡ false
unfolding some
none_passes p zero h i q = absurd (omega arith)
none_passes p (suc n) h i q =
    ⊎_elim
    (λ (e : i ≡ n). rw e (or_no_right (some p n) (p n) h))
    (λ (l : i < n). none_passes p n (or_no_left (some p n) (p n) h) i l)
    (last_or_below i n q)

pub some-passes : (p : ℕ → Bool) (n i : ℕ) → i < n → p i ≡ true → some p n ≡ true
some-passes p n i q h = ⊎_elim (λ (e : some p n ≡ true). e) (λ (e : some p n ≡ false). absurd (not_both h (none_passes p n e i q))) (true_or_false (some p n))

pub all_fail : (p : ℕ → Bool) (n : ℕ) → ((i : ℕ) → i < n → p i ≡ false) → some p n ≡ false
unfolding some
all_fail p zero h = refl
all_fail p (suc n) h = rw (all_fail p n (λ i q. h i (omega arith)), h n (omega arith))

-- the one that passes
pub which_passes : (p : ℕ → Bool) (n : ℕ) → some p n ≡ true → (i : ℕ) × (i < n) × (p i ≡ true)
unfolding some
which_passes p zero h = absurd (not_both h refl)
which_passes p (suc n) h =
    ⊎_elim
    (λ (e : some p n ≡ true). let (i, q, t) = which_passes p n e in (i, omega arith, t))
    (λ (e : p n ≡ true). (n, omega arith, e))
    (or_cases (some p n) (p n) h)

-- ---- the same test, the same answers

pub some_cong : (p q : ℕ → Bool) (n : ℕ) → ((i : ℕ) → i < n → p i ≡ q i) → some p n ≡ some q n
unfolding some
some_cong p q zero h = refl
some_cong p q (suc n) h = rw (some_cong p q n (λ i l. h i (omega arith)), h n (omega arith))

pub fold_cong : {A : Type 0} (step : A → ℕ → A) (z : A) (p q : ℕ → Bool) (n : ℕ) → ((i : ℕ) → i < n → p i ≡ q i) → fold step z p n ≡ fold step z q n
unfolding fold
fold_cong step z p q zero h = refl
fold_cong step z p q (suc n) h = rw (fold_cong step z p q n (λ i l. h i (omega arith)), h n (omega arith))

pub greatest_cong : (f g : ℕ → ℕ) (n : ℕ) → ((i : ℕ) → i < n → f i ≡ g i) → greatest f n ≡ greatest g n
unfolding greatest
greatest_cong f g zero h = refl
greatest_cong f g (suc n) h = rw (greatest_cong f g n (λ i q. h i (omega arith)), h n (omega arith))

-- ---- none from p to q - 1 passes: what is asked up to q is what is asked up to p

module _ {A : Type 0} (step : A → ℕ → A) (z : A) (p : ℕ → Bool) where
  fold_by : (k d : ℕ) → ((j : ℕ) → k ≤ j → j < k + d → p j ≡ false) → fold step z p (k + d) ≡ fold step z p k
  unfolding fold
  fold_by k zero h = rw add-zero refl
  fold_by k (suc d) h = rw (add-suc k d, h (k + d) (omega arith) (omega arith)) (fold_by k d (λ j a b. h j a (omega arith)))

  pub fold_skip : (k q : ℕ) → k ≤ q → ((j : ℕ) → k ≤ j → j < q → p j ≡ false) → fold step z p q ≡ fold step z p k
  fold_skip k q l h =
      let e : k + (q - k) ≡ q = omega arith in
      rw e at (fold_by k (q - k) (λ j a b. h j a (omega arith)))

  pub fold-take : (n : ℕ) → p n ≡ true → fold step z p (suc n) ≡ step (fold step z p n) n
  unfolding fold
  fold-take n h = rw h

-- ---- the greatest

pub greatest-above : (f : ℕ → ℕ) (n i : ℕ) → i < n → f i ≤ greatest f n
unfolding greatest
greatest-above f zero i h = absurd (omega arith)
greatest-above f (suc n) i h =
    ⊎_elim (λ e. rw e (omega arith)) (λ l. omega (arith, greatest-above f n i l)) (last_or_below i n h)

pub greatest-under : (f : ℕ → ℕ) (n m : ℕ) → ((i : ℕ) → i < n → f i ≤ m) → greatest f n ≤ m
unfolding greatest
greatest-under f zero m h = omega arith
greatest-under f (suc n) m h = omega (arith, greatest-under f n m (λ i l. h i (omega arith)), h n (omega arith))

pub greatest_over-above : (p : ℕ → Bool) (f : ℕ → ℕ) (n i : ℕ) → i < n → p i ≡ true → f i ≤ greatest_over p f n
unfolding fold
greatest_over-above p f zero i h t = absurd (omega arith)
greatest_over-above p f (suc n) i h t =
    ⊎_elim
    (λ (e : i ≡ n). let u : p n ≡ true = rw e at t in rw (u, e) (omega arith))
    (λ (l : i < n). go (p n) (greatest_over-above p f n i l t))
    (last_or_below i n h)
  where
    go : (b : Bool) → f i ≤ greatest_over p f n → f i ≤ cond b (max (greatest_over p f n) (f n)) (greatest_over p f n)
    go true q = omega arith
    go false q = q

pub greatest_over-under : (p : ℕ → Bool) (f : ℕ → ℕ) (n m : ℕ) → ((i : ℕ) → i < n → p i ≡ true → f i ≤ m) → greatest_over p f n ≤ m
unfolding fold
greatest_over-under p f zero m h = omega arith
greatest_over-under p f (suc n) m h =
    ⊎_elim
    (λ (e : p n ≡ true). rw e (omega (arith, greatest_over-under p f n m (λ i l. h i (omega arith)), h n (omega arith) e)))
    (λ (e : p n ≡ false). rw e (greatest_over-under p f n m (λ i l. h i (omega arith))))
    (true_or_false (p n))

-- over those that pass one test or the other
pub greatest_over_either : (p q r : ℕ → Bool) (f : ℕ → ℕ) (n : ℕ) → ((i : ℕ) → p i ≡ (q i || r i))
    → greatest_over p f n ≡ max (greatest_over q f n) (greatest_over r f n)
greatest_over_either p q r f n each =
    omega (
      arith,
      greatest_over-under p f n (max (greatest_over q f n) (greatest_over r f n)) (λ i l h. ⊎_elim
          (λ (u : q i ≡ true). omega (arith, greatest_over-above q f n i l u))
          (λ (u : r i ≡ true). omega (arith, greatest_over-above r f n i l u))
          (or_cases (q i) (r i) (sym (each i) ∙ h))),
      greatest_over-under q f n (greatest_over p f n) (λ i l u. greatest_over-above p f n i l (each i ∙ rw u)),
      greatest_over-under r f n (greatest_over p f n) (λ i l u. greatest_over-above p f n i l (each i ∙ or_right (q i) u)),
    )

-- ---- the least

module _ (p : ℕ → Bool) (f : ℕ → ℕ) where
  least_over-first : (n : ℕ) → p n ≡ true → some p n ≡ false → least_over p f (suc n) ≡ f n
  unfolding least_over
  least_over-first n h e = rw (h, e)

  least_over-take : (n : ℕ) → p n ≡ true → some p n ≡ true → least_over p f (suc n) ≡ min (least_over p f n) (f n)
  unfolding least_over
  least_over-take n h e = rw (h, e)

  least_over_skip : (n : ℕ) → p n ≡ false → least_over p f (suc n) ≡ least_over p f n
  unfolding least_over
  least_over_skip n h = rw h

  pub least_over-below : (n i : ℕ) → i < n → p i ≡ true → least_over p f n ≤ f i
  least_over-below zero i h t = absurd (omega arith)
  least_over-below (suc n) i h t =
      ⊎_elim
      (λ e. own (rw e at t) e (true_or_false (some p n)))
      (λ l. earlier l (least_over-below n i l t) (true_or_false (p n)))
      (last_or_below i n h)
    where
      own : p n ≡ true → i ≡ n → (some p n ≡ true) ⊎ (some p n ≡ false) → least_over p f (suc n) ≤ f i
      own u e = ⊎_elim (λ s. rw e (omega (arith, least_over-take n u s))) (λ s. rw e (omega (arith, least_over-first n u s)))

      earlier : i < n → least_over p f n ≤ f i → (p n ≡ true) ⊎ (p n ≡ false) → least_over p f (suc n) ≤ f i
      earlier l ih = ⊎_elim (λ u. omega (arith, least_over-take n u (some-passes p n i l t))) (λ u. omega (arith, least_over_skip n u))

  -- m is f i for some i below n that passes
  abbrev pub Attained : ℕ → ℕ → Type 0
  Attained n m = (i : ℕ) × (i < n) × (p i ≡ true) × (m ≡ f i)

  pub least_over_attained : (n : ℕ) → some p n ≡ true → Attained n (least_over p f n)
  unfolding some
  least_over_attained zero e = absurd (not_both e refl)
  least_over_attained (suc n) e = go (least_over_attained n) (true_or_false (some p n)) (true_or_false (p n))
    where
      go : (some p n ≡ true → Attained n (least_over p f n)) → (some p n ≡ true) ⊎ (some p n ≡ false) → (p n ≡ true) ⊎ (p n ≡ false)
          → Attained (suc n) (least_over p f (suc n))
      go ih (inl s) (inl u) =
          let (i, q, t, a) = ih s in
          ⊎_elim
          (λ (l : f n < least_over p f n). (n, omega arith, u, omega (arith, least_over-take n u s)))
          (λ (l : least_over p f n ≤ f n). (i, omega arith, t, omega (arith, least_over-take n u s)))
          (lt_or_le (f n) (least_over p f n))
      go ih (inl s) (inr u) = let (i, q, t, a) = ih s in (i, omega arith, t, least_over_skip n u ∙ a)
      go ih (inr s) (inl u) = (n, omega arith, u, least_over-first n u s)
      go ih (inr s) (inr u) = absurd (not_both e (rw (s, u)))

-- ---- the first

-- what settles the first: it passes or is n, and nothing lower passes
pub first_is : (p : ℕ → Bool) (n r : ℕ) → r ≤ n → (r < n → p r ≡ true) → ((j : ℕ) → j < r → p j ≡ false) → r ≡ first p n
unfolding first
first_is p zero r h t f = omega arith
first_is p (suc n) r h t f =
    go (λ l. first_is p n r l (λ k. t (omega arith)) f) (true_or_false (some p n)) (true_or_false (p n))
  where
    go : (r ≤ n → r ≡ first p n) → (some p n ≡ true) ⊎ (some p n ≡ false) → (p n ≡ true) ⊎ (p n ≡ false)
        → r ≡ cond (some p n) (first p n) (cond (p n) n (suc n))
    go ih (inl e) c =
        let (i, q, u) = which_passes p n e in
        ⊎_elim (λ (k : i < r). absurd (not_both u (f i k))) (λ (k : r ≤ i). rw e (ih (omega arith))) (lt_or_le i r)
    go ih (inr e) (inl u) =
        ⊎_elim
        (λ (k : n < r). absurd (not_both u (f n k)))
        (λ (k : r ≤ n). ⊎_elim
        (λ (l : r < n). absurd (not_both (t (omega arith)) (none_passes p n e r l)))
        (λ (l : n ≤ r). rw (e, u) (omega arith))
        (lt_or_le r n))
        (lt_or_le n r)
    go ih (inr e) (inr u) =
        ⊎_elim
        (λ (k : n < r). rw (e, u) (omega arith))
        (λ (k : r ≤ n). absurd (not_both (t (omega arith)) (⊎_elim
        (λ (l : r < n). none_passes p n e r l)
        (λ (l : n ≤ r). let q : r ≡ n = omega arith in rw q u)
        (lt_or_le r n))))
        (lt_or_le n r)

-- where one passes, the first is no later and passes
pub first-least : (p : ℕ → Bool) (n i : ℕ) → i < n → p i ≡ true → (first p n ≤ i) × (p (first p n) ≡ true)
unfolding first
first-least p zero i h u = absurd (omega arith)
first-least p (suc n) i h u = go (first-least p n) (true_or_false (some p n)) (last_or_below i n h)
  where
    go : ((x : ℕ) → x < n → p x ≡ true → (first p n ≤ x) × (p (first p n) ≡ true)) → (some p n ≡ true) ⊎ (some p n ≡ false)
        → (i ≡ n) ⊎ (i < n)
        → (cond (some p n) (first p n) (cond (p n) n (suc n)) ≤ i) × (p (cond (some p n) (first p n) (cond (p n) n (suc n))) ≡ true)
    go ih (inl e) (inl q) = let (x, l, v) = which_passes p n e in rw e (omega (arith, (ih x l v).0), (ih x l v).1)
    go ih (inl e) (inr l) = rw e (ih i l u)
    go ih (inr e) (inl q) = let own : p n ≡ true = rw q at u in rw (e, own) (omega arith, own)
    go ih (inr e) (inr l) = absurd (not_both u (none_passes p n e i l))

pub first_passes : (p : ℕ → Bool) (n : ℕ) → first p n < n → p (first p n) ≡ true
first_passes p n h =
    ⊎_elim
    (λ (e : some p n ≡ true). let (i, l, u) = which_passes p n e in (first-least p n i l u).1)
    (λ (e : some p n ≡ false). absurd (omega (arith, first_is p n n (omega arith) (λ q. absurd (omega arith)) (none_passes p n e))))
    (true_or_false (some p n))

pub first_under : (p : ℕ → Bool) (n : ℕ) → first p n ≤ n
unfolding first
first_under p zero = omega arith
first_under p (suc n) =
    cond_both (some p n) (λ x. x ≤ suc n) _ _ (λ e. omega (arith, first_under p n))
    (λ e. cond_both (p n) (λ x. x ≤ suc n) _ _ (λ u. omega arith) (λ u. omega arith))

pub least_over-none : (p : ℕ → Bool) (f : ℕ → ℕ) (n : ℕ) → some p n ≡ false → least_over p f n ≡ 0
unfolding least_over some
least_over-none p f zero h = refl
least_over-none p f (suc n) h = rw (or_no_right (some p n) (p n) h) (least_over-none p f n (or_no_left (some p n) (p n) h))

-- a number that is no greater than any of them is no greater than the least
pub least_over-above : (p : ℕ → Bool) (f : ℕ → ℕ) (n m : ℕ) → some p n ≡ true → ((i : ℕ) → i < n → p i ≡ true → m ≤ f i) → m ≤ least_over p f n
least_over-above p f n m h each = let (i, l, u, q) = least_over_attained p f n h in omega (arith, each i l u)

-- the same numbers, the same least
pub least_over_cong : (p : ℕ → Bool) (f g : ℕ → ℕ) (n : ℕ) → ((i : ℕ) → i < n → p i ≡ true → f i ≡ g i) → least_over p f n ≡ least_over p g n
unfolding least_over
least_over_cong p f g zero h = refl
least_over_cong p f g (suc n) h =
    ⊎_elim
    (λ (e : p n ≡ true). rw (e, least_over_cong p f g n (λ i l. h i (omega arith)), h n (omega arith) e))
    (λ (e : p n ≡ false). rw (e, least_over_cong p f g n (λ i l. h i (omega arith))))
    (true_or_false (p n))

-- the least as a walk finds it that starts from a number no less than any of them
least_or : (p : ℕ → Bool) (f : ℕ → ℕ) (from n : ℕ) → ((i : ℕ) → i < n → p i ≡ true → f i ≤ from)
    → fold (λ g i. min g (f i)) from p n ≡ cond (some p n) (least_over p f n) from
unfolding fold some least_over
least_or p f from zero each = refl
least_or p f from (suc n) each = go (true_or_false (p n)) (true_or_false (some p n)) (least_or p f from n (λ i l. each i (omega arith)))
  where
    go : (p n ≡ true) ⊎ (p n ≡ false) → (some p n ≡ true) ⊎ (some p n ≡ false) → fold (λ g i. min g (f i)) from p n ≡ cond (some p n) (least_over p f n) from
        → fold (λ g i. min g (f i)) from p (suc n) ≡ cond (some p (suc n)) (least_over p f (suc n)) from
    go (inl t) (inl e) ih = rw (t, e) (ap (λ (g : ℕ). min g (f n)) (rw e at ih))
    go (inl t) (inr e) ih = let q : fold (λ g i. min g (f i)) from p n ≡ from = rw e at ih in rw (t, e, q) (omega (arith, each n (omega arith) t))
    go (inr t) (inl e) ih = rw (t, e) (rw e at ih)
    go (inr t) (inr e) ih = rw (t, e) (rw e at ih)

pub fold-least : (p : ℕ → Bool) (f : ℕ → ℕ) (from n : ℕ) → some p n ≡ true → ((i : ℕ) → i < n → p i ≡ true → f i ≤ from)
    → fold (λ g i. min g (f i)) from p n ≡ least_over p f n
fold-least p f from n h each = least_or p f from n each ∙ rw h
