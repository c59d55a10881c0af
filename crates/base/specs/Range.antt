-- Questions about the numbers 0 to n - 1. `X f n` is over all of them, `XOver p f n` over those that pass the test p.
use Rattle.std.specs.Prelude.{Bool, false, cond, ◌||◌, ℕ, zero, suc, ◌+◌, ◌≤◌, max, min}

-- f 0 + f 1 + .. + f (n - 1)
unfoldable pub sum : (ℕ → ℕ) → ℕ → ℕ
sum f zero = 0
sum f (suc n) = sum f n + f n

-- the sum of f i over the i below n that pass
unfoldable pub sum_over : (ℕ → Bool) → (ℕ → ℕ) → ℕ → ℕ
sum_over p f zero = 0
sum_over p f (suc n) = sum_over p f n + cond (p n) (f n) 0

-- some i below n passes
unfoldable pub some : (ℕ → Bool) → ℕ → Bool
some p zero = false
some p (suc n) = some p n || p n

-- how many i below n pass
unfoldable pub how_many : (ℕ → Bool) → ℕ → ℕ
how_many p zero = 0
how_many p (suc n) = how_many p n + cond (p n) 1 0

-- the first i below n that passes; n where none does
unfoldable pub first : (ℕ → Bool) → ℕ → ℕ
first p zero = 0
first p (suc n) = cond (some p n) (first p n) (cond (p n) n (suc n))

-- each i below n that passes is taken in once, in increasing order, and nothing else is
unfoldable pub fold : {A : Type 0} → (A → ℕ → A) → A → (ℕ → Bool) → ℕ → A
fold step z p zero = z
fold step z p (suc n) = cond (p n) (step (fold step z p n) n) (fold step z p n)

-- the greatest of f 0, .., f (n - 1); 0 where n is 0
unfoldable pub greatest : (ℕ → ℕ) → ℕ → ℕ
greatest f zero = 0
greatest f (suc n) = max (greatest f n) (f n)

-- the greatest f i over the i below n that pass; 0 where none does
abbrev pub greatest_over : (ℕ → Bool) → (ℕ → ℕ) → ℕ → ℕ
greatest_over p f n = fold (λ g i. max g (f i)) 0 p n

-- the least f i over the i below n that pass; 0 where none does
unfoldable pub least_over : (ℕ → Bool) → (ℕ → ℕ) → ℕ → ℕ
least_over p f zero = 0
least_over p f (suc n) = cond (p n) (cond (some p n) (min (least_over p f n) (f n)) (f n)) (least_over p f n)

-- the two least of two numbers kept and of f i: what a fold that looks for the least and the second least goes on with
abbrev pub two_least : (ℕ → ℕ) → ℕ × ℕ → ℕ → ℕ × ℕ
two_least f g i = (min g.0 (f i), min g.1 (max g.0 (f i)))

-- m is the least number with the property A
abbrev pub IsLeast : (ℕ → Type 0) → ℕ → Type 0
IsLeast A m = A m × ((k : ℕ) → A k → m ≤ k)
