-- Newton's search: it never passes the least peak and ends at it, and the number of its passes is bounded.
use mathlib.Core.Path.{◌≡◌, ◌∙◌}
use mathlib.Core.Logic.{◌≢◌}
use Prim.Native.Nat.{ℕ, zero, suc, ◌+◌, ◌-◌, ◌*◌, ◌/◌, ◌^◌, ◌≤◌, ◌<◌}
use native.Mathlib.Omega.{arith}
use native.Mathlib.Decide.{ℕ_discrete, dec_le}
use native.Mathlib.Nat.{mul-le-mul, mul-le-mul_left, mul-le-mul_right, le_of_mul-le-mul_right, pow-succ'}
use borrow.Author.Tests.{eq-eqb, ne_eqb}
use Rattle.smoothing.specs.Row.{ceil_div, least_peak}
use Rattle.smoothing.specs.Newton.{pass, next_peak, newton, passes_made}
use Rattle.smoothing.proofs.RowLaws.{ceil_div-least, ceil_div_covers, least_peak_is_least}
use Rattle.smoothing.proofs.NewtonPassLaws.{Excess, pass_bounds, pass_attains, span_none}

-- ---- products

-- four times a product is at most the square of the sum
four_times : (x y : ℕ) → 4 * (x * y) ≤ (x + y) * (x + y)
four_times x y = go (dec_le x y)
  where
    apart : (a d : ℕ) → 4 * (a * (a + d)) ≤ (a + (a + d)) * (a + (a + d))
    apart a d = omega arith

    go : Dec (x ≤ y) → 4 * (x * y) ≤ (x + y) * (x + y)
    go (yes h) = let e : x + (y - x) ≡ y = omega arith in rw e at (apart x (y - x))
    go (no h) = let e : y + (x - y) ≡ x = omega arith in omega (arith, rw e at (apart y (x - y)))

-- with x for v' * g and y for g' * v: 4 * (x * y) is at most the square of v * g, and x * y is v' * g' * (v * g)
pub quarter : (v g v' g' : ℕ) → 0 < v → 0 < g → v' * g + g' * v ≤ v * g → 4 * (v' * g') ≤ v * g
quarter v g v' g' p q h =
    le_of_mul-le-mul_right {k = v * g}
    (omega (arith, four_times (v' * g) (g' * v), mul-le-mul h h))
    (omega (arith, mul-le-mul p q))

-- a rate that covers an excess x over the rate p is larger than p, and by enough to cover x alone
rate_over : (p q g x : ℕ) → p * g + x ≤ q * g → 0 < x → (p < q) × (x ≤ (q - p) * g)
rate_over p q g x h px = go (dec_le q p)
  where
    go : Dec (q ≤ p) → (p < q) × (x ≤ (q - p) * g)
    go (yes l) = absurd (omega (arith, mul-le-mul_right g l))
    go (no l) =
        let e : p + (q - p) ≡ q = omega arith in
        let d : (p + (q - p)) * g ≡ p * g + (q - p) * g = omega arith in
        (omega arith, omega (arith, rw e at d))

-- of two excesses v and v' with spans g and g': where c covers v over g, and v' is what is left of v after c over g'
shrink : (v g v' g' c : ℕ) → v ≤ c * g → c * g' + v' ≤ v → v' * g + g' * v ≤ v * g
shrink v g v' g' c covers left = omega (arith, mul-le-mul_left g' covers, mul-le-mul_right g left)

-- a quarter of what is below 2 ^ e is below 2 ^ (e - 2)
quarter_power : (e x y : ℕ) → 4 * y ≤ x → x < 2 ^ e → y < 2 ^ (e - 2)
quarter_power zero x y h l = omega arith
quarter_power (suc zero) x y h l = omega arith
quarter_power (suc (suc e)) x y h l =
    let d : suc (suc e) - 2 ≡ e = omega arith in rw d (omega (arith, pow-succ' 2 e, pow-succ' 2 (suc e)))

module _ (lower upper : ℕ → ℕ) (H : ℕ) where
  -- the excess that the pass at p finds, and its span
  abbrev excess : ℕ → ℕ
  excess p = (pass lower upper p H).excess

  abbrev span : ℕ → ℕ
  span p = (pass lower upper p H).span

  -- ---- one step

  span_positive : (p : ℕ) → 0 < excess p → 0 < span p
  span_positive p h = let at = pass_attains lower upper p H h in omega (arith, at.2, at.4)

  -- an excess at p, covered over its span: a higher peak
  pub cover_more : (p x g : ℕ) → Excess lower upper p H x g → 0 < x → p < p + ceil_div x g
  cover_more p x g at h = go (dec_le (ceil_div x g) 0)
    where
      go : Dec (ceil_div x g ≤ 0) → p < p + ceil_div x g
      go (yes l) = absurd (omega (arith, ceil_div_covers x g 0 (omega (arith, at.2, at.4)) l))
      go (no l) = omega arith

  -- that never passes the least peak
  pub cover_below : (p x g : ℕ) → Excess lower upper p H x g → 0 < x → p + ceil_div x g ≤ least_peak H lower upper
  cover_below p x g at h =
      let enough = (least_peak_is_least H lower upper).0 at.1 at.0 at.2 at.3 in
      let over = rate_over p (least_peak H lower upper) g x (omega (arith, at.5, rw (← at.4) at enough)) h in
      omega (arith, over.0, ceil_div-least x g (least_peak H lower upper - p) (omega (arith, at.2, at.4)) over.1)

  -- so a step never passes it
  pub next_peak-below : (p : ℕ) → 0 < excess p → next_peak lower upper H p ≤ least_peak H lower upper
  unfolding next_peak
  next_peak-below p h = cover_below p (excess p) (span p) (pass_attains lower upper p H h) h

  -- where a pass finds no excess, p is at least the least peak
  pub no_excess : (p : ℕ) → excess p ≡ 0 → least_peak H lower upper ≤ p
  no_excess p e = (least_peak_is_least H lower upper).1 p (λ j k h l. omega (arith, pass_bounds lower upper p H k j h l))

  -- ---- two passes in a row

  pub two_passes : (p : ℕ) → let p' = next_peak lower upper H p in excess p' * span p + span p' * excess p ≤ excess p * span p
  unfolding next_peak
  two_passes p = go (ℕ_discrete (excess p) 0) (ℕ_discrete (excess p') 0)
    where
      p' : ℕ
      p' = p + ceil_div (excess p) (span p)

      go : Dec (excess p ≡ 0) → Dec (excess p' ≡ 0) → excess p' * span p + span p' * excess p ≤ excess p * span p
      go (yes z) d = rw (z, span_none lower upper p H z) (omega arith)
      go (no nz) (yes z) = rw (z, span_none lower upper p' H z) (omega arith)
      go (no nz) (no nz') =
          let at = pass_attains lower upper p' H (omega arith) in
          let bound = pass_bounds lower upper p H at.0 at.1 at.2 at.3 in
          shrink (excess p) (span p) (excess p') (span p') (ceil_div (excess p) (span p))
          (ceil_div_covers (excess p) (span p) (ceil_div (excess p) (span p)) (span_positive p (omega arith)) (omega arith))
          (omega (arith, at.5, rw (← at.4) at bound))

  -- so the product of excess and span falls to a quarter or less
  pub excess_quarter : (p : ℕ) → 0 < excess p → let p' = next_peak lower upper H p in 4 * (excess p' * span p') ≤ excess p * span p
  excess_quarter p h =
      quarter (excess p) (span p) (excess (next_peak lower upper H p)) (span (next_peak lower upper H p)) h (span_positive p h) (two_passes p)

  -- ---- the search

  newton_stops : (c p : ℕ) → excess p ≡ 0 → newton lower upper H (suc c) p ≡ p
  unfolding newton
  newton_stops c p e = rw (eq-eqb (excess p) 0 e)

  newton_goes : (c p : ℕ) → excess p ≢ 0 → newton lower upper H (suc c) p ≡ newton lower upper H c (next_peak lower upper H p)
  unfolding newton
  newton_goes c p ne = rw (ne_eqb (excess p) 0 ne)

  -- it never passes the least peak, however many passes are allowed
  pub newton_below : (c p : ℕ) → p ≤ least_peak H lower upper → newton lower upper H c p ≤ least_peak H lower upper
  unfolding newton
  newton_below zero p h = h
  newton_below (suc c) p h = go (ℕ_discrete (excess p) 0) (newton_below c (next_peak lower upper H p))
    where
      go : Dec (excess p ≡ 0)
          → (next_peak lower upper H p ≤ least_peak H lower upper → newton lower upper H c (next_peak lower upper H p) ≤ least_peak H lower upper)
          → newton lower upper H (suc c) p ≤ least_peak H lower upper
      go (yes e) ih = rw (newton_stops c p e) h
      go (no ne) ih = rw (newton_goes c p ne) (ih (next_peak-below p (omega arith)))

  -- a product below 1 means no excess
  no_product : (p : ℕ) → excess p * span p < 1 → excess p ≡ 0
  no_product p h = go (ℕ_discrete (excess p) 0)
    where
      positive : (p : ℕ) → excess p ≢ 0 → 0 < excess p
      positive p ne = omega arith

      go : Dec (excess p ≡ 0) → excess p ≡ 0
      go (yes e) = e
      go (no ne) = absurd (omega (arith, mul-le-mul (positive p ne) (span_positive p (positive p ne))))

  -- ---- how many passes

  -- no exponent left means no excess
  last_pass : (e p : ℕ) → e ≤ 0 → excess p * span p < 2 ^ e → excess p ≡ 0
  last_pass e p z h = let d : e ≡ 0 = omega arith in no_product p (rw d at h)

  -- with a first product below 2 ^ e and e at most 2 c, a search of more than c passes ends at the least peak
  ends : (c e p c' : ℕ) → e ≤ 2 * c → excess p * span p < 2 ^ e → p ≤ least_peak H lower upper → c < c'
      → newton lower upper H c' p ≡ least_peak H lower upper
  ends c e p zero h l below m = absurd (omega arith)
  ends zero e p (suc c') h l below m =
      let none = last_pass e p (omega arith) l in omega (arith, newton_stops c' p none, no_excess p none, below)
  ends (suc c) e p (suc c') h l below m =
      go (ℕ_discrete (excess p) 0) (λ i k. ends c (e - 2) (next_peak lower upper H p) c' (omega arith) i k (omega arith))
    where
      p' : ℕ
      p' = next_peak lower upper H p

      go : Dec (excess p ≡ 0)
          → (excess p' * span p' < 2 ^ (e - 2) → p' ≤ least_peak H lower upper → newton lower upper H c' p' ≡ least_peak H lower upper)
          → newton lower upper H (suc c') p ≡ least_peak H lower upper
      go (yes none) ih = omega (arith, newton_stops c' p none, no_excess p none, below)
      go (no some) ih =
          newton_goes c' p some
          ∙ ih (quarter_power e (excess p * span p) (excess p' * span p') (excess_quarter p (omega arith)) l) (next_peak-below p (omega arith))

  -- and whatever number is allowed, it makes no more than c + 1
  makes : (c e p c' : ℕ) → e ≤ 2 * c → excess p * span p < 2 ^ e → passes_made lower upper H c' p ≤ suc c
  unfolding passes_made
  makes c e p zero h l = omega arith
  makes zero e p (suc c') h l = rw (eq-eqb (excess p) 0 (last_pass e p (omega arith) l)) (omega arith)
  makes (suc c) e p (suc c') h l =
      go (ℕ_discrete (excess p) 0) (λ i. makes c (e - 2) (next_peak lower upper H p) c' (omega arith) i)
    where
      p' : ℕ
      p' = next_peak lower upper H p

      go : Dec (excess p ≡ 0) → (excess p' * span p' < 2 ^ (e - 2) → passes_made lower upper H c' p' ≤ suc c)
          → passes_made lower upper H (suc c') p ≤ suc (suc c)
      go (yes none) ih = rw (eq-eqb (excess p) 0 none) (omega arith)
      go (no some) ih =
          let more = ih (quarter_power e (excess p * span p) (excess p' * span p') (excess_quarter p (omega arith)) l) in
          rw (ne_eqb (excess p) 0 some) (omega arith)

  -- where the first excess times its span is below 2 ^ e, the search from 0 ends at the least peak within e / 2 + 2 passes
  pub newton_ends : (e : ℕ) → excess 0 * span 0 < 2 ^ e → (c : ℕ) → e / 2 + 2 ≤ c → newton lower upper H c 0 ≡ least_peak H lower upper
  newton_ends e h c l = ends (e / 2 + 1) e 0 c (omega arith) h (omega arith) (omega arith)

  pub passes_bound : (e : ℕ) → excess 0 * span 0 < 2 ^ e → (c : ℕ) → passes_made lower upper H c 0 ≤ e / 2 + 2
  passes_bound e h c = omega (arith, makes (e / 2 + 1) e 0 c (omega arith) h)
