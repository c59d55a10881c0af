-- A need found in one pass forward over the frames: the most that what is played gets ahead of the floor rate.
use mathlib.Core.Path.{◌≡◌, refl, ap, fun_ext, ◌∙◌}
use Prim.Native.Nat.{ℕ, zero, suc, ◌+◌, ◌-◌, ◌*◌, ◌≤◌}
use native.Mathlib.Omega.{arith}
use native.Mathlib.Decide.{ℕ_discrete}
use Rattle.job.specs.Tree.{Tree, TreeWithin}
use Rattle.smoothing.specs.Row.{lazy}
use Rattle.smoothing.specs.Rates as theory
use Rattle.smoothing.proofs.RowLaws.{times_more, times_none, rise_over}
use Rattle.smoothing.proofs.LazyLaws.{lazy-above, lazy-rises, lazy-under}
use Rattle.smoothing.proofs.NeedLaws.{need-above, need-least, need-delay}
use Rattle.job.specs.Sums.{Film}
use Rattle.rates.specs.Rates.{floor_rate, need}
use Rattle.pacing.specs.Pace.{ahead, most_ahead}
use Rattle.pacing.proofs.LeadLaws.{most_above}
use Rattle.rates.proofs.TheoryLaws.{question, good, floor_is, need_is}

module _ (T : ℕ → ℕ) (grows : (m : ℕ) → T m ≤ T (suc m)) (q : ℕ) where
  -- ---- ahead at i is the least x with T(i) ≤ T(k) + q (i - k) + x for each k up to i

  ahead-above : (k i : ℕ) → k ≤ i → T i ≤ T k + ahead T q i + q * (i - k)
  unfolding ahead
  ahead-above k zero h = let e : k ≡ 0 = omega arith in rw e (omega arith)
  ahead-above k (suc i) h = go (ℕ_discrete k (suc i)) (λ l. ahead-above k i l)
    where
      go : Dec (k ≡ suc i) → (k ≤ i → T i ≤ T k + ahead T q i + q * (i - k)) → T (suc i) ≤ T k + (ahead T q i + (T (suc i) - T i) - q) + q
          * (suc i - k)
      go (yes e) ih = rw e (omega arith)
      go (no ne) ih = omega (arith, ih (omega arith), grows i, times_more q k i (omega arith))

  ahead-least : (i x : ℕ) → ((k : ℕ) → k ≤ i → T i ≤ T k + q * (i - k) + x) → ahead T q i ≤ x
  unfolding ahead
  ahead-least zero x each = omega arith
  ahead-least (suc i) x each =
      omega (
        arith,
        grows i,
        each i (omega arith),
        times_more q i i (omega arith),
        times_none q i,
        ahead-least i (q + x - (T (suc i) - T i)) (λ k l. omega (
          arith,
          grows i,
          each k (omega arith),
          times_more q k i l,
          each i
              (omega arith),
          times_more q i i (omega arith),
          times_none q i,
        )),
      )

  -- ---- and the most of it up to m is the least x that is no less than each

  most_least : (m x : ℕ) → ((i : ℕ) → i ≤ m → ahead T q i ≤ x) → most_ahead T q m ≤ x
  unfolding most_ahead
  most_least zero x each = omega arith
  most_least (suc m) x each = omega (arith, each (suc m) (omega arith), most_least m x (λ i h. each i (omega arith)))

  -- ---- the greatest excess of the lazy row over T

  excess-above : (M k : ℕ) → k ≤ M → lazy M q T k ≤ T k + most_ahead T q M
  excess-above M k h =
      lazy-under M q T (λ i. T i + most_ahead T q M)
      (λ i x l r. omega (arith, ahead-above i x (omega arith), most_above T grows q M x r))
      (λ i r. omega arith) k h

  excess-least : (M x : ℕ) → ((k : ℕ) → k ≤ M → lazy M q T k ≤ T k + x) → most_ahead T q M ≤ x
  excess-least M x each =
      most_least M x
      (λ i h. ahead-least i x
      (λ k l. omega (arith, lazy-above M q T i h, rise_over M q (lazy M q T) (lazy-rises M q T) k i l h, each k (omega arith))))

-- ---- the need

-- so a node's need, whatever the delay, is the most that what is played gets ahead of its floor rate
pub need-ahead : (t : Tree) (M : ℕ) (T : ℕ → ℕ) → TreeWithin t → Film T (T M) → (w i : ℕ) → need t M T w i ≡ most_ahead T (floor_rate t i) M
need-ahead t M T tree film w i =
    let Q = question t M T in
    let fair = good t M T tree film in
    let d : theory.D Q 0 ≡ T = fun_ext (λ k. ap T (omega arith)) in
    let z : M + 0 ≡ M = omega arith in
    let q = theory.floor_rate Q i in
    let row : (k : ℕ) → lazy (M + 0) q (theory.D Q 0) k ≡ lazy M q T k = λ k. rw (d, z) refl in
    let played : (k : ℕ) → theory.D Q 0 k ≡ T k = λ k. ap T (omega arith) in
    let up : (m : ℕ) → T m ≤ T (suc m) = λ m. film.grows m (suc m) (omega arith) in
    need_is t M T w i
    ∙ need-delay Q fair w i
    ∙ rw (floor_is t M T i)
    (omega (
      arith,
      need-least Q fair 0 i (most_ahead T q M) (λ k h. omega (arith, row k, played k, excess-above T up q M k (omega arith))),
      excess-least T up q M (theory.need Q 0 i) (λ k h. omega (arith, row k, played k, need-above Q fair 0 i k (omega arith))),
    ))
