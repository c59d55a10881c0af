-- Small frames left out: each next slot is a place of its own, or the last place moves on to it, where no lead grows between them.
use mathlib.Core.Bool.{cond}
use mathlib.Core.List.{List}
use mathlib.Core.Logic.{◌⊎◌, inr}
use mathlib.Core.Path.{◌≡◌, refl, ◌∙◌}
use Prim.Native.Nat.{ℕ, suc, ◌+◌, ◌-◌, ◌≤◌, ◌<◌, max}
use native.Mathlib.Omega.{arith}
use native.Mathlib.Decide.{ℕ_discrete, dec_lt}
use lib.Dec.{ltb}
use lib.ListN.{length, get_or, set}
use lib.Seq.{get_or-set_same, get_or-set_other}
use borrow.Author.Tests.{lt-ltb, le-ltb}

-- no frame between slots a and b is larger than r
abbrev pub SmallFrames : (ℕ → ℕ) → ℕ → ℕ → ℕ → Type 0
SmallFrames T r a b = (m : ℕ) → a ≤ m → m < b → T (suc m) ≤ T m + r

-- from a to b in one step: one slot, or slots in which nothing gets ahead
abbrev pub Step : (ℕ → ℕ) → ℕ → ℕ → ℕ → Type 0
Step T r a b = (a < b) × ((b ≡ suc a) ⊎ SmallFrames T r a b)

-- k places lead from slot 0 to slot M by steps
pub record Steps (T : ℕ → ℕ) (r M : ℕ) (places : List ℕ) (k : ℕ) : Type 0 where
  pub some_place : 0 < k
  pub few : k ≤ suc M
  pub starts : get_or places 0 0 ≡ 0
  pub ends : get_or places (k - 1) 0 ≡ M
  pub inside : (j : ℕ) → j < k → get_or places j 0 ≤ M
  pub steps : (j : ℕ) → suc j < k → Step T r (get_or places j 0) (get_or places (suc j) 0)

-- up to slot m: where `last` is no more than r, no lead grows since the place before the last
pub record StepsSoFar (T : ℕ → ℕ) (r m : ℕ) (places : List ℕ) (k last : ℕ) : Type 0 where
  pub steps : Steps T r m places k
  pub falling : last ≤ r → (1 < k) × SmallFrames T r (get_or places (k - 2) 0) m

module _ (T : ℕ → ℕ) (r : ℕ) where
  module _ (m to k last new : ℕ) (places : List ℕ) (so : StepsSoFar T r m places k last) (room : to < length places) (way : Step T r m to)
      (flat : new ≤ r → SmallFrames T r m to) where
    kept : StepsSoFar T r to (set places k to) (suc k) new
    kept =
        let old = so.steps in
        let here : get_or (set places k to) k 0 ≡ to = get_or-set_same places k to 0 (omega (arith, so.steps.few, way.0)) in
        let other : (j : ℕ) → (j ≡ k → ⊥) → get_or (set places k to) j 0 ≡ get_or places j 0 = λ j ne. get_or-set_other places k j to 0 ne in
        let back : suc k - 1 ≡ k = omega arith in
        let before-it : get_or places (suc k - 2) 0 ≡ m = let e : suc k - 2 ≡ k - 1 = omega arith in rw e old.ends in
        record {
          steps =
              record {
                some_place = omega arith;
                few = omega (arith, so.steps.few, way.0);
                starts = other 0 (λ e. omega (arith, old.some_place)) ∙ old.starts;
                ends = rw back here;
                inside = λ j h. inside_at j h (ℕ_discrete j k);
                steps = λ j h. step_at j h (ℕ_discrete (suc j) k);
              };
          falling = λ low. (
            omega (arith, old.some_place),
            rw (other (suc k - 2) (λ e. omega (arith, old.some_place)), before-it)
                (flat low),
          );
        }
      where
        inside_at : (j : ℕ) → j < suc k → Dec (j ≡ k) → get_or (set places k to) j 0 ≤ to
        inside_at j h (yes e) = rw (e, get_or-set_same places k to 0 (omega (arith, so.steps.few, way.0))) (omega arith)
        inside_at j h (no ne) = rw (get_or-set_other places k j to 0 ne) (omega (arith, so.steps.inside j (omega arith), way.0))

        step_at : (j : ℕ) → suc j < suc k → Dec (suc j ≡ k) → Step T r (get_or (set places k to) j 0) (get_or (set places k to) (suc j) 0)
        step_at j h (yes e) =
            let was : get_or places j 0 ≡ m = let b : j ≡ k - 1 = omega arith in rw b so.steps.ends in
            rw (
              get_or-set_other places k j to 0 (λ q. omega arith),
              was,
              e,
              get_or-set_same places k to 0
                  (omega (arith, so.steps.few, way.0)),
            ) way
        step_at j h (no ne) =
            rw (get_or-set_other places k j to 0 (λ q. omega arith), get_or-set_other places k (suc j) to 0 ne)
            (so.steps.steps j (omega arith))

    moved : last ≤ r → new ≤ r → StepsSoFar T r to (set places (k - 1) to) k new
    moved low-last low-new =
        let old = so.steps in
        let (many, run) = so.falling low-last in
        let short : k - 1 < length places = omega (arith, so.steps.few, way.0) in
        let stays : get_or (set places (k - 1) to) (k - 2) 0 ≡ get_or places (k - 2) 0 =
        get_or-set_other places (k - 1) (k - 2) to 0 (λ e. omega arith) in
        let on : SmallFrames T r (get_or places (k - 2) 0) to = λ x a b. still_small x a b (dec_lt x m) run (flat low-new) in
        record {
          steps =
              record {
                some_place = old.some_place;
                few = omega (arith, so.steps.few, way.0);
                starts = get_or-set_other places (k - 1) 0 to 0 (λ e. omega arith) ∙ old.starts;
                ends = get_or-set_same places (k - 1) to 0 short;
                inside = λ j h. inside_at j h (ℕ_discrete j (k - 1));
                steps = λ j h. step_at many on j h (ℕ_discrete (suc j) (k - 1));
              };
          falling = λ low. (many, rw stays on);
        }
      where
        still_small : (x : ℕ) → get_or places (k - 2) 0 ≤ x → x < to → Dec (x < m) → SmallFrames T r (get_or places (k - 2) 0) m
            → SmallFrames T r m to → T (suc x) ≤ T x + r
        still_small x a b (yes l) run low = run x a l
        still_small x a b (no ne) run low = low x (omega arith) b

        inside_at : (j : ℕ) → j < k → Dec (j ≡ k - 1) → get_or (set places (k - 1) to) j 0 ≤ to
        inside_at j h (yes e) = rw (e, get_or-set_same places (k - 1) to 0 (omega (arith, so.steps.few, way.0))) (omega arith)
        inside_at j h (no ne) = rw (get_or-set_other places (k - 1) j to 0 ne) (omega (arith, so.steps.inside j h, way.0))

        step_at : 1 < k → SmallFrames T r (get_or places (k - 2) 0) to → (j : ℕ) → suc j < k → Dec (suc j ≡ k - 1)
            → Step T r (get_or (set places (k - 1) to) j 0) (get_or (set places (k - 1) to) (suc j) 0)
        step_at many on j h (yes e) =
            let b : j ≡ k - 2 = omega arith in
            let under = so.steps.inside (k - 2) (omega arith) in
            rw (
              e,
              get_or-set_same places (k - 1) to 0 (omega (arith, so.steps.few, way.0)),
              get_or-set_other places (k - 1) j to 0
                  (λ q. omega arith),
              b,
            ) (omega (arith, under, way.0), inr on)
        step_at many on j h (no ne) =
            rw (get_or-set_other places (k - 1) j to 0 (λ q. omega arith), get_or-set_other places (k - 1) (suc j) to 0 ne)
            (so.steps.steps j h)

    -- with one place more where either frame is larger than r
    pub steps_next : (k' : ℕ) → k' ≡ cond (ltb r (max last new)) (k + 1) k → StepsSoFar T r to (set places (k' - 1) to) k' new
    steps_next k' how = go (dec_lt r (max last new))
      where
        go : Dec (r < max last new) → StepsSoFar T r to (set places (k' - 1) to) k' new
        go (yes large) =
            let more : k' ≡ suc k = how ∙ rw (lt-ltb r (max last new) large) (omega arith) in
            let back : suc k - 1 ≡ k = omega arith in
            rw (more, back) kept
        go (no ne) =
            let same : k' ≡ k = how ∙ rw (le-ltb r (max last new) (omega arith)) refl in
            rw same (moved (omega arith) (omega arith))
