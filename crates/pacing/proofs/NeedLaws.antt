-- The needs at all rates, found at some of them at a time.
use mathlib.Core.Bool.{Bool, true, false, not, cond}
use mathlib.Core.List.{List, [], ◌∷◌}
use mathlib.Core.Path.{◌≡◌, refl, ap, ◌∙◌}
use Prim.Native.Nat.{ℕ, zero, suc, ◌+◌, ◌-◌, ◌≤◌, ◌<◌}
use native.Mathlib.Omega.{arith}
use native.Mathlib.Decide.{ℕ_discrete, dec_lt}
use lib.ListN.{length, get_or, replicate}
use borrow.Author.Tests.{eq-eqb, eqb-true, lt-ltb}
use Rattle.std.specs.Prelude.{Option, Some, None, ◌==◌, position}
use Rattle.std.specs.List.{position_or_len}
use Rattle.std.proofs.lemmas.List.Quantifiers.{position-Some}
use Rattle.base.specs.Table.{tab}
use Rattle.base.proofs.TableLaws.{length-tab, get_or-tab, tab_cong, tab_of_list}
use Rattle.job.specs.Limits.{most_nodes}
use Rattle.pacing.specs.Pace.{need_of, needs_at}
use Rattle.pacing.specs.Work.{at_once, NextRates, number_at, chosen}

-- ---- the next rates

apart : (a b : ℕ) → a ≤ b → (a ≡ b → ⊥) → a < b
apart a b h ne = go (ℕ_discrete a b)
  where
    go : Dec (a ≡ b) → a < b
    go (yes e) = absurd (ne e)
    go (no n) = omega arith

module _ (rates : List ℕ) (y top : ℕ) (r : List ℕ) (next : NextRates rates y top r) where
  -- none is above the top, or less than one before it
  pub next_to : (i : ℕ) → i < at_once → get_or r i 0 ≤ top
  next_to i h = (next.each i h).to

  pub next_rise : (i k : ℕ) → i ≤ k → k < at_once → get_or r i 0 ≤ get_or r k 0
  next_rise i zero h l = let e : i ≡ 0 = omega arith in rw e (omega arith)
  next_rise i (suc k) h l = go (ℕ_discrete i (suc k)) (λ q. next_rise i k q (omega arith))
    where
      go : Dec (i ≡ suc k) → (i ≤ k → get_or r i 0 ≤ get_or r k 0) → get_or r i 0 ≤ get_or r (suc k) 0
      go (yes e) ih = rw e (omega arith)
      go (no ne) ih = omega (arith, ih (omega arith), next_to k (omega arith), (next.each (suc k) l).from)

  -- a rate from y on that is none of them is above them all
  pub beyond : (v : ℕ) → v < most_nodes → y ≤ get_or rates v 0 → ((i : ℕ) → i < at_once → get_or r i 0 ≡ get_or rates v 0 → ⊥)
      → (i : ℕ) → i < at_once → get_or r i 0 < get_or rates v 0
  beyond v h l none zero k = apart _ _ ((next.each 0 k).least v h l) (none 0 k)
  beyond v h l none (suc i) k =
      apart _ _ ((next.each (suc i) k).least v h (omega (arith, beyond v h l none i (omega arith)))) (none (suc i) k)

-- ---- what is chosen

-- where one passes there is a place
some_place : (p : ℕ → Bool) (xs : List ℕ) (k : ℕ) → k < length xs → p (get_or xs k 0) ≡ true → position_or_len p xs < length xs
some_place p [] k h is = absurd (omega arith)
some_place p (x ∷ xs) zero h is = rw is (omega arith)
some_place p (x ∷ xs) (suc k) h is = go (p x) (some_place p xs k (omega arith) is)
  where
    go : (b : Bool) → position_or_len p xs < length xs → cond (not b) (1 + position_or_len p xs) 0 < suc (length xs)
    go true ih = omega arith
    go false ih = omega arith

place_none : (p : ℕ → Bool) (xs : List ℕ) → position p xs ≡ None → (k : ℕ) → k < length xs → p (get_or xs k 0) ≡ true → ⊥
place_none p xs is k h so =
    let l = some_place p xs k h so in
    let e = rw (lt-ltb (position_or_len p xs) (length xs) l) at is in
    cc

-- what is chosen is the number at the rate, if it is where none is chosen
pub chosen_is : (g : ℕ → ℕ) (taken : List ℕ) (rate old : ℕ) → length taken ≡ at_once
    → (((i : ℕ) → i < at_once → get_or taken i 0 ≡ rate → ⊥) → old ≡ g rate)
    → chosen taken (tab (λ i. g (get_or taken i 0)) at_once) rate old ≡ g rate
chosen_is g taken rate old long is = go (position (λ r. r == rate) taken) refl
  where
    go : (o : Option ℕ) → position (λ r. r == rate) taken ≡ o → number_at o (tab (λ i. g (get_or taken i 0)) at_once) old ≡ g rate
    go (Some k) e =
        let at = position-Some (λ r. r == rate) taken k 0 e in
        get_or-tab (λ i. g (get_or taken i 0)) at_once k (omega (arith, at.0, long)) ∙ ap g (eqb-true (get_or taken k 0) rate at.1)
    go None e = is (λ i h q. place_none (λ r. r == rate) taken e i (omega (arith, long)) (eq-eqb (get_or taken i 0) rate q))

module _ (sums rates : List ℕ) where
  -- the needs at the rates below y
  pub record NeedsBelow (y : ℕ) (needs : List ℕ) : Type 0 where
    pub long : length needs ≡ most_nodes
    pub found : (i : ℕ) → i < most_nodes → get_or rates i 0 < y → get_or needs i 0 ≡ need_of sums (get_or rates i 0)

  -- none is below the least
  pub needs_none : (top : ℕ) (r : List ℕ) → NextRates rates 0 top r → NeedsBelow (get_or r 0 0) (replicate most_nodes 0)
  needs_none top r next =
      record { long = refl; found = λ i h l. absurd (omega (arith, (next.each 0 (omega arith)).least i h (omega arith))) }

  -- a rate from y on that is no more than the last of those taken is one of them
  pub needs_more : (old new : List ℕ) (y top : ℕ) (r : List ℕ) → NextRates rates y top r → NeedsBelow y old
      → new ≡ tab (λ i. chosen r (tab (λ k. need_of sums (get_or r k 0)) at_once) (get_or rates i 0) (get_or old i 0)) most_nodes
      → NeedsBelow (get_or r (at_once - 1) 0 + 1) new
  needs_more old new y top r next so given =
      record {
        long = ap length given ∙ length-tab _ most_nodes;
        found = λ i h l.
            ap (λ (x : List ℕ). get_or x i 0) given
            ∙ get_or-tab _ most_nodes i h
            ∙ chosen_is (need_of sums) r (get_or rates i 0) (get_or old i 0) next.long (λ none. so.found i h (earlier i h l none));
      }
    where
      earlier : (i : ℕ) → i < most_nodes → get_or rates i 0 < get_or r (at_once - 1) 0 + 1
          → ((k : ℕ) → k < at_once → get_or r k 0 ≡ get_or rates i 0 → ⊥) → get_or rates i 0 < y
      earlier i h l none = go (dec_lt (get_or rates i 0) y)
        where
          go : Dec (get_or rates i 0 < y) → get_or rates i 0 < y
          go (yes below_y) = below_y
          go (no ne) = absurd (omega (arith, beyond rates y top r next i h (omega arith) none (at_once - 1) (omega arith)))

  -- below a rate that is higher than any they are all
  pub needs_all : (needs : List ℕ) (y : ℕ) → ((i : ℕ) → i < most_nodes → get_or rates i 0 < y) → NeedsBelow y needs
      → needs ≡ needs_at sums rates
  needs_all needs y above so =
      tab_of_list needs most_nodes so.long
      ∙ tab_cong (λ i. get_or needs i 0) (λ i. need_of sums (get_or rates i 0)) most_nodes (λ i h. so.found i h (above i h))
