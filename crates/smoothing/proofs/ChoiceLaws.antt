-- Laws of the second least need, of what a node is asked for and of what it hands on.
use mathlib.Core.Path.{◌≡◌, refl, sym}
use mathlib.Core.Logic.{◌≢◌, ⊎_elim}
use mathlib.Core.Bool.{Bool, true, ◌&&◌}
use Prim.Native.Nat.{ℕ, zero, suc, ◌≤◌, ◌<◌, max, min}
use native.Mathlib.Omega.{arith}
use native.Mathlib.Decide.{ℕ_discrete}
use lib.Dec.{eqb, leb, ltb}
use borrow.Author.Tests.{ne_eqb, eqb-false, lt-ltb, ltb-true, le-leb}
use Rattle.base.specs.Range.{fold, two_least}
use Rattle.base.proofs.BoolLaws.{and_right, and_cong, lt_or_le, cond_both}
use Rattle.base.proofs.RangeLaws.{some-passes, least_over-below, least_over_attained}
use Rattle.base.proofs.CountLaws.{how_many-none, how_many-same, two_pass, pass_two, Pair, pair_up_to, up_to_pair, walk_second}
use Rattle.smoothing.specs.Tree.{Link, child, child_count, leaf}
use Rattle.smoothing.specs.Choice.{need_up_to, second_need, handed, ask_of, ask, chosen}
use Rattle.smoothing.proofs.BelowLaws.{child_parts, leaf-none}

module _ (n : ℕ) (parent need : ℕ → ℕ) where
  -- ---- the second least need of v's children is the least up to which two of them need

  module _ (v : ℕ) where
    abbrev looked_at : ℕ → Bool
    looked_at c = child parent v c && ltb 1 (need_up_to n parent need v (need c))

    pair_looked_at : (b c : ℕ) → Pair (child parent v) need n b c → looked_at c ≡ true
    pair_looked_at b c h =
        let two = up_to_pair (child parent v) need (need c) n b c h (omega arith) in
        rw (h.second_passes, lt-ltb 1 (need_up_to n parent need v (need c)) two) refl

    pub second_least : (x : ℕ) → 1 < need_up_to n parent need v x → second_need n parent need v ≤ x
    unfolding second_need
    second_least x h =
        let (b, c, pair, low) = pair_up_to (child parent v) need x n h in
        omega (arith, low, least_over-below looked_at need n c pair.second_in (pair_looked_at b c pair))

    pub second_is : 1 < child_count n parent v → 1 < need_up_to n parent need v (second_need n parent need v)
    unfolding second_need
    second_is h =
        let (i, j, l, r, q, u) = two_pass (child parent v) n h in
        let x = max (need i) (need j) in
        let both : 1 < need_up_to n parent need v x =
        pass_two (λ c. child parent v c && leb (need c) x) n i j (λ e. omega (arith, e)) (omega arith) r
        (rw (q, le-leb (need i) x (omega arith)) refl) (rw (u, le-leb (need j) x (omega arith)) refl) in
        let (b, c, pair, low) = pair_up_to (child parent v) need x n both in
        let (m, k, e, at) = least_over_attained looked_at need n (some-passes looked_at n c pair.second_in (pair_looked_at b c pair)) in
        rw at (ltb-true 1 (need_up_to n parent need v (need m)) (and_right (child parent v m) _ e))

    -- as a walk finds it that begins with x
    pub second_walk : (x : ℕ) → 1 < child_count n parent v
        → (fold (two_least need) (x, x) (child parent v) n).1 ≡ min x (second_need n parent need v)
    second_walk x h = walk_second (child parent v) need x n (second_need n parent need v) (second_is h) second_least

  -- ---- what is handed on

  pub handed-none : (v x : ℕ) → child_count n parent v ≡ 0 → handed n parent need v x ≡ 0
  unfolding handed
  handed-none v x e = rw e refl

  pub handed-leaf : (v x : ℕ) → leaf n parent v ≡ true → handed n parent need v x ≡ 0
  handed-leaf v x e = handed-none v x (how_many-none (child parent v) n (leaf-none n parent v e))

  pub handed_one : (v x : ℕ) → child_count n parent v ≡ 1 → handed n parent need v x ≡ x
  unfolding handed
  handed_one v x e = rw e refl

  pub handed_more : (v x : ℕ) → 1 < child_count n parent v → handed n parent need v x ≡ min x (second_need n parent need v)
  unfolding handed
  handed_more v x h =
      rw (ne_eqb (child_count n parent v) 0 (λ e. omega (arith, e)), ne_eqb (child_count n parent v) 1 (λ e. omega (arith, e))) refl

  -- never more than is asked for
  pub handed-under : (v x : ℕ) → handed n parent need v x ≤ x
  unfolding handed
  handed-under v x =
      cond_both (eqb (child_count n parent v) 0) (λ y. y ≤ x) _ _
      (λ e. omega arith)
      (λ e. cond_both (eqb (child_count n parent v) 1) (λ y. y ≤ x) _ _ (λ e. omega arith) (λ e. omega arith))

  -- ---- what is asked for

  pub ask_root : (v : ℕ) → parent v ≡ 0 → ask n parent need v ≡ need v
  unfolding ask ask_of
  ask_root v e = go v
    where
      go : (d : ℕ) → ask_of n parent need d v ≡ need v
      go zero = refl
      go (suc d) = rw e refl

  module _ (ordered : (v : ℕ) → Link n v → parent v < v) where
    -- as many steps as the node's number are enough
    enough : (d e v : ℕ) → v ≤ d → v ≤ e → Link n v → ask_of n parent need d v ≡ ask_of n parent need e v
    unfolding ask_of
    enough zero e v h l g = absurd (omega arith)
    enough (suc d) zero v h l g = absurd (omega arith)
    enough (suc d) (suc e) v h l g =
        let o = ordered v g in
        go (ℕ_discrete (parent v) 0) (λ ne. enough d e (parent v) (omega arith) (omega arith) (omega arith, omega arith))
      where
        go : Dec (parent v ≡ 0) → (parent v ≢ 0 → ask_of n parent need d (parent v) ≡ ask_of n parent need e (parent v))
            → ask_of n parent need (suc d) v ≡ ask_of n parent need (suc e) v
        go (yes i) up = rw i refl
        go (no ne) up = rw (ne_eqb (parent v) 0 ne, up ne) refl

    pub ask_next : (v : ℕ) → Link n v → parent v ≢ 0
        → ask n parent need v ≡ max (need v) (handed n parent need (parent v) (ask n parent need (parent v)))
    unfolding ask ask_of
    ask_next (suc v) h ne =
        let o = ordered (suc v) h in
        rw (ne_eqb (parent (suc v)) 0 ne, enough v (parent (suc v)) (parent (suc v)) (omega arith) (omega arith) (omega arith, omega arith)) refl
    ask_next zero h ne = absurd (omega arith)

    -- ---- no more than the greatest need

    ask-under : (x : ℕ) → ((v : ℕ) → Link n v → need v ≤ x) → (d v : ℕ) → Link n v → ask_of n parent need d v ≤ x
    unfolding ask_of
    ask-under x small zero v h = small v h
    ask-under x small (suc d) v h =
        let o = ordered v h in
        cond_both (eqb (parent v) 0) (λ y. y ≤ x) _ _ (λ e. small v h)
        (λ e.
        let ne : parent v ≢ 0 = eqb-false (parent v) 0 e in
        omega (
          arith,
          small v h,
          handed-under (parent v) (ask_of n parent need d (parent v)),
          ask-under x small d (parent v) (omega arith, omega arith),
        ))

    pub chosen-under : (x : ℕ) → ((v : ℕ) → Link n v → need v ≤ x) → (v : ℕ) → Link n v → chosen n parent need v ≤ x
    unfolding chosen ask
    chosen-under x small v h = omega (arith, ask-under x small v v h)

-- ---- the choice depends on the needs of the links alone

module _ (n : ℕ) (parent f g : ℕ → ℕ) (same : (v : ℕ) → Link n v → f v ≡ g v) where
  up_to-same : (v x : ℕ) → need_up_to n parent f v x ≡ need_up_to n parent g v x
  up_to-same v x =
      how_many-same (λ c. child parent v c && leb (f c) x) (λ c. child parent v c && leb (g c) x) n
      (λ c l. and_cong (child parent v c) (λ q. rw (same c ((child_parts n parent c v q).0, l)) refl))

  second_under : (v : ℕ) → 1 < child_count n parent v → second_need n parent f v ≤ second_need n parent g v
  second_under v h =
      let x = second_need n parent g v in
      second_least n parent f v x (rw (up_to-same v x) (second_is n parent g v h))

module _ (n : ℕ) (parent f g : ℕ → ℕ) (ordered : (v : ℕ) → Link n v → parent v < v) (same : (v : ℕ) → Link n v → f v ≡ g v) where
  handed-same : (v x : ℕ) → handed n parent f v x ≡ handed n parent g v x
  unfolding handed
  handed-same v x =
      ⊎_elim
      (λ (many : 1 < child_count n parent v).
      let seconds : second_need n parent f v ≡ second_need n parent g v =
      omega (arith, second_under n parent f g same v many, second_under n parent g f (λ u h. sym (same u h)) v many) in
      rw seconds refl)
      (λ (few : child_count n parent v ≤ 1).
      ⊎_elim
      (λ (one : 0 < child_count n parent v). let e : child_count n parent v ≡ 1 = omega arith in rw e refl)
      (λ (none : child_count n parent v ≤ 0). let e : child_count n parent v ≡ 0 = omega arith in rw e refl)
      (lt_or_le 0 (child_count n parent v)))
      (lt_or_le 1 (child_count n parent v))

  ask-same : (d v : ℕ) → Link n v → ask_of n parent f d v ≡ ask_of n parent g d v
  unfolding ask_of
  ask-same zero v h = same v h
  ask-same (suc d) v h =
      let o = ordered v h in
      go (ℕ_discrete (parent v) 0) (λ ne. ask-same d (parent v) (omega arith, omega arith))
    where
      go : Dec (parent v ≡ 0) → (parent v ≢ 0 → ask_of n parent f d (parent v) ≡ ask_of n parent g d (parent v))
          → ask_of n parent f (suc d) v ≡ ask_of n parent g (suc d) v
      go (yes e) up = rw e (same v h)
      go (no ne) up =
          rw (ne_eqb (parent v) 0 ne, up ne, same v h, handed-same (parent v) (ask_of n parent g d (parent v))) refl

  pub chosen-same : (v : ℕ) → Link n v → chosen n parent f v ≡ chosen n parent g v
  unfolding chosen ask
  chosen-same v h = rw (ask-same v v h, handed-same v (ask_of n parent g v v)) refl
