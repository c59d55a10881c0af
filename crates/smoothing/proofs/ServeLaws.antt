-- Memories that cover the needs serve, wherever the links are fast enough for the delay.
use mathlib.Core.Path.{◌≡◌, refl, sym, ap, ◌∙◌}
use mathlib.Core.Logic.{⊎_elim}
use mathlib.Core.Bool.{Bool, true, ◌&&◌}
use Prim.Native.Nat.{ℕ, zero, suc, ◌+◌, ◌-◌, ◌*◌, ◌≤◌, ◌<◌}
use native.Mathlib.Omega.{arith}
use native.Mathlib.Decide.{dec_le}
use lib.Dec.{eqb, ltb}
use borrow.Author.Tests.{lt-ltb, ltb-true, eqb-true}
use Rattle.base.specs.Range.{least_over}
use Rattle.base.proofs.BoolLaws.{true_or_false, and_left, and_right, or_cases, cond_both}
use Rattle.base.proofs.RangeLaws.{some-passes, least_over-below, least_over_attained}
use Rattle.smoothing.specs.Tree.{Link, Closed, AtMost, leaf, within, least_way}
use Rattle.smoothing.specs.Row.{lazy}
use Rattle.smoothing.specs.Plan.{WellFormed, LeastRising, lazy_plan}
use Rattle.smoothing.specs.Rates.{RateQuestion, WellFormedRates, tree_with, D, problem_with, high_with, Serves, FastEnough, floor_rate, need, Covers}
use Rattle.smoothing.proofs.ClosedLaws.{closed_constant}
use Rattle.smoothing.proofs.RowLaws.{grow_over, peak-least}
use Rattle.smoothing.proofs.LazyLaws.{lazy-least}
use Rattle.smoothing.proofs.LazyPlanLaws.{lazy_plan-under, lazy_plan-least-rising}
use Rattle.smoothing.proofs.BelowLaws.{within_self, within_positive, within_next, within-child, within_induct}
use Rattle.smoothing.proofs.WayLaws.{way_leaf, way_child}
use Rattle.smoothing.proofs.NeedLaws.{floor_rate_own, floor_rate_attained, D-grows, need-above, need-parent}

module _ (Q : RateQuestion) (w : ℕ) (good : WellFormedRates Q) where
  open Q use {n, parent, r, M, T}
  open good use {ordered, starts, grows}

  -- the rules with a delay and memories are a well-formed problem
  pub problem_with_well_formed : (b : ℕ → ℕ) → WellFormed (problem_with Q w b)
  problem_with_well_formed b = record {
    ordered = ordered;
    low_starts = λ v h.
        let e : D Q w 0 ≡ 0 = ap T (omega arith) ∙ starts in
        cond_both (leaf n parent v) (λ x. x ≡ 0) _ _ (λ l. e) (λ l. refl);
    low_grows = λ v h k r.
        ⊎_elim (λ e. rw e (D-grows Q good w k r)) (λ e. rw e (omega arith)) (true_or_false (leaf n parent v));
    high_starts = λ v h. refl;
  }

  D_ends : (k : ℕ) → k ≤ M + w → D Q w k ≤ T M
  D_ends k h = grow_over M T grows (k - w) M (omega arith) (omega arith)

  -- a node needs no more than one that it is at or below
  need-within : (u v : ℕ) → Link n u → v < n → within parent u v ≡ true → need Q w v ≤ need Q w u
  need-within u v h =
      within_induct n parent ordered u h (λ x. need Q w x ≤ need Q w u) (omega arith)
      (λ x g i ih. omega (arith, ih, need-parent Q good w x g (omega (arith, within_positive n parent ordered u h (parent x) i)))) v

  module _ (b : ℕ → ℕ) (covers : Covers Q w b) where
    -- ---- the room over what is played

    -- u is v or above it, and not the root
    abbrev above : ℕ → ℕ → Bool
    above v u = ltb 0 u && within parent u v

    -- the least way down from v or from a node above it
    room : ℕ → ℕ
    room v = least_over (above v) (least_way n parent b) n

    room-under : (u v : ℕ) → Link n u → within parent u v ≡ true → room v ≤ least_way n parent b u
    unfolding room
    room-under u v h e = least_over-below (above v) (least_way n parent b) n u h.1 (rw (lt-ltb 0 u h.0, e) refl)

    room_is : (v : ℕ) → Link n v → (u : ℕ) × Link n u × (within parent u v ≡ true) × (room v ≡ least_way n parent b u)
    unfolding room
    room_is v h =
        let self : above v v ≡ true = rw (lt-ltb 0 v h.0, within_self n parent ordered v h) refl in
        let (u, l, e, q) = least_over_attained (above v) (least_way n parent b) n (some-passes (above v) n v h.1 self) in
        (u, (ltb-true 0 u (and_left (ltb 0 u) _ e), l), and_right (ltb 0 u) _ e, q)

    room_needed : (v : ℕ) → Link n v → need Q w v ≤ room v
    room_needed v h = let (u, g, e, q) = room_is v h in omega (arith, q, covers u g, need-within u v g h.1 e)

    -- what is played and the room make a closed family
    room-closed : (k : ℕ) → Closed (tree_with Q b) (λ v. D Q w k + room v)
    room-closed k v h ne =
        let o = ordered v h in
        let u = parent v in
        let g : Link n u = (omega arith, omega arith) in
        let (x, i, e, q) = room_is u g in
        let (y, j, f, s) = room_is v h in
        let rest : room u ≤ room v + b u =
        ⊎_elim
        (λ (own : eqb v y ≡ true).
        let same : v ≡ y = eqb-true v y own in
        omega (
          arith,
          room-under u u g (within_self n parent ordered u g),
          way_child n parent ordered b v h,
          s,
          ap (least_way n parent b) same,
        ))
        (λ (up : within parent y u ≡ true). omega (arith, room-under y u j up, s))
        (or_cases (eqb v y) (within parent y u) (sym (within_next n parent ordered y v h) ∙ f)) in
        omega (arith, rest, room-under x v i (within-child n parent ordered x v h e), q)

    -- ---- the plan

    sent : ℕ → ℕ → ℕ
    sent = lazy_plan (tree_with Q b) (M + w) (floor_rate Q) (λ v k. D Q w k)

    sent_rising : LeastRising (tree_with Q b) (M + w) (floor_rate Q) (λ v k. D Q w k) sent
    unfolding sent
    sent_rising =
        lazy_plan-least-rising (tree_with Q b) ordered (M + w) (floor_rate Q) (λ v k. D Q w k)
        (λ k l. closed_constant (tree_with Q b) (D Q w k)) (λ v h. D-grows Q good w)

    sent_under : (k : ℕ) (Y : ℕ → ℕ) → Closed (tree_with Q b) Y
        → AtMost (tree_with Q b) (λ v. lazy (M + w) (floor_rate Q v) (D Q w) k) Y
        → AtMost (tree_with Q b) (λ v. sent v k) Y
    unfolding sent
    sent_under = lazy_plan-under (tree_with Q b) ordered (M + w) (floor_rate Q) (λ v k. D Q w k)

    sent_held : (v : ℕ) → Link n v → (k : ℕ) → k ≤ M + w → sent v k ≤ D Q w k + room v
    sent_held v h k l =
        sent_under k (λ x. D Q w k + room x) (room-closed k) (λ x g. omega (arith, need-above Q good w x k l, room_needed x g)) v h

    sent_ends : (v : ℕ) → Link n v → (k : ℕ) → k ≤ M + w → sent v k ≤ T M
    sent_ends v h k l =
        sent_under k (λ x. T M) (closed_constant (tree_with Q b) (T M))
        (λ x g. lazy-least (M + w) (floor_rate Q x) (D Q w) (λ i. T M) k l (λ i p j. D_ends i j) (λ i p j. omega arith)) v h

    -- a leaf's way is its memory
    leaf-held : (v : ℕ) → Link n v → leaf n parent v ≡ true → room v ≤ b v
    leaf-held v h e = omega (arith, room-under v v h (within_self n parent ordered v h), way_leaf n parent ordered b v h.1 e)

    module _ (fast : FastEnough Q w) where
      -- at the floor rate too a link can carry in time what the leaves play
      D_floor : (v : ℕ) → Link n v → (k : ℕ) → k ≤ M + w → D Q w k ≤ floor_rate Q v * k
      D_floor v h k l = go (dec_le k w)
        where
          go : Dec (k ≤ w) → T (k - w) ≤ floor_rate Q v * k
          go (yes e) = let z : k - w ≡ 0 = omega arith in rw z (omega (arith, starts))
          go (no e) =
              let low = floor_rate_attained Q good v h in
              let z : k - w + w ≡ k = omega arith in
              rw low.3 (rw z at (fast low.0 (within_positive n parent ordered v h low.0 low.2, low.1) (k - w) (omega arith)))

      sent_starts : (v : ℕ) → Link n v → sent v 0 ≤ 0
      sent_starts v h =
          sent_under 0 (λ x. 0) (closed_constant (tree_with Q b) 0)
          (λ x g. omega (
            arith,
            lazy-least (M + w) (floor_rate Q x) (D Q w) (λ k. floor_rate Q x * k) 0 (omega arith)
                (λ i p l. D_floor x g i l) (λ i p l. omega arith),
          )) v h

      sent_high : (v : ℕ) → Link n v → (k : ℕ) → k ≤ M + w → sent v k ≤ high_with Q w b v k
      sent_high v h zero l = sent_starts v h
      sent_high v h (suc k) l =
          cond_both (leaf n parent v) (λ x. sent v (suc k) ≤ x) _ _
          (λ e. omega (arith, sent_held v h (suc k) l, leaf-held v h e, sent_ends v h (suc k) l))
          (λ e. sent_ends v h (suc k) l)

      pub covers_serves : Serves Q w b
      covers_serves = (
        sent,
        record {
          keeps = record {
            starts = λ v h. omega (arith, sent_starts v h);
            grows = sent_rising.grows;
            above_low = λ v h k l.
                cond_both (leaf n parent v) (λ x. x ≤ sent v k) _ _ (λ e. sent_rising.above v h k l) (λ e. omega arith);
            below_high = sent_high;
            closed = sent_rising.closed;
          };
          within_rate = λ v h. peak-least (M + w) (sent v) (r v) (λ k l. omega (arith, sent_rising.rises v h k l, floor_rate_own Q good v h));
        },
      )
