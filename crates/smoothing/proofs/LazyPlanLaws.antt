-- The lazy rows of a closed family L, each at the rate q of its link, closed at every slot: S = lazy_plan T H q L.
-- S is the least closed family above L that rises on each link by at most the link's rate.
use Prim.Native.Nat.{ℕ, suc, ◌+◌, ◌≤◌, ◌<◌, max}
use native.Mathlib.Omega.{arith}
use native.Mathlib.Decide.{dec_le}
use Rattle.smoothing.specs.Tree.{Tree, Link, Ordered, Closed, AtMost}
use Rattle.smoothing.specs.Row.{lazy}
use Rattle.smoothing.specs.Plan.{lazy_plan, LeastRising}
use Rattle.smoothing.proofs.ClosedLaws.{close-least-above, close_monotone, closed-max, closed_plus}
use Rattle.smoothing.proofs.LazyLaws.{lazy-above, lazy-rises, lazy-grows, lazy_faster, lazy-least, lazy_near}

-- at one rate for all links, the lazy rows of a closed family are closed
lazy-closed : (T : Tree) (H q : ℕ) (L : ℕ → ℕ → ℕ) → ((k : ℕ) → k ≤ H → Closed T (λ v. L v k))
    → (k : ℕ) → k ≤ H → Closed T (λ v. lazy H q (L v) k)
lazy-closed T H q L closed k r v h ne =
    lazy_near H q (L v) (L (T.parent v)) (T.b (T.parent v)) (λ i l. closed i l v h ne) k r

module _ (T : Tree) (ordered : Ordered T) (H : ℕ) (q : ℕ → ℕ) (L : ℕ → ℕ → ℕ) where
  abbrev S : ℕ → ℕ → ℕ
  S = lazy_plan T H q L

  S_closed : (k : ℕ) → Closed T (λ v. S v k)
  unfolding lazy_plan
  S_closed k = (close-least-above T ordered (λ w. lazy H (q w) (L w) k)).closed

  S_above-lazy : (k : ℕ) → AtMost T (λ v. lazy H (q v) (L v) k) (λ v. S v k)
  unfolding lazy_plan
  S_above-lazy k = (close-least-above T ordered (λ w. lazy H (q w) (L w) k)).above

  -- S stays under any closed family that the lazy rows stay under
  pub lazy_plan-under : (k : ℕ) (Y : ℕ → ℕ) → Closed T Y → AtMost T (λ v. lazy H (q v) (L v) k) Y → AtMost T (λ v. lazy_plan T H q L v k) Y
  unfolding lazy_plan
  lazy_plan-under k = (close-least-above T ordered (λ w. lazy H (q w) (L w) k)).least

  S_grows : ((v : ℕ) → Link T.n v → (k : ℕ) → k < H → L v k ≤ L v (suc k))
      → (v : ℕ) → Link T.n v → (k : ℕ) → k < H → S v k ≤ S v (suc k)
  unfolding lazy_plan
  S_grows grows v h k r =
      close_monotone T ordered (λ w. lazy H (q w) (L w) k) (λ w. lazy H (q w) (L w) (suc k))
      (λ w g. lazy-grows H (q w) (L w) (grows w g) k r) v h

  -- The rise on link v is at most q v, though the rates of the other links differ. What bounds S at the next slot is the family of the
  -- larger of S at slot k with q v more, and the lazy rows at the one rate q v: the first is above the slower rows, the second above the faster.
  S_rises : ((k : ℕ) → k ≤ H → Closed T (λ v. L v k)) → (v : ℕ) → Link T.n v → (k : ℕ) → k < H → S v (suc k) ≤ S v k + q v
  S_rises closed v h k r =
      let plus : ℕ → ℕ = λ w. S w k + q v in
      let same : ℕ → ℕ = λ w. lazy H (q v) (L w) (suc k) in
      let bound : S v (suc k) ≤ max (plus v) (same v) =
      lazy_plan-under (suc k) (λ w. max (plus w) (same w))
      (closed-max T plus same (closed_plus T (λ w. S w k) (q v) (S_closed k)) (lazy-closed T H (q v) L closed (suc k) r))
      (λ w g. each w g (dec_le (q w) (q v))) v h in
      omega (arith, bound, lazy-rises H (q v) (L v) k r, S_above-lazy k v h)
    where
      each : (w : ℕ) → Link T.n w → Dec (q w ≤ q v) → lazy H (q w) (L w) (suc k) ≤ max (S w k + q v) (lazy H (q v) (L w) (suc k))
      each w g (yes slower) = omega (arith, lazy-rises H (q w) (L w) k r, S_above-lazy k w g)
      each w g (no faster) = omega (arith, lazy_faster H (q v) (q w) (L w) (omega arith) (suc k) r)

  -- of a closed family that never falls, S is the least rising family
  pub lazy_plan-least-rising : ((k : ℕ) → k ≤ H → Closed T (λ v. L v k))
      → ((v : ℕ) → Link T.n v → (k : ℕ) → k < H → L v k ≤ L v (suc k))
      → LeastRising T H q L (lazy_plan T H q L)
  lazy_plan-least-rising closed grows = record {
    closed = λ k r. S_closed k;
    grows = S_grows grows;
    above = λ v h k r. omega (arith, lazy-above H (q v) (L v) k r, S_above-lazy k v h);
    rises = S_rises closed;
    least = λ S' closed' above' rises' v h k r.
        lazy_plan-under k (λ w. S' w k) (closed' k r)
        (λ w g. lazy-least H (q w) (L w) (S' w) k r (λ i p l. above' w g i l) (λ i p l. rises' w g i l)) v h;
  }
