-- What serves at a rate: slot by slot, and by the least delay in time and the memory with it.
use mathlib.Core.Bool.{true}
use mathlib.Core.Path.{◌≡◌, refl}
use mathlib.Core.Logic.{⊎_elim}
use Prim.Native.Nat.{ℕ, zero, suc, ◌+◌, ◌-◌, ◌≤◌, ◌<◌}
use native.Mathlib.Omega.{arith}
use Rattle.base.specs.Range.{some}
use Rattle.base.proofs.BoolLaws.{not_both, lt_or_le}
use Rattle.base.proofs.RangeLaws.{greatest_over-above, greatest_over-under}
use Rattle.job.specs.Limits.{longest_delay}
use Rattle.job.specs.Tree.{JobData, link, child, has_child, leaf, T, greatest_delay, H}
use Rattle.job.proofs.SlotLaws.{T-zero, T_le, T_top}
use Rattle.job.proofs.TreeLaws.{child_in, leaf_in}
use Rattle.smoothing.proofs.RowLaws.{greatest_excess-above, greatest_excess-least}
use Rattle.curves.specs.Curves.{D}
use Rattle.pacing.specs.Pace.{in_time, delay_at}
use Rattle.pacing.proofs.DelayLaws.{in_time_each, each_in_time, delay-least, delay_in_time}
use Rattle.radio.specs.Radio.{carried, one_screen, ServesAt, Least, memory_at}
use Rattle.radio.proofs.CarryLaws.{carried-grows}

module _ (j : JobData) (R d b : ℕ) where
  abbrev screen : JobData
  screen = one_screen j R d b

  -- ---- the job of one screen: node 1 is its only leaf, and no node but the root has a child

  leaf_one : leaf screen.tree 1 ≡ true
  unfolding leaf has_child child link some
  leaf_one = refl

  leaf_is_one : (i : ℕ) → leaf screen.tree i ≡ true → i ≡ 1
  unfolding leaf has_child child link some
  leaf_is_one zero e = absurd (not_both e refl)
  leaf_is_one (suc zero) e = refl
  leaf_is_one (suc (suc i)) e = absurd (omega (arith, leaf_in screen.tree (suc (suc i)) e))

  slots : H screen ≡ j.M + d
  unfolding H greatest_delay
  slots =
      omega (
        arith,
        greatest_over-above (leaf screen.tree) (λ i. d) 2 1 (omega arith) leaf_one,
        greatest_over-under (leaf screen.tree) (λ i. d) 2 d (λ i h e. omega arith),
      )

  plays : (k : ℕ) → D screen.tree (T screen) 1 k ≡ T j (k - d)
  unfolding D T
  plays k = rw leaf_one refl

  -- ---- what serves, slot by slot

  pub serves-each : ServesAt j R d b → (k : ℕ) → k ≤ j.M + d
      → (T j (k - d) ≤ carried (T j j.M) R k) × (carried (T j j.M) R k ≤ T j (k - d) + b)
  serves-each keeps k h = rw (plays k) at (keeps.p2 k (omega (arith, slots)) 1 leaf_one)

  pub each-serves : ((k : ℕ) → k ≤ j.M + d → (T j (k - d) ≤ carried (T j j.M) R k) × (carried (T j j.M) R k ≤ T j (k - d) + b))
      → ServesAt j R d b
  unfolding T
  each-serves each =
      record {
        starts = λ i h. omega arith;
        p1 = λ k h i l. (carried-grows (T j j.M) R k (suc k) (omega arith), omega arith);
        p2 = λ k h i e. rw (leaf_is_one i e) (rw (plays k) (each k (omega (arith, slots))));
        p3 = λ k h i c p e. let (a, l, up) = child_in screen.tree c i e in absurd (omega arith);
      }

  -- ---- its delay is in time

  pub serves_in_time : ServesAt j R d b → in_time R j.M (T j) d ≡ true
  serves_in_time serves =
      each_in_time R j.M (T j) d
      (λ m l.
      let back : m + d - d ≡ m = omega arith in
      omega (arith, rw back at (serves-each serves (m + d) (omega arith)).0))

-- ---- the least delay and the memory with it

module _ (j : JobData) (R : ℕ) where
  -- with a delay that is in time, the memory of the definition serves
  in_time_serves : (d : ℕ) → in_time R j.M (T j) d ≡ true → ServesAt j R d (memory_at j.M (T j) R d)
  unfolding memory_at
  in_time_serves d e =
      each-serves j R d (memory_at j.M (T j) R d)
      (λ k h. (
        ⊎_elim
            (λ (l : k < d). let none : k - d ≡ 0 = omega arith in rw none (omega (arith, T-zero j)))
            (λ (l : d ≤ k).
            let back : k - d + d ≡ k = omega arith in
            omega (arith, T_top j (k - d), rw back at (in_time_each R j.M (T j) d e (k - d) (omega arith))))
            (lt_or_le k d),
        greatest_excess-above (j.M + d) (carried (T j j.M) R) (λ x. T j (x - d)) k h,
      ))

  -- with a longer delay less is played by each slot, so no memory does with less
  memory-least : (d d' b' : ℕ) → d ≤ d' → ServesAt j R d' b' → memory_at j.M (T j) R d ≤ b'
  unfolding memory_at
  memory-least d d' b' h serves =
      greatest_excess-least (j.M + d) (carried (T j j.M) R) (λ k. T j (k - d)) b'
      (λ k l. omega (arith, (serves-each j R d' b' serves k (omega arith)).1, T_le j (k - d') (k - d) (omega arith)))

  pub least : (d : ℕ) → d ≡ delay_at R j.M (T j) → d ≤ longest_delay → Least j R d (memory_at j.M (T j) R d)
  least d e h =
      let shortest : (d' b' : ℕ) → ServesAt j R d' b' → d ≤ d' =
      λ d' b' serves. omega (arith, delay-least R j.M (T j) d' (serves_in_time j R d' b' serves)) in
      record {
        serves = in_time_serves d (rw e (delay_in_time R j.M (T j) (omega arith)));
        least-delay = shortest;
        least_memory = λ d' b' serves. memory-least d d' b' (shortest d' b' serves) serves;
      }

  pub none-serves : longest_delay < delay_at R j.M (T j) → (d' b' : ℕ) → d' ≤ longest_delay → ServesAt j R d' b' → ⊥
  none-serves past d' b' h serves = omega (arith, delay-least R j.M (T j) d' (serves_in_time j R d' b' serves))
