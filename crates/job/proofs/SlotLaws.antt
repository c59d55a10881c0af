-- Laws of frames and slots: T, H and the length of a plan, of any job within the limits.
use mathlib.Core.Bool.{true}
use mathlib.Core.Path.{◌≡◌, refl, ◌∙◌}
use mathlib.Core.Logic.{⊎_elim}
use Prim.Native.Nat.{ℕ, suc, ◌+◌, ◌-◌, ◌*◌, ◌≤◌, ◌<◌, min}
use native.Mathlib.Nat.{mul-le-mul, mul-le-mul_right, le_trans}
use native.Mathlib.Omega.{arith}
use Rattle.base.specs.Range.{sum, greatest_over}
use Rattle.base.specs.Set.{has, word_bits}
use Rattle.base.proofs.BoolLaws.{not_both, lt_or_le}
use Rattle.base.proofs.RangeLaws.{sum_le, sum_bound, fold_cong, fold_skip, greatest_over-under, greatest_over-above}
use Rattle.job.specs.Limits.{most_nodes, most_frames, longest_delay, greatest_memory, greatest_frame, greatest_total}
use Rattle.job.specs.Tree.{Tree, JobData, TreeWithin, JobWithin, link, leaf, T, greatest_delay, H, plan_length}
use Rattle.job.proofs.TreeLaws.{link_is, leaf_in, leaf_past, leaf_childless, root_has-child}

-- ---- T

-- T(0) = 0
pub T-zero : (j : JobData) → T j 0 ≡ 0
unfolding T sum
T-zero j = let e : min 0 j.M ≡ 0 = omega arith in rw e refl

-- one frame more
pub T-suc : (j : JobData) (m : ℕ) → m < j.M → T j (m + 1) ≡ T j m + j.frame m
unfolding T sum
T-suc j m h =
    let e : min (m + 1) j.M ≡ suc m = omega arith in
    let d : min m j.M ≡ m = omega arith in
    rw (e, d) refl

-- T(m) = T(M) for m above M
pub T_past : (j : JobData) (m : ℕ) → j.M ≤ m → T j m ≡ T j j.M
unfolding T
T_past j m h =
    let e : min m j.M ≡ j.M = omega arith in
    let d : min j.M j.M ≡ j.M = omega arith in
    rw (e, d) refl

-- T never falls
pub T_le : (j : JobData) (m k : ℕ) → m ≤ k → T j m ≤ T j k
unfolding T
T_le j m k h = sum_le j.frame (min m j.M) (min k j.M) (omega arith)

-- T is at most T(M)
pub T_top : (j : JobData) (m : ℕ) → T j m ≤ T j j.M
unfolding T
T_top j m = sum_le j.frame (min m j.M) (min j.M j.M) (omega arith)

-- T is at most M times the greatest frame: the law from which every range of sums follows
pub T_bound : (j : JobData) → JobWithin j → (m : ℕ) → T j m ≤ j.M * greatest_frame
unfolding T
T_bound j w m =
    le_trans (sum_bound j.frame greatest_frame (min m j.M) (λ i q. w.frames i (omega arith)))
    (mul-le-mul_right greatest_frame (omega arith))

-- the same as one number, for machine words
pub T-fits : (j : JobData) → JobWithin j → (m : ℕ) → T j m ≤ greatest_total
T-fits j w m = le_trans (T_bound j w m) (mul-le-mul_right greatest_frame w.frames_to)

-- a whole film is no more than a memory or a rate may be
pub total_in_memory : greatest_total ≤ greatest_memory
total_in_memory = omega arith

-- ---- H and the length of a plan

-- a leaf is a link: the root of a tree within the limits has a child
pub leaf-link : (t : Tree) → TreeWithin t → (i : ℕ) → leaf t i ≡ true → link t.n i ≡ true
leaf-link t w i h =
    ⊎_elim
    (λ (p : 0 < i). link_is t.n i p (leaf_in t i h))
    (λ (p : i ≤ 0).
    let e : i ≡ 0 = omega arith in
    absurd (not_both (root_has-child t w) (rw e at (leaf_childless t i h))))
    (lt_or_le 0 i)

pub greatest_delay_le : (t : Tree) → TreeWithin t → greatest_delay t ≤ longest_delay
unfolding greatest_delay
greatest_delay_le t w = greatest_over-under (leaf t) t.delay t.n longest_delay (λ i q h. w.leaf_delays i (leaf-link t w i h) h)

-- no leaf's delay is above the greatest
pub delay_le : (t : Tree) (i : ℕ) → leaf t i ≡ true → t.delay i ≤ greatest_delay t
unfolding greatest_delay
delay_le t i h = greatest_over-above (leaf t) t.delay t.n i (leaf_in t i h) h

-- the greatest delay as a walk over the set of leaves finds it
pub greatest_delay-set : (t : Tree) (set : ℕ) → t.n ≤ word_bits → ((k : ℕ) → has set k ≡ leaf t k)
    → greatest_over (has set) t.delay word_bits ≡ greatest_delay t
unfolding greatest_delay
greatest_delay-set t set h e =
    fold_cong _ 0 (has set) (leaf t) word_bits (λ i q. e i) ∙ fold_skip _ 0 (leaf t) t.n word_bits h (λ i p q. leaf_past t i p)

pub H-fits : (j : JobData) → TreeWithin j.tree → j.M ≤ most_frames → H j ≤ most_frames + longest_delay
unfolding H
H-fits j w h = omega (arith, greatest_delay_le j.tree w)

pub plan_length-fits : (j : JobData) → TreeWithin j.tree → j.M ≤ most_frames → plan_length j ≤ (most_nodes - 1) * (most_frames + longest_delay + 1)
unfolding plan_length
plan_length-fits j w h =
    mul-le-mul {n₁ = j.tree.n - 1} {n₂ = most_nodes - 1} {m₂ = most_frames + longest_delay + 1} (omega (arith, w.nodes_to)) (omega (arith, H-fits j w h))
