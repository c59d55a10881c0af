-- Small trees, worked out by computation.
use mathlib.Core.Path.{◌≡◌, refl}
use mathlib.Core.List.{List, [], ◌∷◌}
use mathlib.Core.Bool.{cond}
use Prim.Native.Nat.{ℕ, zero, suc, ◌+◌, ◌-◌, ◌*◌, ◌≤◌, ◌<◌, min}
use native.Mathlib.Omega.{arith}
use native.Mathlib.Nat.{mul-le-mul_right}
use lib.ListN.{length, get_or}
use Rattle.base.specs.Table.{tab}
use Rattle.base.specs.Range.{sum_over, some, how_many, greatest, least_over}
use Rattle.smoothing.specs.Tree.{Tree, Link, Closed, put, unless_root, turn_up, turn_down, pass_up, pass_down, close, «open», leaf, met_up, within, total}
use Rattle.smoothing.specs.Row.{peak, greatest_excess, ceil_div, least_peak, lazy_before, lazy}
use Rattle.smoothing.specs.Plan.{Problem, KeepsRates, lower, upper, link_peak, lazy_plan, plan}
use Rattle.smoothing.specs.Choice.{second_need, handed, ask_of, ask, chosen}
use Rattle.smoothing.specs.Rates.{RateQuestion, WellFormedRates, FastEnough, problem_with, Serves, LeastMemories, floor_rate, need, memory}
use Rattle.smoothing.specs.Newton.{look, pass, next_peak, newton, passes_made}
use Rattle.smoothing.proofs.LeastMemoryLaws.{serves_fast, memory-least, served_plan}

-- node v's entry of a list that begins with the root's
abbrev entry : List ℕ → ℕ → ℕ
entry l v = get_or l v 0

-- document 01's memory question: parents, memories and delays of the nodes, the sums T 0, .., T M of the frames, and the last slot H
module _ (parents memories delays sums : List ℕ) (M H : ℕ) where
  -- what leaf v plays by slot k
  abbrev plays : ℕ → ℕ → ℕ
  plays v k = entry sums (min (k - entry delays v) M)

  abbrev most : ℕ → ℕ → ℕ
  most v zero = 0
  most v (suc k) = cond (leaf (length parents) (entry parents) v) (min (plays v (suc k) + entry memories v) (entry sums M)) (entry sums M)

  abbrev problem : Problem
  problem = record {
    tree = record { n = length parents; parent = entry parents; b = entry memories };
    H = H;
    low = λ v k. cond (leaf (length parents) (entry parents) v) (plays v k) 0;
    high = most;
  }

-- ---- close and open at one slot: node 1 under the root, nodes 2 and 3 under node 1, with a memory of 4 at node 1

abbrev small : Tree
small = record { n = 4; parent = entry (0 ∷ 0 ∷ 1 ∷ 1 ∷ []); b = entry (0 ∷ 4 ∷ 0 ∷ 0 ∷ []) }

-- the parent takes 14 from node 2, and node 3 then takes 14 less the memory
close-small : tab (close small (entry (0 ∷ 0 ∷ 14 ∷ 4 ∷ []))) 4 ≡ 0 ∷ 14 ∷ 14 ∷ 10 ∷ []
unfolding close pass_up pass_down turn_up turn_down unless_root put tab
close-small = refl

-- the parent may have no more than node 3 and the memory, and node 2 no more than the parent
open_small : tab («open» small (entry (0 ∷ 15 ∷ 15 ∷ 9 ∷ []))) 4 ≡ 0 ∷ 13 ∷ 13 ∷ 9 ∷ []
unfolding «open» pass_up pass_down turn_up turn_down unless_root put tab
open_small = refl

-- ---- rounding up: one leaf under the root, memory 3, frames 0 and 3; 3 in two slots needs a peak of 2

abbrev one_leaf_lem : Problem
one_leaf_lem = problem (0 ∷ 0 ∷ []) (0 ∷ 3 ∷ []) (0 ∷ 0 ∷ []) (0 ∷ 0 ∷ 3 ∷ []) 2 2

one_leaf-plan : link_peak one_leaf_lem 1 ∷ tab (plan one_leaf_lem 1) 3 ≡ 2 ∷ 0 ∷ 1 ∷ 3 ∷ []
unfolding plan lazy_plan link_peak lower upper close «open» pass_up pass_down turn_up turn_down unless_root put some least_peak ceil_div greatest lazy lazy_before tab
one_leaf-plan = refl

-- ---- the lazy rows alone break P3, and close mends it: node 1 under the root, leaf 2 under node 1, memories 1 and 1,
-- frames 3 and 3, leaf 2 one slot late

abbrev chain : Problem
chain = problem (0 ∷ 0 ∷ 1 ∷ []) (0 ∷ 1 ∷ 1 ∷ []) (0 ∷ 0 ∷ 1 ∷ []) (0 ∷ 3 ∷ 6 ∷ []) 2 3

chain_lower : tab (lower chain 1) 4 ∷ tab (lower chain 2) 4 ∷ [] ≡ (0 ∷ 0 ∷ 3 ∷ 6 ∷ []) ∷ (0 ∷ 0 ∷ 3 ∷ 6 ∷ []) ∷ []
unfolding lower close pass_up pass_down turn_up turn_down unless_root put some tab
chain_lower = refl

chain_upper : tab (upper chain 1) 4 ∷ tab (upper chain 2) 4 ∷ [] ≡ (0 ∷ 2 ∷ 5 ∷ 6 ∷ []) ∷ (0 ∷ 1 ∷ 4 ∷ 6 ∷ []) ∷ []
unfolding upper «open» pass_up pass_down turn_up turn_down unless_root put some tab
chain_upper = refl

chain_peaks : link_peak chain 1 ∷ link_peak chain 2 ∷ [] ≡ 2 ∷ 3 ∷ []
unfolding link_peak lower upper close «open» pass_up pass_down turn_up turn_down unless_root put some least_peak ceil_div greatest
chain_peaks = refl

chain_lazy : tab (lazy 3 (link_peak chain 1) (lower chain 1)) 4 ∷ tab (lazy 3 (link_peak chain 2) (lower chain 2)) 4 ∷ []
    ≡ (0 ∷ 2 ∷ 4 ∷ 6 ∷ []) ∷ (0 ∷ 0 ∷ 3 ∷ 6 ∷ []) ∷ []
unfolding link_peak lower upper close «open» pass_up pass_down turn_up turn_down unless_root put some least_peak ceil_div greatest lazy lazy_before tab
chain_lazy = refl

-- at slot 1 node 1 has 2, which is more than leaf 2's 0 and the memory 1
chain_broken : Closed chain.tree (λ v. lazy 3 (link_peak chain v) (lower chain v) 1) → ⊥
unfolding link_peak lower upper close «open» pass_up pass_down turn_up turn_down unless_root put some least_peak ceil_div greatest lazy lazy_before
chain_broken closed = let breach = (closed 2 (omega arith, omega arith) (omega arith)).1 in omega arith

chain_plan : tab (plan chain 1) 4 ∷ tab (plan chain 2) 4 ∷ [] ≡ (0 ∷ 2 ∷ 4 ∷ 6 ∷ []) ∷ (0 ∷ 1 ∷ 3 ∷ 6 ∷ []) ∷ []
unfolding plan lazy_plan link_peak lower upper close «open» pass_up pass_down turn_up turn_down unless_root put some least_peak ceil_div greatest lazy lazy_before tab
chain_plan = refl

-- ---- the memory of a box two levels up binds: node 1 under the root, node 2 under node 1, leaf 3 under node 2, leaf 4 under node 1,
-- memories 1, 0, 2 and 0, frames 0 and 4

abbrev two_up : ℕ → Problem
two_up b = problem (0 ∷ 0 ∷ 1 ∷ 2 ∷ 1 ∷ []) (0 ∷ b ∷ 0 ∷ 2 ∷ 0 ∷ []) (0 ∷ 0 ∷ 0 ∷ 0 ∷ 0 ∷ []) (0 ∷ 0 ∷ 4 ∷ []) 2 2

-- leaf 3 alone may have 2 by slot 1, but node 1 only 1: leaf 4 has no memory, and node 1 holds 1
two_up_upper : tab ((two_up 1).high 3) 3 ∷ tab (upper (two_up 1) 3) 3 ∷ tab (upper (two_up 1) 1) 3 ∷ []
    ≡ (0 ∷ 2 ∷ 4 ∷ []) ∷ (0 ∷ 1 ∷ 4 ∷ []) ∷ (0 ∷ 1 ∷ 4 ∷ []) ∷ []
unfolding upper «open» pass_up pass_down turn_up turn_down unless_root put some tab
two_up_upper = refl

-- so the least peak of link 3 is 3, and not the 2 that leaf 3 alone would have
two_up_peaks : tab (link_peak (two_up 1)) 5 ≡ 0 ∷ 3 ∷ 3 ∷ 3 ∷ 4 ∷ []
unfolding link_peak lower upper close «open» pass_up pass_down turn_up turn_down unless_root put some least_peak ceil_div greatest tab
two_up_peaks = refl

-- with a memory of 2 at node 1 it would be 2
two_up_more : tab (link_peak (two_up 2)) 5 ≡ 0 ∷ 2 ∷ 2 ∷ 2 ∷ 4 ∷ []
unfolding link_peak lower upper close «open» pass_up pass_down turn_up turn_down unless_root put some least_peak ceil_div greatest tab
two_up_more = refl

two_up_plan : tab (plan (two_up 1) 3) 3 ∷ tab (plan (two_up 1) 4) 3 ∷ [] ≡ (0 ∷ 1 ∷ 4 ∷ []) ∷ (0 ∷ 0 ∷ 4 ∷ []) ∷ []
unfolding plan lazy_plan link_peak lower upper close «open» pass_up pass_down turn_up turn_down unless_root put some least_peak ceil_div greatest lazy lazy_before tab
two_up_plan = refl

-- ---- tree Q of document 01: node 1 under the root, leaves 2 and 3 under node 1, frames 4, 10 and 1; leaf 3 one slot late

abbrev late : List ℕ → Problem
late memories = problem (0 ∷ 0 ∷ 1 ∷ 1 ∷ []) memories (0 ∷ 0 ∷ 0 ∷ 1 ∷ []) (0 ∷ 4 ∷ 14 ∷ 15 ∷ []) 3 4

-- memories 4, 0 and 6: the rows and the peaks that document 01 lists
abbrev accepted : Problem
accepted = late (0 ∷ 4 ∷ 0 ∷ 6 ∷ [])

late-plan : tab (plan accepted 1) 5 ∷ tab (plan accepted 2) 5 ∷ tab (plan accepted 3) 5 ∷ []
    ≡ (0 ∷ 7 ∷ 14 ∷ 15 ∷ 15 ∷ []) ∷ (0 ∷ 4 ∷ 14 ∷ 15 ∷ 15 ∷ []) ∷ (0 ∷ 5 ∷ 10 ∷ 14 ∷ 15 ∷ []) ∷ []
unfolding plan lazy_plan link_peak lower upper close «open» pass_up pass_down turn_up turn_down unless_root put some least_peak ceil_div greatest lazy lazy_before tab
late-plan = refl

late_peaks : peak 4 (plan accepted 1) ∷ peak 4 (plan accepted 2) ∷ peak 4 (plan accepted 3) ∷ []
    ≡ 7 ∷ 10 ∷ 5 ∷ []
unfolding peak plan lazy_plan link_peak lower upper close «open» pass_up pass_down turn_up turn_down unless_root put some least_peak ceil_div greatest lazy lazy_before
late_peaks = refl

-- memories 4, 0 and 5: at slot 2 the lower curve of leaf 3 is above its upper curve, so that no plan exists
late-none : lower (late (0 ∷ 4 ∷ 0 ∷ 5 ∷ [])) 3 2 ∷ upper (late (0 ∷ 4 ∷ 0 ∷ 5 ∷ [])) 3 2 ∷ [] ≡ 10 ∷ 9 ∷ []
unfolding lower upper close «open» pass_up pass_down turn_up turn_down unless_root put some
late-none = refl

-- memories 0, 4 and 6: leaf 2's memory is of no use to leaf 3, whose lower curve at slot 2 is 14 and not 10
late_sister : lower (late (0 ∷ 0 ∷ 4 ∷ 6 ∷ [])) 3 2 ∷ upper (late (0 ∷ 0 ∷ 4 ∷ 6 ∷ [])) 3 2 ∷ [] ≡ 14 ∷ 10 ∷ []
unfolding lower upper close «open» pass_up pass_down turn_up turn_down unless_root put some
late_sister = refl

-- ---- memories from rates: tree Q with rates 5, 10 and 4

abbrev rated : RateQuestion
rated = record { n = 4; parent = entry (0 ∷ 0 ∷ 1 ∷ 1 ∷ []); r = entry (0 ∷ 5 ∷ 10 ∷ 4 ∷ []); M = 3; T = entry (0 ∷ 4 ∷ 14 ∷ 15 ∷ []) }

rated_floor : floor_rate rated 1 ∷ floor_rate rated 2 ∷ floor_rate rated 3 ∷ [] ≡ 4 ∷ 10 ∷ 4 ∷ []
unfolding floor_rate least_over some within met_up
rated_floor = refl

rated_need : need rated 2 1 ∷ need rated 2 2 ∷ need rated 2 3 ∷ [] ≡ 6 ∷ 0 ∷ 6 ∷ []
unfolding need floor_rate least_over some within met_up lazy lazy_before greatest_excess greatest
rated_need = refl

-- leaf 3 needs all that node 1 is asked for, and leaf 2 alone has more for it
rated_memory : memory rated 2 1 ∷ memory rated 2 2 ∷ memory rated 2 3 ∷ total 4 (memory rated 2) ∷ [] ≡ 0 ∷ 6 ∷ 6 ∷ 12 ∷ []
unfolding total sum_over chosen ask ask_of handed second_need how_many need floor_rate least_over some within met_up lazy lazy_before greatest_excess greatest
rated_memory = refl

-- the theorems at work: with a delay of 2 these memories serve and are the least that do, and with a delay of 1 none serve
rated_good : WellFormedRates rated
rated_good = record {
  ordered = ordered;
  starts = refl;
  grows = grows;
}
  where
    ordered : (v : ℕ) → Link 4 v → entry (0 ∷ 0 ∷ 1 ∷ 1 ∷ []) v < v
    ordered zero h = absurd (omega arith)
    ordered (suc zero) h = omega arith
    ordered (suc (suc zero)) h = omega arith
    ordered (suc (suc (suc zero))) h = omega arith
    ordered (suc (suc (suc (suc v)))) h = absurd (omega arith)

    grows : (m : ℕ) → m < 3 → entry (0 ∷ 4 ∷ 14 ∷ 15 ∷ []) m ≤ entry (0 ∷ 4 ∷ 14 ∷ 15 ∷ []) (suc m)
    grows zero h = omega arith
    grows (suc zero) h = omega arith
    grows (suc (suc zero)) h = omega arith
    grows (suc (suc (suc m))) h = absurd (omega arith)

rated_fast : FastEnough rated 2
rated_fast v h m l = omega (arith, mul-le-mul_right (m + 2) (rate v h), playing m l)
  where
    rate : (v : ℕ) → Link 4 v → 4 ≤ entry (0 ∷ 5 ∷ 10 ∷ 4 ∷ []) v
    rate zero h = absurd (omega arith)
    rate (suc zero) h = omega arith
    rate (suc (suc zero)) h = omega arith
    rate (suc (suc (suc zero))) h = omega arith
    rate (suc (suc (suc (suc v)))) h = absurd (omega arith)

    playing : (m : ℕ) → m ≤ 3 → entry (0 ∷ 4 ∷ 14 ∷ 15 ∷ []) m ≤ 4 * (m + 2)
    playing zero h = omega arith
    playing (suc zero) h = omega arith
    playing (suc (suc zero)) h = omega arith
    playing (suc (suc (suc zero))) h = omega arith
    playing (suc (suc (suc (suc m)))) h = absurd (omega arith)

rated_least : LeastMemories rated 2 (memory rated 2)
rated_least = memory-least rated rated_good 2 rated_fast

-- the plan answered for them keeps the rates
rated_plan : KeepsRates (problem_with rated 2 (memory rated 2)) rated.r (plan (problem_with rated 2 (memory rated 2)))
rated_plan = (served_plan rated rated_good 2 (memory rated 2) rated_least.serves).1

rated_none : (b : ℕ → ℕ) → Serves rated 1 b → ⊥
rated_none b served = let fast = (serves_fast rated rated_good 1).0 (b, served) 3 (omega arith) 2 (omega arith) in omega arith

-- ---- the choice from needs: those of nodes 1, 2, .. under parents from node 1 on, and the memories

abbrev choice : List ℕ → List ℕ → ℕ → ℕ
choice parents needs = chosen (length parents) (entry parents) (entry needs)

-- a chain: all goes down to the leaf
choice_chain : tab (choice (0 ∷ 0 ∷ 1 ∷ 2 ∷ []) (0 ∷ 2 ∷ 1 ∷ 0 ∷ [])) 4 ≡ 0 ∷ 0 ∷ 0 ∷ 2 ∷ []
unfolding chosen ask ask_of handed second_need how_many least_over some tab
choice_chain = refl

-- two leaves share the least need: node 1 keeps what is above it
choice_tie : tab (choice (0 ∷ 0 ∷ 1 ∷ 1 ∷ []) (0 ∷ 6 ∷ 5 ∷ 5 ∷ [])) 4 ≡ 0 ∷ 1 ∷ 5 ∷ 5 ∷ []
unfolding chosen ask ask_of handed second_need how_many least_over some tab
choice_tie = refl

-- three leaves: node 1 hands on the second least need, and leaf 4 has its own, which is more
choice_three : tab (choice (0 ∷ 0 ∷ 1 ∷ 1 ∷ 1 ∷ []) (0 ∷ 4 ∷ 1 ∷ 2 ∷ 3 ∷ [])) 5 ≡ 0 ∷ 2 ∷ 2 ∷ 2 ∷ 3 ∷ []
unfolding chosen ask ask_of handed second_need how_many least_over some tab
choice_three = refl

-- what node 1 hands on, node 2 is asked for and hands on as far as it can: leaf 3 and node 2 under node 1, leaves 4 and 5 under node 2
choice_deep : tab (choice (0 ∷ 0 ∷ 1 ∷ 1 ∷ 2 ∷ 2 ∷ []) (0 ∷ 9 ∷ 3 ∷ 7 ∷ 1 ∷ 2 ∷ [])) 6 ≡ 0 ∷ 2 ∷ 5 ∷ 7 ∷ 2 ∷ 2 ∷ []
unfolding chosen ask ask_of handed second_need how_many least_over some tab
choice_deep = refl

-- ---- Newton's search between the rows 0 4 14 15 and 0 10 15 15: from 0 by 15 over 3 slots to 5, by 4 over 2 slots to 7

abbrev rising : ℕ → ℕ
rising = entry (0 ∷ 4 ∷ 14 ∷ 15 ∷ [])

abbrev ceiling : ℕ → ℕ
ceiling = entry (0 ∷ 10 ∷ 15 ∷ 15 ∷ [])

newton-passes : pass rising ceiling 0 3 ∷ pass rising ceiling 5 3 ∷ [] ≡
    record { reach = 0; gap = 3; excess = 15; span = 3 } ∷ record { reach = 15; gap = 3; excess = 4; span = 2 } ∷ []
unfolding pass look
newton-passes = refl

newton-peak : newton rising ceiling 3 5 0 ∷ passes_made rising ceiling 3 5 0 ∷ least_peak 3 rising ceiling ∷ [] ≡ 7 ∷ 3 ∷ 7 ∷ []
unfolding newton passes_made next_peak pass look ceil_div least_peak greatest
newton-peak = refl
