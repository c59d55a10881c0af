-- The definitions computed on document 01's tree Q: node 1 under the root, leaves 2 and 3 under node 1; frames 4, 10, 1; and on two trees
-- where a box two levels up binds. Expected rows are worked out by hand from the document.
use mathlib.Core.List.{List, [], ◌∷◌}
use mathlib.Core.Path.{◌≡◌, refl}
use Prim.Native.Nat.{ℕ, ◌+◌, ◌-◌}
use lib.ListN.{length, get_or}
use Rattle.base.specs.Range.{some, first, fold, least_over}
use Rattle.base.specs.Set.{has}
use Rattle.base.specs.Table.{tab}
use Rattle.job.specs.Tree.{Tree, link, child, has_child, leaf, meets, below}
use Rattle.smoothing.specs.Tree.{put, unless_root, turn_up, turn_down, pass_up, pass_down, close, «open»}
use Rattle.smoothing.specs.Plan.{lower, upper}
use Rattle.curves.specs.Curves.{leaf_below, D, lower_in, lower_curve, room_in, room, least_up, upper_curve, low, high, problem, lazy_in, lazy_schedule}
use Rattle.job.specs.Sums.{sums_in, last_in}
use Rattle.curves.specs.Rows.{least_delay, earlier, earliest_of, raised_by, lowered_by}

-- a tree from the parents, delays and memories of its nodes, the root's first
abbrev tree_with : List ℕ → List ℕ → List ℕ → Tree
tree_with parents delays memories =
    record {
      n = length parents;
      parent = λ i. get_or parents i 0;
      delay = λ i. get_or delays i 0;
      memory = λ i. get_or memories i 0;
      rate = λ i. 0;
    }

-- tree Q with the delay of leaf 3 and the memories of nodes 1, 2 and 3
abbrev Q : ℕ → ℕ → ℕ → ℕ → Tree
Q late one two three = tree_with (0 ∷ 0 ∷ 1 ∷ 1 ∷ []) (0 ∷ 0 ∷ 0 ∷ late ∷ []) (0 ∷ one ∷ two ∷ three ∷ [])

-- T(0) to T(3)
abbrev T : ℕ → ℕ
T = sums_in (0 ∷ 4 ∷ 14 ∷ 15 ∷ [])

-- T itself, and T(M)
film : tab T 6 ≡ 0 ∷ 4 ∷ 14 ∷ 15 ∷ 15 ∷ 15 ∷ []
unfolding tab sums_in
film = refl

last : last_in (0 ∷ 4 ∷ 14 ∷ 15 ∷ []) ≡ 15
unfolding last_in
last = refl

-- slots 0 to H of the rows of nodes 1, 2 and 3
abbrev rows : (ℕ → ℕ → ℕ) → ℕ → List (List ℕ)
rows f H = tab (f 1) (H + 1) ∷ tab (f 2) (H + 1) ∷ tab (f 3) (H + 1) ∷ []

-- ---- 01's four cases of the memory question

-- delays 0, memories 0, 6, 6
first-D : rows (D (Q 0 0 6 6) T) 3 ≡ (0 ∷ 4 ∷ 14 ∷ 15 ∷ []) ∷ (0 ∷ 4 ∷ 14 ∷ 15 ∷ []) ∷ (0 ∷ 4 ∷ 14 ∷ 15 ∷ []) ∷ []
unfolding tab sums_in D leaf_below some fold link child has_child leaf meets below
first-D = refl

first-lower : rows (lower_curve (Q 0 0 6 6) T) 3 ≡ (0 ∷ 4 ∷ 14 ∷ 15 ∷ []) ∷ (0 ∷ 4 ∷ 14 ∷ 15 ∷ []) ∷ (0 ∷ 4 ∷ 14 ∷ 15 ∷ []) ∷ []
unfolding tab sums_in D lower_in lower_curve leaf_below some fold link child has_child leaf meets below
first-lower = refl

first-upper : rows (upper_curve (Q 0 0 6 6) T 15) 3 ≡ (0 ∷ 10 ∷ 15 ∷ 15 ∷ []) ∷ (0 ∷ 10 ∷ 15 ∷ 15 ∷ []) ∷ (0 ∷ 10 ∷ 15 ∷ 15 ∷ []) ∷ []
unfolding tab sums_in D room_in room least_up upper_curve leaf_below some fold least_over link child has_child leaf meets below
first-upper = refl

-- delays 0, memories 6, 0, 6
second_lower : rows (lower_curve (Q 0 6 0 6) T) 3 ≡ (0 ∷ 4 ∷ 14 ∷ 15 ∷ []) ∷ (0 ∷ 4 ∷ 14 ∷ 15 ∷ []) ∷ (0 ∷ 4 ∷ 14 ∷ 15 ∷ []) ∷ []
unfolding tab sums_in D lower_in lower_curve leaf_below some fold link child has_child leaf meets below
second_lower = refl

second_upper : rows (upper_curve (Q 0 6 0 6) T 15) 3 ≡ (0 ∷ 10 ∷ 15 ∷ 15 ∷ []) ∷ (0 ∷ 4 ∷ 14 ∷ 15 ∷ []) ∷ (0 ∷ 10 ∷ 15 ∷ 15 ∷ []) ∷ []
unfolding tab sums_in D room_in room least_up upper_curve leaf_below some fold least_over link child has_child leaf meets below
second_upper = refl

-- delays 0 and 1, memories 4, 0, 6
third_D : rows (D (Q 1 4 0 6) T) 4 ≡ (0 ∷ 4 ∷ 14 ∷ 15 ∷ 15 ∷ []) ∷ (0 ∷ 4 ∷ 14 ∷ 15 ∷ 15 ∷ []) ∷ (0 ∷ 0 ∷ 4 ∷ 14 ∷ 15 ∷ []) ∷ []
unfolding tab sums_in D leaf_below some fold link child has_child leaf meets below
third_D = refl

third_lower : rows (lower_curve (Q 1 4 0 6) T) 4 ≡ (0 ∷ 4 ∷ 14 ∷ 15 ∷ 15 ∷ []) ∷ (0 ∷ 4 ∷ 14 ∷ 15 ∷ 15 ∷ []) ∷ (0 ∷ 0 ∷ 10 ∷ 14 ∷ 15 ∷ []) ∷ []
unfolding tab sums_in D lower_in lower_curve leaf_below some fold link child has_child leaf meets below
third_lower = refl

third_upper : rows (upper_curve (Q 1 4 0 6) T 15) 4 ≡ (0 ∷ 8 ∷ 14 ∷ 15 ∷ 15 ∷ []) ∷ (0 ∷ 4 ∷ 14 ∷ 15 ∷ 15 ∷ []) ∷ (0 ∷ 6 ∷ 10 ∷ 15 ∷ 15 ∷ []) ∷ []
unfolding tab sums_in D room_in room least_up upper_curve leaf_below some fold least_over link child has_child leaf meets below
third_upper = refl

-- the same with memories 4, 0, 5: the curves cross at slot 2, of nodes 1, 2 and 3
fourth_lower : rows (lower_curve (Q 1 4 0 5) T) 4 ≡ (0 ∷ 4 ∷ 14 ∷ 15 ∷ 15 ∷ []) ∷ (0 ∷ 4 ∷ 14 ∷ 15 ∷ 15 ∷ []) ∷ (0 ∷ 0 ∷ 10 ∷ 14 ∷ 15 ∷ []) ∷ []
unfolding tab sums_in D lower_in lower_curve leaf_below some fold link child has_child leaf meets below
fourth_lower = refl

fourth_upper : rows (upper_curve (Q 1 4 0 5) T 15) 4 ≡ (0 ∷ 8 ∷ 13 ∷ 15 ∷ 15 ∷ []) ∷ (0 ∷ 4 ∷ 13 ∷ 15 ∷ 15 ∷ []) ∷ (0 ∷ 5 ∷ 9 ∷ 15 ∷ 15 ∷ []) ∷ []
unfolding tab sums_in D room_in room least_up upper_curve leaf_below some fold least_over link child has_child leaf meets below
fourth_upper = refl

-- the theory's curves of the third case, by its passes: the same rows
third_theory_lower : rows (lower (problem (Q 1 4 0 6) T 15 4)) 4 ≡ (0 ∷ 4 ∷ 14 ∷ 15 ∷ 15 ∷ []) ∷ (0 ∷ 4 ∷ 14 ∷ 15 ∷ 15 ∷ []) ∷ (0 ∷ 0 ∷ 10 ∷ 14 ∷ 15 ∷ []) ∷ []
unfolding tab sums_in D low lower close pass_up pass_down turn_up turn_down unless_root put leaf_below some fold link child has_child leaf meets below
third_theory_lower = refl

third_theory_upper : rows (upper (problem (Q 1 4 0 6) T 15 4)) 4 ≡ (0 ∷ 8 ∷ 14 ∷ 15 ∷ 15 ∷ []) ∷ (0 ∷ 4 ∷ 14 ∷ 15 ∷ 15 ∷ []) ∷ (0 ∷ 6 ∷ 10 ∷ 15 ∷ 15 ∷ []) ∷ []
unfolding tab sums_in D high upper «open» pass_up pass_down turn_up turn_down unless_root put leaf_below some fold link child has_child leaf meets below
third_theory_upper = refl

-- ---- a box two levels up binds: node 1 under the root, node 2 and leaf 4 under node 1, leaf 3 under node 2

-- upper curve of leaf 3, frames 0 and 4, delays 0, memories 1, 0, 2, 0: leaf 3 alone may have 2 by slot 1, but node 1 only 0 + 1
two_up_upper : tab (upper_curve (tree_with (0 ∷ 0 ∷ 1 ∷ 2 ∷ 1 ∷ []) (0 ∷ 0 ∷ 0 ∷ 0 ∷ 0 ∷ []) (0 ∷ 1 ∷ 0 ∷ 2 ∷ 0 ∷ [])) (sums_in (0 ∷ 0 ∷ 4 ∷ [])) 4 3) 3 ≡ 0 ∷ 1 ∷ 4 ∷ []
unfolding tab sums_in D room_in room least_up upper_curve leaf_below some fold least_over link child has_child leaf meets below
two_up_upper = refl

-- lower curve of leaf 3, one frame of 4, which leaf 3 plays a slot later than leaf 4, memories 1, 1, 4, 0: by slot 1 it must have 4 - 1 - 1
two_up_lower : tab (lower_curve (tree_with (0 ∷ 0 ∷ 1 ∷ 2 ∷ 1 ∷ []) (0 ∷ 0 ∷ 0 ∷ 1 ∷ 0 ∷ []) (0 ∷ 1 ∷ 1 ∷ 4 ∷ 0 ∷ [])) (sums_in (0 ∷ 4 ∷ [])) 3) 3 ≡ 0 ∷ 2 ∷ 4 ∷ []
unfolding tab sums_in D lower_in lower_curve leaf_below some fold link child has_child leaf meets below
two_up_lower = refl

-- ---- what the code works with, on the third case

-- the least delays of nodes 1, 2 and 3
least_delays : least_delay (Q 1 4 0 6) 1 ∷ least_delay (Q 1 4 0 6) 2 ∷ least_delay (Q 1 4 0 6) 3 ∷ [] ≡ 0 ∷ 0 ∷ 1 ∷ []
unfolding least_delay leaf_below some least_over link child has_child leaf meets below
least_delays = refl

-- the earliest of leaves 2 and 3, the set 2^2 + 2^3, where leaf 2 or leaf 3 starts a slot later, or neither
earliest_leaves : earliest_of (0 ∷ 0 ∷ 1 ∷ 0 ∷ []) 12 ∷ earliest_of (0 ∷ 0 ∷ 0 ∷ 1 ∷ []) 12 ∷ earliest_of (0 ∷ 0 ∷ 0 ∷ 0 ∷ []) 12 ∷ []
    ≡ 3 ∷ 2 ∷ 2 ∷ []
unfolding some fold first has earlier
earliest_leaves = refl

-- leaf 3's lower row: what it plays itself, then what leaf 2 plays less the 4 of node 1
leaf_by_leaf :
    raised_by (Q 1 4 0 6) (0 ∷ 4 ∷ 14 ∷ 15 ∷ []) 2 4 (raised_by (Q 1 4 0 6) (0 ∷ 4 ∷ 14 ∷ 15 ∷ []) 3 0 (0 ∷ 0 ∷ 0 ∷ 0 ∷ 0 ∷ []))
    ≡ 0 ∷ 0 ∷ 10 ∷ 14 ∷ 15 ∷ []
unfolding tab sums_in raised_by
leaf_by_leaf = refl

-- its upper row before the passes over the tree: T(M), then what it plays and its 6
own_room : lowered_by (Q 1 4 0 6) (0 ∷ 4 ∷ 14 ∷ 15 ∷ []) 3 (15 ∷ 15 ∷ 15 ∷ 15 ∷ 15 ∷ []) ≡ 6 ∷ 6 ∷ 10 ∷ 15 ∷ 15 ∷ []
unfolding tab sums_in lowered_by
own_room = refl

-- ---- the lazy schedule

-- delay 2 and rate 4, the floor rate of leaf 3 where the rates are 5, 10, 4: its greatest excess over D is 6, at slots 2 and 3
lazy_Q : tab (lazy_schedule (λ k. T (k - 2)) 15 5 4) 6 ≡ 0 ∷ 2 ∷ 6 ∷ 10 ∷ 14 ∷ 15 ∷ []
unfolding tab sums_in lazy_in lazy_schedule
lazy_Q = refl
