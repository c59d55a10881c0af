-- The tree of links, closed families of numbers, the two passes over the tree, who lies below whom, and the ways down.
use Rattle.std.specs.Prelude.{◌≢◌, Bool, cond, not, ◌&&◌, ◌||◌, ℕ, zero, suc, ◌+◌, ◌-◌, ◌≤◌, ◌<◌, max, min, eqb, ltb}
use Rattle.base.specs.Range.{sum_over, some, how_many, least_over}

-- ---- trees and closed families

-- n nodes, of which node 0 is the root, with the parent and the memory b of each
pub record Tree : Type 0 where
  pub n : ℕ
  pub parent : ℕ → ℕ
  pub b : ℕ → ℕ

-- of n nodes, v has a link into it: every node but the root has
abbrev pub Link : ℕ → ℕ → Type 0
Link n v = (0 < v) × (v < n)

-- every parent has a lower number than its child
abbrev pub Ordered : Tree → Type 0
Ordered T = (v : ℕ) → Link T.n v → T.parent v < v

-- P3, for the numbers Y of the links at one slot: a node u other than the root has no less than each child v, and no more than v and the memory of u
abbrev pub Closed : Tree → (ℕ → ℕ) → Type 0
Closed T Y =
    (v : ℕ) → Link T.n v → T.parent v ≢ 0 → (Y v ≤ Y (T.parent v)) × (Y (T.parent v) ≤ Y v + T.b (T.parent v))

-- f is nowhere above g on the links
abbrev pub AtMost : Tree → (ℕ → ℕ) → (ℕ → ℕ) → Type 0
AtMost T f g = (v : ℕ) → Link T.n v → f v ≤ g v

-- Y is the least closed family that is nowhere below f
pub record LeastClosedAbove (T : Tree) (f Y : ℕ → ℕ) : Type 0 where
  pub above : AtMost T f Y
  pub closed : Closed T Y
  pub least : (Y' : ℕ → ℕ) → Closed T Y' → AtMost T f Y' → AtMost T Y Y'

-- Y is the greatest closed family that is nowhere above h
pub record GreatestClosedBelow (T : Tree) (h Y : ℕ → ℕ) : Type 0 where
  pub below : AtMost T Y h
  pub closed : Closed T Y
  pub greatest : (Y' : ℕ → ℕ) → Closed T Y' → AtMost T Y' h → AtMost T Y' Y

-- ---- the passes

-- the family f with x at node u
unfoldable pub put : (ℕ → ℕ) → ℕ → ℕ → ℕ → ℕ
put f u x v = cond (eqb v u) x (f v)

-- x where the parent of v is the root, else op v x y
unfoldable pub unless_root : (ℕ → ℕ) → (ℕ → ℕ → ℕ → ℕ) → ℕ → ℕ → ℕ → ℕ
unless_root parent op v x y = cond (eqb (parent v) 0) x (op v x y)

-- one turn of the pass up: the parent u of v takes op v (f u) (f v), unless u is the root
unfoldable pub turn_up : (ℕ → ℕ) → (ℕ → ℕ → ℕ → ℕ) → ℕ → (ℕ → ℕ) → ℕ → ℕ
turn_up parent op v f = put f (parent v) (unless_root parent op v (f (parent v)) (f v))

-- one turn of the pass down: v takes op v (f v) (f u), with u the parent of v, unless u is the root
unfoldable pub turn_down : (ℕ → ℕ) → (ℕ → ℕ → ℕ → ℕ) → ℕ → (ℕ → ℕ) → ℕ → ℕ
turn_down parent op v f = put f v (unless_root parent op v (f v) (f (parent v)))

-- the pass up: a turn for each of m, m - 1, .., 1, in this order
unfoldable pub pass_up : (ℕ → ℕ) → (ℕ → ℕ → ℕ → ℕ) → ℕ → (ℕ → ℕ) → ℕ → ℕ
pass_up parent op zero f = f
pass_up parent op (suc m) f = pass_up parent op m (turn_up parent op (suc m) f)

-- the pass down: a turn for each of 1, 2, .., m, in this order
unfoldable pub pass_down : (ℕ → ℕ) → (ℕ → ℕ → ℕ → ℕ) → ℕ → (ℕ → ℕ) → ℕ → ℕ
pass_down parent op zero f = f
pass_down parent op (suc m) f = turn_down parent op (suc m) (pass_down parent op m f)

-- closing: a parent takes at least what its child has
abbrev pub close_up : Tree → ℕ → ℕ → ℕ → ℕ
close_up T v x y = max x y

-- closing: a child takes at least what its parent has less the parent's memory
abbrev pub close_down : Tree → ℕ → ℕ → ℕ → ℕ
close_down T v x y = max x (y - T.b (T.parent v))

-- closing a family: the pass up, then the pass down
unfoldable pub close : Tree → (ℕ → ℕ) → ℕ → ℕ
close T f = pass_down T.parent (close_down T) (T.n - 1) (pass_up T.parent (close_up T) (T.n - 1) f)

-- opening: a parent takes at most what its child has and the parent's memory
abbrev pub open_up : Tree → ℕ → ℕ → ℕ → ℕ
open_up T v x y = min x (y + T.b (T.parent v))

-- opening: a child takes at most what its parent has
abbrev pub open_down : Tree → ℕ → ℕ → ℕ → ℕ
open_down T v x y = min x y

-- opening a family: the pass up, then the pass down
unfoldable pub «open» : Tree → (ℕ → ℕ) → ℕ → ℕ
«open» T h = pass_down T.parent (open_down T) (T.n - 1) (pass_up T.parent (open_up T) (T.n - 1) h)

-- ---- children, leaves and the nodes below a node

-- c is a child of v
abbrev pub child : (ℕ → ℕ) → ℕ → ℕ → Bool
child parent v c = ltb 0 c && eqb (parent c) v

-- how many children v has among n nodes
abbrev pub child_count : ℕ → (ℕ → ℕ) → ℕ → ℕ
child_count n parent v = how_many (child parent v) n

-- v is nobody's parent among n nodes
abbrev pub leaf : ℕ → (ℕ → ℕ) → ℕ → Bool
leaf n parent v = not (some (child parent v) n)

-- v is met on the way up from x, in at most d steps: x is v, or x is not the root and v is met on the way up from its parent
unfoldable pub met_up : (ℕ → ℕ) → ℕ → ℕ → ℕ → Bool
met_up parent v zero x = eqb x v
met_up parent v (suc d) x = eqb x v || (ltb 0 x && met_up parent v d (parent x))

-- x is v or lies below v; x steps up are enough, as parents have lower numbers
unfoldable pub within : (ℕ → ℕ) → ℕ → ℕ → Bool
within parent v x = met_up parent v x x

-- the sum of f over all links
unfoldable pub total : ℕ → (ℕ → ℕ) → ℕ
total n f = sum_over (λ v. ltb 0 v) f n

-- the least sum of f on a way from v down to a leaf, both ends counted, or on its first d steps where it has more
unfoldable pub least_way_of : ℕ → (ℕ → ℕ) → (ℕ → ℕ) → ℕ → ℕ → ℕ
least_way_of n parent f zero v = f v
least_way_of n parent f (suc d) v = f v + least_over (child parent v) (least_way_of n parent f d) n

-- the same with all its steps: no way has as many as there are nodes
unfoldable pub least_way : ℕ → (ℕ → ℕ) → (ℕ → ℕ) → ℕ → ℕ
least_way n parent f v = least_way_of n parent f n v
