-- The tree and the plan that closing works on, one row in the midst of others, and a row whose turn it is.
use Rattle.std.specs.Prelude.{ℕ, ◌+◌, ◌-◌, ◌*◌, ◌≤◌, ◌<◌, max, ◌≡◌, cond, List, ◌++◌, eqb, ltb, length, take, drop, get_or}
use Rattle.base.specs.Table.{tab}
use Rattle.smoothing.specs.Tree.{Tree, Link, Ordered, pass_up, close_up, close}
use Rattle.smoothing.specs.Lists.{family_in, rows_in}
use Rattle.job.specs.Limits.{most_slots}

-- the tree that two arrays hold
abbrev pub tree_from : ℕ → List ℕ → List ℕ → Tree
tree_from nodes parent memory = record { n = nodes; parent = family_in parent; b = family_in memory }

-- what the links hold at slot k in a plan of rows with w numbers each
abbrev pub slot_in : ℕ → List ℕ → ℕ → ℕ → ℕ
slot_in w plan k v = rows_in w plan v k

-- a plan of rows with w numbers each, before and after f is done to what the links hold at each slot
abbrev pub AtEachSlot : ℕ → ((ℕ → ℕ) → ℕ → ℕ) → List ℕ → List ℕ → Type 0
AtEachSlot w f before after = (k : ℕ) → k < w → slot_in w after k ≡ f (slot_in w before k)

-- l with f 0, .., f (w - 1) from place a on
abbrev pub with_part : (ℕ → ℕ) → ℕ → ℕ → List ℕ → List ℕ
with_part f a w l = take a l ++ (tab f w ++ drop (a + w) l)

-- of two rows of w numbers in l, the one from place a on raised to the one from place b on
abbrev pub with_raised : ℕ → ℕ → ℕ → List ℕ → List ℕ
with_raised a b w l = with_part (λ k. max (get_or l (a + k) 0) (get_or l (b + k) 0)) a w l

-- a plan with the row of link v raised to that of link u less an amount
abbrev pub with_row : ℕ → ℕ → ℕ → ℕ → List ℕ → List ℕ
with_row v u amount w plan = with_part (λ k. max (rows_in w plan v k) (rows_in w plan u k - amount)) ((v - 1) * w) w plan

-- the lent row after closing: a copy of the closed row of the last link's parent, 0 in every slot where that is the root; as before
-- where there is no link
unfoldable pub lent_row : ℕ → ℕ → List ℕ → List ℕ → List ℕ → List ℕ
lent_row nodes w parent closed lent = cond (ltb 1 nodes) (tab (rows_in w closed (family_in parent (nodes - 1))) w) lent

-- a plan with a row of `width` numbers for each link of so many nodes
pub record Closable (plan : List ℕ) (nodes width : ℕ) : Type 0 where
  pub width_to : width ≤ most_slots
  pub sized : length plan ≡ (nodes - 1) * width

-- the turn of link v in the pass down, where F k is the family to close at slot k: its row after the pass up, with its parent's
-- closed row, 0 in every slot where that is the root, and the parent's memory
pub record Due (T : Tree) (F : ℕ → ℕ → ℕ) (v : ℕ) (row above : List ℕ) (memory : ℕ) : Type 0 where
  pub ordered : Ordered T
  pub link : Link T.n v
  pub row_up : row ≡ tab (λ k. pass_up T.parent (close_up T) (T.n - 1) (F k) v) (length row)
  pub above_closed : above ≡ tab (λ k. cond (eqb (T.parent v) 0) 0 (close T (F k) (T.parent v))) (length row)
  pub memory_above : memory ≡ T.b (T.parent v)
