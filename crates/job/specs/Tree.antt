-- Document 01, the words of 'Job bytes' and 'Curves and plan rules' that speak of a job and not of its bytes.
use Rattle.std.specs.Prelude.{Bool, true, false, not, ◌&&◌, ◌||◌, ◌≡◌, ℕ, zero, suc, ◌+◌, ◌-◌, ◌*◌, ◌≤◌, ◌<◌, min, ltb, eqb}
use Rattle.base.specs.Range.{sum, some, greatest_over}
use Rattle.job.specs.Limits.{fewest_nodes, most_nodes, fewest_frames, most_frames, longest_delay, greatest_memory, greatest_rate, greatest_frame}

-- The tree: n nodes, of which 0 is the root; and of each node 1 to n-1 its parent, its start delay d, its memory b and its link's rate r.
pub record Tree : Type 0 where
  pub n : ℕ
  pub parent : ℕ → ℕ
  pub delay : ℕ → ℕ
  pub memory : ℕ → ℕ
  pub rate : ℕ → ℕ

-- A job: a tree, and a film of M frames, of which `frame m` is the size of number m, counted from 0.
pub record JobData : Type 0 where
  pub tree : Tree
  pub M : ℕ
  pub frame : ℕ → ℕ

-- i is one of the nodes 1 to n-1, which have a record and a link into them
unfoldable pub link : ℕ → ℕ → Bool
link n i = ltb 0 i && ltb i n

-- node c is a child of node i: i is its parent
unfoldable pub child : Tree → ℕ → ℕ → Bool
child t c i = link t.n c && eqb (t.parent c) i

-- node i is some node's parent
unfoldable pub has_child : Tree → ℕ → Bool
has_child t i = some (λ c. child t c i) t.n

-- a leaf is a node that is nobody's parent
unfoldable pub leaf : Tree → ℕ → Bool
leaf t i = ltb i t.n && not (has_child t i)

-- going up from node i by parents, at most `steps` times and not past the root, node a is met
unfoldable pub meets : (ℕ → ℕ) → ℕ → ℕ → ℕ → Bool
meets parent zero i a = false
meets parent (suc steps) zero a = false
meets parent (suc steps) (suc i) a = eqb (parent (suc i)) a || meets parent steps (parent (suc i)) a

-- node i is below node a: a is i's parent, or the parent of its parent, and so on. A node is not below itself.
-- Where each parent is lower than its child, i steps always reach the root.
unfoldable pub below : Tree → ℕ → ℕ → Bool
below t i a = ltb i t.n && meets t.parent i i a

-- l is a leaf at or below node a
unfoldable pub leaf_at : Tree → ℕ → ℕ → Bool
leaf_at t a l = leaf t l && (below t l a || eqb l a)

-- T(m): the sum of the first m frames, and T(M) for m above M. Document 01 has T(m) = 0 for m below 0. There is no whole number
-- below 0 here: T(k - d) is written T (k - d) with the difference cut off at 0, which is right only because T(0) is 0 too.
unfoldable pub T : JobData → ℕ → ℕ
T j m = sum j.frame (min m j.M)

-- the greatest delay of a leaf
unfoldable pub greatest_delay : Tree → ℕ
greatest_delay t = greatest_over (leaf t) t.delay t.n

-- H, the last slot: M plus the greatest leaf delay
unfoldable pub H : JobData → ℕ
H j = j.M + greatest_delay j.tree

-- how many numbers a plan has: for each link 1 to n-1 one for each slot 0 to H
unfoldable pub plan_length : JobData → ℕ
plan_length j = (j.tree.n - 1) * (H j + 1)

-- A tree within the bounds of document 01: what refusals 4, 7, 8 and 9 leave.
pub record TreeWithin (t : Tree) : Type 0 where
  pub nodes_from : fewest_nodes ≤ t.n
  pub nodes_to : t.n ≤ most_nodes
  pub parents : (i : ℕ) → link t.n i ≡ true → t.parent i < i
  pub leaf_delays : (i : ℕ) → link t.n i ≡ true → leaf t i ≡ true → t.delay i ≤ longest_delay
  pub inner_delays : (i : ℕ) → link t.n i ≡ true → leaf t i ≡ false → t.delay i ≡ 0
  pub memories : (i : ℕ) → link t.n i ≡ true → t.memory i ≤ greatest_memory
  pub rates : (i : ℕ) → link t.n i ≡ true → t.rate i ≤ greatest_rate

-- A job within them: what refusals 5 and 10 leave besides.
pub record JobWithin (j : JobData) : Type 0 where
  pub tree : TreeWithin j.tree
  pub frames_from : fewest_frames ≤ j.M
  pub frames_to : j.M ≤ most_frames
  pub frames : (m : ℕ) → m < j.M → j.frame m ≤ greatest_frame
