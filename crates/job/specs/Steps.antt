-- The reader's inner functions: the table of refusals in the parts that they test, one after the other, and what they hand on.
use Rattle.std.specs.Prelude.{cond, not, ◌&&◌, List, ◌≡◌, ℕ, ◌≤◌, min, Option, None, Some, eqb, ltb, length}
use Rattle.base.specs.Range.{some}
use Rattle.base.specs.Set.{has, word_bits}
use Rattle.job.specs.Limits.{fewest_nodes, most_nodes, fewest_frames, most_frames}
use Rattle.job.specs.Tree.{Tree, has_child, leaf}
use Rattle.job.specs.Bytes.{mark, version, mark_rly, version_one, header_width, node_count, frame_count, parent_at, delay_at, memory_at, rate_at, frame_at, wanted_length, per_node, tree_of}
use Rattle.job.specs.Refusal.{short, bad_mark, bad_version, bad_parent, bad_delay, large_memory, large_frame, parent_wrong, delay_wrong, amount_wrong, frame_wrong, some_node, number}
use Rattle.job.specs.Read.{struct_of, bare_tree}
use Rattle.job.specs.declared.Job.{Job}
use Rattle.job.specs.declared.Node.{Node}
use Rattle.job.specs.declared.Refusal.{Refusal}

-- what rows 1 to 6 leave: counts within their bounds, and the length that they ask for
pub record Sized (s : List ℕ) : Type 0 where
  pub nodes_from : fewest_nodes ≤ node_count s
  pub nodes_to : node_count s ≤ most_nodes
  pub frames_from : fewest_frames ≤ frame_count s
  pub frames_to : frame_count s ≤ most_frames
  pub long : length s ≡ wanted_length s

-- the tree that the bytes say, with the parents alone
abbrev pub parents_of : List ℕ → Tree
parents_of s =
    let n = node_count s in
    record { n = n; parent = per_node n (parent_at s); delay = λ i. 0; memory = λ i. 0; rate = λ i. 0 }

-- a job's struct of the counts that the bytes say, its records still empty, and with its records
abbrev pub empty_job : List ℕ → Job
empty_job s = struct_of (bare_tree (node_count s)) (frame_count s)

abbrev pub full_job : List ℕ → Job
full_job s = struct_of (tree_of s) (frame_count s)

-- a set has the nodes that are somebody's parent
abbrev pub InnerNodes : Tree → ℕ → Type 0
InnerNodes t set = (k : ℕ) → has set k ≡ (has_child t k && ltb k word_bits)

-- the record of node i as the bytes have it
abbrev pub node_at : List ℕ → ℕ → Node
node_at s i = record { parent = parent_at s i; delay = delay_at s i; memory = memory_at s i; rate = rate_at s i }

-- the first refusal where there is one, else the second
abbrev pub or_else : ℕ → ℕ → ℕ
or_else a b = cond (eqb a 0) b a

-- the row of a refusal, 0 where there is none
abbrev pub row_of : Option Refusal → ℕ
row_of None = 0
row_of (Some e) = number e

-- the earlier of two rows of the table, where 0 stands for none
abbrev pub sooner : ℕ → ℕ → ℕ
sooner a b = cond (eqb a 0) b (cond (eqb b 0) a (min a b))

-- rows 1 to 3
abbrev pub head_refusal : List ℕ → ℕ
head_refusal s =
    cond (ltb (length s) header_width) short
    (cond (not (eqb (mark s) mark_rly)) bad_mark
    (cond (not (eqb (version s) version_one)) bad_version
    0))

-- rows 7 to 9
abbrev pub nodes_refusal : Tree → ℕ
nodes_refusal t =
    cond (some_node t (λ i. parent_wrong i (t.parent i))) bad_parent
    (cond (some_node t (λ i. delay_wrong (leaf t i) (t.delay i))) bad_delay
    (cond (some_node t (λ i. amount_wrong (t.memory i) (t.rate i))) large_memory
    0))

-- rows 7 to 10
abbrev pub rest_refusal : List ℕ → ℕ
rest_refusal s = or_else (nodes_refusal (tree_of s)) (cond (some (λ m. frame_wrong (frame_at s m)) (frame_count s)) large_frame 0)
