-- The definitions computed on document 01's tree Q: node 1 under the root, leaves 2 and 3 under node 1; frames 4, 10, 1.
-- Expected values are written from the document.
use mathlib.Core.Bool.{true, false}
use mathlib.Core.List.{List, [], ◌∷◌, ◌++◌}
use mathlib.Core.Path.{◌≡◌, refl}
use Prim.Native.Nat.{ℕ, ◌+◌, ◌/◌, ◌%◌, ◌^◌}
use lib.ListN.{take}
use Rattle.base.specs.Number.{number}
use Rattle.base.specs.Range.{sum, some, fold}
use Rattle.job.specs.Tree.{link, child, has_child, leaf, meets, below, T, greatest_delay, H, plan_length}
use Rattle.job.specs.Bytes.{mark, version, node_count, frame_count, parent_at, delay_at, memory_at, rate_at, frame_at, wanted_length, per_node, job_of, tree_of}
use Rattle.job.specs.Limits.{greatest_memory, greatest_rate, greatest_frame}
use Rattle.job.specs.Refusal.{refusal}

-- ---- jobs as bytes

two : ℕ → List ℕ
two x = x / 256 % 256 ∷ x % 256 ∷ []

four : ℕ → List ℕ
four x = x / 2 ^ 24 % 256 ∷ x / 2 ^ 16 % 256 ∷ two x

eight : ℕ → List ℕ
eight x = four (x / 2 ^ 32) ++ four x

header : ℕ → ℕ → ℕ → List ℕ
header version n M = 82 ∷ 76 ∷ 89 ∷ (two version ++ (n ∷ four M))

row : ℕ → ℕ → ℕ → ℕ → List ℕ
row parent delay memory rate = parent ∷ (two delay ++ (eight memory ++ eight rate))

film : List ℕ
film = four 4 ++ (four 10 ++ four 1)

-- tree Q with these records of nodes 1 and 3 and this film; node 2 is a leaf with delay 0, memory 0 and rate 10
tree_q : List ℕ → List ℕ → List ℕ → List ℕ
tree_q one three frames = header 1 4 3 ++ (one ++ (row 1 0 0 10 ++ (three ++ frames)))

-- delays 0 and 1, memories 4, 0, 6 and rates 5, 10, 4
listed : List ℕ
listed = tree_q (row 0 0 4 5) (row 1 1 6 4) film

-- ---- what they say

-- n, M, and the record of node 3, each by its place and its width
fields : (node_count listed ∷ frame_count listed ∷ parent_at listed 3 ∷ delay_at listed 3 ∷ memory_at listed 3 ∷ rate_at listed 3 ∷ []) ≡ (4 ∷ 3 ∷ 1 ∷ 1 ∷ 6 ∷ 4 ∷ [])
unfolding two four eight header row film tree_q listed number node_count frame_count parent_at delay_at memory_at rate_at
fields = refl

-- a field's most significant byte comes first
big_endian : (delay_at (tree_q (row 0 0 4 5) (row 1 258 6 4) film) 3 ∷ []) ≡ (258 ∷ [])
unfolding two four eight header row film tree_q number delay_at
big_endian = refl

-- T(0) to T(5)
sums : (T (job_of listed) 0 ∷ T (job_of listed) 1 ∷ T (job_of listed) 2 ∷ T (job_of listed) 3 ∷ T (job_of listed) 4 ∷ T (job_of listed) 5 ∷ []) ≡ (0 ∷ 4 ∷ 14 ∷ 15 ∷ 15 ∷ 15 ∷ [])
unfolding two four eight header row film tree_q listed number node_count frame_count frame_at sum T
sums = refl

-- leaves among 0 to 4
leaves : (leaf (tree_of listed) 0 ∷ leaf (tree_of listed) 1 ∷ leaf (tree_of listed) 2 ∷ leaf (tree_of listed) 3 ∷ leaf (tree_of listed) 4 ∷ []) ≡ (false ∷ false ∷ true ∷ true ∷ false ∷ [])
unfolding two four eight header row film tree_q listed number node_count parent_at per_node some link child has_child leaf
leaves = refl

-- what is below node 1, and node 3 below the root; a node is not below itself, nor below its sister
lower : (below (tree_of listed) 0 1 ∷ below (tree_of listed) 1 1 ∷ below (tree_of listed) 2 1 ∷ below (tree_of listed) 3 1 ∷ below (tree_of listed) 3 0 ∷ below (tree_of listed) 3 2 ∷ [])
    ≡ (false ∷ false ∷ true ∷ true ∷ true ∷ false ∷ [])
unfolding two four eight header row film tree_q listed number node_count parent_at per_node link meets below
lower = refl

-- H and the plan's length: 3 links of 5 slots
slots : (H (job_of listed) ∷ plan_length (job_of listed) ∷ []) ≡ (4 ∷ 15 ∷ [])
unfolding two four eight header row film tree_q listed number node_count frame_count parent_at delay_at per_node some fold link child has_child leaf greatest_delay H plan_length
slots = refl

-- ---- what is refused

-- each row of the table; the first that applies is given, whichever node or frame it is at
refusals :
    (refusal listed
    ∷ refusal (take 9 listed)
    ∷ refusal (82 ∷ 76 ∷ 88 ∷ (two 2 ++ (4 ∷ four 3)))
    ∷ refusal (header 2 1 3)
    ∷ refusal (header 1 1 0)
    ∷ refusal (header 1 65 3)
    ∷ refusal (header 1 2 0)
    ∷ refusal (header 1 64 65537)
    ∷ refusal (take 78 listed)
    ∷ refusal (listed ++ (0 ∷ []))
    ∷ refusal (tree_q (row 1 0 4 5) (row 1 1 6 4) film)
    ∷ refusal (tree_q (row 0 0 (greatest_memory + 1) 5) (row 3 1 6 4) film)
    ∷ refusal (tree_q (row 0 1 4 5) (row 1 1 6 4) film)
    ∷ refusal (tree_q (row 0 0 (greatest_memory + 1) 5) (row 1 4097 6 4) film)
    ∷ refusal (tree_q (row 0 0 (greatest_memory + 1) 5) (row 1 4096 6 4) film)
    ∷ refusal (tree_q (row 0 0 4 5) (row 1 1 6 (greatest_rate + 1)) (four (greatest_frame + 1) ++ (four 10 ++ four 1)))
    ∷ refusal (tree_q (row 0 0 4 5) (row 1 1 6 4) (four 4 ++ (four 10 ++ four (greatest_frame + 1))))
    ∷ refusal (tree_q (row 0 0 greatest_memory greatest_rate) (row 1 4096 0 0) (four 0 ++ (four 0 ++ four greatest_frame)))
    ∷ [])
    ≡ (0 ∷ 1 ∷ 2 ∷ 3 ∷ 4 ∷ 4 ∷ 5 ∷ 5 ∷ 6 ∷ 6 ∷ 7 ∷ 7 ∷ 8 ∷ 8 ∷ 9 ∷ 9 ∷ 10 ∷ 0 ∷ [])
unfolding two four eight header row film tree_q listed number mark version node_count frame_count parent_at delay_at memory_at rate_at frame_at wanted_length per_node some link child has_child leaf refusal
refusals = refl
