-- Document 01, 'Refusing a job', rows 1 to 10: the first that applies, 0 where none does.
use Rattle.std.specs.Prelude.{Bool, cond, not, ◌&&◌, ◌||◌, List, ℕ, ltb, eqb, length}
use Rattle.base.specs.Range.{some}
use Rattle.job.specs.Limits.{fewest_nodes, most_nodes, fewest_frames, most_frames, longest_delay, greatest_memory, greatest_rate, greatest_frame}
use Rattle.job.specs.Tree.{Tree, link, leaf}
use Rattle.job.specs.declared.Refusal.{Refusal}
use Rattle.job.specs.declared.Refusal.TheVariants.{Short, BadMark, BadVersion, BadNodes, BadFrames, BadLength, BadParent, BadDelay, LargeMemory, LargeFrame, BadLent}
use Rattle.job.specs.Bytes.{mark_rly, version_one, header_width, mark, version, node_count, frame_count, wanted_length, tree_of, frame_at}

-- ---- the numbers of the table, each by the name that src/ has for its row

abbrev pub short : ℕ
short = 1

abbrev pub bad_mark : ℕ
bad_mark = 2

abbrev pub bad_version : ℕ
bad_version = 3

abbrev pub bad_nodes : ℕ
bad_nodes = 4

abbrev pub bad_frames : ℕ
bad_frames = 5

abbrev pub bad_length : ℕ
bad_length = 6

abbrev pub bad_parent : ℕ
bad_parent = 7

abbrev pub bad_delay : ℕ
bad_delay = 8

abbrev pub large_memory : ℕ
large_memory = 9

abbrev pub large_frame : ℕ
large_frame = 10

-- what is lent beside the job's bytes
abbrev pub bad_lent : ℕ
bad_lent = 11

abbrev pub number : Refusal → ℕ
number Short = short
number BadMark = bad_mark
number BadVersion = bad_version
number BadNodes = bad_nodes
number BadFrames = bad_frames
number BadLength = bad_length
number BadParent = bad_parent
number BadDelay = bad_delay
number LargeMemory = large_memory
number LargeFrame = large_frame
number BadLent = bad_lent

-- ---- what each row says

-- a number outside of what its bounds allow
abbrev pub outside : ℕ → ℕ → ℕ → Bool
outside least most x = ltb x least || ltb most x

-- of node i: a parent that is not below its number
abbrev pub parent_wrong : ℕ → ℕ → Bool
parent_wrong i parent = not (ltb parent i)

-- an inner delay not 0, or a leaf delay too long
abbrev pub delay_wrong : Bool → ℕ → Bool
delay_wrong is_leaf delay = cond is_leaf (ltb longest_delay delay) (not (eqb delay 0))

-- a memory or a rate too large
abbrev pub amount_wrong : ℕ → ℕ → Bool
amount_wrong memory rate = ltb greatest_memory memory || ltb greatest_rate rate

-- a frame too large
abbrev pub frame_wrong : ℕ → Bool
frame_wrong size = ltb greatest_frame size

-- some node 1 to n-1 fails so
abbrev pub some_node : Tree → (ℕ → Bool) → Bool
some_node t wrong = some (λ i. link t.n i && wrong i) t.n

unfoldable pub refusal : List ℕ → ℕ
refusal s =
    let t = tree_of s in
    cond (ltb (length s) header_width) short
    (cond (not (eqb (mark s) mark_rly)) bad_mark
    (cond (not (eqb (version s) version_one)) bad_version
    (cond (outside fewest_nodes most_nodes (node_count s)) bad_nodes
    (cond (outside fewest_frames most_frames (frame_count s)) bad_frames
    (cond (not (eqb (length s) (wanted_length s))) bad_length
    (cond (some_node t (λ i. parent_wrong i (t.parent i))) bad_parent
    (cond (some_node t (λ i. delay_wrong (leaf t i) (t.delay i))) bad_delay
    (cond (some_node t (λ i. amount_wrong (t.memory i) (t.rate i))) large_memory
    (cond (some (λ m. frame_wrong (frame_at s m)) (frame_count s)) large_frame
    0)))))))))
