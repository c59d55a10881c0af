-- Document 01, 'Job bytes': the fields by place and width, and the job that the bytes say.
use Rattle.std.specs.Prelude.{cond, List, ℕ, ◌+◌, ◌-◌, ◌*◌}
use Rattle.base.specs.Number.{number}
use Rattle.job.specs.Tree.{Tree, JobData, link}

-- the mark is the bytes R, L, Y; the version is 1
abbrev pub mark_rly : ℕ
mark_rly = 0x524c59

abbrev pub version_one : ℕ
version_one = 1

-- widths of the fields before the records, of a record, and of a frame size
abbrev pub header_width : ℕ
header_width = 10

abbrev pub record_width : ℕ
record_width = 19

abbrev pub frame_width : ℕ
frame_width = 4

-- where the record of node i stands, for i from 1
abbrev pub record_place : ℕ → ℕ
record_place i = header_width + record_width * (i - 1)

module _ (s : List ℕ) where
  unfoldable pub mark : ℕ
  mark = number s 0 3

  unfoldable pub version : ℕ
  version = number s 3 2

  unfoldable pub node_count : ℕ
  node_count = number s 5 1

  unfoldable pub frame_count : ℕ
  frame_count = number s 6 4

  -- the fields of a record: parent (1 byte), start delay (2), memory (8), link rate (8)
  unfoldable pub parent_at : ℕ → ℕ
  parent_at i = number s (record_place i) 1

  unfoldable pub delay_at : ℕ → ℕ
  delay_at i = number s (record_place i + 1) 2

  unfoldable pub memory_at : ℕ → ℕ
  memory_at i = number s (record_place i + 3) 8

  unfoldable pub rate_at : ℕ → ℕ
  rate_at i = number s (record_place i + 11) 8

  -- the frame sizes come after the records
  abbrev pub frames_place : ℕ
  frames_place = header_width + record_width * (node_count - 1)

  unfoldable pub frame_at : ℕ → ℕ
  frame_at m = number s (frames_place + frame_width * m) frame_width

  -- the length that n and M ask for
  unfoldable pub wanted_length : ℕ
  wanted_length = frames_place + frame_width * frame_count

-- a field of the nodes 1 to n-1; a number that is no such node has 0
unfoldable pub per_node : ℕ → (ℕ → ℕ) → ℕ → ℕ
per_node n field i = cond (link n i) (field i) 0

-- the job that the bytes say
abbrev pub tree_of : List ℕ → Tree
tree_of s =
    let n = node_count s in
    record {
      n = n;
      parent = per_node n (parent_at s);
      delay = per_node n (delay_at s);
      memory = per_node n (memory_at s);
      rate = per_node n (rate_at s);
    }

abbrev pub job_of : List ℕ → JobData
job_of s = record { tree = tree_of s; M = frame_count s; frame = frame_at s }
