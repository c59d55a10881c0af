-- The bounds of document 01 and, of a memory, a rate and a frame, of document 02's L2, each once. In src/ each is an associated constant of
-- the type that it bounds; `Limits::all` ties the two.
use Rattle.std.specs.Prelude.{ℕ, ◌+◌, ◌*◌}

-- node count n
abbrev pub fewest_nodes : ℕ
fewest_nodes = 2

abbrev pub most_nodes : ℕ
most_nodes = 64

-- frame count M
abbrev pub fewest_frames : ℕ
fewest_frames = 1

abbrev pub most_frames : ℕ
most_frames = 65536

-- start delay of a leaf, in slots
abbrev pub longest_delay : ℕ
longest_delay = 4096

-- memory of a node, in bytes
abbrev pub greatest_memory : ℕ
greatest_memory = 17592186044415

-- rate of a link, in bytes a slot: memory and rate have one bound
abbrev pub greatest_rate : ℕ
greatest_rate = greatest_memory

-- size of a frame, in bytes
abbrev pub greatest_frame : ℕ
greatest_frame = 268435455

-- ---- what follows from them

-- the most slots 0 to H that a job can have
abbrev pub most_slots : ℕ
most_slots = most_frames + longest_delay + 1

-- the most that a whole film can have, in bytes
abbrev pub greatest_total : ℕ
greatest_total = most_frames * greatest_frame
