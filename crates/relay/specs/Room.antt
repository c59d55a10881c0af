-- What the parts of the code promise each other of a text: how much room what is added needs, and what has been added.
use Rattle.std.specs.Prelude.{List, ◌++◌, ◌≡◌, ℕ, ◌+◌, ◌-◌, ◌*◌}
use Rattle.job.specs.Tree.{H}
use Rattle.job.specs.Bytes.{job_of}

-- the most digits of a 64-bit number, and the most characters of one with a space or a line end
abbrev pub most_digits : ℕ
most_digits = 20

abbrev pub word_width : ℕ
word_width = 21

-- room for a line with so many numbers after the first
abbrev pub line_room : ℕ → ℕ
line_room n = word_width * (1 + n)

-- room for a node's line: node, peak, row
abbrev pub node_room : List ℕ → ℕ
node_room s = word_width * (2 + (H (job_of s) + 1))

-- room for the memory question's lines
abbrev pub memory_room : List ℕ → ℕ
memory_room s = word_width * 3 + ((job_of s).tree.n - 1) * node_room s

-- room for the rate question's line
abbrev pub rate_room : List ℕ → ℕ
rate_room s = word_width * (3 + ((job_of s).tree.n - 1))

-- room for every text
abbrev pub text_room : ℕ
text_room = 90111

-- a text with the property has been added
abbrev pub Adds : (List ℕ → Type 0) → List ℕ → List ℕ → Type 0
Adds Is before after = (text : List ℕ) × Is text × (after ≡ before ++ text)
