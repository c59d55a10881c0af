-- The search for a least peak: its state as `smoothing` has it, and two rows that it can go through.
use Rattle.std.specs.Prelude.{ℕ, ◌-◌, ◌*◌, ◌/◌, ◌≤◌, ◌<◌, ◌≡◌, List, length}
use Rattle.smoothing.specs.Newton as newton
use Rattle.job.specs.Limits.{most_slots}
use Rattle.rows.specs.Row.{row_in, InRange}
use Rattle.rows.specs.declared.Search.{Search}

-- the state that a struct holds
abbrev pub search_in : Search → newton.Search
search_in s = record { reach = s.reach; gap = s.gap; excess = s.excess; span = s.span }

-- the pass at the peak p over every `stride`-th slot of two rows
abbrev pub pass_over : ℕ → ℕ → List ℕ → List ℕ → newton.Search
pass_over stride p lower upper =
    newton.pass (newton.every stride (row_in lower)) (newton.every stride (row_in upper)) (p * stride) ((length lower - 1) / stride)

-- the longest stride of a search
abbrev pub longest_stride : ℕ
longest_stride = 32

-- a lower and an upper row that the search can go through
pub record Searchable (lower upper : List ℕ) : Type 0 where
  pub some_slot : 0 < length lower
  pub slots_to : length lower ≤ most_slots
  pub same_slots : length upper ≡ length lower
  pub lower_to : InRange lower
  pub upper_to : InRange upper
