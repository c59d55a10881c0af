use mathlib.Core.List.{List, ◌++◌}
use mathlib.Core.Path.{◌≡◌}
use Prim.Native.Nat.{ℕ, ◌-◌, ◌*◌}
use lib.ListN.{length, get_or, drop}
use Rattle.base.specs.Table.{rows_of}
use Rattle.job.specs.Sums.{sums_in}
use Rattle.radio.specs.Radio.{line_of}
use Rattle.radio.specs.Answer.{line_length}
use Rattle.radio.proofs.fill.Given as goal

-- the line of each rate
abbrev pub rows : List ℕ → List ℕ → ℕ → List ℕ
rows sums rates i = line_of (length sums - 1) (sums_in sums) (get_or rates i 0)

abbrev pub invariant-loop-i : goal.invariant-loop-i
invariant-loop-i l = l.lines ≡ rows_of (rows l.sums.t.now l.rates) l.i ++ drop (l.i * line_length) l.initial.lines
