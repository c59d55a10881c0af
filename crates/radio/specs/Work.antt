-- What the pass for a memory has found on its way.
use Rattle.std.specs.Prelude.{List, ℕ, ◌+◌, ◌-◌}
use Rattle.base.specs.Range.{greatest}
use Rattle.job.specs.Sums.{sums_in, last_in}
use Rattle.radio.specs.Radio.{carried}

-- the greatest excess of what is carried at the rate r over what is played, i slots after the delay d for each i below m
abbrev pub excess_before : List ℕ → ℕ → ℕ → ℕ → ℕ
excess_before sums r d m = greatest (λ i. carried (last_in sums) r (d + i) - sums_in sums i) m
