use mathlib.Core.Path.{◌≡◌}
use Rattle.base.specs.Table.{tab}
use Rattle.job.specs.Limits.{most_nodes}
use Rattle.smoothing.specs.Lists.{family_in, rows_in}
use Rattle.running.specs.Work.{after}
use Rattle.running.proofs.take_column.Given as goal

abbrev pub invariant-loop-i : goal.invariant-loop-i
invariant-loop-i l = l.column ≡ tab (after l.i (λ u. rows_in l.width l.plan u l.k) (family_in l.initial.column)) most_nodes
