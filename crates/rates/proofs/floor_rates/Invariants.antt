use mathlib.Core.Path.{◌≡◌}
use Rattle.job.specs.Read.{tree_in}
use Rattle.rates.specs.Rates.{floor_rate, least_rate}
use Rattle.rates.specs.Work.{on_links}
use Rattle.rates.proofs.floor_rates.Given as goal

abbrev pub invariant-loop-i : goal.invariant-loop-i
invariant-loop-i l = l.floors ≡ on_links l.i (floor_rate (tree_in l.film.job.now)) (least_rate (tree_in l.film.job.now))
