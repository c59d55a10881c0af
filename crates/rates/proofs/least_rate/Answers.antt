-- The word has the nodes below the root, which are the links.
use mathlib.Core.Path.{◌∙◌}
use Rattle.job.specs.Read.{tree_in}
use Rattle.rates.proofs.WalkLaws.{least_walk}
use Rattle.rates.proofs.least_rate.Goals as goal

pub returns : goal.returns
returns c = c.least_of.ensures ∙ least_walk (tree_in c.args.film.job.now)
    c.args.film.with_sums.tree c.below.result c.below.ensures
