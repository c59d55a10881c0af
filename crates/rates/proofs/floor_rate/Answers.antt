-- The word has the nodes at or below i.
use mathlib.Core.Bool.{Bool, ◌&&◌, ◌||◌}
use mathlib.Core.Path.{ap, ◌∙◌}
use lib.Dec.{eqb, ltb}
use Rattle.base.specs.Set.{word_bits}
use Rattle.job.specs.Read.{tree_in}
use Rattle.rates.proofs.WalkLaws.{floor_walk}
use Rattle.rates.proofs.floor_rate.Goals as goal

pub returns : goal.returns
returns c =
    let i = c.args.i in
    c.least_of.ensures
    ∙ floor_walk (tree_in c.args.film.job.now) c.args.film.with_sums.tree c.with-nodes.result i c.requires
    (λ k. c.with-nodes.ensures k
    ∙ ap (λ (b : Bool). b || (eqb k i && ltb k word_bits)) (c.below.ensures k))
