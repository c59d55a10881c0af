-- The three ways out are no child, one child, and more, of which the walk finds the second least need.
use native.Mathlib.Omega.{arith}
use mathlib.Core.Path.{◌≡◌, sym, ◌∙◌}
use Rattle.job.specs.Read.{tree_in}
use Rattle.smoothing.specs.Tree.{child_count}
use Rattle.smoothing.proofs.ChoiceLaws.{handed-none, handed_one}
use Rattle.rates.proofs.WalkLaws.{children_count, handed_walk}
use Rattle.rates.proofs.handed_on.Goals as goal
use Rattle.rates.proofs.handed_on.Goals.{After-count-count}

-- the number read from the word is that of the children
counted : (c : After-count-count) → let t = tree_in c.args.film.job.now in
    c.count-count.result ≡ child_count t.n t.parent c.args.i
counted c =
    c.count-count.ensures
    ∙ children_count (tree_in c.args.film.job.now) c.args.film.with_sums.tree c.args.i c.children-children.result
    c.children-children.ensures

pub returns-then-count-eq0 : goal.returns-then-count-eq0
returns-then-count-eq0 c =
    sym (handed-none _ _ _ _ _
    (omega (arith, counted (goal.at.returns-then-count-eq0 c).After-count-count, c.if-count-eq0.true)))

pub returns-then-count-eq1 : goal.returns-then-count-eq1
returns-then-count-eq1 c =
    sym (handed_one _ _ _ _ _
    (omega (arith, counted (goal.at.returns-then-count-eq1 c).After-count-count, c.if-count-eq1.true)))

pub returns : goal.returns
returns c =
    let children = c.children-children in
    c.second_least_of.ensures
    ∙ handed_walk (tree_in c.args.film.job.now) c.args.film.with_sums.tree c.args.i children.result children.ensures c.args.needs.now
    c.args.asked
    (omega (arith, counted (goal.at.returns c).After-count-count, c.if-count-eq0.false, c.if-count-eq1.false))
