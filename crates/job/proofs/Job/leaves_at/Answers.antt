-- By the members: leaves that are in the set of what is below a, with a itself.
use mathlib.Core.Path.{◌∙◌}
use Rattle.job.specs.Read.{tree_in}
use Rattle.job.proofs.TreeLaws.{at_word}
use Rattle.job.proofs.Job.leaves_at.Goals as goal

pub returns : goal.returns
returns c = λ l.
    c.common.ensures l
    ∙ rw (c.leaves.ensures l, c.with.ensures l, c.below.ensures l)
    (at_word (tree_in c.args.self.now) c.requires c.args.a l)
