use Rattle.base.proofs.CollectLaws.{Collected}
use Rattle.job.specs.Read.{tree_in}
use Rattle.job.specs.Tree.{leaf}
use Rattle.job.proofs.Job.leaves.Given as goal

abbrev pub invariant-loop-i : goal.invariant-loop-i
invariant-loop-i l = Collected (leaf (tree_in l.fn.self)) l.i l.set
