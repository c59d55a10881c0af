use Rattle.base.proofs.CollectLaws.{Collected}
use Rattle.job.specs.Read.{tree_in}
use Rattle.job.specs.Tree.{below}
use Rattle.job.proofs.Job.below.Given as goal

abbrev pub invariant-loop-i : goal.invariant-loop-i
invariant-loop-i l = Collected (λ k. below (tree_in l.self) k l.a) l.i l.set
