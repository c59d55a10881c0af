use Rattle.base.proofs.CollectLaws.{Passing}
use Rattle.base.specs.Range.{some}
use Rattle.job.specs.Read.{tree_in}
use Rattle.job.specs.Tree.{child}
use Rattle.job.proofs.Job.inner_nodes.Given as goal

abbrev pub invariant-loop-i : goal.invariant-loop-i
invariant-loop-i l = Passing (λ k. some (λ c. child (tree_in l.self) c k) l.i) l.set
