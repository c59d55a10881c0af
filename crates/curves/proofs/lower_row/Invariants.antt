use lib.ListN.{length}
use Rattle.job.specs.Read.{tree_in}
use Rattle.curves.proofs.LowerRowLaws.{LowerSoFar}
use Rattle.curves.proofs.lower_row.Given as goal

abbrev pub invariant-loop-a : goal.invariant-loop-a
invariant-loop-a l =
    LowerSoFar (tree_in l.film.job.now) l.film.sums.t.now l.i (length l.initial.out) l.a l.less l.seen l.taken l.out

abbrev pub decreases-loop-a : goal.decreases-loop-a
decreases-loop-a l = l.a
