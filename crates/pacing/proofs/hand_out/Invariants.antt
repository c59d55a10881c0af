use lib.ListN.{get_or}
use Rattle.base.specs.Table.{Filled}
use Rattle.pacing.specs.Work.{chosen}
use Rattle.pacing.proofs.hand_out.Given as goal

abbrev pub invariant-loop-i : goal.invariant-loop-i
invariant-loop-i l = Filled (λ k. chosen l.taken l.found (get_or l.rates k 0) (get_or l.initial.needs k 0)) l.i l.initial.needs l.needs
