use Rattle.pacing.specs.Work.{NextRate}
use Rattle.pacing.proofs.next_rate.Given as goal

abbrev pub invariant-loop-other : goal.invariant-loop-other
invariant-loop-other l = NextRate l.rates l.other-index l.y l.top l.rate
