use Prim.Native.Nat.{◌-◌, max}
use lib.ListN.{get_or}
use Rattle.base.specs.Table.{Filled}
use Rattle.pacing.specs.Work.{lead_at}
use Rattle.pacing.proofs.needs_by.Given as goal

abbrev pub invariant-loop-i : goal.invariant-loop-i
invariant-loop-i l = Filled (λ k. max (lead_at l.leads k).most (l.largest - get_or l.rates k 0)) l.i l.initial.need-items l.need-items
