use Prim.Native.Nat.{suc, ◌-◌}
use lib.ListN.{get_or}
use Rattle.base.specs.Table.{Filled}
use Rattle.job.specs.Read.{tree_in}
use Rattle.smoothing.specs.Lists.{family_in}
use Rattle.job.specs.Sums.{sums_in}
use Rattle.running.specs.Work as work
use Rattle.running.proofs.Slot.report.Given as goal

abbrev pub invariant-loop-i : goal.invariant-loop-i
invariant-loop-i l =
    let film = l.self.film in
    Filled (λ i. get_or l.self.column.now (suc i) 0 - get_or l.self.carried.now (suc i) 0) l.i l.initial.sent l.sent
    × Filled (λ i. work.held (tree_in film.job.now) (sums_in film.sums.t.now) l.self.k (family_in l.self.column.now) (suc i)) l.i
    l.initial.held l.held
