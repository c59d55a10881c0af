-- The loop fills both rows from the front.
use Prim.Native.Nat.{suc, ◌-◌}
use native.Mathlib.Numerals.{add-one}
use native.Mathlib.Omega.{arith}
use lib.ListN.{get_or}
use Rattle.base.proofs.TableLaws.{filled_none, filled_more}
use Rattle.job.specs.Read.{tree_in}
use Rattle.smoothing.specs.Lists.{family_in}
use Rattle.job.specs.Sums.{sums_in}
use Rattle.running.specs.Work as work
use Rattle.running.proofs.Slot.report.Goals as goal

pub loop-i-init : goal.loop-i-init
loop-i-init c = (filled_none _ _, filled_none _ _)

pub loop-i-preserved : goal.loop-i-preserved
loop-i-preserved c =
    let l = c.loop-i in
    let slot = c.args.self.now in
    let film = slot.film in
    let sent = c.saturating_sub.ensures in
    let held = c.held_at.ensures in (
      rw (rw add-one at sent)
          (filled_more (λ i. get_or slot.column.now (suc i) 0 - get_or slot.carried.now (suc i) 0) l.i _ l.sent l.invariant.0
          (omega (arith, c.loop-i-test.true, c.requires.sent_long))),
      rw (rw add-one at held)
          (filled_more (λ i. work.held (tree_in film.job.now) (sums_in film.sums.t.now) slot.k (family_in slot.column.now) (suc i))
          l.i _ l.held l.invariant.1 (omega (arith, c.loop-i-test.true, c.requires.held_long))),
    )
