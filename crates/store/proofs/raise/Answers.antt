-- The loop keeps that counts before this one are raised; the rest are as lent, so that what is required of it still says that it fits.
use native.Mathlib.Omega.{arith}
use mathlib.Core.Path.{◌≡◌}
use Prim.Native.Nat.{◌+◌}
use lib.ListN.{get_or}
use Rattle.base.proofs.TableLaws.{filled_none, filled_more, filled-ahead}
use Rattle.store.proofs.raise.Goals as goal
use Rattle.store.proofs.raise.Goals.{In-loop-count}

pub loop-count-init : goal.loop-count-init
loop-count-init c = filled_none _ _

-- the count that is raised next is still what it was
ahead : (c : In-loop-count)
    → get_or c.loop-count.counts c.loop-count.count-index 0 ≡ get_or c.args.counts.now c.loop-count.count-index 0
ahead c =
    filled-ahead (λ d. get_or c.args.counts.now d 0 + c.args.n) c.loop-count.count-index _ c.loop-count.counts
    c.loop-count.invariant (omega arith)

pub overflow_add-count : goal.overflow_add-count
overflow_add-count c =
    omega (arith, ahead (goal.at.overflow_add-count c).In-loop-count, c.requires c.loop-count.count-index (omega arith))

pub loop-count-preserved : goal.loop-count-preserved
loop-count-preserved c =
    let l = c.loop-count in
    rw (ahead (goal.at.loop-count-preserved c).In-loop-count)
    (filled_more (λ d. get_or c.args.counts.now d 0 + c.args.n) l.count-index _ l.counts l.invariant (omega arith))
