-- The loop keeps that the state is the pass over the first k of the slots that it looks at.
use Prim.Native.Nat.{◌+◌, ◌-◌, ◌*◌, ◌/◌, ◌≤◌}
use mathlib.Core.Path.{ap}
use native.Mathlib.Nat.{mul-le-mul, div-le_self, div-mul-le_self}
use Rattle.base.proofs.TableLaws.{row_end}
use lib.ListN.{length}
use Rattle.rows.specs.Row.{row_in}
use Rattle.smoothing.specs.Newton as newton
use Rattle.rows.specs.Search.{search_in}
use Rattle.rows.proofs.SearchLaws.{pass-none, pass_more, gap_within}
use native.Mathlib.Omega.{arith}
use Rattle.rows.proofs.pass.Goals as goal

pub loop-k-init : goal.loop-k-init
loop-k-init c = pass-none _ _ _ _ (ap (row_in c.args.upper.now) (omega arith))

pub look-s-requires : goal.look-s-requires
look-s-requires c =
    let l = c.loop-k in
    let n = length c.args.lower.now in
    let within : l.k * c.args.stride + c.args.stride ≤ n - 1 = omega (arith, row_end l.k ((n - 1) / c.args.stride) c.args.stride c.loop-k-test.true, div-mul-le_self (n - 1) c.args.stride) in
    let gap : l.s.gap ≤ l.k =
    rw (← ap (λ (s : newton.Search). s.gap) l.invariant) at (gap_within (newton.every c.args.stride (row_in c.args.lower.now)) (newton.every c.args.stride (row_in c.args.upper.now)) (c.args.p * c.args.stride) l.k) in (
      omega (arith, div-le_self (length c.args.lower.now - 1) c.args.stride, c.requires.searchable.0.slots_to),
      (c.requires.searchable.0.upper_to (l.k * c.args.stride) (omega (arith, c.requires.searchable.0.same_slots)), mul-le-mul c.requires.searchable.1 c.requires.stride_in.1),
    )

pub loop-k-preserved : goal.loop-k-preserved
loop-k-preserved c =
    let l = c.loop-k in
    pass_more _ _ _ l.k _ _ (search_in l.s) (search_in c.look-s.result) l.invariant c.look-s.ensures
    (ap (row_in c.args.lower.now) (omega arith)) (ap (row_in c.args.upper.now) (omega arith))
