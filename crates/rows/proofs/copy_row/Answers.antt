-- The root has zeros; any other row is the part of the plan that is copied.
use Prim.Native.Nat.{◌+◌, ◌-◌, ◌*◌, ◌≤◌}
use mathlib.Core.Path.{refl, sym, ◌∙◌}
use lib.ListN.{length}
use Rattle.base.proofs.ListLaws.{tab_const}
use Rattle.rows.proofs.ClosingLaws.{row_within, row_part}
use native.Mathlib.Omega.{arith}
use Rattle.rows.proofs.copy_row.Goals as goal

pub returns-then-u-eq0 : goal.returns-then-u-eq0
returns-then-u-eq0 c =
    c.fill.ensures.after (λ y e. e) ∙ rw (c.requires.1, c.if-u-eq0.true) (sym (tab_const 0 c.args.width))

pub returns : goal.returns
returns c =
    let w = c.args.width in
    let a = (c.args.u - 1) * w in
    let room : a + w ≤ length c.args.plan.now = omega (arith, c.requires.0, row_within c.args.u w (omega arith)) in
    c.copy.ensures
    ∙ row_part w c.args.plan.now c.args.u a (a + w) (omega arith) refl refl room
