-- The copy is the row of u, the part handed on is that of v, and what comes back is put into the plan.
use Prim.Native.Nat.{◌+◌, ◌-◌, ◌*◌, ◌≤◌, max}
use mathlib.Core.Path.{refl, ◌∙◌}
use lib.ListN.{length}
use Rattle.base.proofs.TableLaws.{put_part}
use Rattle.smoothing.specs.Lists.{rows_in}
use Rattle.rows.proofs.ClosingLaws.{row_within, row_part, tab_both}
use native.Mathlib.Omega.{arith}
use Rattle.rows.proofs.close_row.Goals as goal

pub returns : goal.returns
returns c =
    let plan = c.args.plan.now in
    let w = c.args.width in
    let a = (c.args.v - 1) * w in
    let room : a + w ≤ length plan = omega (arith, c.requires.1.0, row_within c.args.v w (omega arith)) in
    let part = row_part w plan c.args.v a (a + w) (omega arith) refl refl room in
    let copied = c.copy_row.ensures in record {
      closed = put_part a (a + w) plan _ _ (omega arith)
          (c.finish_row.ensures.raised
          ∙ tab_both (λ x y. max x (y - c.args.amount)) (rows_in w plan c.args.v) (rows_in w plan c.args.u) w _ _ part copied);
      copied = copied;
    }
