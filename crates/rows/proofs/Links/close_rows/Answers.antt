-- The pass up keeps the length that the pass down asks for; closing is both.
use Rattle.rows.specs.Closing.{slot_in}
use Rattle.rows.specs.Links.{tree_in}
use Rattle.rows.proofs.ClosingLaws.{close_is}
use Rattle.rows.proofs.Links.close_rows.Goals as goal

pub returns : goal.returns
returns c =
    let a = c.args in
    let down = c.pass_down.ensures in record {
      closed = λ k h.
          close_is (tree_in a.self.now) (slot_in a.width a.plan.now k) _ _
          (c.pass_up.ensures k h) (down.passed k h);
      copied = down.copied;
    }
