-- The pass up keeps the length and the range that the pass down asks for; opening is both.
use Rattle.rows.specs.Closing.{slot_in}
use Rattle.rows.specs.Links.{tree_in}
use Rattle.rows.proofs.OpeningLaws.{open_is}
use Rattle.rows.proofs.Links.open_rows.Goals as goal

pub returns : goal.returns
returns c =
    let a = c.args in
    λ k h.
    open_is (tree_in a.self.now) (slot_in a.width a.plan.now k) _ _
    (c.open_up.ensures.passed k h) (c.open_down.ensures k h)
