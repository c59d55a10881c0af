-- The roof with its slot 0 set to 0 is what the link's own rules allow.
use Rattle.curves.proofs.AllRowsLaws.{high_slots}
use mathlib.Core.Path.{◌∙◌}
use Rattle.curves.proofs.high_row.Goals as goal

pub returns : goal.returns
returns c =
    let z = c.start_at_zero.ensures in
    let e = c.roof_row.ensures in
    z ∙ rw e (high_slots _ _ _ _ _)
