-- The raised row is the closed one where the row and the copy are what its turn hands on (`finished`).
use mathlib.Core.Path.{◌∙◌}
use Rattle.rows.proofs.ClosingLaws.{finished}
use Rattle.rows.proofs.finish_row.Goals as goal

pub returns : goal.returns
returns c =
    let equal = c.raise_row_less.ensures in
    record {
      raised = equal;
      closed = λ T F v due. equal ∙ finished T F v _ _ _ due;
    }
