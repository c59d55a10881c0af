use Rattle.curves.specs.Rows.{leaf_lower}
use mathlib.Core.Path.{◌∙◌}
use Rattle.curves.proofs.leaf_lower.Goals as goal

pub returns : goal.returns
unfolding leaf_lower
returns c = c.max.ensures ∙ rw c.saturating_sub.ensures
