-- Arrays of 0 are tables of 0, by computation.
use mathlib.Core.Path.{refl}
use Rattle.base.specs.Table.{tab}
use Rattle.job.proofs.empty.Goals as goal

pub returns : goal.returns
unfolding tab
returns c = refl
