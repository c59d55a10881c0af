-- Both sides compute to the same struct.
use Rattle.base.specs.Table.{tab}
use mathlib.Core.Path.{refl}
use Rattle.running.proofs.Running.start.Goals as goal

pub returns : goal.returns
unfolding tab
returns c = refl
