-- Both words together, with the second taken out again by exclusive or, leave what only the first has.
use Rattle.base.proofs.SetLaws.{has-outside}
use Rattle.base.proofs.outside.Goals as goal

pub returns : goal.returns
returns c = λ j. has-outside _ _ j
