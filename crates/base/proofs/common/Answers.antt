-- The bitwise product of two words has a place where both have it, place by place.
use Rattle.base.proofs.SetLaws.{has_both}
use Rattle.base.proofs.common.Goals as goal

pub returns : goal.returns
returns c = λ j. has_both _ _ j
