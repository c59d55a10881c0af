-- The count of ones is the count of members; it is at most the width of a word, so it fits a usize.
use native.Mathlib.Omega.{arith}
use Rattle.base.proofs.SetLaws.{count_is}
use Rattle.base.proofs.count.Goals as goal

pub returns : goal.returns
returns c = count_is _ (omega arith)
