-- The count of trailing zeros is the first member, or the width of a word where there is none; so it fits a usize.
use native.Mathlib.Omega.{arith}
use lib.Count.{trailing_le}
use Rattle.base.proofs.SetLaws.{lowest_is}
use Rattle.base.proofs.lowest.Goals as goal

pub overflow_cast-result : goal.overflow_cast-result
overflow_cast-result c = omega (arith, trailing_le 64 c.args.s)

pub returns : goal.returns
returns c = lowest_is _ (omega arith)
