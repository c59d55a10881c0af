-- By cases: the empty set stays; else s & (s - 1) clears the lowest member, and is at most s - 1.
use mathlib.Core.Path.{refl}
use native.Mathlib.Omega.{arith}
use lib.Bits.{and_le_r}
use Rattle.base.proofs.SetLaws.{has_cleared, has-none}
use Rattle.base.proofs.without_lowest.Goals as goal

pub returns-then-s-eq0 : goal.returns-then-s-eq0
returns-then-s-eq0 c = (λ j. rw (c.if-s-eq0.true, has-none) refl, omega arith)

pub returns : goal.returns
returns c = (λ j. has_cleared _ (omega arith) (omega arith) j, and_le_r c.args.s _)
