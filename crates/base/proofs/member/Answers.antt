-- Within the word the test is the definition of a member; past it a word has none.
use mathlib.Core.Path.{sym, refl}
use native.Mathlib.Omega.{arith}
use Rattle.base.specs.Set.{has}
use Rattle.base.proofs.SetLaws.{has_past}
use Rattle.base.proofs.member.Goals as goal

pub returns-then-i-lt-WORD_BITS : goal.returns-then-i-lt-WORD_BITS
unfolding has
returns-then-i-lt-WORD_BITS c = refl

pub returns : goal.returns
returns c = sym (has_past _ _ (omega arith) (omega arith))
