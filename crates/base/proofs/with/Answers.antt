-- By cases: with room for i its bit is joined to the word; without, the word is the answer as it is.
use Rattle.base.proofs.SetLaws.{has_with}
use Rattle.base.proofs.with.Goals as goal

pub returns-then-i-lt-WORD_BITS : goal.returns-then-i-lt-WORD_BITS
returns-then-i-lt-WORD_BITS c = has_with c.args.s c.args.i c.if-i-lt-WORD_BITS.true
