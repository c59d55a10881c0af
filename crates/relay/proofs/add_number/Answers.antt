-- What the buffer gives is the number's digits, of which there are no more than the type has.
use mathlib.Core.Path.{refl}
use Rattle.relay.proofs.DecimalLaws.{digits_printed}
use Rattle.relay.proofs.add_number.Goals as goal

pub returns-clause-added : goal.returns-clause-added
returns-clause-added c = rw (c.push_str.ensures.bytes, c.format.ensures.text, digits_printed c.args.n c.ranges.n) refl
