-- The number, the two rows and the line's end, one after the other (line_text).
use Rattle.relay.proofs.TextLaws.{line_text}
use Rattle.relay.proofs.add_line.Goals as goal

pub returns-clause-added : goal.returns-clause-added
returns-clause-added c =
    rw (c.push_str.ensures.bytes, c.add_row-2.ensures.added, c.add_row.ensures.added, c.add_number.ensures.added)
    (line_text c.args.text.now.bytes c.args.first c.args.few.now c.args.row.now)
