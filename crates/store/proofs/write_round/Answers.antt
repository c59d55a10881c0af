-- The first copy writes up to the slice's end, the second from its start; together that is `written` (write_stretches).
use Rattle.store.proofs.StretchLaws.{write_stretches}
use Rattle.store.proofs.write_round.Goals as goal

pub returns : goal.returns
returns c =
    rw (c.copy-2.ensures, c.copy.ensures)
    (write_stretches c.args.slice.now c.args.bytes.now c.args.place c.min-first.result c.requires.0 c.requires.1 c.min-first.ensures)
