-- The first copy reads up to the slice's end, the second from its start; together they are the bytes from the place on (read_stretches).
use Rattle.store.proofs.StretchLaws.{read_stretches}
use Rattle.store.proofs.read_round.Goals as goal

pub returns : goal.returns
returns c =
    rw (c.copy-2.ensures, c.copy.ensures)
    (read_stretches c.args.slice.now c.args.out.now c.args.place c.min-first.result c.requires.0 c.requires.1 c.min-first.ensures)
