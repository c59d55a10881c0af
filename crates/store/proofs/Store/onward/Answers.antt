-- By whether the end is passed.
use native.Mathlib.Omega.{arith}
use mathlib.Core.Path.{sym}
use Rattle.store.proofs.RoundLaws.{onward_near, onward_round}
use Rattle.store.proofs.Store.onward.Goals as goal

pub returns-then-n-room : goal.returns-then-n-room
returns-then-n-room c =
    let s = c.args.self.now in
    sym (onward_near s.length s.place c.args.n (omega arith))

pub returns-else-n-room : goal.returns-else-n-room
returns-else-n-room c =
    let s = c.args.self.now in
    omega (arith, onward_round s.length s.place c.args.n (omega arith))
