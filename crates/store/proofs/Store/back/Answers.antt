-- By whether the start is passed.
use native.Mathlib.Omega.{arith}
use mathlib.Core.Path.{sym}
use Rattle.store.proofs.RoundLaws.{back_near, back_round}
use Rattle.store.proofs.Store.back.Goals as goal

pub returns-then-self-n : goal.returns-then-self-n
returns-then-self-n c =
    let s = c.args.self.now in
    omega (arith, back_round s.length s.place c.args.n c.if-self-n.true)

pub returns-else-self-n : goal.returns-else-self-n
returns-else-self-n c =
    let s = c.args.self.now in
    sym (back_near s.length s.place c.args.n c.if-self-n.false)
