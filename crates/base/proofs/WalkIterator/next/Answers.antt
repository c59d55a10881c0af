-- What is left is nothing, or the lowest member and what is left without it.
use mathlib.Core.Path.{ap, ◌∙◌}
use lib.ListN.{length}
use native.Mathlib.Omega.{arith}
use Rattle.base.specs.Set.{members}
use Rattle.base.proofs.MemberLaws.{members_none, members_then}
use Rattle.base.proofs.WalkIterator.next.Goals as goal

pub returns-then-self-eq0-clause-steps : goal.returns-then-self-eq0-clause-steps
returns-then-self-eq0-clause-steps c = let e = ap members c.if-self-eq0.true ∙ members_none in (e, e)

pub returns-clause-steps : goal.returns-clause-steps
returns-clause-steps c =
    let w = c.without_lowest-self in
    rw (c.lowest-next.ensures) (members_then c.args.self.now.left w.result (omega arith) (omega arith) w.ensures.1 w.ensures.0)

pub returns-clause-goes : goal.returns-clause-goes
returns-clause-goes c =
    let w = c.without_lowest-self in
    let e = members_then c.args.self.now.left w.result (omega arith) (omega arith) w.ensures.1 w.ensures.0 in
    record { on = λ _. (tt, tt, omega (arith, ap length e)); keeps = tt; rests = λ _. tt }
