-- Past the first refusal the child is one of the store's and has a count.
use mathlib.Core.Bool.{false, true, not}
use mathlib.Core.Path.{◌≡◌, sym, ◌∙◌}
use lib.Dec.{ltb}
use borrow.Author.Tests.{lt-ltb, le-ltb}
use Rattle.base.proofs.BoolLaws.{or_right}
use Rattle.store.specs.Store.{unfit}
use Rattle.store.proofs.CallLaws.{take_bad, take_past}
use Rattle.store.proofs.Store.check_take.Goals as goal
use Rattle.store.proofs.Store.check_take.Goals.{then-unfit-via-then-unfit, then-unfit-via-else-unfit+then-self-child}

pub returns-then-unfit : goal.returns-then-unfit
returns-then-unfit c =
    let s = c.args.self.now in
    elim c.then-unfit.branch [
      | then-unfit-via-then-unfit w ↦
          let bad : unfit s c.args.long ≡ true = sym c.unfit.ensures ∙ w.if-unfit.true in
          take_bad s c.args.long c.args.child c.args.n (rw bad)
      | then-unfit-via-else-unfit+then-self-child w ↦
          let none : not (ltb c.args.child s.children) ≡ true = rw (le-ltb _ _ w.if-self-child.true) in
          take_bad s c.args.long c.args.child c.args.n (or_right (unfit s c.args.long) none)
    ]

pub returns-then-self-child-2 : goal.returns-then-self-child-2
returns-then-self-child-2 c =
    let fit : unfit c.args.self.now c.args.long ≡ false = sym c.unfit.ensures ∙ c.if-unfit.false in
    sym (take_past c.args.self.now c.args.long c.args.child c.args.n fit c.if-self-child.false ∙ rw (lt-ltb _ _ c.if-self-child-2.true))

pub returns : goal.returns
returns c =
    let fit : unfit c.args.self.now c.args.long ≡ false = sym c.unfit.ensures ∙ c.if-unfit.false in
    sym (take_past c.args.self.now c.args.long c.args.child c.args.n fit c.if-self-child.false ∙ rw (le-ltb _ _ c.if-self-child-2.false))
