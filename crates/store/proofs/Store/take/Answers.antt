-- Past the check `Takeable` gives each call what it requires, and what is read round the end is what waits first (take_round).
use native.Mathlib.Omega.{arith}
use mathlib.Core.Path.{refl, sym, ◌∙◌}
use Prim.Native.Nat.{◌<◌}
use lib.ListN.{length}
use Rattle.store.specs.Store.{most_children}
use Rattle.store.proofs.RoundLaws.{back_to}
use Rattle.store.proofs.StoreLaws.{place-to, waiting_to, take_round}
use Rattle.store.proofs.CallLaws.{Takeable, takeable, take-answers, take_refuses, handed_on}
use Rattle.store.proofs.Store.take.Goals as goal
use Rattle.store.proofs.Store.take.Goals.{In_ok-check_take}

-- what is known past the check
able : (c : In_ok-check_take) → Takeable c.args.self.now (length c.args.slice.now) c.args.child (length c.args.out.now)
able c = takeable _ _ _ _ (sym c.in_ok-check_take.ensures)

child_in : (c : In_ok-check_take) → c.args.child < most_children
child_in c = omega (arith, (able c).child, (able c).possible.few)

pub returns-in_err-check_take : goal.returns-in_err-check_take
returns-in_err-check_take c =
    let (is, some) = handed_on c.from_residual.result c.in_err-check_take.field-0.0 c.from_residual.ensures.1 in
    take_refuses c.args.self.now c.args.slice.now c.args.child c.args.out.now _ (is ∙ c.in_err-check_take.ensures) some

pub offset_bounds-self-child : goal.offset_bounds-self-child
offset_bounds-self-child c = omega (arith, child_in (goal.at.offset_bounds-self-child c).In_ok-check_take)

pub bounds-self-child : goal.bounds-self-child
bounds-self-child c = child_in (goal.at.bounds-self-child c).In_ok-check_take

pub overflow_sub-left : goal.overflow_sub-left
overflow_sub-left c = (able (goal.at.overflow_sub-left c).In_ok-check_take).enough

pub back-requires : goal.back-requires
back-requires c =
    let can = able (goal.at.back-requires c).In_ok-check_take in
    (place-to _ can.possible, waiting_to _ can.possible _ can.child)

pub read_round-requires : goal.read_round-requires
read_round-requires c =
    let can = able (goal.at.read_round-requires c).In_ok-check_take in
    let s = c.args.self.now in
    let waits = waiting_to s can.possible _ can.child in (
      omega (arith, c.back.ensures, back_to s.length s.place _ (place-to s can.possible) waits, can.as_long),
      omega (arith, can.enough, waits, can.as_long),
    )

pub offset_bounds-self-child-2 : goal.offset_bounds-self-child-2
offset_bounds-self-child-2 c = omega (arith, child_in (goal.at.offset_bounds-self-child-2 c).In_ok-check_take)

pub bounds-self-child-2 : goal.bounds-self-child-2
bounds-self-child-2 c = child_in (goal.at.bounds-self-child-2 c).In_ok-check_take

pub returns : goal.returns
returns c =
    let can = able (goal.at.returns c).In_ok-check_take in
    let s = c.args.self.now in
    rw (
      c.read_round.ensures,
      c.back.ensures,
      can.as_long,
      take_round s can.possible c.args.slice.now c.args.child (length c.args.out.now) can.child can.enough,
    )
    (take-answers s c.args.slice.now c.args.child c.args.out.now 0 c.in_ok-check_take.ensures refl)
