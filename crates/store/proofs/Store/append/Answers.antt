-- Past the check `Appendable` gives each call what it requires, and the store that is left is `appended`; before it nothing is touched.
use native.Mathlib.Omega.{arith}
use mathlib.Core.Path.{◌≡◌, refl, sym, ◌∙◌}
use lib.ListN.{length}
use lib.Seq.{get_or-take, length-take-le}
use borrow.Author.Rules.{rules}
use Rattle.store.specs.Store.{most_children}
use Rattle.store.proofs.StoreLaws.{place-to, free-fits}
use Rattle.store.proofs.CountLaws.{counts_raised}
use Rattle.store.proofs.CallLaws.{Appendable, appendable, append-answers, append_refuses, handed_on}
use Rattle.store.proofs.Store.append.Goals as goal
use Rattle.store.proofs.Store.append.Goals.{In_ok-check_append}

-- what is known past the check
able : (c : In_ok-check_append) → Appendable c.args.self.now (length c.args.slice.now) (length c.args.bytes.now)
able c = appendable _ _ _ (sym c.in_ok-check_append.ensures)

pub returns-in_err-check_append : goal.returns-in_err-check_append
returns-in_err-check_append c =
    let (is, some) = handed_on c.from_residual.result c.in_err-check_append.field-0.0 c.from_residual.ensures.1 in
    append_refuses c.args.self.now c.args.slice.now c.args.bytes.now _ (is ∙ c.in_err-check_append.ensures) some

pub write_round-requires : goal.write_round-requires
write_round-requires c =
    let can = able (goal.at.write_round-requires c).In_ok-check_append in (
      omega (arith, place-to _ can.possible, can.as_long),
      omega (arith, free-fits _ can.possible _ 0 can.fits can.some, can.as_long),
    )

pub onward-self-requires : goal.onward-self-requires
onward-self-requires c =
    let can = able (goal.at.onward-self-requires c).In_ok-check_append in
    (place-to _ can.possible, omega (arith, free-fits _ can.possible _ 0 can.fits can.some))

pub slice_bounds-raise-end : goal.slice_bounds-raise-end
slice_bounds-raise-end c = (able (goal.at.slice_bounds-raise-end c).In_ok-check_append).possible.few

pub raise-requires : goal.raise-requires
raise-requires c d h =
    let can = able (goal.at.raise-requires c).In_ok-check_append in
    let s = c.args.self.now in
    let counted : length s.waiting ≡ most_children = search rules in
    let child = length-take-le s.children s.waiting (omega (arith, counted, can.possible.few)) in
    rw (get_or-take s.children s.waiting d 0 (omega (arith, child)))
    (omega (arith, free-fits s can.possible (length c.args.bytes.now) d can.fits (omega (arith, child))))

pub returns : goal.returns
returns c =
    let s = c.args.self.now in
    let counted : length s.waiting ≡ most_children = search rules in
    rw (
      c.raise.ensures,
      c.onward-self.ensures,
      c.write_round.ensures,
      counts_raised s counted (able (goal.at.returns c).In_ok-check_append).possible.few (length c.args.bytes.now),
    )
    (append-answers s c.args.slice.now c.args.bytes.now 0 c.in_ok-check_append.ensures refl)
