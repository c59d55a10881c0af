-- The loop keeps that the lines of the first i rates stand one after the other and the rest of the list is as lent.
use native.Mathlib.Omega.{arith}
use mathlib.Core.Path.{refl, ◌≡◌}
use Prim.Native.Nat.{◌+◌, ◌*◌}
use native.Mathlib.Numerals.{add-one}
use native.Mathlib.Nat.{suc-mul}
use Rattle.base.specs.Table.{rows_of}
use Rattle.base.proofs.TableLaws.{rows_more}
use Rattle.radio.specs.Answer.{line_length}
use Rattle.radio.proofs.AnswerLaws.{length-line}
use Rattle.radio.proofs.fill.Goals as goal
use Rattle.radio.proofs.fill.Invariants.{rows}

pub loop-i-init : goal.loop-i-init
unfolding rows_of
loop-i-init c = refl

pub loop-i-preserved : goal.loop-i-preserved
loop-i-preserved c =
    let l = c.loop-i in
    let start = l.i * line_length in
    let more : (l.i + 1) * line_length ≡ start + line_length = rw (add-one, suc-mul) (omega arith) in
    rw (c.fill_line.ensures, more)
    (rows_more (rows c.args.sums.t.now c.args.rates.now) line_length l.i start (start + line_length) _ l.lines
    (λ k. length-line _ _ _) l.invariant refl refl)
