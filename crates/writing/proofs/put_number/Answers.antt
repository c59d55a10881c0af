-- The loop keeps that the rest written below i gives the whole number written: the last byte may be written first.
use mathlib.Core.Path.{◌≡◌, ◌∙◌}
use native.Mathlib.Omega.{arith}
use Rattle.writing.specs.PutBack.{written}
use Rattle.writing.proofs.WriteLaws.{written_last}
use Rattle.writing.proofs.put_number.Goals as goal

pub loop-i-preserved : goal.loop-i-preserved
loop-i-preserved g c = let l = c.loop-i in written_last l.s c.args.place l.i l.rest (omega arith) ∙ l.invariant

pub returns : goal.returns
unfolding written
returns g c = let e : c.loop-i.i ≡ 0 = omega arith in rw e at c.loop-i.invariant
