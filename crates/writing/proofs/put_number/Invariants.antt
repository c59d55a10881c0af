use mathlib.Core.Path.{◌≡◌}
use Rattle.writing.specs.PutBack.{written}
use Rattle.writing.proofs.put_number.Given as goal

abbrev pub invariant-loop-i : goal.invariant-loop-i
invariant-loop-i g l = written l.s l.place l.i l.rest ≡ written l.initial.s l.place g.row.WIDTH l.x
