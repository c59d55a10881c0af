use Prim.Native.Nat.{◌*◌}
use mathlib.Core.Path.{◌≡◌}
use Rattle.rows.specs.Row.{row_in}
use Rattle.smoothing.specs.Newton as newton
use Rattle.rows.specs.Search.{search_in}
use Rattle.rows.proofs.pass.Given as goal

abbrev pub invariant-loop-k : goal.invariant-loop-k
invariant-loop-k l = search_in l.s ≡ newton.pass (newton.every l.stride (row_in l.lower)) (newton.every l.stride (row_in l.upper)) (l.p * l.stride) l.k
