use mathlib.Core.Path.{◌≡◌}
use Prim.Native.Nat.{◌≤◌, ◌<◌, ◌^◌}
use Rattle.base.specs.Number.{number}
use Rattle.base.proofs.number_at.Given as goal

abbrev pub invariant-loop-i : goal.invariant-loop-i
invariant-loop-i l = (l.i ≤ l.width) × ((l.r ≡ number l.s l.place l.i) × (l.r < 256 ^ l.i))
