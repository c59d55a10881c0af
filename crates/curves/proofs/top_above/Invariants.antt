use Prim.Native.Nat.{◌≤◌, ◌<◌}
use Rattle.curves.proofs.top_above.Given as goal

abbrev pub invariant-loop-a : goal.invariant-loop-a
invariant-loop-a l = (0 < l.a) × (l.a ≤ l.i)

abbrev pub decreases-loop-a : goal.decreases-loop-a
decreases-loop-a l = l.a
