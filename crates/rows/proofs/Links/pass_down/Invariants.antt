use Prim.Native.Nat.{◌-◌}
use mathlib.Core.Path.{◌≡◌}
use Rattle.smoothing.specs.Lists.{family_in}
use Rattle.smoothing.specs.Tree.{pass_down, close_down}
use Rattle.rows.specs.Closing.{AtEachSlot, lent_row}
use Rattle.rows.specs.Links.{tree_in}
use Rattle.rows.proofs.Links.pass_down.Given as goal

abbrev pub invariant-loop-v : goal.invariant-loop-v
invariant-loop-v l =
    AtEachSlot l.width (pass_down (family_in l.self.parent.now) (close_down (tree_in l.self)) (l.v - 1)) l.initial.plan l.plan
    × (l.above ≡ lent_row l.v l.width l.self.parent.now l.plan l.initial.above)
