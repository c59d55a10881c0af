use Prim.Native.Nat.{ℕ, ◌-◌, ◌<◌}
use mathlib.Core.Path.{◌≡◌}
use Rattle.smoothing.specs.Lists.{family_in}
use Rattle.smoothing.specs.Tree.{pass_up, open_up}
use Rattle.rows.specs.Row.{InRange}
use Rattle.rows.specs.Closing.{slot_in}
use Rattle.rows.specs.Links.{tree_in}
use Rattle.rows.proofs.Links.open_up.Given as goal

abbrev pub invariant-loop-v : goal.invariant-loop-v
invariant-loop-v l =
    InRange l.plan
    × ((k : ℕ) → k < l.width
    → pass_up (family_in l.self.parent.now) (open_up (tree_in l.self)) (l.v - 1) (slot_in l.width l.plan k)
    ≡ pass_up (family_in l.self.parent.now) (open_up (tree_in l.self)) (l.self.nodes - 1) (slot_in l.width l.initial.plan k))
