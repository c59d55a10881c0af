use Prim.Native.Nat.{ℕ, ◌-◌, ◌<◌, min}
use mathlib.Core.Path.{◌≡◌}
use Rattle.smoothing.specs.Lists.{family_in}
use Rattle.smoothing.specs.Tree.{pass_down}
use Rattle.rows.specs.Row.{InRange}
use Rattle.rows.specs.Closing.{slot_in}
use Rattle.rows.proofs.Links.open_down.Given as goal

abbrev pub invariant-loop-v : goal.invariant-loop-v
invariant-loop-v l =
    InRange l.plan
    × ((k : ℕ) → k < l.width
    → slot_in l.width l.plan k ≡ pass_down (family_in l.self.parent.now) (λ v x y. min x y) (l.v - 1) (slot_in l.width l.initial.plan k))
