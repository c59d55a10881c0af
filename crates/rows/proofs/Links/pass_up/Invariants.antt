use Prim.Native.Nat.{ℕ, ◌-◌, ◌<◌, max}
use mathlib.Core.Path.{◌≡◌}
use Rattle.smoothing.specs.Lists.{family_in}
use Rattle.smoothing.specs.Tree.{pass_up}
use Rattle.rows.specs.Closing.{slot_in}
use Rattle.rows.proofs.Links.pass_up.Given as goal

abbrev pub invariant-loop-v : goal.invariant-loop-v
invariant-loop-v l =
    (k : ℕ) → k < l.width
    → pass_up (family_in l.self.parent.now) (λ v x y. max x y) (l.v - 1) (slot_in l.width l.plan k)
    ≡ pass_up (family_in l.self.parent.now) (λ v x y. max x y) (l.self.nodes - 1) (slot_in l.width l.initial.plan k)
