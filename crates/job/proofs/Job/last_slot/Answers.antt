-- The greatest delay over the set of leaves is the greatest leaf delay.
use mathlib.Core.Path.{◌≡◌, refl, ◌∙◌}
use native.Mathlib.Omega.{arith}
use Rattle.job.proofs.SlotLaws.{greatest_delay_le, greatest_delay-set}
use Rattle.job.specs.Read.{tree_in}
use Rattle.job.specs.Tree.{H, greatest_delay}
use Rattle.job.proofs.Job.last_slot.Goals as goal
use Rattle.job.proofs.Job.last_slot.Goals.{After-longest}

delay_is : (c : After-longest) → c.longest.result ≡ greatest_delay (tree_in c.args.self.now)
delay_is c =
    c.longest.ensures ∙ greatest_delay-set (tree_in c.args.self.now) c.leaves.result c.requires.0.nodes_to c.leaves.ensures

pub overflow_add-result : goal.overflow_add-result
overflow_add-result c =
    omega (arith, delay_is c, greatest_delay_le (tree_in c.args.self.now) c.requires.0)

pub returns : goal.returns
unfolding H
returns c = λ frame. rw (delay_is c) refl
