-- Where neither a stray nor a leaf breaks a rule, the last of the three tests decides.
use mathlib.Core.Path.{sym, ◌∙◌}
use Rattle.std.proofs.Common.{rules, arith}
use Rattle.running.specs.Work.{breaks}
use Rattle.running.proofs.Slot.link_breaks.Goals as goal
use Rattle.running.proofs.Slot.link_breaks.Goals.{then-strays, else-strays}

pub returns-then-leaf_breaks : goal.returns-then-leaf_breaks
unfolding breaks
returns-then-leaf_breaks c = search rules

pub returns-else-leaf_breaks : goal.returns-else-leaf_breaks
unfolding breaks
returns-else-leaf_breaks c = elim c.if-strays.branch [
  | then-strays w ↦ grind arith
  | else-strays w ↦
      let stray = rw c.total.ensures at (sym c.strays.ensures ∙ w.if-strays.false) in
      let leaf = sym w.leaf_breaks.ensures ∙ sym w.value-is ∙ c.if-leaf_breaks.false in
      rw (stray, leaf) c.pair_breaks.ensures
]
