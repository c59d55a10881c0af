-- The set of leaves says whether node i is one: then its held bytes are S less what it has played, else its lead.
use mathlib.Core.Path.{refl, sym, ◌∙◌}
use lib.ListN.{get_or}
use Rattle.running.specs.Work.{held}
use Rattle.running.proofs.TestLaws.{children_walked}
use Rattle.running.proofs.Slot.held_at.Goals as goal

pub returns-then-member : goal.returns-then-member
unfolding held
returns-then-member c = rw (sym (c.leaves.ensures c.args.i) ∙ sym c.member.ensures ∙ c.if-member.true)
    (c.saturating_sub.ensures ∙ rw c.played-played.ensures refl)

pub returns-else-member : goal.returns-else-member
unfolding held
returns-else-member c =
    rw (sym (c.leaves.ensures c.args.i) ∙ sym c.member.ensures ∙ c.if-member.false)
    (c.most_ahead.ensures
    ∙ children_walked _ c.args.self.now.film.with_sums.tree c.children.result c.args.i _ (λ u. get_or c.args.self.now.column.now u 0)
    c.children.ensures)
