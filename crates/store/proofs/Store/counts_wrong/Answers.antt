-- The two looks at the counts are one over all (counts_are).
use mathlib.Core.Path.{◌≡◌, sym, ◌∙◌}
use lib.ListN.{length}
use borrow.Author.Rules.{rules}
use Rattle.store.specs.Store.{most_children}
use Rattle.store.proofs.CountLaws.{counts_are}
use Rattle.store.proofs.Store.counts_wrong.Goals as goal

pub returns-then-some_above : goal.returns-then-some_above
returns-then-some_above c =
    let s = c.args.self.now in
    let counted : length s.waiting ≡ most_children = search rules in
    c.if-some_above.true ∙ sym (counts_are s counted c.requires ∙ rw (sym c.some_above.ensures ∙ c.if-some_above.true))

pub returns-else-some_above : goal.returns-else-some_above
returns-else-some_above c =
    let s = c.args.self.now in
    let counted : length s.waiting ≡ most_children = search rules in
    c.some_above-else-some_above.ensures
    ∙ sym (counts_are s counted c.requires ∙ rw (sym c.some_above.ensures ∙ c.if-some_above.false))
