-- By cases: every slot has T(M), and at a leaf is capped by what its memory allows.
use mathlib.Core.Path.{sym, ◌∙◌}
use Rattle.curves.proofs.AllRowsLaws.{roof-leaf, roof_inner}
use Rattle.base.proofs.ListLaws.{tab_const}
use Rattle.curves.proofs.roof_row.Goals as goal

pub returns-then-member : goal.returns-then-member
returns-then-member c =
    let is_leaf = sym (c.leaves.ensures c.args.v) ∙ sym c.member.ensures ∙ c.if-member.true in
    let filled = (rw c.total.ensures at (c.fill.ensures.after (λ y e. e))) ∙ sym (tab_const _ _) in
    c.lower_by_leaf.ensures ∙ rw filled (roof-leaf _ c.args.film.with_sums.tree _ _ _ _ is_leaf)

pub returns-else-member : goal.returns-else-member
returns-else-member c =
    let none = sym (c.leaves.ensures c.args.v) ∙ sym c.member.ensures ∙ c.if-member.false in
    (rw c.total.ensures at (c.fill.ensures.after (λ y e. e))) ∙ sym (tab_const _ _) ∙ roof_inner _ _ _ _ _ none
