-- The list is split between the two rows; the one from place `to` on is lowered to the other, and the rest is as it was.
use Prim.Native.Nat.{◌+◌, ◌≤◌, min}
use mathlib.Core.Path.{◌∙◌}
use mathlib.Core.Logic.{⊎_elim}
use native.Mathlib.Omega.{arith}
use lib.ListN.{get_or}
use Rattle.rows.proofs.ClosingLaws.{tab_both}
use Rattle.rows.proofs.OpeningLaws.{part_range}
use Rattle.rows.proofs.SplitLaws.{row_of_front, row_of_rest, put_front, put_rest}
use Rattle.rows.proofs.lower_within.Goals as goal

pub returns-then-to-from : goal.returns-then-to-from
returns-then-to-from c =
    let g = c.args in
    let l = g.plan.now in
    let parts = c.split_at_mut-front.ensures in
    let before : g.to + g.width ≤ g.from = ⊎_elim (λ h. h) (λ h. absurd (omega arith)) c.requires.0.no_common in
    let lowered = c.lower_row_more.ensures
    ∙ tab_both (λ x y. min x (y + g.plus)) (λ k. get_or l (g.to + k) 0) (λ k. get_or l (g.from + k) 0) g.width _ _
    (row_of_front l g.from g.width c.requires.0.second_in g.to _ parts.front before)
    (row_of_rest l g.from g.width c.requires.0.second_in _ parts.back) in
    let filled = put_front _ g.width l _ _ _ parts.value lowered g.to g.from parts.front_len before in
    record {
      filled = filled;
      ranged = part_range _ g.to g.width l _ c.requires.0.first_in filled (λ k h. omega arith) c.requires.1.1;
    }

pub returns-else-to-from : goal.returns-else-to-from
returns-else-to-from c =
    let g = c.args in
    let l = g.plan.now in
    let parts = c.split_at_mut-front-else-to-from.ensures in
    let before : g.from + g.width ≤ g.to = ⊎_elim (λ (h : g.to + g.width ≤ g.from). omega arith) (λ h. h) c.requires.0.no_common in
    let lowered = c.lower_row_more-else-to-from.ensures
    ∙ tab_both (λ x y. min x (y + g.plus)) (λ k. get_or l (g.to + k) 0) (λ k. get_or l (g.from + k) 0) g.width _ _
    (row_of_rest l g.to g.width c.requires.0.first_in _ parts.back)
    (row_of_front l g.to g.width c.requires.0.first_in g.from _ parts.front before) in
    let filled = put_rest _ g.width l _ _ _ parts.value lowered g.to parts.front_len in
    record {
      filled = filled;
      ranged = part_range _ g.to g.width l _ c.requires.0.first_in filled (λ k h. omega arith) c.requires.1.1;
    }
