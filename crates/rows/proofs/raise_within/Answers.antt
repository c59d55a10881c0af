-- The list is split between the two rows; the first is raised to the second, and the rest is as it was.
use Prim.Native.Nat.{◌+◌, ◌-◌, max}
use mathlib.Core.Path.{◌∙◌}
use native.Mathlib.Omega.{arith}
use lib.ListN.{get_or}
use Rattle.base.proofs.TableLaws.{tab_cong}
use Rattle.rows.proofs.ClosingLaws.{tab_both}
use Rattle.rows.proofs.SplitLaws.{row_of_front, row_of_rest, put_front}
use Rattle.rows.proofs.raise_within.Goals as goal

pub returns : goal.returns
returns c =
    let g = c.args in
    let l = g.plan.now in
    let parts = c.split_at_mut-front.ensures in
    let raised = c.raise_row_less.ensures
    ∙ tab_both (λ x y. max x (y - 0)) (λ k. get_or l (g.a + k) 0) (λ k. get_or l (g.b + k) 0) g.width _ _
    (row_of_front l g.b g.width c.requires.1 g.a _ parts.front c.requires.0)
    (row_of_rest l g.b g.width c.requires.1 _ parts.back)
    ∙ tab_cong _ _ g.width (λ k h. omega arith) in
    put_front _ g.width l _ _ _ parts.value raised g.a g.b parts.front_len c.requires.0
