-- The column read is the one that a step takes; then either the first breach found is the answer, or the rows are filled.
use mathlib.Core.Path.{◌≡◌, refl, ap, ap₂, sym, ◌∙◌}
use Prim.Native.Nat.{ℕ, ◌+◌, ◌-◌, ◌*◌, ◌≤◌}
use native.Mathlib.Numerals.{add-one}
use Rattle.base.specs.Table.{tab}
use Rattle.smoothing.specs.Lists.{family_in, rows_in}
use Rattle.job.specs.Limits.{most_nodes, most_slots}
use Rattle.job.specs.Tree.{H}
use Rattle.job.specs.Read.{tree_in}
use Rattle.job.proofs.SlotLaws.{greatest_delay_le}
use Rattle.planner.specs.Work.{width_of}
use Rattle.running.specs.Work.{after, taken, Advanced}
use native.Mathlib.Omega.{arith}
use Rattle.running.proofs.advance.Goals as goal
use Rattle.running.proofs.advance.Goals.{After-last_slot-width, After-take_column-column}

width_is : (c : After-last_slot-width) → c.last_slot-width.result + 1 ≡ width_of c.args.film.job.now
unfolding H
width_is c = ap (λ (n : ℕ). n + 1) (c.last_slot-width.ensures (λ m. 0))

width_fits : (c : After-last_slot-width) → width_of c.args.film.job.now ≤ most_slots
width_fits c = omega (arith, greatest_delay_le (tree_in c.args.film.job.now) c.args.film.with_sums.tree, c.args.film.with_sums.frames_to)

-- the column read is the one that a step takes
column_is : (c : After-take_column-column) → c.take_column-column.result ≡ taken c.args.film.job.now c.args.plan.now c.args.state
column_is c =
    let a = c.args in
    c.take_column-column.ensures
    ∙ ap₂ (λ (w k : ℕ). tab (after a.film.job.now.nodes (λ u. rows_in w a.plan.now u k) (family_in a.state.carried)) most_nodes)
    (width_is (goal.at.After-take_column-column c).After-last_slot-width) (add-one a.state.slot)

pub overflow_add-width : goal.overflow_add-width
overflow_add-width c = omega (arith, width_is c, width_fits c)

pub take_column-column-requires : goal.take_column-column-requires
take_column-column-requires c =
    let k = (goal.at.take_column-column-requires c).After-last_slot-width in
    let tree = c.args.film.with_sums.tree in (
      (omega (arith, tree.nodes_from), tree.nodes_to),
      (
        (omega (arith, width_is k, c.requires.slots_left), omega (arith, width_is k, width_fits k)),
        c.requires.plan_long ∙ ap (λ (w : ℕ). (c.args.film.job.now.nodes - 1) * w) (sym (width_is k)),
      ),
    )

pub returns-in-Some : goal.returns-in-Some
unfolding Advanced
returns-in-Some c =
    let found = c.in-Some.ensures in
    (refl, (refl, (found.0, rw (column_is (goal.at.returns-in-Some c).After-take_column-column, add-one) at found.1)))

pub returns : goal.returns
unfolding Advanced
returns c =
    let column = column_is (goal.at.returns c).After-take_column-column in
    let r = c.report.ensures in (
      λ i h. rw (column, add-one) at (c.in_default.ensures i h),
      (rw (column, add-one) refl, (r.sent_after ∙ rw column refl, r.held_after ∙ rw (column, add-one) refl)),
    )
