-- The loop keeps `LowerSoFar`: the leaves at or below node a have been taken in, and what the row lacks is what a's ancestors bring.
use Rattle.curves.proofs.RowLaws.{all_length}
use mathlib.Core.Path.{◌≡◌, refl, ap, ◌∙◌}
use Prim.Native.Nat.{◌+◌, ◌-◌, ◌*◌, ◌≤◌, ◌<◌}
use lib.ListN.{length}
use Rattle.base.specs.Table.{tab}
use Rattle.base.proofs.TableLaws.{length-tab}
use Rattle.job.specs.Read.{tree_in}
use Rattle.job.specs.Limits.{most_nodes, greatest_memory}
use Rattle.curves.proofs.LowerRowLaws.{lower-start, lower_up, lower-fits, lower_next, lower-done}
use native.Mathlib.Omega.{arith}
use Rattle.curves.proofs.lower_row.Goals as goal
use Rattle.curves.proofs.lower_row.Goals.{At-loop-a, In-loop-a}

-- the node of a turn has a place in the arrays
near : (c : At-loop-a) → c.loop-a.a < most_nodes
near c = omega (arith, c.loop-a.invariant.here, c.requires, c.args.film.with_sums.tree.nodes_to)

-- the parent that a turn goes up to: it is lower, and the memory on the way stays small
up : (c : In-loop-a) → let l = c.loop-a in
    let a = c.args in
    let p = (tree_in a.film.job.now).parent l.a in
    ((0 < p) × (p < l.a)) × (l.less + (tree_in a.film.job.now).memory p ≤ (a.i - p) * greatest_memory)
up c =
    let l = c.loop-a in (
      lower_up _ _ c.args.film.with_sums.tree _ c.requires _ _ _ _ _ _ l.invariant (omega arith),
      lower-fits _ _ c.args.film.with_sums.tree _ c.requires _ _ _ _ _ _ l.invariant (omega arith),
    )

-- the row that the loop begins with is as long as the one lent
kept : (c : At-loop-a)
    → length c.begin_by_leaves-taken.new.out ≡ length c.args.out.now
kept c = ap length c.begin_by_leaves-taken.ensures.raised ∙ all_length _ _ _ _ _ ∙ length-tab _ _

pub loop-a-init : goal.loop-a-init
loop-a-init c =
    let n = c.begin_by_leaves-taken.ensures in
    lower-start _ _ c.args.film.with_sums.tree _ c.requires _ _ _ _ c.leaves_at-seen.ensures n.raised n.taken_after

pub offset_bounds-film-a-in-loop-a-2 : goal.offset_bounds-film-a-in-loop-a-2
offset_bounds-film-a-in-loop-a-2 c =
    let l = c.loop-a in
    let up = lower_up _ _ c.args.film.with_sums.tree _ c.requires _ _ _ _ _ _ l.invariant (omega arith) in
    omega (arith, near (goal.at.offset_bounds-film-a-in-loop-a-2 c).At-loop-a, up)

pub bounds-film-a-in-loop-a-2 : goal.bounds-film-a-in-loop-a-2
bounds-film-a-in-loop-a-2 c =
    let l = c.loop-a in
    let up = lower_up _ _ c.args.film.with_sums.tree _ c.requires _ _ _ _ _ _ l.invariant (omega arith) in
    omega (arith, near (goal.at.bounds-film-a-in-loop-a-2 c).At-loop-a, up)

pub overflow_add-less : goal.overflow_add-less
overflow_add-less c =
    let k = goal.at.overflow_add-less c in
    omega (arith, near k.At-loop-a, up k.In-loop-a, c.requires, c.args.film.with_sums.tree.nodes_to)

pub loop-a-smaller : goal.loop-a-smaller
loop-a-smaller c = (up (goal.at.loop-a-smaller c).In-loop-a).0.1

pub loop-a-preserved : goal.loop-a-preserved
loop-a-preserved c =
    let n = c.raise_by_leaves-taken.ensures in
    lower_next _ _ c.args.film.with_sums.tree _ c.requires _ _ _ _ _ _ c.loop-a.invariant
    (omega arith) _ _ c.leaves_at-leaves.ensures
    c.outside-new.ensures
    _ _ _ refl n.raised n.taken_after

pub returns : goal.returns
returns c =
    lower-done _ _ c.args.film.with_sums.tree _ c.requires _ _ _ _ _ _ c.loop-a.invariant (omega arith)
    ∙ ap (tab _) (kept (goal.at.returns c).At-loop-a)
