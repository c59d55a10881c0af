use mathlib.Core.Path.{◌≡◌, ap, sym, ◌∙◌}
use mathlib.Core.List.{List}
use Prim.Native.Nat.{ℕ, ◌+◌, ◌-◌, ◌*◌, ◌≤◌}
use native.Mathlib.Omega.{arith}
use lib.Seq.{length-take-le}
use lib.ListN.{length, take}
use Rattle.planner.specs.Work.{width_of}
use Rattle.job.specs.Limits.{most_slots}
use Rattle.job.proofs.SlotLaws.{greatest_delay_le}
use Rattle.job.specs.Read.{tree_in}
use Rattle.job.specs.Tree.{H}
use Rattle.planner.proofs.with_sums.Goals as goal
use Rattle.planner.proofs.with_sums.Goals.{After-last_slot-width}

width_is : (c : After-last_slot-width) → c.last_slot-width.result + 1 ≡ width_of c.args.film.job.now
unfolding H
width_is c = ap (λ (n : ℕ). n + 1) (c.last_slot-width.ensures (λ m. 0))

width_fits : (c : After-last_slot-width) → width_of c.args.film.job.now ≤ most_slots
width_fits c = omega (arith, greatest_delay_le (tree_in c.args.film.job.now) c.args.film.with_sums.tree, c.args.film.with_sums.frames_to)

-- a row's room cut to the width
cut : (c : After-last_slot-width) (room : List ℕ) → length room ≡ most_slots
    → length (take (c.last_slot-width.result + 1 - 0) room) ≡ width_of c.args.film.job.now
cut c room long =
    let e : c.last_slot-width.result + 1 - 0 ≡ width_of c.args.film.job.now = omega (arith, width_is c) in
    rw e (length-take-le (width_of c.args.film.job.now) room (omega (arith, width_fits c)))

pub overflow_add-width : goal.overflow_add-width
overflow_add-width c = omega (arith, width_is c, width_fits c)

pub slice_bounds-lowers-end : goal.slice_bounds-lowers-end
slice_bounds-lowers-end c = omega (arith, width_is (goal.at.slice_bounds-lowers-end c).After-last_slot-width, width_fits (goal.at.slice_bounds-lowers-end c).After-last_slot-width, c.room-lowers.ensures)

pub with_rows-requires : goal.with_rows-requires
with_rows-requires c =
    let lowers = cut (goal.at.with_rows-requires c).After-last_slot-width c.room-lowers.result c.room-lowers.ensures in
    let kept = cut (goal.at.with_rows-requires c).After-last_slot-width c.room-kept.result c.room-kept.ensures in (
      record {
        wide = omega (arith, lowers);
        slots_to = omega (arith, lowers, width_fits (goal.at.with_rows-requires c).After-last_slot-width);
        same = kept ∙ sym lowers;
      },
      record {
        plan_long =
            c.requires.plan_long ∙ ap (λ (n : ℕ). (c.args.film.job.now.nodes - 1) * n) (sym lowers);
        peaks_long = c.requires.peaks_long;
      },
    )

pub returns : goal.returns
returns c =
    let w = c.with_rows in
    rw (cut (goal.at.returns c).After-last_slot-width c.room-lowers.result c.room-lowers.ensures) at w.ensures
