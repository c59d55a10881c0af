-- Before turn i the lines of nodes 1 to i are added, each within its room.
use Rattle.std.proofs.Common.{append-nil}
use mathlib.Core.Path.{refl}
use Prim.Native.Nat.{◌+◌, ◌≤◌}
use native.Mathlib.Omega.{arith}
use lib.ListN.{length}
use Rattle.base.specs.Table.{rows_of}
use Rattle.planner.proofs.PlaceLaws.{row_most}
use Rattle.relay.proofs.TextLaws.{line_added, line-fits, line_next}
use Rattle.relay.specs.Room.{line_room, node_room}
use Rattle.relay.specs.Text.{node_line}
use Rattle.relay.proofs.add_nodes.Goals as goal
use Rattle.relay.proofs.add_nodes.Goals.{After-row_of-row}

-- a node's line fits the room that each line has
row_fits : (c : After-row_of-row) → line_room (1 + length c.row_of-row.result.now) ≤ node_room c.args.bytes.now
row_fits c =
    rw c.row_of-row.ensures (omega (arith, row_most c.args.bytes.now c.args.plan.now (c.loop-i.i + 1)))

pub loop-i-init : goal.loop-i-init
unfolding rows_of
loop-i-init c = record { added = rw append-nil refl; long = omega arith }

pub add_line-requires : goal.add_line-requires
add_line-requires c =
    let l = c.loop-i in
    let room =
    line-fits _ (length l.text.bytes) l.i (length c.args.peaks.now) (node_room c.args.bytes.now) _ l.invariant.long c.requires (omega arith) in
    omega (arith, room, row_fits (goal.at.add_line-requires c).After-row_of-row)

pub loop-i-preserved : goal.loop-i-preserved
loop-i-preserved c =
    let l = c.loop-i in
    let fits = row_fits (goal.at.loop-i-preserved c).After-row_of-row in
    let lines = node_line c.args.bytes.now c.args.plan.now c.args.peaks.now in
    record {
      added = line_added lines l.i _ _ _ _ l.invariant.added c.add_line.ensures.added (rw c.row_of-row.ensures refl);
      long = line_next _ _ _ l.i (node_room c.args.bytes.now) l.invariant.long (omega (arith, c.add_line.ensures.long, fits));
    }
