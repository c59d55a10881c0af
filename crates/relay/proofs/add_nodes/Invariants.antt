use Rattle.std.proofs.Common.{◌≡◌, ◌++◌, ◌+◌, ◌*◌, ◌≤◌, length}
use Rattle.base.specs.Table.{rows_of}
use Rattle.relay.specs.Text.{node_line}
use Rattle.relay.specs.Room.{node_room}
use Rattle.relay.proofs.add_nodes.Given as goal

abbrev pub invariant-loop-i : goal.invariant-loop-i
invariant-loop-i l = record {
  added : l.text.bytes ≡ l.initial.text.bytes ++ rows_of (node_line l.bytes l.plan l.peaks) l.i;
  long : length l.text.bytes ≤ length l.initial.text.bytes + l.i * node_room l.bytes;
}
