use Rattle.std.proofs.Common.{◌≡◌, ◌++◌, ◌+◌, ◌*◌, ◌≤◌, length, take}
use Rattle.relay.specs.Text.{spaced}
use Rattle.relay.specs.Room.{word_width}
use Rattle.relay.proofs.add_row.Given as goal

abbrev pub invariant-loop-n : goal.invariant-loop-n
invariant-loop-n l = record {
  added : l.text.bytes ≡ l.initial.text.bytes ++ spaced (take l.n-index l.row);
  long : length l.text.bytes ≤ length l.initial.text.bytes + word_width * l.n-index;
}
