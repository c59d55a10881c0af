-- A turn adds a space and the digits of the next number (row_added), in the room of one number more.
use Rattle.std.proofs.Common.{rules, append-nil}
use native.Mathlib.Omega.{arith}
use mathlib.Core.Path.{refl, ◌∙◌}
use Rattle.relay.specs.Text.{spaced}
use Rattle.relay.proofs.TextLaws.{row_added}
use Rattle.relay.proofs.add_row.Goals as goal

pub loop-n-init : goal.loop-n-init
unfolding spaced
loop-n-init c = record { added = rw append-nil refl; long = omega arith }

pub loop-n-preserved : goal.loop-n-preserved
loop-n-preserved c =
    let l = c.loop-n in
    record {
      added = row_added c.args.row.now c.args.text.now.bytes l.text.bytes _ l.n-index _ (search rules) refl l.invariant.added
          (c.add_number.ensures.added ∙ rw (c.push_str.ensures.bytes) refl);
      long = omega (arith, l.invariant.long, c.push_str.ensures.len, c.add_number.ensures.long);
    }
