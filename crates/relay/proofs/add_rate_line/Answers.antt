-- In both cases of the answer its line is what was added, and the answer's contract is handed on.
use mathlib.Core.Path.{refl}
use Rattle.relay.specs.Text.{rate_text}
use Rattle.relay.proofs.add_rate_line.Goals as goal

pub returns-in-Err : goal.returns-in-Err
unfolding rate_text
returns-in-Err c =
    record {
      added = (
        _,
        record {
          memories₀ = c.args.memories.now;
          memories₁ = c.rate_question.new.memories;
          sizing = _;
          memories_long = c.requires.0;
          answers = c.in-Err.ensures;
          printed = refl;
        },
        rw c.from.ensures at c.add_line.ensures.added,
      );
    }

pub returns-in-Ok : goal.returns-in-Ok
unfolding rate_text
returns-in-Ok c =
    record {
      added = (
        _,
        record {
          memories₀ = c.args.memories.now;
          memories₁ = c.rate_question.new.memories;
          sizing = _;
          memories_long = c.requires.0;
          answers = c.in-Ok.ensures;
          printed = refl;
        },
        c.add_line-in-Ok.ensures.added,
      );
    }
