-- In both cases of the answer its lines are what was added, and the answer's contract is handed on.
use mathlib.Core.List.{append_assoc}
use mathlib.Core.Path.{refl, ◌∙◌}
use Rattle.relay.specs.Text.{memory_text}
use Rattle.relay.proofs.add_memory_lines.Goals as goal

pub returns-in-Err-clause-added : goal.returns-in-Err-clause-added
unfolding memory_text
returns-in-Err-clause-added c = (
  _,
  record {
    plan₀ = c.args.plan.now;
    plan₁ = c.memory_question.new.plan;
    peaks₀ = c.args.peaks.now;
    peaks₁ = c.memory_question.new.peaks;
    answer = _;
    plan_long = c.requires.0;
    peaks_long = c.requires.1.0;
    answers = c.in-Err.ensures;
    printed = refl;
  },
  rw c.from.ensures at c.add_line.ensures.added,
)

pub returns-in-Ok-clause-added : goal.returns-in-Ok-clause-added
unfolding memory_text
returns-in-Ok-clause-added c = (
  _,
  record {
    plan₀ = c.args.plan.now;
    plan₁ = c.memory_question.new.plan;
    peaks₀ = c.args.peaks.now;
    peaks₁ = c.memory_question.new.peaks;
    answer = _;
    plan_long = c.requires.0;
    peaks_long = c.requires.1.0;
    answers = c.in-Ok.ensures;
    printed = refl;
  },
  c.add_nodes.ensures.added ∙ rw c.add_line-in-Ok.ensures.added (append_assoc c.args.text.now.bytes _ _),
)
