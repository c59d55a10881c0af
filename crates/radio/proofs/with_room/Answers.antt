-- The room has place for the film's sums, so the lines of these sums are the job's.
use mathlib.Core.Path.{◌∙◌}
use Rattle.radio.proofs.AnswerLaws.{lines_are}
use Rattle.radio.proofs.with_room.Goals as goal

pub returns : goal.returns
returns g c = rw c.film-film.ensures.sums at c.fill.ensures ∙ lines_are c.args.checked.bytes.now c.args.rates.now
