-- Each way out is one case of the refusals in turn.
use mathlib.Core.Logic.{⊎_elim}
use mathlib.Core.Path.{sym}
use Rattle.radio.proofs.AnswerLaws.{no_rates, many_rates, wrong_list, right_list}
use Rattle.radio.proofs.check_lent.Goals as goal

pub returns-then-rates-eq0 : goal.returns-then-rates-eq0
returns-then-rates-eq0 c =
    let a = c.args in
    sym (⊎_elim (λ none. no_rates a.rates a.lent none) (λ many. many_rates a.rates a.lent many.0 many.1) c.then-rates-eq0.either)

pub returns-then-lent-rates : goal.returns-then-lent-rates
returns-then-lent-rates c =
    sym (wrong_list c.args.rates c.args.lent c.if-rates-eq0.false c.if-rates-gt-MOST_RATES.false c.if-lent-rates.true)

pub returns : goal.returns
returns c =
    sym (right_list c.args.rates c.args.lent c.if-rates-eq0.false c.if-rates-gt-MOST_RATES.false c.if-lent-rates.false)
