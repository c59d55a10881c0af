-- What is played since the last stop, and its product with the rate, fit a word.
use native.Mathlib.Omega.{arith}
use mathlib.Core.Path.{refl}
use Rattle.job.proofs.SumsLaws.{sum_at, film_of}
use Rattle.pacing.proofs.next_stop.Goals as goal

pub overflow_sub-sum : goal.overflow_sub-sum
overflow_sub-sum c =
    let sums = c.args.sums.t.now in
    let film = film_of sums c.args.sums.film.holds in
    omega (
      arith,
      c.requires.played,
      sum_at sums c.args.to c.requires.inside,
      film.grows c.args.s.at
          c.args.to (omega (arith, c.requires.forward)),
    )

pub returns : goal.returns
returns c =
    let sums = c.args.sums.t.now in
    rw (c.saturating_sub-lead.ensures, sum_at sums c.args.to c.requires.inside, c.requires.played) refl
