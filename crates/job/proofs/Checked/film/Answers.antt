-- The sums that `sums` gives are those that the film needs.
use Rattle.job.proofs.SumsLaws.{with_sums, film_sums}
use Rattle.job.proofs.Checked.film.Goals as goal

pub invariant_of-sums : goal.invariant_of-sums
invariant_of-sums c = record { film = rw (c.sums.ensures) (film_sums _ _ (with_sums _ _ c.args.self.accepted)) }

pub invariant_of-result : goal.invariant_of-result
invariant_of-result c = record { with_sums = rw (c.sums.ensures) (with_sums _ _ c.args.self.accepted) }
