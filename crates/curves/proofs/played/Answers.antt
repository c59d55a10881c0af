use Rattle.job.specs.Sums.{sums_in}
use Rattle.curves.proofs.played.Goals as goal

pub returns : goal.returns
unfolding sums_in
returns c = rw c.place.ensures
