-- The last number.
use Rattle.std.proofs.Common.{refl}
use Rattle.job.specs.Sums.{last_in}
use Rattle.job.proofs.Sums.total.Goals as goal

pub returns : goal.returns
unfolding last_in
returns c = refl
