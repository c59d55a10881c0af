use Rattle.pacing.proofs.DipLaws.{dips_left}
use Rattle.pacing.proofs.leave_out_dips.Goals as goal

pub returns : goal.returns
returns c =
    rw (c.leave_out.ensures.left, c.leave_out.ensures.count)
    (dips_left c.args.sums.t.now c.args.sums.film.holds c.args.places.now c.args.high c.requires)
