use Rattle.pacing.proofs.LowPeakLaws.{peaks_left}
use Rattle.pacing.proofs.leave_out_low_peaks.Goals as goal

pub returns : goal.returns
returns c =
    rw (c.leave_out.ensures.left, c.leave_out.ensures.count)
    (peaks_left c.args.sums.t.now c.args.sums.film.holds c.args.places.now c.args.low c.saturating_sub-slack.result c.requires.0
    c.args.largest
    c.saturating_sub-slack.ensures)
