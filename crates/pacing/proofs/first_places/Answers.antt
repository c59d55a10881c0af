-- Small frames are left out first; low peaks, where they are, leave as much to be found, and so do dips.
use native.Mathlib.Omega.{arith}
use mathlib.Core.List.{List, ◌++◌}
use Prim.Native.Nat.{ℕ, ◌≤◌}
use lib.ListN.{length, drop, length-append}
use Rattle.job.specs.Limits.{greatest_rate}
use Rattle.pacing.proofs.PlaceLaws.{places_within, places_same-from, places_same_up_to}
use Rattle.pacing.proofs.first_places.Goals as goal

pub returns : goal.returns
returns c =
    let stops = c.leave_out_small_frames-stops in
    let fewer = c.leave_out_low_peaks-fewer in
    let dips = c.leave_out_dips_if_near-count in
    let sums = c.args.sums.t.now in
    let low = c.args.low in
    let high = c.args.high in
    let fits : stops.result.count ≤ length stops.new.places =
    omega (arith, stops.ensures.track.few, stops.auto.places, c.requires.0, c.args.sums.film.holds.some_sum) in
    let left : List ℕ = fewer.new.places ++ drop stops.result.count stops.new.places in
    let still : fewer.result ≤ length left =
    omega (
      arith,
      fewer.ensures.fewer,
      fewer.auto.places,
      length-append fewer.new.places (drop stops.result.count stops.new.places),
    ) in
    let within = places_within sums low greatest_rate low high stops.result.largest _ _ (omega arith) c.requires.1.1 stops.ensures in
    let peaks = places_same-from sums low high stops.result.largest stops.result.count _ fits within _ fewer.auto.places _ fewer.ensures in
    places_same_up_to sums low high stops.result.largest fewer.result _ still peaks _ dips.auto.places _ dips.ensures
