-- Left at once, the stretch has no greater excess than before; else the loop keeps the greatest excess at the slots before i.
use native.Mathlib.Omega.{arith}
use mathlib.Core.Path.{◌∙◌}
use Rattle.radio.proofs.CarryLaws.{excess_more, excess_stretch}
use Rattle.radio.proofs.excess_for_slots.Goals as goal

pub returns-then-saturating_sub-excess : goal.returns-then-saturating_sub-excess
returns-then-saturating_sub-excess c =
    c.requires.excess
    ∙ excess_stretch c.args.sums.t.now c.args.sums.film.holds c.args.r c.args.d c.args.m c.args.to
    c.requires.slots.0 c.requires.slots.1
    (omega (arith, c.if-saturating_sub-excess.true, c.saturating_sub.ensures, c.carried_by-most.ensures, c.requires.excess))

pub loop-i-preserved : goal.loop-i-preserved
loop-i-preserved c =
    let l = c.loop-i in
    omega (
      arith,
      c.max-excess.ensures,
      l.invariant,
      c.saturating_sub-in-loop-i.ensures,
      c.carried_by-carried.ensures,
      excess_more c.args.sums.t.now c.args.sums.film.holds c.args.r c.args.d l.i
          (omega (arith, c.requires.slots.1)),
    )
