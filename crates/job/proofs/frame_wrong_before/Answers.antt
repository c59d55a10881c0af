-- The loop keeps whether some frame below i is too large; none below m is.
use mathlib.Core.Path.{◌≡◌, refl, sym, ◌∙◌}
use native.Mathlib.Numerals.{add-one}
use native.Mathlib.Omega.{arith}
use Rattle.base.specs.Range.{some}
use Rattle.job.proofs.ReadLaws.{frame_in}
use Rattle.job.proofs.RefusalLaws.{frame_refused}
use Rattle.job.specs.Bytes.{frames_place, frame_at}
use Rattle.job.proofs.frame_wrong_before.Goals as goal
use Rattle.job.proofs.frame_wrong_before.Goals.{After-number, In-loop-i}

pub loop-i-init : goal.loop-i-init
loop-i-init c = sym c.requires.before

-- the place that a turn reads at
place_is : (c : In-loop-i) → c.record_place-at.result ≡ frames_place c.args.s.now
place_is c = c.record_place-at.ensures ∙ rw (c.requires.sized.1) refl

pub number-requires : goal.number-requires
number-requires c =
    omega (arith, place_is c, frame_in c.args.s.now c.requires.sized.0 c.loop-i.i (omega (arith, c.requires.frames)))

size_is : (c : After-number) → c.number.result ≡ frame_at c.args.s.now c.loop-i.i
unfolding frame_at
size_is c = c.number.ensures.0 ∙ rw (place_is (goal.at.After-number c).In-loop-i) refl

pub loop-i-preserved : goal.loop-i-preserved
unfolding some
loop-i-preserved c =
    let test = c.is_err-wrong.ensures.value ∙ frame_refused c.new.result c.number.result _ c.new.ensures in
    rw (add-one, c.loop-i.invariant, test, size_is (goal.at.loop-i-preserved c).After-number) refl
