-- The loop keeps that no frame below m is too large, and goes on by stretches; one in a stretch is one of all.
use mathlib.Core.Bool.{Bool, true}
use mathlib.Core.Path.{◌≡◌, refl, sym, ◌∙◌}
use Prim.Native.Nat.{ℕ, ◌≤◌, min}
use native.Mathlib.Omega.{arith}
use Rattle.base.specs.Range.{some}
use Rattle.base.proofs.RangeLaws.{some-passes, which_passes}
use Rattle.job.proofs.some_frame_wrong.Goals as goal

some_later : (p : ℕ → Bool) (m n : ℕ) → m ≤ n → some p m ≡ true → some p n ≡ true
some_later p m n h e = let w = which_passes p m e in some-passes p n w.0 (omega (arith, w.1, h)) w.2

pub loop-m-init : goal.loop-m-init
unfolding some
loop-m-init c = let none : min 0 c.args.frames ≡ 0 = omega arith in rw none refl

pub returns-then-frame_wrong_before : goal.returns-then-frame_wrong_before
returns-then-frame_wrong_before c =
    let here = sym c.frame_wrong_before.ensures ∙ c.if-frame_wrong_before.true in
    sym (some_later _ c.min.result _ (omega (arith, c.min.ensures, c.requires.1.1)) here)
