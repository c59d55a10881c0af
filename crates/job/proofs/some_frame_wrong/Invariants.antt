use Rattle.std.specs.Prelude.{false}
use mathlib.Core.Path.{◌≡◌}
use Prim.Native.Nat.{min}
use Rattle.base.specs.Range.{some}
use Rattle.job.specs.Refusal.{frame_wrong}
use Rattle.job.specs.Bytes.{frame_at}
use Rattle.job.proofs.some_frame_wrong.Given as goal

abbrev pub invariant-loop-m : goal.invariant-loop-m
invariant-loop-m l = some (λ x. frame_wrong (frame_at l.s x)) (min l.m l.frames) ≡ false
