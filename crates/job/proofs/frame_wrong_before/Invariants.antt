use mathlib.Core.Path.{◌≡◌}
use Rattle.base.specs.Range.{some}
use Rattle.job.specs.Refusal.{frame_wrong}
use Rattle.job.specs.Bytes.{frame_at}
use Rattle.job.proofs.frame_wrong_before.Given as goal

abbrev pub invariant-loop-i : goal.invariant-loop-i
invariant-loop-i l = l.wrong ≡ some (λ x. frame_wrong (frame_at l.s x)) l.i
