-- The product is that of the definition, and fits as H does.
use mathlib.Core.Path.{◌≡◌, refl}
use Prim.Native.Nat.{ℕ, ◌+◌, ◌-◌, ◌*◌, ◌≤◌}
use native.Mathlib.Omega.{arith}
use Rattle.job.proofs.SlotLaws.{H-fits, plan_length-fits}
use Rattle.job.specs.Read.{job_in}
use Rattle.job.specs.Tree.{plan_length}
use Rattle.job.specs.Limits.{most_frames, longest_delay}
use Rattle.job.proofs.Job.plan_length.Goals as goal
use Rattle.job.proofs.Job.plan_length.Goals.{After-last_slot}

last : (c : After-last_slot) → c.last_slot.result ≤ most_frames + longest_delay
last c =
    rw (c.last_slot.ensures (λ i. 0)) (H-fits (job_in c.args.self.now (λ i. 0)) c.requires.0 c.requires.1)

is : (c : After-last_slot) (frame : ℕ → ℕ)
    → (c.args.self.now.nodes - 1) * (c.last_slot.result + 1) ≡ plan_length (job_in c.args.self.now frame)
unfolding plan_length
is c frame = rw (c.last_slot.ensures frame) refl

pub overflow_add-result : goal.overflow_add-result
overflow_add-result c = omega (arith, last c)

pub overflow_mul-result : goal.overflow_mul-result
overflow_mul-result c =
    record { fits = omega (arith, rw (← (is c (λ i. 0))) at (plan_length-fits (job_in c.args.self.now (λ i. 0)) c.requires.0 c.requires.1)) }

pub returns : goal.returns
returns c = is c
