-- What the parts of the code promise each other of a job that is taken, so that both questions are asked of it.
use Rattle.std.specs.Prelude.{List, ◌≡◌, ℕ, Result, Ok, Err}
use Rattle.job.specs.Bytes.{job_of}
use Rattle.job.specs.Read.{sizes_of}
use Rattle.job.specs.Refusal as job
use Rattle.job.specs.declared.Sizes.{Sizes}
use Rattle.relay.specs.Printed.{too_large, job_refusal}
use Rattle.relay.specs.declared.Refusal.{Refusal}
use Rattle.relay.specs.declared.Refusal.TheVariants.{TooLarge, Job}

-- the number of each refusal before both questions
abbrev pub number : Refusal → ℕ
number TooLarge = too_large
number (Job e) = job.number e

-- the job's sizes, or the refusal
abbrev pub Takes : Result Sizes Refusal → List ℕ → Type 0
Takes (Ok sizes) s = (job_refusal s ≡ 0) × (sizes ≡ sizes_of (job_of s))
Takes (Err e) s = number e ≡ job_refusal s
