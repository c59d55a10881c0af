-- The enum's order is that of its numbers, by computation.
use mathlib.Core.Path.{◌≡◌, refl}
use Rattle.std.specs.Ordering.{ord_min}
use Rattle.job.specs.Refusal.{number}
use Rattle.job.specs.Steps.{sooner}
use Rattle.job.specs.declared.Refusal.{Refusal}
use Rattle.job.specs.declared.Refusal.TheVariants.{Short}
use Rattle.job.specs.contracts.RefusalOrd.TheImpl.{cmp-value}
use Rattle.job.proofs.earlier.Goals as goal

min_is : (first next : Refusal) → number (ord_min cmp-value.it first next) ≡ sooner (number first) (number next)
min_is Short Short = refl
min_is first Short = refl
min_is first next = refl

pub returns-in-Some : goal.returns-in-Some
returns-in-Some c = rw (c.in-Some.is, c.min.ensures) (min_is c.in-Some.first c.args.next)
