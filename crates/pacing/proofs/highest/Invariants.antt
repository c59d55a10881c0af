use mathlib.Core.Path.{◌≡◌}
use lib.ListN.{get_or}
use Rattle.base.specs.Range.{greatest}
use Rattle.pacing.proofs.highest.Given as goal

abbrev pub invariant-loop-rate : goal.invariant-loop-rate
invariant-loop-rate l = l.top ≡ greatest (λ k. get_or l.rates k 0) l.rate-index
