use mathlib.Core.List.{List}
use Prim.Native.Nat.{ℕ, ◌+◌, ◌-◌, ◌≤◌, ◌<◌}
use lib.ListN.{length, get_or}
use Rattle.job.specs.Limits.{most_nodes, greatest_rate}
use Rattle.pacing.specs.Work.{Places}
use Rattle.pacing.proofs.NeedLaws.{NeedsBelow}
use Rattle.pacing.proofs.needs.Given as goal

-- the needs at the rates below y are found, and the places are those for rates from `done` to the top
pub record Found (sums rates places : List ℕ) (top largest y done count : ℕ) (rules : List ℕ) : Type 0 where
  pub to : y ≤ top + 1
  pub top_to : top ≤ greatest_rate
  pub above : (i : ℕ) → i < most_nodes → get_or rates i 0 ≤ top
  pub behind : done ≤ y
  pub fits : count ≤ length places
  pub enough : Places sums done top largest places count
  pub found : NeedsBelow sums rates y rules

abbrev pub invariant-loop-y : goal.invariant-loop-y
invariant-loop-y l =
    Found l.sums.t.now l.rates l.places l.top l.largest l.y l.done l.count l.needs

abbrev pub decreases-loop-y : goal.decreases-loop-y
decreases-loop-y l = l.top + 1 - l.y
