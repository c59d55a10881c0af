use mathlib.Core.Bool.{true, false}
use mathlib.Core.Path.{◌≡◌, refl, ap, sym, ◌∙◌}
use Prim.Native.Nat.{ℕ, ◌+◌, ◌-◌, ◌*◌, ◌≤◌}
use native.Mathlib.Omega.{arith}
use Rattle.job.specs.Bytes.{frame_at, job_of}
use Rattle.job.specs.Read.{Accepted}
use Rattle.job.specs.Tree.{Tree, link, H, plan_length}
use Rattle.job.proofs.RefusalLaws.{accepted_struct}
use Rattle.job.proofs.TreeLaws.{link_is, link_past}
use Rattle.std.proofs.Common.{None}
use Rattle.planner.specs.Answer.{row_place}
use Rattle.planner.proofs.PlaceLaws.{read_some, read_none, refused_nowhere, no_link_nowhere, no_plan_nowhere, place_is, row_inside}
use Rattle.planner.proofs.row_place.Goals as goal
use Rattle.planner.proofs.row_place.Goals.{After-last_slot-slots, After-plan_length, Else-job-i, In_ok-job, then-i-eq0-via-then-i-eq0}
use Rattle.planner.proofs.row_place.Goals.{then-i-eq0-via-else-i-eq0+then-job-i}
use Rattle.planner.proofs.row_place.Goals.{then-i-eq0-via-else-i-eq0+else-job-i+then-planned-plan_length}

-- the root has no link
root_unlinked : (n i : ℕ) → i ≡ 0 → link n i ≡ false
unfolding link
root_unlinked n i h = rw h refl

-- past the first test the job is accepted, and the struct holds it
accepted : (c : In_ok-job) → Accepted c.args.bytes.now c.in_ok-job.job
accepted c = read_some _ c.read.result _ (sym c.ok.ensures.value ∙ c.in_ok-job.was) c.read.ensures

-- the struct's count of nodes is the tree's
nodes_are : (c : In_ok-job) → c.in_ok-job.job.nodes ≡ (job_of c.args.bytes.now).tree.n
nodes_are c = ap (λ (t : Tree). t.n) (accepted c).held

-- past the third test link i exists
linked : (c : Else-job-i) → link (job_of c.args.bytes.now).tree.n c.args.i ≡ true
linked c = link_is _ _ (omega (arith, c.if-i-eq0.false)) (rw (nodes_are (goal.at.Else-job-i c).In_ok-job) at c.if-job-i.false)

-- the length that is compared is the one that the job asks for
long_is : (c : After-plan_length) → c.plan_length.result ≡ plan_length (job_of c.args.bytes.now)
long_is c = c.plan_length.ensures (frame_at _) ∙ ap plan_length (accepted (goal.at.After-plan_length c).In_ok-job).same

-- a row has H + 1 cells
width_is : (c : After-last_slot-slots) → c.last_slot-slots.result + 1 ≡ H (job_of c.args.bytes.now) + 1
width_is c = ap (λ (h : ℕ). h + 1) (c.last_slot-slots.ensures (frame_at _)
    ∙ ap H (accepted (goal.at.After-last_slot-slots c).In_ok-job).same)

-- the row ends within the plan
inside : (c : After-last_slot-slots) → let w = c.last_slot-slots.result + 1 in (c.args.i - 1) * w + w ≤ c.args.planned
inside c =
    row_inside _ _ _ _ (linked (goal.at.After-last_slot-slots c).Else-job-i) (c.if-planned-plan_length.false ∙ long_is (goal.at.After-last_slot-slots c).After-plan_length) (width_is c)

pub returns-in_err-job : goal.returns-in_err-job
returns-in_err-job c =
    c.from_residual.ensures
    ∙ sym (refused_nowhere _ _ _ (read_none _ c.read.result (sym c.ok.ensures.value ∙ c.in_err-job.was) c.read.ensures))

pub plan_length-requires : goal.plan_length-requires
plan_length-requires c = accepted_struct _ _ (accepted (goal.at.plan_length-requires c).In_ok-job)

-- each test that fails says that there is no place
pub returns-then-i-eq0 : goal.returns-then-i-eq0
returns-then-i-eq0 c =
    let s = c.args.bytes.now in
    let k = (goal.at.returns-then-i-eq0 c).In_ok-job in
    let none = (accepted k).none in
    let nowhere : row_place s c.args.planned c.args.i ≡ None =
    elim c.then-i-eq0.branch [
      | then-i-eq0-via-then-i-eq0 w ↦ no_link_nowhere _ _ _ none (root_unlinked _ _ w.if-i-eq0.true)
      | then-i-eq0-via-else-i-eq0+then-job-i w ↦ no_link_nowhere _ _ _ none (link_past _ _ (rw (nodes_are k) at w.if-job-i.true))
      | then-i-eq0-via-else-i-eq0+else-job-i+then-planned-plan_length w ↦
          no_plan_nowhere _ _ _ none (link_is _ _ (omega (arith, w.if-i-eq0.false)) (rw (nodes_are k) at w.if-job-i.false))
          (λ z. w.if-planned-plan_length.true (z ∙ sym (w.plan_length.ensures (frame_at s) ∙ ap plan_length (accepted k).same)))
    ] in
    sym nowhere

pub last_slot-slots-requires : goal.last_slot-slots-requires
last_slot-slots-requires c = accepted_struct _ _ (accepted (goal.at.last_slot-slots-requires c).In_ok-job)

pub overflow_add-slots : goal.overflow_add-slots
overflow_add-slots c = omega (arith, inside c)

pub overflow_mul-result : goal.overflow_mul-result
overflow_mul-result c = omega (arith, inside c)

pub returns : goal.returns
returns c =
    let k = goal.at.returns c in
    sym (place_is _ _ _ _ (accepted k.In_ok-job).none (linked k.Else-job-i)
    (c.if-planned-plan_length.false ∙ long_is k.After-plan_length) (width_is c))
