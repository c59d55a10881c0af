-- Part by part of the table: the first that refuses gives the number, and past it the chain goes on with the next.
use mathlib.Core.Path.{◌≡◌, refl, ap, sym, ◌∙◌}
use Prim.Native.Nat.{◌+◌, ◌*◌}
use Rattle.job.proofs.RefusalLaws.{sizes_in, at_head, at_size, at_length, at_rest, number_none, refusal_passed}
use Rattle.job.specs.declared.Job.{Job}
use Rattle.job.specs.Refusal.{number}
use Rattle.job.specs.Read.{struct_of, bare_tree, size_refusal}
use Rattle.job.specs.Steps.{head_refusal}
use Rattle.job.specs.Bytes.{node_count, frame_count, wanted_length}
use Rattle.job.proofs.read.Goals as goal
use Rattle.job.proofs.read.Goals.{In_ok-check_head, In_ok-job, After-record_place}

-- past the first test rows 1 to 3 don't apply
head_none : (c : In_ok-check_head) → head_refusal c.args.s.now ≡ 0
head_none c = c.in_ok-check_head.ensures.0

-- the counts are those of the bytes; past the second test rows 4 and 5 don't apply
sized : (c : In_ok-job) → let s = c.args.s.now in
    (size_refusal (node_count s) (frame_count s) ≡ 0) × (c.in_ok-job.job ≡ struct_of (bare_tree (node_count s)) (frame_count s))
unfolding node_count frame_count
sized c = rw (c.number-nodes.ensures.0, c.number-frames.ensures.0) at c.in_ok-job.ensures

nodes_is : (c : In_ok-job) → c.in_ok-job.job.nodes ≡ node_count c.args.s.now
nodes_is c = ap (λ (j : Job). j.nodes) (sized c).1

frames_is : (c : In_ok-job) → c.in_ok-job.job.frames ≡ frame_count c.args.s.now
frames_is c = ap (λ (j : Job). j.frames) (sized c).1

-- the length that is compared is the one that the counts ask for
wanted_is : (c : After-record_place) → c.record_place.result + 4 * c.in_ok-job.job.frames ≡ wanted_length c.args.s.now
unfolding wanted_length
wanted_is c = let d = (goal.at.After-record_place c).In_ok-job in rw (c.record_place.ensures, nodes_is d, frames_is d) refl

pub returns-in_err-check_head : goal.returns-in_err-check_head
returns-in_err-check_head c =
    let s = c.args.s.now in
    let e = c.in_err-check_head.field-0.0 in
    refusal_passed _ e _ _ c.from_residual.ensures.1
    (c.in_err-check_head.ensures ∙ sym (at_head s (λ z. number_none e (c.in_err-check_head.ensures ∙ z))))

pub returns-in_err-job : goal.returns-in_err-job
unfolding node_count frame_count
returns-in_err-job c =
    let s = c.args.s.now in
    let e = c.in_err-job.field-0.0 in
    let row : number e ≡ size_refusal (node_count s) (frame_count s) =
    rw (c.number-nodes.ensures.0, c.number-frames.ensures.0) at c.in_err-job.ensures in
    refusal_passed _ e _ _ c.from_residual-in_err-job.ensures.1
    (row ∙ sym (at_size s (head_none (goal.at.returns-in_err-job c).In_ok-check_head) (λ z. number_none e (row ∙ z))))

pub returns-then-s-record_place : goal.returns-then-s-record_place
returns-then-s-record_place c =
    let head = head_none (goal.at.returns-then-s-record_place c).In_ok-check_head in
    let counts = sized (goal.at.returns-then-s-record_place c).In_ok-job in
    let wanted = wanted_is (goal.at.returns-then-s-record_place c).After-record_place in
    sym (at_length c.args.s.now head counts.0 (λ q. c.if-s-record_place.true (q ∙ sym wanted)))

pub read_rest-requires : goal.read_rest-requires
read_rest-requires c =
    let counts = sized (goal.at.read_rest-requires c).In_ok-job in
    let wanted = wanted_is (goal.at.read_rest-requires c).After-record_place in
    let (x, y, z, w) = sizes_in _ _ counts.0 in
    (record { nodes_from = x; nodes_to = y; frames_from = z; frames_to = w; long = c.if-s-record_place.false ∙ wanted }, counts.1)

pub returns : goal.returns
returns c =
    let head = head_none (goal.at.returns c).In_ok-check_head in
    let counts = sized (goal.at.returns c).In_ok-job in
    let wanted = wanted_is (goal.at.returns c).After-record_place in
    rw (at_rest c.args.s.now head counts.0 (c.if-s-record_place.false ∙ wanted)) c.read_rest.ensures
