-- The loop keeps the sum of the first m frames, and that places 0 to m hold T.
use mathlib.Core.Path.{◌≡◌, refl, ap, sym, ◌∙◌}
use Prim.Native.Nat.{◌+◌, ◌<◌}
use native.Mathlib.Omega.{arith}
use lib.ListN.{set, length-set}
use Rattle.base.proofs.TableLaws.{filled_none, filled_more, filled_again, filled-done}
use Rattle.base.specs.Table.{tab, Filled}
use Rattle.job.proofs.SlotLaws.{T-zero, T-suc, T-fits}
use Rattle.job.proofs.RefusalLaws.{accepted_sized, accepted_within}
use Rattle.job.proofs.ReadLaws.{header_in, frame_in}
use Rattle.job.specs.Bytes.{node_count, frame_count, frames_place, frame_at, job_of}
use Rattle.job.specs.Tree.{T}
use Rattle.job.proofs.write_sums.Goals as goal
use Rattle.job.proofs.write_sums.Goals.{After-number-nodes, After-number-total, After-record_place-at, In-loop-m}

nodes_is : (c : After-number-nodes) → c.number-nodes.result ≡ node_count c.args.s.now
unfolding node_count
nodes_is c = c.number-nodes.ensures.0

-- the place that a turn reads at
place_is : (c : After-record_place-at) → c.record_place-at.result ≡ frames_place c.args.s.now
place_is c = c.record_place-at.ensures ∙ rw (nodes_is (goal.at.After-record_place-at c).After-number-nodes) refl

-- a turn has a frame to read
low : (c : In-loop-m) → c.loop-m.m < frame_count c.args.s.now
low c = omega (arith, c.requires.1, length-set c.args.out.now 0 0)

-- the sum that a turn reaches
next : (c : After-number-total) → c.loop-m.total + c.number-total.result ≡ T (job_of c.args.s.now) (c.loop-m.m + 1)
unfolding frame_at
next c =
    let l = c.loop-m in
    let s = c.args.s.now in
    rw (l.invariant.0, c.number-total.ensures.0, place_is (goal.at.After-number-total c).After-record_place-at)
    (sym (T-suc (job_of s) l.m (low (goal.at.After-number-total c).In-loop-m)))

pub number-nodes-requires : goal.number-nodes-requires
number-nodes-requires c = omega (arith, header_in c.args.s.now (accepted_sized c.args.s.now c.requires.0))

pub record_place-at-requires : goal.record_place-at-requires
record_place-at-requires c =
    let z = accepted_sized c.args.s.now c.requires.0 in
    omega (arith, z.nodes_from, z.nodes_to, nodes_is c)

pub loop-m-init : goal.loop-m-init
loop-m-init c =
    let t = T (job_of c.args.s.now) in
    let l = c.args.out.now in
    let first : Filled t (0 + 1) l (set l 0 0) = rw (T-zero (job_of c.args.s.now)) at (filled_more t 0 l l (filled_none t l) (omega arith)) in
    (sym (T-zero (job_of c.args.s.now)), filled_again t (0 + 1) l (set l 0 0) first)

pub number-total-requires : goal.number-total-requires
number-total-requires c =
    let s = c.args.s.now in
    omega (arith, place_is (goal.at.number-total-requires c).After-record_place-at, frame_in s (accepted_sized s c.requires.0) c.loop-m.m (low c))

pub overflow_add-total : goal.overflow_add-total
overflow_add-total c =
    let s = c.args.s.now in
    omega (arith, next c, T-fits (job_of s) (accepted_within s c.requires.0) (c.loop-m.m + 1))

pub loop-m-preserved : goal.loop-m-preserved
loop-m-preserved c =
    let l = c.loop-m in
    let t = T (job_of c.args.s.now) in
    (next c, rw (next c) (filled_more t (l.m + 1) _ l.out l.invariant.1 (omega (arith, c.requires.1, length-set c.args.out.now 0 0))))

pub returns : goal.returns
returns c =
    let l = c.loop-m in
    let t = T (job_of c.args.s.now) in
    let long = length-set c.args.out.now 0 0 ∙ c.requires.1 in
    filled-done t (l.m + 1) _ l.out l.invariant.1 (omega (arith, long)) ∙ ap (tab t) long
