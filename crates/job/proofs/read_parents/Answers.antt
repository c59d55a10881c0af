-- The loop keeps that the struct has the parents of the nodes below i, and nothing else in its records.
use mathlib.Core.Path.{◌≡◌, refl, ap, ◌∙◌}
use Prim.Native.Nat.{◌+◌, ◌≤◌}
use native.Mathlib.Omega.{arith}
use lib.ListN.{length, set}
use Rattle.base.specs.Table.{tab}
use Rattle.job.specs.declared.Job.{Job}
use Rattle.job.proofs.ReadLaws.{record_in, fields_none, fields_more}
use Rattle.job.specs.Bytes.{record_width, node_count, parent_at, per_node}
use Rattle.job.specs.Limits.{most_nodes}
use Rattle.job.proofs.read_parents.Goals as goal
use Rattle.job.proofs.read_parents.Goals.{After-number, After-record_place, In-loop-i}

pub loop-i-init : goal.loop-i-init
loop-i-init c = c.requires.1 ∙ rw (fields_none (parent_at c.args.s.now)) refl

nodes_is : (c : In-loop-i) → c.args.job.nodes ≡ node_count c.args.s.now
nodes_is c = ap (λ (j : Job). j.nodes) c.requires.1

inside : (c : After-record_place) → c.record_place.result + record_width ≤ length c.args.s.now
inside c =
    let l = c.loop-i in
    rw c.record_place.ensures (record_in c.args.s.now c.requires.0 l.i (omega arith) (omega (arith, nodes_is (goal.at.After-record_place c).In-loop-i)))

parent_is : (c : After-number) → c.number.result ≡ parent_at c.args.s.now c.loop-i.i
unfolding parent_at
parent_is c = c.number.ensures.0 ∙ rw c.record_place.ensures refl

pub number-requires : goal.number-requires
number-requires c = omega (arith, inside c)

pub loop-i-preserved : goal.loop-i-preserved
loop-i-preserved c =
    let s = c.args.s.now in
    let l = c.loop-i in
    let e = l.invariant in
    let row : set l.job.parent l.i c.number.result ≡ tab (per_node (l.i + 1) (parent_at s)) most_nodes =
    rw (ap (λ (j : Job). j.parent) e, parent_is c)
    (fields_more (parent_at s) l.i (omega arith) (omega (arith, c.requires.0.nodes_to, nodes_is (goal.at.loop-i-preserved c).In-loop-i))) in
    λ x. record { nodes = (e x).nodes; frames = (e x).frames; parent = row x; delay = (e x).delay; memory = (e x).memory; rate = (e x).rate }
