-- The loop keeps that the records of the nodes below i are written; each node's is one step of the fold.
use mathlib.Core.Path.{◌≡◌, refl, ap, sym, ◌∙◌}
use native.Mathlib.Omega.{arith}
use lib.ListN.{length}
use Rattle.job.specs.Bytes.{node_count, tree_of}
use Rattle.job.proofs.RefusalLaws.{accepted_sized}
use Rattle.job.proofs.ReadLaws.{record_in}
use Rattle.writing.specs.PutBack.{put_back, memories_in}
use Rattle.writing.proofs.WriteLaws.{records_none, records_next, length_records}
use Rattle.writing.proofs.put_records.Goals as goal
use Rattle.writing.proofs.put_records.Goals.{In-loop-i}

pub loop-i-init : goal.loop-i-init
loop-i-init c =
    let s = c.args.s.now in
    sym (records_none (tree_of s) c.args.w (memories_in c.args.memories.now) s c.args.nodes)

pub put_record-requires : goal.put_record-requires
put_record-requires c =
    let l = c.loop-i in
    let s = c.args.s.now in
    let sized = accepted_sized s c.requires.none in
    let long : length l.s ≡ length s =
    ap length l.invariant ∙ length_records (tree_of s) c.args.w (memories_in c.args.memories.now) s c.args.nodes l.i in (
      omega arith,
      (
        omega (arith, sized.nodes_to, c.requires.count),
        omega (arith, long, record_in s sized l.i (omega arith) (omega (arith, c.requires.count))),
      ),
    )

pub loop-i-preserved : goal.loop-i-preserved
loop-i-preserved c =
    let l = c.loop-i in
    let s = c.args.s.now in
    c.put_record.ensures
    ∙ records_next (tree_of s) c.args.w (memories_in c.args.memories.now) s c.args.nodes l.s l.i c.member.result
    (omega arith) (omega arith) l.invariant (c.member.ensures ∙ c.requires.leaf_set l.i)

pub returns : goal.returns
unfolding put_back
returns c =
    let l = c.loop-i in
    let s = c.args.s.now in
    let q : l.i ≡ node_count s = omega (arith, c.requires.count, (accepted_sized s c.requires.none).nodes_from) in
    l.invariant ∙ rw (c.requires.count, q) refl
