-- The loop keeps that the set has the leaves below i: the nodes that are not in the set of parents.
use mathlib.Core.Path.{◌≡◌, ap, sym, ◌∙◌}
use mathlib.Core.Bool.{not}
use native.Mathlib.Omega.{arith}
use Rattle.base.proofs.CollectLaws.{collected_none, collected_take, collected_skip, collected_done}
use Rattle.job.proofs.TreeLaws.{leaf_in, leaf_of_set}
use Rattle.job.specs.Read.{tree_in}
use Rattle.job.specs.Tree.{leaf}
use Rattle.job.proofs.Job.leaves.Goals as goal
use Rattle.job.proofs.Job.leaves.Goals.{then-not-member, else-not-member}

pub loop-i-init : goal.loop-i-init
loop-i-init c = collected_none (leaf (tree_in c.args.self.now)) 0 (λ k h. absurd (omega arith))

pub loop-i-preserved : goal.loop-i-preserved
loop-i-preserved c =
    let l = c.loop-i in
    let t = tree_in c.args.self.now in
    let here : leaf t l.i ≡ not c.member.result =
    sym (ap not c.member.ensures ∙ leaf_of_set t c.inner_nodes-inner.result l.i (omega arith) c.inner_nodes-inner.ensures (omega arith)) in
    elim c.if-not-member.branch [
      | then-not-member w ↦ rw w.set-is (collected_take (leaf t) l.i l.set _ (omega arith) (here ∙ ap not w.if-not-member.true) l.invariant w.with-set.ensures)
      | else-not-member w ↦ rw w.set-is (collected_skip (leaf t) l.i l.set (here ∙ ap not w.if-not-member.false) l.invariant)
    ]

pub returns : goal.returns
returns c =
    let t = tree_in c.args.self.now in
    collected_done (leaf t) c.loop-i.i c.loop-i.set (λ k h. omega (arith, leaf_in t k h)) c.loop-i.invariant
