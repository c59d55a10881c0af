-- The loop keeps that the set has the children of a among the nodes below i.
use mathlib.Core.Path.{◌≡◌, ◌∙◌}
use native.Mathlib.Omega.{arith}
use lib.Dec.{eqb}
use lib.ListN.{get_or}
use borrow.Author.Tests.{eq-eqb, ne_eqb}
use Rattle.base.proofs.CollectLaws.{collected_none, collected_take, collected_skip, collected_done}
use Rattle.job.proofs.TreeLaws.{child-link, child_in, child_root}
use Rattle.job.specs.Read.{tree_in}
use Rattle.job.specs.Tree.{child}
use Rattle.job.proofs.Job.children.Goals as goal
use Rattle.job.proofs.Job.children.Goals.{then-self-i, else-self-i}

pub loop-i-init : goal.loop-i-init
loop-i-init c =
    let t = tree_in c.args.self.now in
    collected_none (λ k. child t k c.args.a) 1 (λ k h. let e : k ≡ 0 = omega arith in rw e (child_root t c.args.a))

pub loop-i-preserved : goal.loop-i-preserved
loop-i-preserved c =
    let l = c.loop-i in
    let a = c.args.a in
    let t = tree_in c.args.self.now in
    let here : child t l.i a ≡ eqb (get_or c.args.self.now.parent l.i 0) a = child-link t l.i a (omega arith) (omega arith) in
    elim c.if-self-i.branch [
      | then-self-i w ↦ rw w.set-is (collected_take (λ k. child t k a) l.i l.set _ (omega arith) (here ∙ eq-eqb _ _ w.if-self-i.true) l.invariant w.with-set.ensures)
      | else-self-i w ↦ rw w.set-is (collected_skip (λ k. child t k a) l.i l.set (here ∙ ne_eqb _ _ w.if-self-i.false) l.invariant)
    ]

pub returns : goal.returns
returns c =
    let t = tree_in c.args.self.now in
    collected_done (λ k. child t k c.args.a) c.loop-i.i c.loop-i.set (λ k h. omega (arith, child_in t k c.args.a h)) c.loop-i.invariant
