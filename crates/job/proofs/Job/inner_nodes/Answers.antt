-- The loop keeps that the set has the parents of the nodes below i, as far as a word reaches.
use mathlib.Core.Path.{◌≡◌, refl, ap, sym, ◌∙◌}
use mathlib.Core.Bool.{Bool, ◌&&◌}
use native.Mathlib.Omega.{arith}
use lib.Dec.{ltb}
use Rattle.base.proofs.CollectLaws.{passing_none, passing_more}
use Rattle.base.specs.Set.{word_bits}
use Rattle.base.specs.Range.{some}
use Rattle.job.proofs.TreeLaws.{parents-none, parents_more}
use Rattle.job.specs.Read.{tree_in}
use Rattle.job.specs.Tree.{child, has_child}
use Rattle.job.proofs.Job.inner_nodes.Goals as goal

pub loop-i-init : goal.loop-i-init
loop-i-init c = λ k. passing_none k ∙ ap (λ (b : Bool). b && ltb k word_bits) (sym (parents-none (tree_in c.args.self.now) k))

pub loop-i-preserved : goal.loop-i-preserved
loop-i-preserved c =
    let l = c.loop-i in
    let t = tree_in c.args.self.now in
    λ k. passing_more (λ x. some (λ y. child t y x) l.i) l.set _ _ l.invariant c.with-set.ensures k
    ∙ ap (λ (b : Bool). b && ltb k word_bits) (sym (parents_more t l.i k (omega arith) (omega arith)))

pub returns : goal.returns
unfolding has_child
returns c =
    let e : c.loop-i.i ≡ c.args.self.now.nodes = omega arith in
    λ k. c.loop-i.invariant k ∙ rw e refl
