-- The parents, read first, settle which nodes are leaves.
use mathlib.Core.Bool.{◌&&◌}
use mathlib.Core.Path.{refl, ap, ◌∙◌}
use lib.Dec.{ltb}
use Rattle.base.specs.Set.{word_bits}
use Rattle.job.specs.Read.{tree_in}
use Rattle.job.proofs.RefusalLaws.{parents_settle}
use Rattle.job.specs.declared.Job.{Job}
use Rattle.job.specs.Tree.{has_child}
use Rattle.job.proofs.read_rest.Goals as goal

pub read_nodes-requires : goal.read_nodes-requires
read_nodes-requires c = (
  c.requires.0,
  (
    c.read_parents-job.ensures,
    λ k. c.inner_nodes.ensures k
        ∙ ap (λ (j : Job). has_child (tree_in j) k && ltb k word_bits) c.read_parents-job.ensures
        ∙ rw (parents_settle c.args.s.now c.requires.0.nodes_to k) refl,
  ),
)
