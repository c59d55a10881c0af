-- The tree that a struct of links holds.
use Rattle.smoothing.specs.Tree.{Tree}
use Rattle.rows.specs.Closing.{tree_from}
use Rattle.rows.specs.declared.Links.{Links}

abbrev pub tree_in : Links → Tree
tree_in l = tree_from l.nodes l.parent.now l.memory.now
