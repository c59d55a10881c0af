use mathlib.Core.Path.{◌≡◌}
use Rattle.std.specs.Prelude.{None}
use Rattle.job.specs.Bytes.{frame_count, tree_of}
use Rattle.job.specs.Read.{struct_of}
use Rattle.job.specs.Steps.{row_of}
use Rattle.job.proofs.NodeLaws.{tree_to, row_to}
use Rattle.job.proofs.read_nodes.Given as goal

abbrev pub invariant-loop-i : goal.invariant-loop-i
invariant-loop-i l = record {
  row : row_of l.refused ≡ row_to (tree_of l.s) l.i;
  kept : l.refused ≡ None → l.job ≡ struct_of (tree_to l.s l.i) (frame_count l.s);
}
