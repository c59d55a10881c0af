use mathlib.Core.Path.{◌≡◌}
use Rattle.job.specs.Bytes.{tree_of}
use Rattle.writing.specs.PutBack.{memories_in}
use Rattle.writing.proofs.WriteLaws.{records_to}
use Rattle.writing.proofs.put_records.Given as goal

abbrev pub invariant-loop-i : goal.invariant-loop-i
invariant-loop-i l = l.s ≡ records_to (tree_of l.initial.s) l.w (memories_in l.memories) l.initial.s l.nodes l.i
