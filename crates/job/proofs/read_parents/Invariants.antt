use mathlib.Core.Path.{◌≡◌}
use mathlib.Core.List.{List}
use Prim.Native.Nat.{ℕ}
use Rattle.job.specs.Read.{struct_of}
use Rattle.job.specs.Bytes.{node_count, frame_count, parent_at, per_node}
use Rattle.job.specs.Tree.{Tree}
use Rattle.job.proofs.read_parents.Given as goal

-- the parents of the nodes below i
abbrev pub parents_to : List ℕ → ℕ → Tree
parents_to s i = record { n = node_count s; parent = per_node i (parent_at s); delay = λ k. 0; memory = λ k. 0; rate = λ k. 0 }

abbrev pub invariant-loop-i : goal.invariant-loop-i
invariant-loop-i l = l.job ≡ struct_of (parents_to l.s l.i) (frame_count l.s)
