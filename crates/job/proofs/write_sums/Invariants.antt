use mathlib.Core.Path.{◌≡◌}
use Prim.Native.Nat.{◌+◌}
use Rattle.base.specs.Table.{Filled}
use Rattle.job.specs.Bytes.{job_of}
use Rattle.job.specs.Tree.{T}
use Rattle.job.proofs.write_sums.Given as goal

abbrev pub invariant-loop-m : goal.invariant-loop-m
invariant-loop-m l = (l.total ≡ T (job_of l.s) l.m) × Filled (T (job_of l.s)) (l.m + 1) l.initial.out l.out
