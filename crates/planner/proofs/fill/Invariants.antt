use mathlib.Core.Path.{◌≡◌}
use mathlib.Core.List.{◌++◌}
use Prim.Native.Nat.{suc, ◌*◌}
use lib.ListN.{length, drop}
use Rattle.base.specs.Table.{Filled}
use Rattle.job.specs.Read.{tree_in}
use Rattle.smoothing.specs.Plan.{link_peak}
use Rattle.job.specs.Sums.{sums_in}
use Rattle.curves.specs.Rows.{Kept}
use Rattle.planner.specs.Work.{problem_in, lazy_rows_of}
use Rattle.planner.proofs.fill.Given as goal

-- the rows and peaks of the links below i are done, and `kept` has the row that it is said to have
abbrev pub invariant-loop-i : goal.invariant-loop-i
invariant-loop-i l =
    let P = problem_in l.film.job.now l.film.sums.t.now l.width in record {
      lowers : length l.lowers ≡ length l.initial.lowers;
      kept : length l.kept ≡ length l.initial.kept;
      plan : length l.plan ≡ length l.initial.plan;
      rows : l.plan ≡ lazy_rows_of P l.width l.i ++ drop (l.i * l.width) l.initial.plan;
      peaks : Filled (λ k. link_peak P (suc k)) l.i l.initial.peaks l.peaks;
      near : Kept (tree_in l.film.job.now) (sums_in l.film.sums.t.now) l.near l.kept;
    }
