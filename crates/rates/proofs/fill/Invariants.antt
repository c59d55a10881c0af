use mathlib.Core.Path.{◌≡◌}
use Prim.Native.Nat.{suc, ◌+◌, ◌*◌, ◌≤◌}
use Rattle.base.specs.Range.{sum_over}
use Rattle.base.specs.Table.{Filled}
use Rattle.job.specs.Limits.{greatest_total}
use Rattle.job.specs.Tree.{link}
use Rattle.job.specs.Read.{tree_in}
use Rattle.rates.specs.Work.{on_links, memory_by}
use Rattle.rates.proofs.WalkLaws.{onward}
use Rattle.rates.proofs.fill.Given as goal

abbrev pub invariant-loop-i : goal.invariant-loop-i
invariant-loop-i l =
    let t = tree_in l.film.job.now in
    Filled (λ k. memory_by t l.needs (suc k)) l.i l.initial.memories l.memories
    × ((l.handed ≡ on_links (l.i + 1) (onward t l.needs) 0)
    × ((l.all ≡ sum_over (link t.n) (memory_by t l.needs) (suc l.i)) × (l.all ≤ l.i * greatest_total)))
