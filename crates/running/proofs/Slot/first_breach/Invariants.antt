use mathlib.Core.Path.{◌≡◌}
use mathlib.Core.Bool.{false}
use Prim.Native.Nat.{ℕ, ◌<◌}
use Rattle.running.specs.Work.{breaks_at}
use Rattle.running.proofs.Slot.first_breach.Given as goal

abbrev pub invariant-loop-i : goal.invariant-loop-i
invariant-loop-i l =
    (v : ℕ) → (0 < v) × (v < l.i)
    → breaks_at l.self.film.job.now l.self.film.sums.t.now l.self.k l.self.carried.now l.self.column.now v ≡ false
