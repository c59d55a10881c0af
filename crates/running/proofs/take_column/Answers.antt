-- The loop keeps that the links below i have the plan's numbers at slot k.
use mathlib.Core.Path.{◌≡◌, refl}
use mathlib.Core.List.{List}
use Prim.Native.Nat.{ℕ, zero, suc, ◌+◌, ◌-◌, ◌*◌, ◌<◌}
use native.Mathlib.Omega.{arith}
use borrow.Author.Rules.{rules}
use lib.ListN.{length, get_or}
use Rattle.job.specs.Limits.{most_nodes}
use Rattle.smoothing.specs.Lists.{family_in, rows_in}
use Rattle.running.proofs.TestLaws.{after_none, after_more}
use Rattle.running.proofs.take_column.Goals as goal
use Rattle.running.proofs.take_column.Goals.{In-loop-i}

-- the number of link i at slot k
row : (w : ℕ) (l : List ℕ) (i k : ℕ) → 0 < i → get_or l ((i - 1) * w + k) 0 ≡ rows_in w l i k
row w l zero k p = absurd (omega arith)
row w l (suc i) k p = let d : suc i - 1 ≡ i = omega arith in rw d refl

pub loop-i-init : goal.loop-i-init
loop-i-init c =
    let a = c.args in
    let long : length a.carried ≡ most_nodes = search rules in
    after_none (λ u. rows_in a.width a.plan.now u a.k) (family_in a.carried) a.carried most_nodes long (λ v. refl)

pub loop-i-preserved : goal.loop-i-preserved
loop-i-preserved c =
    let l = c.loop-i in
    let a = c.args in
    rw (row a.width a.plan.now l.i a.k (omega arith))
    (after_more (λ u. rows_in a.width a.plan.now u a.k) (family_in a.carried) l.column l.i most_nodes (omega arith)
    (omega arith) l.invariant)
