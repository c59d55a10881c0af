-- The loop has raised the places before k.
use Prim.Native.Nat.{ℕ, ◌-◌, max}
use mathlib.Core.Path.{◌≡◌, ap, ◌∙◌}
use Rattle.rows.specs.Row.{row_in}
use Rattle.base.proofs.TableLaws.{filled_none, filled_more, filled-ahead}
use native.Mathlib.Omega.{arith}
use Rattle.rows.proofs.raise_row_less.Goals as goal

pub loop-k-init : goal.loop-k-init
loop-k-init c = filled_none _ _

pub loop-k-preserved : goal.loop-k-preserved
loop-k-preserved c =
    let l = c.loop-k in
    let a = c.args in
    let e : c.max.result ≡ max (row_in a.out.now l.k) (row_in a.from.now l.k - a.amount) =
    c.max.ensures
    ∙ rw c.saturating_sub.ensures
    (ap (λ (x : ℕ). max x (row_in a.from.now l.k - a.amount))
    (filled-ahead _ l.k a.out.now l.out l.invariant (omega arith))) in
    rw e (filled_more _ l.k a.out.now l.out l.invariant (omega arith))
