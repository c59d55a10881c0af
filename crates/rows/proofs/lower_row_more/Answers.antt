-- The loop has lowered the places before k.
use Prim.Native.Nat.{ℕ, ◌+◌, min}
use mathlib.Core.Path.{◌≡◌, ap, ◌∙◌}
use Rattle.rows.specs.Row.{row_in}
use Rattle.base.proofs.TableLaws.{filled_none, filled_more, filled-ahead}
use native.Mathlib.Omega.{arith}
use Rattle.rows.proofs.lower_row_more.Goals as goal

pub loop-k-init : goal.loop-k-init
loop-k-init c = filled_none _ _

pub loop-k-preserved : goal.loop-k-preserved
loop-k-preserved c =
    let l = c.loop-k in
    let a = c.args in
    let e : c.min.result ≡ min (row_in a.out.now l.k) (row_in a.from.now l.k + a.plus) =
    c.min.ensures
    ∙ ap (λ (x : ℕ). min x (row_in a.from.now l.k + a.plus))
    (filled-ahead _ l.k a.out.now l.out l.invariant (omega arith)) in
    rw e (filled_more _ l.k a.out.now l.out l.invariant (omega arith))
