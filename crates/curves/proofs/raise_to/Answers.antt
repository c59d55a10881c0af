use Rattle.base.proofs.TableLaws.{filled_none, filled_more, filled-ahead}
use lib.ListN.{get_or}
use mathlib.Core.List.{List}
use mathlib.Core.Path.{◌≡◌, ◌∙◌}
use Prim.Native.Nat.{ℕ, max}
use native.Mathlib.Omega.{arith}
use Rattle.curves.proofs.raise_to.Goals as goal

abbrev row : List ℕ → ℕ → ℕ → ℕ
row out value k = max (get_or out k 0) value

pub loop-x-init : goal.loop-x-init
loop-x-init c = filled_none _ _

pub loop-x-preserved : goal.loop-x-preserved
loop-x-preserved c =
    let l = c.loop-x in
    let a = c.args in
    let e : c.max.result ≡ row a.out.now a.value l.x-index = c.max.ensures
    ∙ rw (filled-ahead _ l.x-index _ l.out l.invariant (omega arith)) in
    rw e (filled_more (row a.out.now a.value) l.x-index _ l.out l.invariant (omega arith))
