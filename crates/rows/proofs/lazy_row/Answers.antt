-- The loop has filled the row from slot k to its end, and keeps the lazy value at k.
use Prim.Native.Nat.{◌-◌, min}
use mathlib.Core.Path.{◌≡◌, ◌∙◌}
use lib.ListN.{length}
use Rattle.smoothing.specs.Row.{lazy}
use Rattle.rows.specs.Row.{row_in}
use Rattle.smoothing.proofs.LoopLaws.{lazy-start, lazy_turn, filled_from_none, filled_from_more}
use native.Mathlib.Omega.{arith}
use Rattle.rows.proofs.lazy_row.Goals as goal

pub loop-k-init : goal.loop-k-init
loop-k-init c =
    let n = length c.args.lower.now in
    (lazy-start (n - 1) c.args.q (row_in c.args.lower.now) n (omega arith), rw (← c.requires.1) (filled_from_none _ c.args.out.now))

pub loop-k-preserved : goal.loop-k-preserved
loop-k-preserved c =
    let l = c.loop-k in
    let f = row_in c.args.lower.now in
    let n = length c.args.lower.now in
    let e : c.max-next.result ≡ lazy (n - 1) c.args.q f (min (l.k - 1) (n - 1)) =
    c.max-next.ensures ∙ rw (c.saturating_sub.ensures, l.invariant.0)
    (lazy_turn (n - 1) c.args.q f l.k (omega arith) (omega (arith, l.invariant.1.0, c.requires.1))) in
    let d : min (l.k - 1) (n - 1) ≡ l.k - 1 = omega (arith, l.invariant.1.0, c.requires.1) in
    (e, rw (e, d) (filled_from_more (lazy (n - 1) c.args.q f) l.k c.args.out.now l.out (omega arith) l.invariant.1))
