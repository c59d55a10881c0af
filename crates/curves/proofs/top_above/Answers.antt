-- The loop keeps that a lies on the way up, below the root; each turn goes to a lower number, so it ends.
use native.Mathlib.Omega.{arith}
use Rattle.curves.proofs.LowerLaws.{parent-lower}
use Rattle.job.specs.Read.{tree_in}
use Rattle.curves.proofs.top_above.Goals as goal

pub loop-a-smaller : goal.loop-a-smaller
loop-a-smaller c =
    let l = c.loop-a in
    parent-lower (tree_in c.args.film.job.now) c.args.film.with_sums.tree l.a (omega (arith, l.invariant, c.requires))

pub loop-a-preserved : goal.loop-a-preserved
loop-a-preserved c =
    let l = c.loop-a in
    let lower = parent-lower (tree_in c.args.film.job.now) c.args.film.with_sums.tree l.a (omega (arith, l.invariant, c.requires)) in (
      omega arith,
      omega (arith, lower, l.invariant),
    )
