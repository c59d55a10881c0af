-- The loop keeps that the links before i have their floor rates and all other places the least rate.
use native.Mathlib.Omega.{arith}
use Rattle.job.specs.Read.{tree_in}
use Rattle.job.proofs.TreeLaws.{link_is}
use Rattle.rates.specs.Rates.{floor_rate, least_rate}
use Rattle.rates.proofs.LinkLaws.{links_none, links_more}
use Rattle.rates.proofs.floor_rates.Goals as goal

pub loop-i-init : goal.loop-i-init
loop-i-init c = rw c.requires (links_none (floor_rate (tree_in c.args.film.job.now)) (least_rate (tree_in c.args.film.job.now)))

pub floor_rate-requires : goal.floor_rate-requires
floor_rate-requires c = link_is _ _ (omega arith) c.loop-i-test.true

pub loop-i-preserved : goal.loop-i-preserved
loop-i-preserved c =
    let l = c.loop-i in
    rw (c.floor_rate.ensures, l.invariant)
    (links_more (floor_rate (tree_in c.args.film.job.now)) (least_rate (tree_in c.args.film.job.now)) l.i (omega arith)
    (omega (arith, c.args.film.with_sums.tree.nodes_to)))
