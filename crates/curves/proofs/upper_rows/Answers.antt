-- What each link's own rules allow is within the limits, so the two passes of `open_rows` make the upper curves of it.
use mathlib.Core.Path.{refl, ◌∙◌}
use Prim.Native.Nat.{◌-◌}
use Rattle.job.proofs.TreeLaws.{link_is}
use Rattle.curves.proofs.AllRowsLaws.{high_range, opened}
use native.Mathlib.Omega.{arith}
use Rattle.curves.proofs.upper_rows.Goals as goal

pub invariant_of-links : goal.invariant_of-links
invariant_of-links c =
    let t = c.args.film.with_sums.tree in record {
      some_node = omega (arith, t.nodes_from);
      nodes_to = t.nodes_to;
      ordered = λ v q. t.parents v (link_is c.args.film.job.now.nodes v q.0 q.1);
    }

pub open_rows-requires : goal.open_rows-requires
open_rows-requires c =
    let a = c.args in
    let h = c.high_rows in
    let t = a.film.with_sums.tree in
    record {
      closable = record { width_to = c.requires.0; sized = h.auto.table ∙ c.requires.1 };
      in_range = rw h.ensures (high_range _ t _ _ a.width (a.film.job.now.nodes - 1) a.film.with_sums.film.fits);
      memories = λ v q. t.memories v (link_is a.film.job.now.nodes v q.0 q.1);
    }

pub returns : goal.returns
returns c =
    let a = c.args in
    let h = c.high_rows in
    let o = c.open_rows in
    opened _ c.args.film.with_sums.tree _ _ a.width (a.film.job.now.nodes - 1) refl h.new.table o.new.plan h.ensures (o.auto.plan
    ∙ h.auto.table ∙ c.requires.1) o.ensures
