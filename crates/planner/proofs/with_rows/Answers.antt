use mathlib.Core.Path.{◌≡◌, refl, ap, sym, ◌∙◌}
use Prim.Native.Nat.{ℕ, ◌-◌, ◌*◌}
use lib.ListN.{length}
use Rattle.planner.proofs.WorkLaws.{closed-plan}
use Rattle.planner.specs.Work.{Ready, Worked}
use Rattle.job.proofs.TreeLaws.{link_is}
use native.Mathlib.Omega.{arith}
use Rattle.planner.proofs.with_rows.Goals as goal
use Rattle.planner.proofs.with_rows.Goals.{Else-starves}

pub returns-then-starves : goal.returns-then-starves
unfolding Worked
returns-then-starves c = (refl, (c.starves.ensures.starving c.if-starves.true, (refl, refl)))

-- past the search: what was asked at the start, and the row as long as lent
ready : (c : Else-starves) → let a = c.args in Ready a.lowers.now a.kept.now
ready c = c.requires.0

wide : (c : Else-starves) → length c.starves.new.lowers ≡ length
    c.args.lowers.now
wide c = c.starves.auto.lowers

-- the plan is as long as its rows of that width
sized : (c : Else-starves) → let a = c.args in
    length a.plan.now ≡ (a.film.job.now.nodes - 1) * length c.starves.new.lowers
sized c =
    c.requires.1.plan_long ∙ ap (λ (n : ℕ). (c.args.film.job.now.nodes - 1) * n) (sym (wide c))

pub invariant_of-links : goal.invariant_of-links
invariant_of-links c =
    let t = c.args.film.with_sums.tree in record {
      some_node = omega (arith, t.nodes_from);
      nodes_to = t.nodes_to;
      ordered = λ v h. t.parents v (link_is c.args.film.job.now.nodes v h.0 h.1);
    }

pub close_rows-requires : goal.close_rows-requires
close_rows-requires c =
    let k = (goal.at.close_rows-requires c).Else-starves in
    let f = c.fill in (
      record {
        width_to = omega (arith, wide k, (ready k).slots_to);
        sized = f.auto.plan ∙ c.upper_rows.auto.table ∙ sized k;
      },
      f.auto.lowers,
    )

pub returns : goal.returns
unfolding Worked
returns c =
    let a = c.args in
    let f = c.fill in
    let k = c.close_rows in
    let w = length a.lowers.now in
    let long : length k.new.plan ≡ (a.film.job.now.nodes - 1) * w =
    k.auto.plan ∙ f.auto.plan ∙ c.upper_rows.auto.table ∙ c.requires.1.plan_long in (
      ap (λ (n : ℕ). n - 1) (wide (goal.at.returns c).Else-starves),
      (
        omega arith,
        (
          c.starves.ensures.fed c.if-starves.false,
          (
            closed-plan a.film.job.now a.film.sums.t.now a.film.with_sums.tree w f.new.plan k.new.plan
                (rw (wide (goal.at.returns c).Else-starves) at f.ensures.filled) long (rw (wide (goal.at.returns c).Else-starves) at k.ensures.closed),
            rw (wide (goal.at.returns c).Else-starves) at f.ensures.peaks,
          ),
        ),
      ),
    )
