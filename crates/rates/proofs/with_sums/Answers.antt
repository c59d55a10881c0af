-- The delay, the needs and the memories found are those defined; past the longest delay nothing is stored.
use native.Mathlib.Omega.{arith}
use mathlib.Core.Path.{◌≡◌, refl, ◌∙◌}
use Prim.Native.Nat.{◌-◌}
use lib.ListN.{length}
use Rattle.job.specs.Read.{tree_in}
use Rattle.job.specs.Sums.{sums_in}
use Rattle.pacing.specs.Pace.{delay_at}
use Rattle.rates.specs.Rates.{start_delay}
use Rattle.rates.specs.Work.{Worked}
use Rattle.rates.proofs.FloorLaws.{least-rate-fits, floors_fit}
use Rattle.rates.proofs.WorkLaws.{needs_of, needs_right, memories_by, total_by}
use Rattle.rates.proofs.with_sums.Goals as goal
use Rattle.rates.proofs.with_sums.Goals.{After-needs-needs, After-start_delay}

-- the delay found is the defined one
delay_is : (c : After-start_delay) → let sums = c.args.film.sums.t.now in
    let job = c.args.film.job.now in
    delay_at c.least_rate-least.result (length sums - 1) (sums_in sums) ≡ start_delay (tree_in job) job.frames (sums_in sums)
unfolding start_delay
delay_is c =
    let ends : length c.args.film.sums.t.now - 1 ≡ c.args.film.job.now.frames = omega (arith, c.args.film.with_sums.long) in
    rw (c.least_rate-least.ensures, ends) refl

pub start_delay-requires : goal.start_delay-requires
start_delay-requires c =
    omega (arith, c.least_rate-least.ensures, least-rate-fits (tree_in c.args.film.job.now) c.args.film.with_sums.tree)

pub returns-in_default : goal.returns-in_default
unfolding Worked
returns-in_default c =
    (refl, (omega (arith, c.in_default.ensures, delay_is (goal.at.returns-in_default c).After-start_delay), refl))

pub needs-needs-requires : goal.needs-needs-requires
needs-needs-requires c =
    (c.requires.room, rw c.floor_rates-floors.ensures (floors_fit (tree_in c.args.film.job.now) c.args.film.with_sums.tree))

-- the needs that are found are those of the nodes
needs_are : (c : After-needs-needs) → c.needs-needs.result ≡ needs_of (tree_in c.args.film.job.now) c.args.film.sums.t.now
needs_are c = rw c.floor_rates-floors.ensures at c.needs-needs.ensures

pub fill-total-requires-clause-needs : goal.fill-total-requires-clause-needs
fill-total-requires-clause-needs c =
    let film = c.args.film in
    rw (needs_are (goal.at.fill-total-requires-clause-needs c).After-needs-needs)
    (needs_right (tree_in film.job.now) film.with_sums.tree film.sums.t.now film.with_sums.film film.job.now.frames film.with_sums.long)

pub returns : goal.returns
unfolding Worked
returns c =
    let with = c.args.film.with_sums in
    let t = tree_in c.args.film.job.now in
    let sums = c.args.film.sums.t.now in
    let M = c.args.film.job.now.frames in
    let are = needs_are (goal.at.returns c).After-needs-needs in
    let filled = rw are at c.fill-total.ensures.memories in
    let all = rw are at c.fill-total.ensures.total in (
      c.in-Some.ensures.1,
      (
        c.in-Some.ensures.0 ∙ delay_is (goal.at.returns c).After-start_delay,
        (
          filled ∙ memories_by t with.tree sums with.film M with.long _,
          omega (arith, all ∙ total_by t with.tree sums with.film M with.long _ filled),
        ),
      ),
    )
