-- The parent's number is small.
use Prim.Native.Nat.{ℕ, ◌<◌}
use native.Mathlib.Omega.{arith}
use lib.ListN.{get_or}
use Rattle.job.specs.declared.Film.{Film}
use Rattle.job.proofs.TreeLaws.{link_is}
use Rattle.running.proofs.Slot.pair_breaks.Goals as goal

low : (film : Film) (i : ℕ) → (0 < i) × (i < film.job.now.nodes) → get_or film.job.now.parent i 0 < 64
low film i h =
    let within = film.with_sums.tree in
    omega (arith, within.parents i (link_is film.job.now.nodes i h.0 h.1), h, within.nodes_to)

pub offset_bounds-self-u-then-u-ne0 : goal.offset_bounds-self-u-then-u-ne0
offset_bounds-self-u-then-u-ne0 c = omega (arith, low c.args.self.now.film c.args.i c.requires)

pub bounds-self-u-then-u-ne0 : goal.bounds-self-u-then-u-ne0
bounds-self-u-then-u-ne0 c = low c.args.self.now.film c.args.i c.requires

pub offset_bounds-self-u : goal.offset_bounds-self-u
offset_bounds-self-u c = omega (arith, low c.args.self.now.film c.args.i c.requires)

pub bounds-self-u : goal.bounds-self-u
bounds-self-u c = low c.args.self.now.film c.args.i c.requires
