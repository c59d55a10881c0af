-- Within the room of both (room_enough) the second answer's line stands after the first's.
use mathlib.Core.List.{List}
use mathlib.Core.Path.{◌≡◌, ap, sym, ◌∙◌}
use Prim.Native.Nat.{ℕ, ◌-◌, ◌≤◌}
use native.Mathlib.Omega.{arith}
use lib.ListN.{length, take}
use lib.Seq.{length-take-le}
use Rattle.job.specs.Bytes.{job_of}
use Rattle.job.specs.Limits.{most_nodes}
use Rattle.job.specs.Tree.{plan_length}
use Rattle.job.specs.declared.Sizes.{Sizes}
use Rattle.relay.specs.Printed.{most_planned}
use Rattle.relay.specs.Taken.{Takes}
use Rattle.std.specs.Prelude.{Ok}
use Rattle.relay.proofs.PrintedLaws.{node_some, nodes_most, planned_most, room_enough}
use Rattle.relay.proofs.add_both.Goals as goal

module _ (s : List ℕ) (sizes : Sizes) (taken : Takes (Ok sizes) s) where
  nodes_are : sizes.nodes ≡ (job_of s).tree.n
  nodes_are = ap (λ (z : Sizes). z.nodes) taken.1

  planned_is : sizes.plan_length ≡ plan_length (job_of s)
  planned_is = ap (λ (z : Sizes). z.plan_length) taken.1

  planned_fits : (room : List ℕ) → length room ≡ most_planned → sizes.plan_length ≤ length room
  planned_fits room e = omega (arith, e, planned_is, planned_most s taken.0)

  links_fit : (room : List ℕ) → length room ≡ most_nodes → sizes.nodes - 1 ≤ length room
  links_fit room e = omega (arith, e, nodes_are, nodes_most s taken.0)

  plan_long : (room : List ℕ) → length room ≡ most_planned → length (take sizes.plan_length room) ≡ plan_length (job_of s)
  plan_long room e = length-take-le sizes.plan_length room (planned_fits room e) ∙ planned_is

  links_long : (room : List ℕ) → length room ≡ most_nodes → length (take (sizes.nodes - 1) room) ≡ (job_of s).tree.n - 1
  links_long room e = length-take-le (sizes.nodes - 1) room (links_fit room e) ∙ ap (λ (n : ℕ). n - 1) nodes_are

pub overflow_sub-links : goal.overflow_sub-links
overflow_sub-links c = omega (arith, nodes_are _ _ c.requires.0, node_some c.args.bytes.now c.requires.0.0)

pub slice_bounds-plan-end : goal.slice_bounds-plan-end
slice_bounds-plan-end c = planned_fits _ _ c.requires.0 _ c.room-plan.ensures

pub slice_bounds-add_memory_lines-end : goal.slice_bounds-add_memory_lines-end
slice_bounds-add_memory_lines-end c = sym (length-take-le _ _ (planned_fits _ _ c.requires.0 _ c.room-plan.ensures))

pub slice_bounds-peaks-end : goal.slice_bounds-peaks-end
slice_bounds-peaks-end c = links_fit _ _ c.requires.0 _ c.room-peaks.ensures

pub slice_bounds-add_memory_lines-end-2 : goal.slice_bounds-add_memory_lines-end-2
slice_bounds-add_memory_lines-end-2 c = sym (length-take-le _ _ (links_fit _ _ c.requires.0 _ c.room-peaks.ensures))

pub add_memory_lines-requires : goal.add_memory_lines-requires
add_memory_lines-requires c = (
  plan_long _ _ c.requires.0 _ c.room-plan.ensures,
  (
    links_long _ _ c.requires.0 _ c.room-peaks.ensures,
    omega (arith, ap length c.requires.1, room_enough c.args.bytes.now c.requires.0.0),
  ),
)

pub slice_bounds-memories-end : goal.slice_bounds-memories-end
slice_bounds-memories-end c = links_fit _ _ c.requires.0 _ c.room-memories.ensures

pub slice_bounds-add_rate_line-end : goal.slice_bounds-add_rate_line-end
slice_bounds-add_rate_line-end c = sym (length-take-le _ _ (links_fit _ _ c.requires.0 _ c.room-memories.ensures))

pub add_rate_line-requires : goal.add_rate_line-requires
add_rate_line-requires c = (
  links_long _ _ c.requires.0 _ c.room-memories.ensures,
  omega (arith, ap length c.requires.1, c.add_memory_lines.ensures.long, room_enough c.args.bytes.now c.requires.0.0),
)
