-- The loop keeps that the peak is not above the least and that the state is the pass at it; each step goes up, and with no excess over
-- every slot it is the least.
use Prim.Native.Nat.{◌+◌, ◌-◌, ◌*◌, ◌≤◌, ◌<◌}
use lib.ListN.{length}
use Rattle.smoothing.specs.Row.{least_peak}
use Rattle.rows.specs.Row.{row_in}
use Rattle.job.specs.Limits.{greatest_total}
use Rattle.rows.specs.Search.{search_in}
use Rattle.rows.proofs.SearchLaws.{least_range, step_range, step-peak, step-done}
use native.Mathlib.Omega.{arith}
use Rattle.rows.proofs.search_by.Goals as goal
use Rattle.rows.proofs.search_by.Goals.{After-div_ceil-p, In-loop-s}

pub pass-s-requires : goal.pass-s-requires
pass-s-requires c =
    record {
      searchable = (c.requires.searchable.0, omega (arith, c.requires.searchable.1, least_range c.args.lower.now c.args.upper.now c.requires.searchable.0));
      stride_in = c.requires.stride_in;
    }

-- what the last pass found
in_range : (c : In-loop-s) → let s = c.loop-s.s in
    let stride = c.args.stride in
    (s.excess ≤ greatest_total) × ((0 < s.span * stride) × (s.span * stride ≤ greatest_total))
in_range c =
    let l = c.loop-s in
    step_range c.args.lower.now c.args.upper.now c.requires.searchable.0 l.p c.args.stride (search_in l.s) c.requires.stride_in.0 l.invariant.2 (omega arith)

pub overflow_mul-span : goal.overflow_mul-span
overflow_mul-span c = omega (arith, in_range (goal.at.overflow_mul-span c).In-loop-s)

pub div_ceil-p-requires : goal.div_ceil-p-requires
div_ceil-p-requires c = (in_range (goal.at.div_ceil-p-requires c).In-loop-s).1.0

-- the next peak
next : (c : After-div_ceil-p) → let l = c.loop-s in
    let a = c.args in let p = l.p + c.div_ceil-p.result in
    (l.p < p) × (p ≤ least_peak (length a.lower.now - 1) (row_in a.lower.now) (row_in a.upper.now))
next c =
    let l = c.loop-s in
    rw c.div_ceil-p.ensures (step-peak c.args.lower.now c.args.upper.now c.requires.searchable.0 l.p c.args.stride (search_in l.s) c.requires.stride_in.0 l.invariant.2 (omega arith))

next_range : (c : After-div_ceil-p) → c.loop-s.p + c.div_ceil-p.result ≤ greatest_total
next_range c =
    omega (arith, next c, least_range c.args.lower.now c.args.upper.now c.requires.searchable.0)

pub overflow_add-p : goal.overflow_add-p
overflow_add-p c = omega (arith, next_range c)

pub pass-s-requires-in-loop-s : goal.pass-s-requires-in-loop-s
pass-s-requires-in-loop-s c =
    record {
      searchable = (c.requires.searchable.0, next_range c);
      stride_in = c.requires.stride_in;
    }

pub loop-s-smaller : goal.loop-s-smaller
loop-s-smaller c = omega (arith, next (goal.at.loop-s-smaller c).After-div_ceil-p)

pub loop-s-preserved : goal.loop-s-preserved
loop-s-preserved c = (omega (arith, next (goal.at.loop-s-preserved c).After-div_ceil-p), (next (goal.at.loop-s-preserved c).After-div_ceil-p).1, c.pass-s-in-loop-s.ensures)

pub returns : goal.returns
returns c =
    let l = c.loop-s in
    record {
      between = (l.invariant.0, l.invariant.1);
      exact = step-done c.args.lower.now c.args.upper.now c.requires.searchable.0 l.p c.args.stride (search_in l.s) c.requires.stride_in.0 l.invariant.2 (omega arith) l.invariant.1;
    }
