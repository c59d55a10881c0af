-- Each field is read at its place, which lies within the record, and that within the bytes.
use Prim.Native.Nat.{◌+◌, ◌≤◌}
use native.Mathlib.Omega.{arith}
use lib.ListN.{length}
use Rattle.job.proofs.ReadLaws.{record_in}
use Rattle.job.specs.Bytes.{record_width, parent_at, delay_at, memory_at, rate_at}
use Rattle.job.proofs.read_node.Goals as goal
use Rattle.job.proofs.read_node.Goals.{After-record_place-at}

inside : (c : After-record_place-at) → c.record_place-at.result + record_width ≤ length c.args.s.now
inside c =
    rw c.record_place-at.ensures (record_in c.args.s.now c.requires.0 c.args.i c.requires.1.0 c.requires.1.1)

pub number-parent-requires : goal.number-parent-requires
number-parent-requires c = omega (arith, inside c)

pub number-delay-requires : goal.number-delay-requires
number-delay-requires c = omega (arith, inside (goal.at.number-delay-requires c).After-record_place-at)

pub number-memory-requires : goal.number-memory-requires
number-memory-requires c = omega (arith, inside (goal.at.number-memory-requires c).After-record_place-at)

pub number-rate-requires : goal.number-rate-requires
number-rate-requires c = omega (arith, inside (goal.at.number-rate-requires c).After-record_place-at)

pub returns : goal.returns
unfolding parent_at delay_at memory_at rate_at
returns c =
    let p = c.record_place-at.ensures in
    rw (c.number-parent.ensures.0, c.number-delay.ensures.0, c.number-memory.ensures.0, c.number-rate.ensures.0, p) at c.new.ensures
