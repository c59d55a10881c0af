-- The part is filled by write_sums and taken again: the first count places of the room are then its numbers.
use mathlib.Core.Path.{◌≡◌, ap, ◌∙◌}
use Prim.Native.Nat.{◌+◌}
use lib.ListN.{length}
use lib.Seq.{take_at, length-take-le}
use Rattle.base.proofs.TableLaws.{length-tab}
use Rattle.job.specs.Tree.{T}
use Rattle.job.specs.Bytes.{job_of}
use native.Mathlib.Omega.{arith}
use Rattle.job.proofs.Checked.sums.Goals as goal

pub write_sums-requires : goal.write_sums-requires
write_sums-requires c =
    let long = length-take-le (c.args.self.job.now.frames + 1) c.args.room.now (omega (arith, c.requires)) in
    (c.args.self.accepted.none, long ∙ omega (arith, c.args.self.accepted.frames))

pub returns : goal.returns
returns c =
    let w = c.write_sums in
    let all = ap length w.ensures ∙ length-tab (T (job_of c.args.self.bytes.now)) _ in
    let long : length w.new.out ≡ c.args.self.job.now.frames + 1 = all ∙ omega (arith, c.args.self.accepted.frames) in
    take_at w.new.out _ (c.args.self.job.now.frames + 1) long ∙ w.ensures
