-- Each early return is a case of `job_refusal`; past the last, none is left.
use Rattle.std.proofs.Common.{◌<◌, sym, ◌∙◌, arith}
use Rattle.std.proofs.lemmas.Result.{err_from_is_err_and}
use Rattle.job.proofs.RefusalLaws.{number_none}
use Rattle.job.specs.Tree.{plan_length}
use Rattle.job.specs.Bytes.{job_of}
use Rattle.relay.specs.Printed.{most_planned}
use Rattle.relay.proofs.PrintedLaws.{refusal_long, refusal_read, refusal_planned, refusal_none}
use Rattle.relay.proofs.taken.Goals as goal

pub returns-then-bytes-gt-MOST_BYTES : goal.returns-then-bytes-gt-MOST_BYTES
returns-then-bytes-gt-MOST_BYTES c = sym (refusal_long _ (omega arith))

pub returns-in_err-sizes : goal.returns-in_err-sizes
returns-in_err-sizes c =
    let e = c.in_err-sizes.field-0.0 in
    let p = err_from_is_err_and c.from_residual.result c.from_residual.ensures.1 in
    let is = c.in_err-sizes.ensures in
    rw (p.1, p.2) (is ∙ sym (refusal_read c.args.bytes.now (omega arith) (λ z. number_none e (is ∙ z))))

pub returns-then-sizes-gt-MOST_PLANNED : goal.returns-then-sizes-gt-MOST_PLANNED
returns-then-sizes-gt-MOST_PLANNED c =
    let sizes = c.in_ok-sizes.ensures in
    let large : most_planned < plan_length (job_of c.args.bytes.now) = rw sizes.1 at c.if-sizes-gt-MOST_PLANNED.true in
    sym (refusal_planned _ (omega arith) sizes.0 large)

pub returns : goal.returns
returns c =
    let sizes = c.in_ok-sizes.ensures in
    (refusal_none c.args.bytes.now (omega arith) sizes.0 (rw sizes.1 at c.if-sizes-gt-MOST_PLANNED.false), sizes.1)
