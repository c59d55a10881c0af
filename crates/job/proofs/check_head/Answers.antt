-- Each test answers one of rows 1 to 3; past it that row doesn't apply.
use mathlib.Core.Path.{refl, sym, ◌∙◌}
use borrow.Author.Tests.{le-ltb, eq-eqb, ne_eqb}
use Rattle.job.specs.Bytes.{mark, version, mark_rly, version_one}
use Rattle.job.proofs.check_head.Goals as goal

pub returns-then-number-ne-MARK : goal.returns-then-number-ne-MARK
unfolding mark
returns-then-number-ne-MARK c =
    simp (
      le-ltb _ _ c.if-s-lt-HEADER.false,
      ne_eqb (mark c.args.s.now) mark_rly (λ e. c.if-number-ne-MARK.true (c.number.ensures.0 ∙ e)),
    )

pub returns-then-number-ne-VERSION : goal.returns-then-number-ne-VERSION
unfolding mark version
returns-then-number-ne-VERSION c =
    simp (
      le-ltb _ _ c.if-s-lt-HEADER.false,
      eq-eqb (mark c.args.s.now) mark_rly (sym c.number.ensures.0 ∙ c.if-number-ne-MARK.false),
      ne_eqb (version c.args.s.now) version_one (λ e. c.if-number-ne-VERSION.true (c.number-2.ensures.0 ∙ e)),
    )

pub returns : goal.returns
unfolding mark version
returns c = (
  simp (
    le-ltb _ _ c.if-s-lt-HEADER.false,
    eq-eqb (mark c.args.s.now) mark_rly (sym c.number.ensures.0 ∙ c.if-number-ne-MARK.false),
    eq-eqb (version c.args.s.now) version_one (sym c.number-2.ensures.0 ∙ c.if-number-ne-VERSION.false),
  ),
  refl,
)
