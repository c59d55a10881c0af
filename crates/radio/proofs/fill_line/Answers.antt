-- The smaller of the rate and T(M) has the delay and the memory of the rate itself; the two ways out are the two cases of a line.
use native.Mathlib.Omega.{arith}
use mathlib.Core.Path.{◌≡◌, sym, ap, ◌∙◌}
use Prim.Native.Nat.{◌-◌, ◌≤◌, ◌<◌, min}
use lib.ListN.{length}
use Rattle.job.specs.Limits.{greatest_rate}
use Rattle.job.specs.Sums.{sums_in}
use Rattle.job.proofs.SlotLaws.{total_in_memory}
use Rattle.job.proofs.SumsLaws.{place-fits}
use Rattle.pacing.specs.Pace.{delay_at}
use Rattle.radio.specs.Radio.{line_with, line_of}
use Rattle.radio.proofs.CarryLaws.{film, total_is, delay-same, memory-same}
use Rattle.radio.proofs.AnswerLaws.{line-none, line-some}
use Rattle.radio.proofs.fill_line.Goals as goal
use Rattle.radio.proofs.fill_line.Goals.{After-min-r, After-start_delay}

-- the rate that is used is within the limits
rate-fits : (c : After-min-r) → c.min-r.result ≤ greatest_rate
rate-fits c =
    let M = length c.args.sums.t.now - 1 in
    let inside : M < length c.args.sums.t.now = omega (arith, c.args.sums.film.holds.some_sum) in
    omega (arith, c.min-r.ensures, place-fits c.args.sums.t.now c.args.sums.film.holds M inside, total_in_memory)

-- it is the smaller of the one given and T(M)
rate_is : (c : After-min-r) → let a = c.args in
    c.min-r.result ≡ min a.rate (sums_in a.sums.t.now (length a.sums.t.now - 1))
rate_is c =
    omega (arith, c.min-r.ensures, total_is c.args.sums.t.now c.args.sums.film.holds)

-- the delay at it is that of the rate that was given
delay_is : (c : After-start_delay) → let a = c.args in
    let sums = a.sums.t.now in
    delay_at c.min-r.result (length sums - 1) (sums_in sums) ≡ delay_at a.rate (length sums - 1) (sums_in sums)
delay_is c =
    rw (rate_is (goal.at.After-start_delay c).After-min-r) (delay-same _ _ (film c.args.sums.t.now c.args.sums.film.holds) c.args.rate)

pub start_delay-requires : goal.start_delay-requires
start_delay-requires c = rate-fits c

pub returns-in-None : goal.returns-in-None
unfolding line_of
returns-in-None c =
    let past = c.in-None.ensures in
    c.put_line-in-None.ensures
    ∙ sym (line-none _ _ _ _ (omega (arith, past)))
    ∙ ap (line_with _ _ _) (delay_is (goal.at.returns-in-None c).After-start_delay)

pub returns-in-Some : goal.returns-in-Some
unfolding line_of
returns-in-Some c =
    let d = c.in-Some.d in
    c.put_line.ensures
    ∙ rw (
      c.memory_at.ensures,
      rate_is (goal.at.returns-in-Some c).After-min-r,
      memory-same _ _ (film c.args.sums.t.now c.args.sums.film.holds) c.args.rate d,
    ) (sym (line-some _ _ c.args.rate d c.in-Some.ensures.1))
    ∙ ap (line_with _ _ _) (c.in-Some.ensures.0 ∙ delay_is (goal.at.returns-in-Some c).After-start_delay)
