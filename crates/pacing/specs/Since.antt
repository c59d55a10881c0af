-- States of a pass that leaves places out: what is so of each of them at place j, with the laws that such a pass goes on by.
use Rattle.std.specs.Prelude.{Bool, true, false, cond, ◌≡◌, ℕ, suc, ◌+◌, ◌≤◌, min, ltb, refl}
use native.Mathlib.Omega.{arith}
use borrow.Author.Tests.{ltb-false}
use Rattle.job.specs.Limits.{greatest_total}
use Rattle.pacing.specs.Work.{since_peak_after, since_valley_after}
use Rattle.pacing.specs.declared.SincePeak.{SincePeak}
use Rattle.pacing.specs.declared.SinceValley.{SinceValley}

-- of a state since a peak
pub record PeakFits (t : SincePeak) (j : ℕ) : Type 0 where
  pub last_to : t.last ≤ j
  pub peak_to : t.peak ≤ t.last
  pub under : t.floor ≤ t.bar
  pub slack_to : t.slack ≤ greatest_total

pub peak_later : (t : SincePeak) (j k : ℕ) → j ≤ k → PeakFits t j → PeakFits t k
peak_later t j k h so =
    record { last_to = omega (arith, so.last_to); peak_to = so.peak_to; under = so.under; slack_to = so.slack_to }

pub peak_next : (t : SincePeak) (lead j : ℕ) → PeakFits t j → PeakFits (since_peak_after t lead) (suc j)
unfolding since_peak_after
peak_next t lead j so = go (ltb t.bar lead) (ltb t.floor lead) (λ e. ltb-false t.bar lead e)
  where
    go : (b c : Bool) → (b ≡ false → lead ≤ t.bar)
        → PeakFits (cond b
        (record { last = t.last + 1; peak = t.last + 1; floor = lead; bar = lead; slack = t.slack })
        (cond c
        (record { last = t.last + 1; peak = t.peak; floor = t.floor; bar = min t.bar (t.floor + t.slack); slack = t.slack })
        (record { last = t.peak + 1; peak = t.peak; floor = lead; bar = min t.bar (lead + t.slack); slack = t.slack }))) (suc j)
    go true c under =
        record { last_to = omega (arith, so.last_to); peak_to = omega arith; under = omega arith; slack_to = so.slack_to }
    go false true under =
        record {
          last_to = omega (arith, so.last_to);
          peak_to = omega (arith, so.peak_to);
          under = omega (arith, so.under);
          slack_to = so.slack_to;
        }
    go false false under =
        record {
          last_to = omega (arith, so.last_to, so.peak_to);
          peak_to = omega arith;
          under = omega (arith, under refl);
          slack_to = so.slack_to;
        }

-- of a state since a valley
pub record ValleyFits (t : SinceValley) (j : ℕ) : Type 0 where
  pub last_to : t.last ≤ j
  pub valley_to : t.valley ≤ t.last

pub valley_later : (t : SinceValley) (j k : ℕ) → j ≤ k → ValleyFits t j → ValleyFits t k
valley_later t j k h so = record { last_to = omega (arith, so.last_to); valley_to = so.valley_to }

pub valley_next : (t : SinceValley) (lead j : ℕ) → ValleyFits t j → ValleyFits (since_valley_after t lead) (suc j)
unfolding since_valley_after
valley_next t lead j so = go (ltb t.base lead) (ltb lead t.ceiling)
  where
    go : (b c : Bool)
        → ValleyFits (cond b
        (cond c
        (record { last = t.last + 1; valley = t.valley; base = t.base; ceiling = t.ceiling })
        (record { last = t.valley + 1; valley = t.valley; base = t.base; ceiling = lead }))
        (record { last = t.last + 1; valley = t.last + 1; base = lead; ceiling = lead })) (suc j)
    go true true = record { last_to = omega (arith, so.last_to); valley_to = omega (arith, so.valley_to) }
    go true false = record { last_to = omega (arith, so.last_to, so.valley_to); valley_to = omega arith }
    go false c = record { last_to = omega (arith, so.last_to); valley_to = omega arith }
