-- By the three cases of a lead above the bar, between floor and bar, and on the floor or below.
use native.Mathlib.Omega.{arith}
use mathlib.Core.Bool.{cond}
use mathlib.Core.Path.{◌≡◌, refl}
use Prim.Native.Nat.{ℕ, ◌+◌, ◌≤◌, ◌<◌, min}
use native.Mathlib.Decide.{dec_lt}
use lib.Dec.{ltb}
use borrow.Author.Tests.{lt-ltb, le-ltb}
use Rattle.pacing.specs.Work.{since_peak_after}
use Rattle.pacing.specs.declared.SincePeak.{SincePeak}
use Rattle.pacing.proofs.SincePeakSince.next.Goals as goal

-- the state as it is made field by field
abbrev fields : SincePeak → ℕ → SincePeak
fields t lead =
    let last = cond (ltb t.floor lead) t.last t.peak + 1 in
    record {
      last = last;
      peak = cond (ltb t.bar lead) last t.peak;
      floor = cond (ltb t.bar lead) lead (min t.floor lead);
      bar = cond (ltb t.bar lead) lead (min t.bar (min t.floor lead + t.slack));
      slack = t.slack;
    }

made : (t : SincePeak) (lead : ℕ) → t.floor ≤ t.bar → fields t lead ≡ since_peak_after t lead
unfolding since_peak_after
made t lead under = go (dec_lt t.bar lead) (dec_lt t.floor lead)
  where
    go : Dec (t.bar < lead) → Dec (t.floor < lead) → fields t lead ≡ since_peak_after t lead
    go (yes above) _ = rw (lt-ltb t.bar lead above, lt-ltb t.floor lead (omega arith)) refl
    go (no ne) (yes over) =
        let e : min t.floor lead ≡ t.floor = omega arith in
        rw (le-ltb t.bar lead (omega arith), lt-ltb t.floor lead over, e) refl
    go (no ne) (no on) =
        let e : min t.floor lead ≡ lead = omega arith in
        rw (le-ltb t.bar lead (omega arith), le-ltb t.floor lead (omega arith), e) refl

pub returns : goal.returns
returns c =
    rw (
      c.select-3.ensures,
      c.select-2.ensures,
      c.select.ensures,
      c.min-bar.ensures,
      c.min-floor.ensures,
      c.select-last.ensures,
    ) (made c.args.self c.args.lead c.requires.0.under)
