use native.Mathlib.Omega.{arith}
use mathlib.Core.Bool.{cond}
use mathlib.Core.Path.{◌≡◌, refl}
use Prim.Native.Nat.{ℕ, ◌+◌, ◌<◌, max, min}
use native.Mathlib.Decide.{dec_lt}
use lib.Dec.{ltb}
use borrow.Author.Tests.{lt-ltb, le-ltb}
use Rattle.pacing.specs.Work.{since_valley_after}
use Rattle.pacing.specs.declared.SinceValley.{SinceValley}
use Rattle.pacing.proofs.SinceValleySince.next.Goals as goal

-- the state as it is made field by field
abbrev fields : SinceValley → ℕ → SinceValley
fields t lead =
    let last = cond (ltb t.base lead) (cond (ltb lead t.ceiling) t.last t.valley) t.last + 1 in
    record {
      last = last;
      valley = cond (ltb t.base lead) t.valley last;
      base = min t.base lead;
      ceiling = cond (ltb t.base lead) (max t.ceiling lead) lead;
    }

made : (t : SinceValley) (lead : ℕ) → fields t lead ≡ since_valley_after t lead
unfolding since_valley_after
made t lead = go (dec_lt t.base lead) (dec_lt lead t.ceiling)
  where
    go : Dec (t.base < lead) → Dec (lead < t.ceiling) → fields t lead ≡ since_valley_after t lead
    go (no ne) _ =
        let e : min t.base lead ≡ lead = omega arith in
        rw (le-ltb t.base lead (omega arith), e) refl
    go (yes over) (yes under) =
        let e : min t.base lead ≡ t.base = omega arith in
        let m : max t.ceiling lead ≡ t.ceiling = omega arith in
        rw (lt-ltb t.base lead over, lt-ltb lead t.ceiling under, e, m) refl
    go (yes over) (no ne) =
        let e : min t.base lead ≡ t.base = omega arith in
        let m : max t.ceiling lead ≡ lead = omega arith in
        rw (lt-ltb t.base lead over, le-ltb lead t.ceiling (omega arith), e, m) refl

pub returns : goal.returns
returns c =
    rw (
      c.select-2.ensures,
      c.min.ensures,
      c.select.ensures,
      c.max-ceiling.ensures,
      c.select-last.ensures,
      c.select-onto.ensures,
    ) (made c.args.self c.args.lead)
