-- Newton's search for the least peak between two rows: look by look, slot by slot, pass by pass.
use Rattle.std.specs.Prelude.{cond, ℕ, zero, suc, ◌+◌, ◌-◌, ◌*◌, max, min, eqb, ltb}
use Rattle.smoothing.specs.Row.{ceil_div}

-- where a pass at peak p stands at slot k:
-- reach is the least of upper j + p * (k - j) over the slots j < k, and gap is k - j for such a j (at slot 0: upper 0, and 0);
-- excess, V in the bound on passes, is the greatest of lower i less the reach at i, over the slots i from 1 to k;
-- span, g in that bound, is the gap at such an i (excess and span are 0 where lower is nowhere above the reach)
pub record Search : Type 0 where
  pub reach : ℕ
  pub gap : ℕ
  pub excess : ℕ
  pub span : ℕ

-- a row at every stride-th slot: with p * stride for p, a pass over two such rows is a coarse one at p
abbrev pub every : ℕ → (ℕ → ℕ) → ℕ → ℕ
every stride row k = row (k * stride)

module _ (lower upper : ℕ → ℕ) where
  -- one look at peak p: from slot k to the next, whose lower value is weighed
  unfoldable pub look : ℕ → ℕ → Search → Search
  look p k s =
      let reach = min s.reach (upper k) + p in
      let gap = cond (ltb (upper k) s.reach) 1 (suc s.gap) in
      let here = lower (suc k) - reach in
      record {
        reach = reach;
        gap = gap;
        excess = max s.excess here;
        span = cond (ltb s.excess here) gap s.span;
      }

  -- a pass at peak p over the slots 1 to k
  unfoldable pub pass : ℕ → ℕ → Search
  pass p zero = record { reach = upper 0; gap = 0; excess = 0; span = 0 }
  pass p (suc k) = look p k (pass p k)

  -- the peak to try after p: more by the greatest excess over its span, rounded up
  unfoldable pub next_peak : ℕ → ℕ → ℕ
  next_peak H p = p + ceil_div (pass p H).excess (pass p H).span

  -- Newton's search from p: another pass at the next peak while a pass finds an excess, c passes at most
  unfoldable pub newton : ℕ → ℕ → ℕ → ℕ
  newton H zero p = p
  newton H (suc c) p = let further = newton H c (next_peak H p) in cond (eqb (pass p H).excess 0) p further

  -- how many passes that search makes
  unfoldable pub passes_made : ℕ → ℕ → ℕ → ℕ
  passes_made H zero p = 0
  passes_made H (suc c) p = let further = passes_made H c (next_peak H p) in cond (eqb (pass p H).excess 0) 1 (suc further)
