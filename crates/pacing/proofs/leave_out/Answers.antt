-- The loop has gone through the old places before j: those left are in front, and the rest are as they were.
use native.Mathlib.Omega.{arith}
use mathlib.Core.List.{List}
use mathlib.Core.Path.{◌≡◌, refl, ap, sym, ◌∙◌}
use Prim.Native.Nat.{ℕ, suc, ◌+◌, ◌-◌, ◌≤◌, ◌<◌}
use lib.ListN.{length, get_or, set}
use lib.Seq.{get_or-set_other}
use Rattle.job.specs.Limits.{most_frames, greatest_total}
use Rattle.job.specs.Sums.{sums_in, FilmSums}
use Rattle.job.proofs.SumsLaws.{film_of, sum_fits}
use Rattle.pacing.specs.Work.{next_stop, ahead_by, PassOver, StopBefore, state_at, left_at}
use Rattle.pacing.specs.declared.Stop.{Stop}
use Rattle.pacing.proofs.PlaceLaws.{StopAt, Turn, turn, stop-start, stop_next, state_next, left_next}
use Rattle.pacing.proofs.leave_out.Given.{Over}
use Rattle.pacing.proofs.leave_out.Goals as goal
use Rattle.pacing.proofs.leave_out.Goals.{In-loop-j, After-next-t, After-last-last}

-- a turn of the pass, to place j
record AtTurn (sums old places : List ℕ) (r j : ℕ) (s : Stop) : Type 0 where
  film : FilmSums sums
  pass : PassOver sums r old
  some : 0 < j
  more : j < length old
  long : length places ≡ length old
  rest : (u : ℕ) → j ≤ u → get_or places u 0 ≡ get_or old u 0
  stop : StopAt (sums_in sums) old r (j - 1) s

module _ (sums old places : List ℕ) (r j : ℕ) (s : Stop) (at : AtTurn sums old places r j s) where
  here : Turn (sums_in sums) (film_of sums at.film.holds).grows (length sums - 1) old places j s
  here =
      turn (sums_in sums) (film_of sums at.film.holds).grows _ old places (length old) j r s at.pass.track at.some at.more
      at.rest at.stop

  inside : get_or places j 0 < length sums
  inside = omega (arith, here.inside, at.film.holds.some_sum)

  room : j < length places
  room = omega (arith, at.more, at.long)

  short : j ≤ most_frames
  short = omega (arith, here.few, at.film.frames_to)

  stop_before : StopBefore sums (get_or places j 0) r s
  stop_before =
      record {
        rate = at.pass.rate;
        forward = here.forward;
        inside = inside;
        played = at.stop.played;
        under = here.under;
      }

  module _ (s' : Stop) (is : s' ≡ next_stop (sums_in sums) (get_or places j 0) r s) where
    stop_on : StopAt (sums_in sums) old r j s'
    stop_on = stop_next (sums_in sums) old r j (get_or places j 0) s s' at.some here.next at.stop is

    lead_small : s'.lead ≤ greatest_total
    lead_small =
        omega (
          arith,
          ap (λ (x : Stop). x.lead) is,
          here.under,
          at.stop.played,
          sum_fits sums at.film.holds s.at,
          sum_fits sums at.film.holds (get_or places j 0),
        )

    module _ {S : Type 0} (after : S → ℕ → S) (last_of : S → ℕ) (start t t' : S) (so : t ≡ state_at after (sums_in sums) r old start (j - 1))
        (how : t' ≡ after t s'.lead) (left : places ≡ left_at after last_of (sums_in sums) r old start (j - 1)) where
      this : suc (j - 1) ≡ j
      this = omega (arith, at.some)

      state_on : t' ≡ state_at after (sums_in sums) r old start j
      state_on =
          let e : after t s'.lead ≡ after (state_at after (sums_in sums) r old start (j - 1)) (ahead_by (sums_in sums) old r j) =
          rw (so, stop_on.ahead) refl in
          how ∙ e ∙ sym (rw this at (state_next after (sums_in sums) r old start (j - 1)))

      left_on : set places (last_of t') (get_or places j 0) ≡ left_at after last_of (sums_in sums) r old start j
      left_on =
          rw (here.next, state_on, left) (sym (rw this at (left_next after last_of (sums_in sums) r old start (j - 1))))

      rest_on : last_of t' ≤ j → (u : ℕ) → j + 1 ≤ u → get_or (set places (last_of t') (get_or places j 0)) u 0 ≡ get_or old u 0
      rest_on few u h = get_or-set_other places (last_of t') u (get_or places j 0) 0 (λ e. omega arith) ∙ at.rest u (omega arith)

-- the turn that the loop takes, and what is so of the state after it
at_turn : (g : Over) (c : In-loop-j g) → AtTurn c.args.sums.t.now c.args.places.now c.loop-j.places c.args.r c.loop-j.j c.loop-j.s
at_turn g c =
    let inv = c.loop-j.invariant in
    record {
      film = c.args.sums.film;
      pass = c.requires.0;
      some = omega arith;
      more = c.loop-j-test.true;
      long = c.loop-j.auto.places;
      rest = inv.0;
      stop = inv.1.0;
    }

fits : (g : Over) (c : After-next-t g) → g.S.Since.Fits c.next-t.result c.loop-j.j
fits g c =
    let l = c.loop-j in
    let this : suc (l.j - 1) ≡ l.j = omega arith in
    rw c.next-t.ensures (rw this at (g.met.S.Since.next_fits l.t c.next_stop-s.result.lead (l.j - 1) l.invariant.1.1.0))

pub loop-j-init : goal.loop-j-init
unfolding state_at left_at
loop-j-init g c =
    let film = film_of c.args.sums.t.now c.args.sums.film.holds in (
      λ u h. refl,
      (
        stop-start (sums_in c.args.sums.t.now) c.args.places.now c.args.r c.requires.0.track.starts film.starts,
        (c.requires.1, (refl, refl)),
      ),
    )

pub next_stop-s-requires : goal.next_stop-s-requires
next_stop-s-requires g c = stop_before _ _ _ _ _ _ (at_turn g (goal.at.next_stop-s-requires g c).In-loop-j)

pub next-t-requires : goal.next-t-requires
next-t-requires g c =
    let l = c.loop-j in
    let at = at_turn g (goal.at.next-t-requires g c).In-loop-j in (
      g.met.S.Since.later l.t (l.j - 1) most_frames (omega (arith, short _ _ _ _ _ _ at)) l.invariant.1.1.0,
      lead_small _ _ _ _ _ _ at _ c.next_stop-s.ensures,
    )

-- the last place is no further on than this one
last_to : (g : Over) (c : After-last-last g) → c.last-last.result ≤ c.loop-j.j
last_to g c =
    omega (arith, c.last-last.ensures, g.met.S.Since.last_to c.next-t.result c.loop-j.j (fits g (goal.at.After-last-last g c).After-next-t))

pub offset_bounds-places-last : goal.offset_bounds-places-last
offset_bounds-places-last g c =
    omega (arith, last_to g c, short _ _ _ _ _ _ (at_turn g (goal.at.offset_bounds-places-last g c).In-loop-j))

pub bounds-places-last : goal.bounds-places-last
bounds-places-last g c =
    omega (arith, last_to g c, room _ _ _ _ _ _ (at_turn g (goal.at.bounds-places-last g c).In-loop-j))

pub loop-j-preserved : goal.loop-j-preserved
loop-j-preserved g c =
    let inv = c.loop-j.invariant in
    let at = at_turn g (goal.at.loop-j-preserved g c).In-loop-j in
    let last_of = g.S.Since.last_of in
    let is = c.next_stop-s.ensures in
    let how = c.next-t.ensures in
    let few = rw c.last-last.ensures at (last_to g c) in
    let back : c.loop-j.j + 1 - 1 ≡ c.loop-j.j = omega arith in
    rw (back, c.last-last.ensures) (
      rest_on _ _ _ _ _ _ at _ is _ last_of _ _ _ inv.1.1.1.0 how inv.1.1.1.1 few,
      (
        stop_on _ _ _ _ _ _ at _ is,
        (
          fits g (goal.at.loop-j-preserved g c).After-next-t,
          (
            state_on _ _ _ _ _ _ at _ is _ last_of _ _ _ inv.1.1.1.0 how inv.1.1.1.1,
            left_on _ _ _ _ _ _ at _ is _ last_of _ _ _ inv.1.1.1.0 how inv.1.1.1.1,
          ),
        ),
      ),
    )
