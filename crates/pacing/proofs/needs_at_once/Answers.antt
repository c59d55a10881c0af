-- The loop has the leads at all the rates up to a place; past the last place they are the needs, or the largest frame alone is.
use native.Mathlib.Omega.{arith}
use mathlib.Core.List.{List}
use mathlib.Core.Path.{◌≡◌, refl, sym, ◌∙◌}
use Prim.Native.Nat.{ℕ, suc, ◌+◌, ◌-◌, ◌≤◌, ◌<◌}
use lib.ListN.{length, get_or, take, drop}
use Rattle.std.proofs.lemmas.List.{get_or-take, get_or-replicate}
use Rattle.std.proofs.lemmas.Grind.{get_or_after_one}
use Rattle.base.proofs.TableLaws.{length_part, tab_cong}
use Rattle.job.specs.Limits.{most_frames, greatest_total}
use Rattle.job.specs.Sums.{sums_in, FilmSums}
use Rattle.job.proofs.SumsLaws.{sum_at, film_of, sum_fits, place-fits}
use Rattle.pacing.specs.Work.{at_once, lead_at, lead_after, LeadsWithin, PlacesAtOnce}
use Rattle.pacing.specs.declared.Lead.{Lead}
use Rattle.pacing.proofs.PlaceLaws.{LeadBy, ahead-played, lead_start, lead_next, lead_all}
use Rattle.pacing.proofs.needs_at_once.Goals as goal
use Rattle.pacing.proofs.needs_at_once.Goals.{In-loop-to}

-- a turn of the pass, from place j to the next one, `to`
module _ (sums places rates : List ℕ) (film : FilmSums sums) (largest : ℕ) (pre : PlacesAtOnce sums largest places rates) (j at sum : ℕ)
    (leads : List Lead) (more : suc j < length places) (here : at ≡ get_or places j 0) (played : sum ≡ sums_in sums at)
    (by : (i : ℕ) → i < at_once → LeadBy (sums_in sums) places (get_or rates i 0) j (lead_at leads i)) where
  abbrev to : ℕ
  to = get_or places (suc j) 0

  abbrev next : ℕ
  next = get_or sums (get_or places (suc j) 0) 0

  forward : at < to
  forward = omega (arith, here, pre.track.rising j more)

  inside : to < length sums
  inside = omega (arith, pre.track.inside (suc j) more, film.holds.some_sum)

  grown : sum ≤ next
  grown = omega (
    arith,
    played,
    sum_at sums to inside,
    (film_of sums film.holds).grows at to (omega (arith, forward)),
  )

  within : LeadsWithin leads rates × ((next - sum ≤ greatest_total) × (to - at ≤ most_frames))
  within =
      let holds = film.holds in (
        record {
          ahead = λ i h. omega (
            arith,
            (by i h).so_much,
            ahead-played (sums_in sums) (film_of sums holds).grows (get_or rates i 0) places j
                (λ u l. pre.track.rising u (omega arith)),
            sum_fits sums holds (get_or places j 0),
          );
          rate = λ i h. (pre.each i h).rate;
        },
        (omega (arith, place-fits sums holds to inside), omega (arith, inside, film.frames_to)),
      )

  on : (after : List Lead)
      → ((i : ℕ) → i < at_once → lead_at after i ≡ lead_after (lead_at leads i) (next - sum) (to - at) (get_or rates i 0))
      → (i : ℕ) → i < at_once → LeadBy (sums_in sums) places (get_or rates i 0) (suc j) (lead_at after i)
  on after is i h =
      rw (is i h, sum_at sums to inside, played, here) (lead_next (sums_in sums) places (get_or rates i 0) j (lead_at leads i) (by i h))

-- the places that are gone through are those after the first
abbrev rest : List ℕ → List ℕ
rest places = take (length places - 1) (drop 1 places)

module _ (places : List ℕ) (k : ℕ) (some : 1 ≤ length places) (more : k < length (rest places)) where
  next_one : (suc k < length places) × (get_or (rest places) k 0 ≡ get_or places (suc k) 0)
  next_one =
      let long : k < length places - 1 = omega (arith, length_part 1 (length places) places some (omega arith), more) in
      let one : 1 + k ≡ suc k = omega arith in
      (omega arith, get_or-take (length places - 1) (drop 1 places) k 0 long ∙ get_or_after_one places k 0 ∙ rw one refl)

pub loop-to-init : goal.loop-to-init
loop-to-init c =
    let none : Lead = record { ahead = 0; most = 0 } in (
      sym c.requires.track.starts,
      (
        sym (film_of c.args.sums.t.now c.args.sums.film.holds).starts,
        λ i h. rw (get_or-replicate at_once i none none h)
            (lead_start (sums_in c.args.sums.t.now) c.args.places.now (get_or c.args.rates.now i 0)),
      ),
    )

-- the next place
this : (c : In-loop-to) → (suc c.loop-to.to-index < length c.args.places.now)
    × (get_or (rest c.args.places.now) c.loop-to.to-index 0 ≡ get_or c.args.places.now (suc c.loop-to.to-index) 0)
this c = next_one c.args.places.now c.loop-to.to-index c.requires.track.some_place c.loop-to-test.true

pub overflow_sub-next : goal.overflow_sub-next
overflow_sub-next c =
    let l = c.loop-to in
    let (more, is) = this (goal.at.overflow_sub-next c).In-loop-to in
    rw is (grown _ _ _ c.args.sums.film _ c.requires l.to-index l.at l.sum l.leads more l.invariant.0 l.invariant.1.0 l.invariant.1.1)

pub leads_after-requires : goal.leads_after-requires
leads_after-requires c =
    let l = c.loop-to in
    let (more, is) = this (goal.at.leads_after-requires c).In-loop-to in
    rw is (within _ _ _ c.args.sums.film _ c.requires l.to-index l.at l.sum l.leads more l.invariant.0 l.invariant.1.0 l.invariant.1.1)

pub loop-to-preserved : goal.loop-to-preserved
loop-to-preserved c =
    let l = c.loop-to in
    let (more, is) = this (goal.at.loop-to-preserved c).In-loop-to in
    let one : l.to-index + 1 ≡ suc l.to-index = omega arith in
    let far = inside _ _ _ c.args.sums.film _ c.requires l.to-index l.at l.sum l.leads more l.invariant.0 l.invariant.1.0 l.invariant.1.1 in
    rw (one, is) (
      refl,
      (
        sum_at c.args.sums.t.now _ far,
        on _ _ _ c.args.sums.film _ c.requires l.to-index l.at l.sum l.leads more l.invariant.0 l.invariant.1.0 l.invariant.1.1 _
            (rw is at c.leads_after.ensures),
      ),
    )

pub returns : goal.returns
returns c =
    let l = c.loop-to in
    let pre = c.requires in
    let places = c.args.places.now in
    let all : l.to-index ≡ length places - 1 =
    omega (arith, c.loop-to-test.false, l.auto.to-index-end, length_part 1 (length places) places pre.track.some_place (omega arith)) in
    c.needs_by.ensures
    ∙ tab_cong _ _ at_once
    (λ i h. lead_all _ c.args.largest places (length places) (get_or c.args.rates.now i 0) (lead_at l.leads i) _
    (pre.each i h).passes (rw all at (l.invariant.1.1 i h)) refl)
