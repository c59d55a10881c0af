use mathlib.Core.Path.{◌≡◌, refl, ap, ◌∙◌}
use Prim.Native.Nat.{ℕ, suc, ◌+◌, ◌-◌, ◌*◌, ◌≤◌}
use native.Mathlib.Numerals.{add-one}
use lib.ListN.{length, take, drop}
use borrow.Rule.Slice.PartMut.{same_len_mid}
use Rattle.base.specs.Table.{tab, rows_of}
use Rattle.base.proofs.TableLaws.{length-tab, length-rows, rows_more, rows-done, row_end, filled_more, filled-done}
use Rattle.base.proofs.PartLaws.{row_left}
use Rattle.job.specs.Read.{tree_in}
use Rattle.smoothing.specs.Tree.{Link}
use Rattle.smoothing.specs.Plan.{link_peak}
use Rattle.curves.specs.Curves.{upper_curve}
use Rattle.job.specs.Sums.{sums_in, last_in}
use Rattle.planner.specs.Work.{problem_in, lazy_row_of}
use Rattle.planner.proofs.WorkLaws.{curves_searchable, peak_here, lazy_here}
use native.Mathlib.Omega.{arith}
use Rattle.planner.proofs.fill.Goals as goal
use Rattle.planner.proofs.fill.Goals.{In-loop-i}

pub loop-i-init : goal.loop-i-init
unfolding tab rows_of
loop-i-init c = record {
  lowers = refl;
  kept = refl;
  plan = refl;
  rows = let z : 0 ≡ 0 * length c.args.lowers.now = omega arith in ap (λ (k : ℕ). drop k c.args.plan.now) z;
  peaks = (omega arith, (refl, refl));
  near = (omega (arith, c.args.film.with_sums.tree.nodes_from), λ ne. absurd (ne refl));
}

-- the plan is as long as its rows
sized : (c : In-loop-i) → let a = c.args in length a.plan.now ≡ (a.film.job.now.nodes - 1) * length a.lowers.now
sized c =
    ap length c.requires.1.0 ∙ length-rows _ (length c.args.lowers.now) (c.args.film.job.now.nodes - 1) (λ i. length-tab _ _)

-- in a turn the row's part lies within the plan
row_in : (c : In-loop-i) → let a = c.args in c.loop-i.i * length a.lowers.now + length a.lowers.now ≤ length a.plan.now
row_in c = omega (arith, row_end c.loop-i.i (c.args.film.job.now.nodes - 1) (length c.args.lowers.now) c.loop-i-test.true, sized c)

-- and still has the upper row
part_is : (c : In-loop-i) → let a = c.args in let sums = a.film.sums.t.now in let l = c.loop-i in let w = length a.lowers.now in
    take (l.i * w + w - l.i * w) (drop (l.i * w) l.plan)
    ≡ tab (upper_curve (tree_in a.film.job.now) (sums_in sums) (last_in sums) (l.i + 1)) w
part_is c =
    let l = c.loop-i in
    let a = c.args in
    let w = length a.lowers.now in
    let job = a.film.job.now in
    let sums = a.film.sums.t.now in
    row_left (lazy_row_of (problem_in job sums w) w) (λ i. tab (upper_curve (tree_in job) (sums_in sums) (last_in sums) (suc i)) w) w l.i
    (job.nodes - 1) (l.i * w) (l.i * w + w) l.plan
    (λ j. length-tab _ w) (λ j. length-tab _ w) (rw c.requires.1.0 at l.invariant.rows) (omega arith) refl refl
    ∙ rw add-one refl

pub slice_bounds-fill_link-end : goal.slice_bounds-fill_link-end
slice_bounds-fill_link-end c = omega (arith, row_in (goal.at.slice_bounds-fill_link-end c).In-loop-i, c.loop-i.invariant.plan)

pub fill_link-requires : goal.fill_link-requires
fill_link-requires c =
    let l = c.loop-i in
    let a = c.args in
    rw (c.lower_near-near.ensures.lower, l.invariant.lowers, part_is (goal.at.fill_link-requires c).In-loop-i)
    (curves_searchable a.film.job.now a.film.sums.t.now a.lowers.now a.kept.now a.film.with_sums c.requires.0 (l.i + 1)
    (omega arith, omega arith))

pub loop-i-preserved : goal.loop-i-preserved
loop-i-preserved c =
    let l = c.loop-i in
    let a = c.args in
    let w = length a.lowers.now in
    let P = problem_in a.film.job.now a.film.sums.t.now w in
    let near = c.lower_near-near in
    let f = c.fill_link in
    let link : Link a.film.job.now.nodes (l.i + 1) = (omega arith, omega (arith, c.loop-i-test.true)) in
    let back : l.i + 1 - 1 ≡ l.i = omega arith in
    let first : f.result ≡ link_peak P (l.i + 1) =
    f.ensures.least
    ∙ rw (near.ensures.lower, l.invariant.lowers, part_is (goal.at.loop-i-preserved c).In-loop-i)
    (peak_here a.film.job.now a.film.sums.t.now a.lowers.now a.kept.now a.film.with_sums c.requires.0 (l.i + 1) link) in
    let row : f.new.row ≡ lazy_row_of P w l.i =
    f.ensures.filled
    ∙ rw (near.ensures.lower, l.invariant.lowers)
    (rw back at
    (lazy_here a.film.job.now a.film.sums.t.now a.lowers.now a.kept.now a.film.with_sums c.requires.0 (l.i + 1) link f.result first)) in
    let peak : f.result ≡ link_peak P (suc l.i) = first ∙ rw add-one refl in
    let next : (l.i + 1) * w ≡ l.i * w + w = omega arith in record {
      lowers = near.auto.out ∙ l.invariant.lowers;
      kept = near.auto.kept ∙ l.invariant.kept;
      plan = same_len_mid (l.i * w) (l.i * w + w - l.i * w) l.plan f.new.row f.auto.row ∙ l.invariant.plan;
      rows = rw (row, next) (rows_more (lazy_row_of P w) w l.i (l.i * w) (l.i * w + w) _ l.plan (λ k. length-tab _ w) l.invariant.rows refl refl);
      peaks = rw peak (filled_more (λ k. link_peak P (suc k)) l.i _ l.peaks l.invariant.peaks (omega (arith, c.loop-i-test.true, c.requires.1.1)));
      near = near.ensures.kept;
    }

pub returns : goal.returns
returns c =
    let l = c.loop-i in
    let w = length c.args.lowers.now in
    let P = problem_in c.args.film.job.now c.args.film.sums.t.now w in
    let q : l.i ≡ c.args.film.job.now.nodes - 1 = omega arith in
    let links = c.args.film.job.now.nodes - 1 in
    let sized : length c.args.plan.now ≡ links * w = ap length c.requires.1.0 ∙ length-rows _ w links (λ i. length-tab _ _) in record {
      filled = rows-done (lazy_row_of P w) w l.i (c.args.film.job.now.nodes - 1) (l.i * w) _ l.plan l.invariant.rows q sized refl;
      peaks = filled-done (λ k. link_peak P (suc k)) l.i _ l.peaks l.invariant.peaks (omega (arith, c.requires.1.1)) ∙ ap (tab (λ k. link_peak P (suc k))) c.requires.1.1;
    }
