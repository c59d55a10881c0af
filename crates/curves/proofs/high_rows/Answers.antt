-- The loop keeps that the rows before link i are filled; the rest of the table is as lent.
use mathlib.Core.Path.{◌≡◌, refl, ◌∙◌}
use mathlib.Core.List.{List}
use Prim.Native.Nat.{ℕ, suc, ◌+◌, ◌-◌, ◌*◌, ◌≤◌}
use native.Mathlib.Numerals.{add-one}
use native.Mathlib.Nat.{suc-mul, zero-mul}
use lib.ListN.{length, take, drop}
use Rattle.base.specs.Table.{tab, rows_of}
use Rattle.base.proofs.TableLaws.{length-tab, rows_more, rows-done, row_end, length_part}
use Rattle.job.specs.Read.{tree_in}
use Rattle.curves.specs.Curves.{high}
use Rattle.job.specs.Sums.{sums_in, last_in}
use native.Mathlib.Omega.{arith}
use Rattle.curves.proofs.high_rows.Goals as goal

pub loop-i-init : goal.loop-i-init
unfolding rows_of
loop-i-init c = rw zero-mul refl

pub loop-i-preserved : goal.loop-i-preserved
loop-i-preserved c =
    let l = c.loop-i in
    let a = c.args in
    let w = a.width in
    let start = l.i * w in
    let r = c.high_row in
    let row : ℕ → List ℕ = λ i. tab (high (tree_in a.film.job.now) (sums_in a.film.sums.t.now) (last_in a.film.sums.t.now) (suc i)) w in
    let end = row_end l.i (a.film.job.now.nodes - 1) w c.loop-i-test.true in
    let room : start + w ≤ length l.table = omega (arith, end, c.requires, l.auto.table) in
    let long : length (take (start + w - start) (drop start l.table)) ≡ w = length_part start (start + w) l.table (omega arith) room ∙ omega arith in
    let filled : r.new.out ≡ row l.i = r.ensures ∙ rw (add-one, long) refl in
    let next : (l.i + 1) * w ≡ start + w = rw (add-one, suc-mul) refl in
    rw (filled, next) (rows_more row w l.i start (start + w) _ l.table (λ k. length-tab _ w) l.invariant refl refl)

pub returns : goal.returns
returns c =
    let l = c.loop-i in
    let a = c.args in
    rows-done (λ i. tab (high (tree_in a.film.job.now) (sums_in a.film.sums.t.now) (last_in a.film.sums.t.now) (suc i)) a.width) a.width
    l.i (a.film.job.now.nodes - 1) (l.i * a.width) _ l.table l.invariant (omega arith) c.requires refl
