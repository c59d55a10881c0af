-- The loop keeps that the first i memories are stored and summed, and that what the first i nodes hand on stands at their places.
use native.Mathlib.Omega.{arith}
use mathlib.Core.Path.{◌≡◌, refl, sym, ap, ◌∙◌}
use mathlib.Core.List.{List}
use mathlib.Core.Bool.{Bool, true}
use Prim.Native.Nat.{ℕ, suc, ◌+◌, ◌-◌, ◌≤◌, ◌<◌}
use lib.ListN.{length, get_or, set}
use Rattle.base.specs.Range.{sum_over}
use Rattle.base.specs.Table.{Filled}
use Rattle.base.proofs.RangeLaws.{sum_over-take}
use Rattle.base.proofs.TableLaws.{filled_none, filled_more}
use Rattle.job.specs.Limits.{most_nodes, greatest_total}
use Rattle.job.specs.Tree.{Tree, TreeWithin, link}
use Rattle.job.specs.Read.{tree_in}
use Rattle.job.proofs.TreeLaws.{link_is}
use Rattle.smoothing.specs.Choice.{chosen}
use Rattle.smoothing.proofs.ChoiceLaws.{handed-under}
use Rattle.rates.specs.Rates.{total}
use Rattle.rates.specs.Work.{on_links, ask_by, memory_by}
use Rattle.rates.proofs.LinkLaws.{links_none, links_more}
use Rattle.rates.proofs.WalkLaws.{onward, asked_next, memory-small}
use Rattle.rates.proofs.fill.Goals as goal
use Rattle.rates.proofs.fill.Goals.{After-handed_on-onward}

stored : (f : ℕ → ℕ) (k : ℕ) (l p : List ℕ) (x : ℕ) → Filled f k l p → k < length l → x ≡ f k → Filled f (k + 1) l (set p k x)
stored f k l p x so inside is = rw is (filled_more f k l p so inside)

handed_next : (f : ℕ → ℕ) (k : ℕ) (l : List ℕ) (x : ℕ) → l ≡ on_links k f 0 → 0 < k → k < most_nodes → x ≡ f k
    → set l k x ≡ on_links (k + 1) f 0
handed_next f k l x so some inside is = rw (so, is) (links_more f 0 k some inside)

-- and one added to a sum
summed : (p : ℕ → Bool) (f : ℕ → ℕ) (k all x : ℕ) → all ≡ sum_over p f (suc k) → x ≡ f (suc k) → p (suc k) ≡ true
    → all + x ≡ sum_over p f (suc (k + 1))
summed p f k all x so is passes =
    let next : k + 1 ≡ suc k = omega arith in
    rw (so, is, next) (sym (sum_over-take p f (suc k) passes))

module _ (c : After-handed_on-onward) where
  abbrev t : Tree
  t = tree_in c.args.film.job.now

  abbrev needs_then : List ℕ
  needs_then = c.args.needs.now

  abbrev i : ℕ
  i = c.loop-i.i

  next_link : link t.n (suc i) ≡ true
  next_link = link_is t.n (suc i) (omega arith) (omega (arith, c.loop-i-test.true, c.args.film.with_sums.tree.nodes_from))

  asked_is : c.max-asked.result ≡ ask_by t needs_then (suc i)
  asked_is =
      let next : i + 1 ≡ suc i = omega arith in
      rw (c.loop-i.invariant.1.0, next) at c.max-asked.ensures
      ∙ asked_next t c.args.film.with_sums.tree needs_then (suc i) next_link

  onward_is : c.handed_on-onward.result ≡ onward t needs_then (suc i)
  onward_is =
      let next : i + 1 ≡ suc i = omega arith in
      rw (asked_is, next) at c.handed_on-onward.ensures

  memory_is : c.max-asked.result - c.handed_on-onward.result ≡ memory_by t needs_then (suc i)
  unfolding chosen
  memory_is = omega (arith, onward_is, asked_is)

  onward-under : c.handed_on-onward.result ≤ c.max-asked.result
  onward-under =
      omega (arith, onward_is, asked_is, handed-under t.n t.parent (λ k. get_or needs_then k 0) (suc i) (ask_by t needs_then (suc i)))

  memory-under : c.max-asked.result - c.handed_on-onward.result ≤ greatest_total
  memory-under = omega (arith, memory_is, memory-small t c.args.film.with_sums.tree needs_then c.requires.needs (suc i) next_link)

-- a parent's place is one of the array
parent_in : (t : Tree) → TreeWithin t → (i : ℕ) → i < t.n - 1 → t.parent (i + 1) < most_nodes
parent_in t within i h =
    let inside : i + 1 < t.n = omega (arith, within.nodes_from) in
    omega (arith, inside, within.parents (i + 1) (link_is t.n (i + 1) (omega arith) inside), within.nodes_to)

pub loop-i-init : goal.loop-i-init
unfolding sum_over link
loop-i-init c = (filled_none _ _, (links_none _ 0, (refl, omega arith)))

pub offset_bounds-handed-above : goal.offset_bounds-handed-above
offset_bounds-handed-above c = omega (arith, parent_in _ c.args.film.with_sums.tree c.loop-i.i (omega (arith, c.loop-i-test.true)))

pub bounds-handed-above : goal.bounds-handed-above
bounds-handed-above c = parent_in _ c.args.film.with_sums.tree c.loop-i.i (omega (arith, c.loop-i-test.true))

pub overflow_sub-memory : goal.overflow_sub-memory
overflow_sub-memory c = onward-under c

pub overflow_add-all : goal.overflow_add-all
overflow_add-all c =
    omega (
      arith,
      memory-under (goal.at.overflow_add-all c).After-handed_on-onward,
      c.loop-i.invariant.1.1.1,
      c.loop-i-test.true,
      c.args.film.with_sums.tree.nodes_to,
    )

pub loop-i-preserved : goal.loop-i-preserved
loop-i-preserved c =
    let w = (goal.at.loop-i-preserved c).After-handed_on-onward in
    let s = c.loop-i in
    let taken = c.loop-i-test.true in
    let next : i w + 1 ≡ suc (i w) = omega arith in (
      stored _ (i w) _ _ _ s.invariant.0 (omega (arith, taken, c.requires.memories_len)) (memory_is w),
      (
        handed_next _ (i w + 1) _ _ s.invariant.1.0 (omega arith) (omega (arith, taken, c.args.film.with_sums.tree.nodes_to))
            (onward_is w ∙ ap (onward (t w) (needs_then w)) (sym next)),
        (
          summed (link (t w).n) (memory_by (t w) (needs_then w)) (i w) _ _ s.invariant.1.1.0 (memory_is w) (next_link w),
          omega (arith, memory-under w, s.invariant.1.1.1),
        ),
      ),
    )

pub returns-clause-total : goal.returns-clause-total
unfolding total
returns-clause-total c =
    let ends : suc c.loop-i.i ≡ c.args.film.job.now.nodes =
    omega (arith, c.loop-i-test.false, c.loop-i.invariant.0.0, c.requires.memories_len, c.args.film.with_sums.tree.nodes_from) in
    rw ends at c.loop-i.invariant.1.1.0
