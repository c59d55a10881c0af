-- The outer loop keeps that each leaf seen stays within what its own rule allows, the inner one that this leaf does so at the slots seen;
-- that no leaf starves follows only from all of them.
use mathlib.Core.Path.{◌≡◌, refl, ap, sym, ◌∙◌}
use mathlib.Core.Bool.{true}
use Prim.Native.Nat.{ℕ, ◌-◌, ◌<◌}
use lib.ListN.{length, get_or}
use Rattle.std.specs.List.{All}
use Rattle.std.proofs.lemmas.List.Elements.{All-nil, All-cons, All-head, All-tail, All-weaker}
use Rattle.base.specs.Set.{has, members, word_bits}
use Rattle.base.specs.Walk.{walk_left}
use Rattle.base.specs.Table.{tab}
use Rattle.base.proofs.MemberLaws.{members_in}
use Rattle.base.proofs.TableLaws.{length-tab}
use Rattle.job.specs.Tree.{leaf}
use Rattle.job.specs.Read.{tree_in}
use Rattle.job.proofs.SlotLaws.{leaf-link}
use Rattle.job.proofs.TreeLaws.{link_in, link_is}
use Rattle.smoothing.specs.Tree.{Link}
use Rattle.curves.specs.Curves.{lower_curve}
use Rattle.job.specs.Sums.{sums_in, last_in}
use Rattle.job.proofs.SumsLaws.{film_of, sum_fits}
use Rattle.planner.proofs.RoomLaws.{InRoom, in_room_by_row, starved_by_row, root_leaf_in_room, all_fed}
use Rattle.base.proofs.MemberLaws.{seen_listed}
use native.Mathlib.Omega.{arith}
use Rattle.planner.proofs.starves.Goals as goal
use Rattle.planner.proofs.starves.Goals.{In-Some, After-keep_row}

-- the member met is a leaf, and so a link
leaf_here : (c : In-Some) → leaf (tree_in c.args.film.job.now) c.in-Some.i ≡ true
leaf_here c =
    All-head (λ i. leaf (tree_in c.args.film.job.now) i ≡ true) c.in-Some.i _ (rw c.in-Some.ensures.steps at c.search.invariant.left)

link_here : (c : In-Some) → Link c.args.film.job.now.nodes c.in-Some.i
link_here c = link_in _ _ (leaf-link (tree_in c.args.film.job.now) c.args.film.with_sums.tree c.in-Some.i (leaf_here c))

-- its parent has a lower number
parent_here : (c : In-Some) → get_or c.args.film.job.now.parent c.in-Some.i 0 < c.in-Some.i
parent_here c =
    c.args.film.with_sums.tree.parents c.in-Some.i (link_is c.args.film.job.now.nodes c.in-Some.i (link_here c).0 (link_here c).1)

-- every node's number is small
small : (c : In-Some) → c.in-Some.i < 64
small c = omega (arith, link_here c, c.args.film.with_sums.tree.nodes_to)

-- those left are leaves, and where they stay within their room, all do: this leaf does
left_here : (c : In-Some) → All (λ i. leaf (tree_in c.args.film.job.now) i ≡ true) (walk_left c.next.new.self)
left_here c =
    All-tail (λ i. leaf (tree_in c.args.film.job.now) i ≡ true) c.in-Some.i _ (rw c.in-Some.ensures.steps at c.search.invariant.left)

abbrev InRoomHere : In-Some → ℕ → Type 0
InRoomHere c i = InRoom (tree_in c.args.film.job.now) (sums_in c.args.film.sums.t.now) (length c.args.lowers.now) i

seen_here : (c : In-Some) → InRoomHere c c.in-Some.i → All (InRoomHere c) (walk_left c.next.new.self) → All (InRoomHere c) (members c.leaves-leaves.result)
seen_here c here h =
    c.search.invariant.seen (rw c.in-Some.ensures.steps (All-cons (InRoomHere c) c.in-Some.i _ here h))

-- the row has the lower curve of the leaf's parent
row_is : (c : After-keep_row) → let a = c.args in let job = a.film.job.now in c.keep_row.new.kept
    ≡ tab (lower_curve (tree_in job) (sums_in a.film.sums.t.now) (get_or job.parent c.in-Some.i 0)) (length a.lowers.now)
row_is c = c.keep_row.ensures ∙ rw c.search.invariant.row refl

-- and is as long as lent
row-long : (c : After-keep_row) → length c.keep_row.new.kept ≡ length c.args.lowers.now
row-long c = ap length (row_is c) ∙ length-tab _ _

pub search-init : goal.search-init
search-init c =
    let same : walk_left c.into_iter-i-iterator.result ≡ members c.leaves-leaves.result =
    ap walk_left c.into_iter-i-iterator.ensures.into_iter_gives ∙ ap members c.members-i-items.ensures in record {
      row = refl;
      none = refl;
      near = (omega (arith, c.args.film.with_sums.tree.nodes_from), λ ne. absurd (ne refl));
      left = All-weaker (λ i. (i < word_bits) × (has c.leaves-leaves.result i ≡ true)) (λ i. leaf (tree_in c.args.film.job.now) i ≡ true)
          (λ i h. sym (c.leaves-leaves.ensures i) ∙ h.1) _ (rw same (members_in c.leaves-leaves.result));
      seen = λ h. rw same at h;
    }

pub offset_bounds-film-i : goal.offset_bounds-film-i
offset_bounds-film-i c = omega (arith, small c)

pub bounds-film-i : goal.bounds-film-i
bounds-film-i c = small (goal.at.bounds-film-i c).In-Some

pub keep_row-requires : goal.keep_row-requires
keep_row-requires c =
    let s = (goal.at.keep_row-requires c).In-Some in
    ((omega arith, omega (arith, parent_here s, link_here s)), c.search.invariant.near)

pub search-preserved-in-loop-k : goal.search-preserved-in-loop-k
search-preserved-in-loop-k c =
    let s = (goal.at.search-preserved-in-loop-k c).In-Some in
    let k = (goal.at.search-preserved-in-loop-k c).After-keep_row in
    let here : InRoomHere s c.in-Some.i =
    let a = c.args in
    in_room_by_row (tree_in a.film.job.now) a.film.with_sums.tree (sums_in a.film.sums.t.now) c.in-Some.i (length a.lowers.now)
    (leaf_here s)
    (omega (arith, c.if-u-ne0.true)) _ (row_is k)
    (λ x h. c.loop-k.invariant.1 x (omega (arith, row-long k, c.loop-k-test.false))) in record {
      row = row-long k;
      none = c.loop-k.invariant.0;
      near = (omega (arith, parent_here s, link_here s), λ ne. rw (row-long k) (row_is k));
      left = left_here s;
      seen = seen_here s here;
    }

pub offset_bounds-film-u : goal.offset_bounds-film-u
offset_bounds-film-u c = let s = (goal.at.offset_bounds-film-u c).In-Some in omega (arith, small s, parent_here s)

pub offset_bounds-film-i-in-loop-k : goal.offset_bounds-film-i-in-loop-k
offset_bounds-film-i-in-loop-k c = omega (arith, small (goal.at.offset_bounds-film-i-in-loop-k c).In-Some)

pub bounds-film-i-in-loop-k : goal.bounds-film-i-in-loop-k
bounds-film-i-in-loop-k c = small (goal.at.bounds-film-i-in-loop-k c).In-Some

pub offset_bounds-film-i-in-loop-k-2 : goal.offset_bounds-film-i-in-loop-k-2
offset_bounds-film-i-in-loop-k-2 c = omega (arith, small (goal.at.offset_bounds-film-i-in-loop-k-2 c).In-Some)

pub bounds-film-i-in-loop-k-2 : goal.bounds-film-i-in-loop-k-2
bounds-film-i-in-loop-k-2 c = small (goal.at.bounds-film-i-in-loop-k-2 c).In-Some

pub bounds-film-u : goal.bounds-film-u
bounds-film-u c = let s = (goal.at.bounds-film-u c).In-Some in omega (arith, small s, parent_here s)

pub overflow_add-upper : goal.overflow_add-upper
overflow_add-upper c =
    let s = (goal.at.overflow_add-upper c).In-Some in
    omega (
      arith,
      c.played-plays.ensures,
      sum_fits c.args.film.sums.t.now c.args.film.with_sums.film (c.loop-k.k - get_or c.args.film.job.now.delay c.in-Some.i 0),
      c.args.film.with_sums.tree.memories c.in-Some.i (link_is c.args.film.job.now.nodes c.in-Some.i (link_here s).0 (link_here s).1),
    )

pub search-preserved : goal.search-preserved
search-preserved c =
    let s = (goal.at.search-preserved c).In-Some in
    let here : InRoomHere s c.in-Some.i =
    let a = c.args in
    root_leaf_in_room (tree_in a.film.job.now) a.film.with_sums.tree (sums_in a.film.sums.t.now) c.in-Some.i (length a.lowers.now)
    (leaf_here s) (omega (arith, c.if-u-ne0.false)) in record {
      row = c.search.invariant.row;
      none = c.search.invariant.none;
      near = c.search.invariant.near;
      left = left_here s;
      seen = seen_here s here;
    }

pub returns-in-None-clause-fed : goal.returns-in-None-clause-fed
returns-in-None-clause-fed c q =
    let sums = c.args.film.sums.t.now in
    let job = c.args.film.job.now in
    let within = c.args.film.with_sums in
    let P : ℕ → Type 0 = InRoom (tree_in job) (sums_in sums) (length c.args.lowers.now) in
    let all : All P (members c.leaves-leaves.result) = c.search.invariant.seen (rw c.in-None.ensures.steps.0 (All-nil P)) in
    all_fed (tree_in job) within.tree (sums_in sums) (last_in sums) (film_of sums within.film) (length c.args.lowers.now)
    (λ i e. seen_listed P c.leaves-leaves.result (omega arith) all i (c.leaves-leaves.ensures i ∙ e))

pub returns-then-lower-upper-clause-starving : goal.returns-then-lower-upper-clause-starving
returns-then-lower-upper-clause-starving c q =
    let s = (goal.at.returns-then-lower-upper-clause-starving c).In-Some in
    let k = (goal.at.returns-then-lower-upper-clause-starving c).After-keep_row in
    let lower = rw c.played-plays.ensures at c.leaf_lower-lower.ensures in
    let a = c.args in
    starved_by_row (tree_in a.film.job.now) a.film.with_sums.tree (sums_in a.film.sums.t.now) c.in-Some.i (length a.lowers.now)
    (leaf_here s)
    (omega (arith, c.if-u-ne0.true)) _ (row_is k)
    (last_in a.film.sums.t.now) c.loop-k.k (omega (arith, c.loop-k-test.true, row-long k))
    (omega (arith, c.if-lower-upper.true, lower, c.played-plays.ensures))
