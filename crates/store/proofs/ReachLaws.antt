-- Each store that the definition calls possible is left by some calls: append as many bytes as bring the place to where the first byte
-- that still waits lies, and let all children take them; append the most that waits, and let each take down to its own.
use mathlib.Core.Bool.{Bool, true, false, cond}
use mathlib.Core.List.{List}
use mathlib.Core.Path.{◌≡◌, refl, ap, sym, subst, ◌∙◌}
use mathlib.Core.Logic.{inl, inr, ◌⊎◌, ⊎_elim}
use Prim.Native.Nat.{ℕ, zero, suc, ◌+◌, ◌-◌, ◌≤◌, ◌<◌}
use native.Mathlib.Omega.{arith}
use lib.Dec.{ltb}
use lib.ListN.{length}
use borrow.Author.Tests.{lt-ltb, le-ltb}
use Rattle.base.specs.Range.{greatest}
use Rattle.base.specs.Table.{tab}
use Rattle.base.proofs.BoolLaws.{lt_or_le}
use Rattle.base.proofs.RangeLaws.{greatest-above, greatest-under}
use Rattle.base.proofs.TableLaws.{length-tab, get_or-tab, tab_cong, tab_of_list, tab-set}
use Rattle.store.specs.Store.{most_children, onward, back, waiting_for, free, impossible, unfit, start_number, started, appended}
use Rattle.store.specs.Store.{store_of, taken, written, Starts}
use Rattle.store.specs.Run.{Run, start, append, take as takes, Reachable}
use Rattle.store.specs.declared.Store.{Store}
use Rattle.store.proofs.RoundLaws.{onward_near, onward_round, back_near, back_to, back_inside, onward-back}
use Rattle.store.proofs.StoreLaws.{Possible, possible_facts, unfit-not, place_in, place-to, waiting_to}
use Rattle.store.proofs.CallLaws.{append_past, append-answers, take_past, take-answers}
use Rattle.store.proofs.RunLaws.{Holds, run_holds}

-- a store with other counts
abbrev with_counts : Store → List ℕ → Store
with_counts s counts = store_of s.length s.children s.place counts

-- each of the first k children has taken as many bytes as f says
abbrev less : Store → (ℕ → ℕ) → ℕ → Store
less s f k = with_counts s (tab (λ c. waiting_for s c - cond (ltb c k) (f c) 0) most_children)

-- calls on a slice as long as at the start leave the store
record Reached (m n : ℕ) (s : Store) : Type 0 where
  slice : List ℕ
  stream : List ℕ
  received : ℕ → List ℕ
  run : Run m n s slice stream received
  long : length slice ≡ m

module _ (m n : ℕ) where
  started_reached : n ≤ most_children → Reached m n (started m n)
  unfolding Starts start_number
  started_reached few = record {
    slice = tab (λ i. 0) m;
    stream = _;
    received = _;
    run = start (started m n) (rw (le-ltb most_children n few), refl) (tab (λ i. 0) m);
    long = length-tab _ m;
  }

  module _ (s : Store) (reached : Reached m n s) where
    holds : Holds m n s reached.slice reached.stream reached.received
    holds = run_holds m n reached.run

    fit : unfit s (length reached.slice) ≡ false
    fit = unfit-not s _ holds.possible (reached.long ∙ sym holds.length_is)

    append_reached : (k : ℕ) → 0 < n → k ≤ free s → Reached m n (appended s k)
    unfolding written
    append_reached k some fits =
        let bytes = tab (λ i. 0) k in
        let size : length bytes ≡ k = length-tab (λ i. 0) k in
        let answer = append-answers s reached.slice bytes 0
        (sym (append_past s _ _ fit (omega (arith, holds.children_is)) ∙ rw (size, le-ltb (free s) k fits))) refl in
        let after : Reached m n (appended s (length bytes)) = record {
          slice = written s.place reached.slice bytes;
          stream = _;
          received = _;
          run = append reached.run bytes 0 answer;
          long = length-tab _ _ ∙ reached.long;
        } in
        rw size at after

    take_reached : (c k : ℕ) → c < n → k ≤ waiting_for s c → Reached m n (taken s c k)
    take_reached c k child enough =
        let out = tab (λ i. 0) k in
        let size : length out ≡ k = length-tab (λ i. 0) k in
        let answer = take-answers s reached.slice c out 0
        (sym (take_past s _ c _ fit (omega (arith, holds.children_is)) ∙ rw (size, le-ltb (waiting_for s c) k enough))) refl in
        let after : Reached m n (taken s c (length out)) = record {
          slice = reached.slice;
          stream = _;
          received = _;
          run = takes reached.run c out _ 0 answer;
          long = reached.long;
        } in
        rw size at after

  -- the first k children take, one after the other
  takes_reached : (s : Store) (f : ℕ → ℕ) (k : ℕ) → k ≤ n → n ≤ most_children → ((c : ℕ) → c < n → f c ≤ waiting_for s c) → Reached m n s
      → Reached m n (less s f k)
  takes_reached s f zero few most each reached = subst (Reached m n) (sym (ap (with_counts s) same)) reached
    where
      same : (less s f 0).waiting ≡ s.waiting
      same =
          tab_cong _ (waiting_for s) most_children (λ c h. rw (le-ltb c 0 (omega arith)) (omega arith))
          ∙ sym (tab_of_list s.waiting most_children (holds s reached).counted)
  takes_reached s f (suc k) few most each reached =
      let before : Reached m n (less s f k) = takes_reached s f k (omega arith) most each reached in
      let after = take_reached (less s f k) before k (f k) (omega arith) (omega (arith, waits, each k (omega arith))) in
      subst (Reached m n) (ap (with_counts s) next) after
    where
      waits : waiting_for (less s f k) k ≡ waiting_for s k
      waits =
          get_or-tab (λ c. waiting_for s c - cond (ltb c k) (f c) 0) most_children k (omega arith) ∙ rw (le-ltb k k (omega arith)) (omega arith)

      other : (c : ℕ) → (c ≡ k → ⊥) → (c < k) ⊎ (k ≤ c)
          → waiting_for s c - cond (ltb c k) (f c) 0 ≡ waiting_for s c - cond (ltb c (suc k)) (f c) 0
      other c ne (inl h) = rw (lt-ltb c k h, lt-ltb c (suc k) (omega arith))
      other c ne (inr h) = rw (le-ltb c k h, le-ltb c (suc k) (omega arith))

      next : (taken (less s f k) k (f k)).waiting ≡ (less s f (suc k)).waiting
      next =
          tab-set _ _ most_children k _ (omega arith) (rw (lt-ltb k (suc k) (omega arith)) (ap (λ (w : ℕ). w - f k) (sym waits)))
          (λ c ne. other c ne (lt_or_le c k))

  -- an append of k bytes where nothing waits, and takes by all children
  module _ (s : Store) (few : n ≤ most_children) (none : (c : ℕ) → c < most_children → waiting_for s c ≡ 0) (reached : Reached m n s) (k : ℕ)
      (f : ℕ → ℕ) where
    more : (c : ℕ) → c < most_children → waiting_for (appended s k) c ≡ cond (ltb c n) k 0
    more c h =
        get_or-tab (λ d. waiting_for s d + cond (ltb d s.children) k 0) most_children c h
        ∙ rw (none c h, (holds s reached).children_is) (omega arith)

    stage_waiting : (c : ℕ) → c < most_children → waiting_for (less (appended s k) f n) c ≡ cond (ltb c n) (k - f c) 0
    stage_waiting c h =
        get_or-tab (λ d. waiting_for (appended s k) d - cond (ltb d n) (f d) 0) most_children c h
        ∙ rw (more c h) (go (ltb c n))
      where
        go : (b : Bool) → cond b k 0 - cond b (f c) 0 ≡ cond b (k - f c) 0
        go true = refl
        go false = refl

    stage : 0 < n → k ≤ m → ((c : ℕ) → c < n → f c ≤ k) → Reached m n (less (appended s k) f n)
    unfolding free
    stage some fits each =
        let empty = greatest-under (waiting_for s) s.children 0
        (λ c h. omega (arith, none c (omega (arith, few, (holds s reached).children_is)))) in
        takes_reached (appended s k) f n (omega arith) few
        (λ c h. let here : waiting_for (appended s k) c ≡ k = more c (omega arith) ∙ rw (lt-ltb c n h) in omega (arith, here, each c h))
        (append_reached s reached k some (omega (arith, empty, (holds s reached).length_is)))

-- ---- a store that the definition calls possible

module _ (s : Store) (counted : length s.waiting ≡ most_children) (possible : Possible s) where
  abbrev m : ℕ
  m = s.length

  abbrev n : ℕ
  n = s.children

  -- the most that waits
  abbrev most : ℕ
  most = greatest (waiting_for s) n

  -- where the first byte that still waits for some child lies
  abbrev oldest : ℕ
  oldest = back m s.place most

  most_to : most ≤ m
  most_to = greatest-under (waiting_for s) n m (waiting_to s possible)

  began : Reached m n (started m n)
  began = started_reached m n possible.few

  empty : (c : ℕ) → c < most_children → waiting_for (started m n) c ≡ 0
  empty c h = get_or-tab (λ d. 0) most_children c h

  -- with the place there and nothing waiting, and with what waits
  abbrev drained : Store
  drained = less (appended (started m n) oldest) (λ c. oldest) n

  abbrev filled : Store
  filled = less (appended drained most) (λ c. most - waiting_for s c) n

  drained_empty : (c : ℕ) → c < most_children → waiting_for drained c ≡ 0
  drained_empty c h = stage_waiting m n (started m n) possible.few empty began oldest (λ d. oldest) c h ∙ go (ltb c n)
    where
      go : (b : Bool) → cond b (oldest - oldest) 0 ≡ 0
      go true = omega arith
      go false = refl

  -- ---- the last of them is the store

  place_is : onward m (onward m 0 oldest) most ≡ s.place
  place_is = go (lt_or_le 0 m)
    where
      go : (0 < m) ⊎ (m ≤ 0) → onward m (onward m 0 oldest) most ≡ s.place
      go (inl h) =
          let inside : s.place < m = place_in s possible h in
          let near : onward m 0 oldest ≡ oldest =
          onward_near m 0 oldest (omega (arith, back_inside m s.place inside most most_to)) ∙ omega arith in
          rw near (onward-back m s.place inside most most (omega arith) most_to
          ∙ back_near m s.place (most - most) (omega arith) ∙ omega arith)
      go (inr h) =
          let at_0 : s.place ≡ 0 = omega (arith, place-to s possible) in
          omega (
            arith,
            most_to,
            back_near m s.place most (omega (arith, most_to)),
            onward_round m 0 oldest (omega arith),
            onward_round m (onward m 0 oldest) most (omega arith),
          )

  counts_are : Reached m n drained → filled.waiting ≡ s.waiting
  counts_are reached =
      tab_of_list filled.waiting most_children (length-tab _ most_children)
      ∙ tab_cong _ (waiting_for s) most_children (λ c h.
      stage_waiting m n drained possible.few drained_empty reached most (λ d. most - waiting_for s d) c h ∙ count c h (lt_or_le c n))
      ∙ sym (tab_of_list s.waiting most_children counted)
    where
      count : (c : ℕ) → c < most_children → (c < n) ⊎ (n ≤ c) → cond (ltb c n) (most - (most - waiting_for s c)) 0 ≡ waiting_for s c
      count c h (inl l) = rw (lt-ltb c n l) (omega (arith, greatest-above (waiting_for s) n c l))
      count c h (inr l) = rw (le-ltb c n l) (omega (arith, rw (le-ltb c n l) at (possible.counts c h)))

  reached_some : 0 < n → Reached m n s
  reached_some some =
      let inside : oldest ≤ m = back_to m s.place most (place-to s possible) most_to in
      let midway : Reached m n drained = stage m n (started m n) possible.few empty began oldest (λ c. oldest) some inside
      (λ c h. omega arith) in
      let after : Reached m n filled =
      stage m n drained possible.few drained_empty midway most (λ c. most - waiting_for s c) some most_to (λ c h. omega arith) in
      subst (Reached m n)
      (ap (λ (p : ℕ). store_of m n p filled.waiting) place_is
      ∙ ap (with_counts s) (counts_are midway))
      after

  reached_none : n ≡ 0 → Reached m n s
  reached_none none =
      subst (Reached m n)
      (ap (λ (p : ℕ). store_of m n p (started m n).waiting) (sym at_0) ∙ ap (with_counts s) counts)
      began
    where
      at_0 : s.place ≡ 0
      at_0 = ⊎_elim (λ e. e) (λ h. absurd (omega arith)) possible.placed

      counts : (started m n).waiting ≡ s.waiting
      counts =
          tab_cong _ (waiting_for s) most_children (λ c h. omega (arith, rw (le-ltb c n (omega arith)) at (possible.counts c h)))
          ∙ sym (tab_of_list s.waiting most_children counted)

pub possible_reachable : (s : Store) → length s.waiting ≡ most_children → impossible s ≡ false → Reachable s
possible_reachable s counted h =
    let possible = possible_facts s h in
    let reached : Reached s.length s.children s =
    ⊎_elim (λ some. reached_some s counted possible some) (λ none. reached_none s counted possible (omega arith))
    (lt_or_le 0 s.children) in
    (s.length, s.children, reached.slice, reached.stream, reached.received, reached.run)
