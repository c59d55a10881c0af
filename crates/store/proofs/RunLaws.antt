-- Laws of calls in a row: what holds after them, and that they leave no store that the definition calls impossible.
use mathlib.Core.Bool.{true, false, cond, not, ◌||◌}
use mathlib.Core.List.{List, [], ◌++◌, append_assoc}
use mathlib.Core.Path.{◌≡◌, refl, ap, sym, ◌∙◌}
use mathlib.Core.Logic.{inl, inr, ◌⊎◌}
use Prim.Native.Nat.{ℕ, ◌-◌, ◌≤◌, ◌<◌}
use native.Mathlib.Decide.{ℕ_discrete}
use native.Mathlib.Omega.{arith}
use lib.Dec.{eqb, ltb}
use lib.ListN.{length, take, length-append, length-set, take-append-drop}
use borrow.Author.Tests.{ltb-false, ltb-true, eq-eqb, ne_eqb}
use Rattle.base.specs.Range.{greatest}
use Rattle.base.proofs.BoolLaws.{true_or_false, or_right, or_false}
use Rattle.base.proofs.RangeLaws.{greatest_cong}
use Rattle.base.proofs.TableLaws.{length-tab, get_or-tab}
use Rattle.store.specs.Store.{bad_store, not_waiting, most_children, waiting_for, waiting_bytes, free, impossible, unfit, start_number}
use Rattle.store.specs.Store.{append_number, take_number, started, taken, Starts, Appends, Takes}
use Rattle.store.specs.Run.{received_by, Run, start, append, take as takes, Serves}
use Rattle.store.specs.declared.Store.{Store}
use Rattle.store.proofs.CallLaws.{past, append-answered, append-refused, Takeable, take-answered, take-refused}
use Rattle.store.proofs.StoreLaws.{Possible, possible_is, append_possible, append_bytes, take_possible, take_other, take_bytes}
use Rattle.store.proofs.StoreLaws.{length_waiting, none_waits}

-- ---- what every call keeps

pub record Holds (m n : ℕ) (s : Store) (l stream : List ℕ) (received : ℕ → List ℕ) : Type 0 where
  pub possible : Possible s
  pub counted : length s.waiting ≡ most_children
  pub length_is : s.length ≡ m
  pub children_is : s.children ≡ n
  pub in_order : (c : ℕ) → c < n → received c ++ waiting_bytes s l c ≡ stream

module _ (m n : ℕ) where
  start-holds : (s₀ s : Store) (l : List ℕ) → Starts s₀ m n 0 s → Holds m n s l [] (λ c. [])
  unfolding Starts start_number
  start-holds s₀ s l h = let few : n ≤ most_children = ltb-false _ _ (past _ bad_store 0 refl (sym h.0)).0 in rw h.1 (record {
    possible = record {
      few = few;
      placed = inl refl;
      counts = λ c k. rw (none c k) (omega arith);
    };
    counted = length-tab _ most_children;
    length_is = refl;
    children_is = refl;
    in_order = λ c k. none_waits (started m n) l c (none c (omega (arith, few)));
  })
    where
      none : (c : ℕ) → c < most_children → waiting_for (started m n) c ≡ 0
      none c k = get_or-tab (λ d. 0) most_children c k

  module _ (s : Store) (l stream : List ℕ) (received : ℕ → List ℕ) (holds : Holds m n s l stream received) where
    append-holds : (bytes : List ℕ) (r : ℕ) (s' : Store) (l' : List ℕ) → Appends s l bytes r s' l'
        → Holds m n s' l' (cond (eqb r 0) (stream ++ bytes) stream) received
    append-holds bytes r s' l' h = go (true_or_false (eqb r 0))
      where
        go : (eqb r 0 ≡ true) ⊎ (eqb r 0 ≡ false) → Holds m n s' l' (cond (eqb r 0) (stream ++ bytes) stream) received
        go (inl e) =
            let (a, (Store-is, slice_is)) = append-answered s l bytes r s' l' h e in
            rw (e, Store-is, slice_is) (record {
              possible = append_possible s a.possible a.some (length bytes) a.fits;
              counted = length-tab _ most_children;
              length_is = holds.length_is;
              children_is = holds.children_is;
              in_order = λ c k.
                  rw (
                    append_bytes s a.possible l bytes a.as_long a.fits c (omega (arith, holds.children_is)),
                    ← append_assoc (received c) (waiting_bytes s l c) bytes,
                    holds.in_order c k,
                  );
            })
        go (inr e) = let (same, unchanged) = append-refused s l bytes r s' l' h e in rw (e, same, unchanged) holds

    take-holds : (c : ℕ) (out : List ℕ) (r : ℕ) (s' : Store) (out' : List ℕ) → Takes s l c out r s' out'
        → Holds m n s' l stream (cond (eqb r 0) (received_by received c out') received)
    take-holds c out r s' out' h = go (true_or_false (eqb r 0))
      where
        here : Takeable s (length l) c (length out) → out' ≡ take (length out) (waiting_bytes s l c) → c < n
            → (received c ++ out') ++ waiting_bytes (taken s c (length out)) l c ≡ stream
        here a out-is k =
            rw (
              out-is,
              take_bytes s holds.counted c (length out) (omega (arith, a.child, holds.possible.few)) l,
              append_assoc,
              take-append-drop,
            )
            (holds.in_order c k)

        more : Takeable s (length l) c (length out) → out' ≡ take (length out) (waiting_bytes s l c) → (d : ℕ) → d < n → Dec (d ≡ c)
            → received_by received c out' d ++ waiting_bytes (taken s c (length out)) l d ≡ stream
        more a out-is d k (yes e) = rw (e, eq-eqb c c refl) (here a out-is (omega arith))
        more a out-is d k (no e) =
            rw (ne_eqb d c e, take_other s holds.counted c (length out) (omega (arith, a.child, holds.possible.few)) l d e)
            (holds.in_order d k)

        go : (eqb r 0 ≡ true) ⊎ (eqb r 0 ≡ false) → Holds m n s' l stream (cond (eqb r 0) (received_by received c out') received)
        go (inl e) =
            let (a, (Store-is, out-is)) = take-answered s l c out r s' out' h e in
            rw (e, Store-is) (record {
              possible = take_possible s holds.counted c (length out) (omega (arith, a.child, holds.possible.few)) holds.possible;
              counted = length-set s.waiting c _ ∙ holds.counted;
              length_is = holds.length_is;
              children_is = holds.children_is;
              in_order = λ d k. more a out-is d k (ℕ_discrete d c);
            })
        go (inr e) = rw (e, take-refused s l c out r s' out' h e) holds

  pub run_holds : {s : Store} {l stream : List ℕ} {received : ℕ → List ℕ} → Run m n s l stream received → Holds m n s l stream received
  run_holds (start s₀ h l) = start-holds s₀ _ l h
  run_holds (append run bytes r h) = append-holds _ _ _ _ (run_holds run) bytes r _ _ h
  run_holds (takes run c out out' r h) = take-holds _ _ _ _ (run_holds run) c out r _ out' h

-- ---- what holds after any calls

module _ (m n : ℕ) (s : Store) (l stream : List ℕ) (received : ℕ → List ℕ) (holds : Holds m n s l stream received) where
  -- what waits for a child is what is appended and not received
  due : (c : ℕ) → c < n → waiting_for s c ≡ length stream - length (received c)
  due c h = omega (arith, ap length (sym (holds.in_order c h)), length-append (received c) (waiting_bytes s l c), length_waiting s l c)

  free_is : free s ≡ m - greatest (λ c. length stream - length (received c)) n
  unfolding free
  free_is = rw (holds.length_is, holds.children_is, greatest_cong _ _ n due)

  unfit_is : unfit s (length l) ≡ not (eqb (length l) m)
  unfolding unfit
  unfit_is = rw (possible_is s holds.possible, holds.length_is) (or_false (not (eqb (length l) m)))

  serves : Serves m n s l stream received
  unfolding Appends append_number Takes take_number
  serves = record {
    in_order = holds.in_order;
    append-number = λ bytes r s' l' h. h.0 ∙ rw (free_is, unfit_is, holds.children_is);
    take-number = λ c out r s' out' h. h.0 ∙ rw (unfit_is, holds.children_is) (asked c (length out) (true_or_false (ltb c n)));
  }
    where
      asked : (c k : ℕ) → (ltb c n ≡ true) ⊎ (ltb c n ≡ false)
          → cond (not (eqb (length l) m) || not (ltb c n)) bad_store (cond (ltb (waiting_for s c) k) not_waiting 0)
          ≡ cond (not (eqb (length l) m) || not (ltb c n)) bad_store (cond (ltb (length stream - length (received c)) k) not_waiting 0)
      asked c k (inl h) = rw (due c (ltb-true c n h))
      asked c k (inr h) = rw (h, or_right (not (eqb (length l) m)) {b = true} refl)

pub run_serves : {m n : ℕ} {s : Store} {l stream : List ℕ} {received : ℕ → List ℕ} → Run m n s l stream received
    → Serves m n s l stream received
run_serves run = serves _ _ _ _ _ _ (run_holds _ _ run)

-- calls leave no other store than the definition calls possible
pub run_possible : {m n : ℕ} {s : Store} {l stream : List ℕ} {received : ℕ → List ℕ} → Run m n s l stream received → impossible s ≡ false
run_possible run = possible_is _ (run_holds _ _ run).possible
