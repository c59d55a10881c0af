-- Laws of the calls: when each is answered and when it is refused, and what is known where it was answered.
use mathlib.Core.Bool.{Bool, true, false, cond, not, ◌||◌}
use mathlib.Core.List.{List}
use mathlib.Core.Path.{◌≡◌, refl, ap, sym, ◌∙◌}
use Prim.Native.Nat.{ℕ, ◌≤◌, ◌<◌}
use native.Mathlib.Omega.{arith}
use lib.Dec.{eqb, ltb}
use lib.ListN.{length, take}
use borrow.Author.Tests.{eqb-true, eqb-false, ltb-true, ltb-false, not-false, ne_eqb, lt-ltb}
use Rattle.std.specs.Prelude.{Result, Ok, Err}
use Rattle.std.specs.Result.{IsErrAnd}
use Rattle.base.proofs.BoolLaws.{or_no_left, or_no_right}
use Rattle.store.specs.Store.{bad_store, no_space, not_waiting, number, number_of, waiting_for, waiting_bytes, free, unfit}
use Rattle.store.specs.Store.{append_number, take_number, appended, taken, written, Appends, Takes}
use Rattle.store.specs.declared.Refusal.{Refusal}
use Rattle.store.specs.declared.Refusal.TheVariants.{BadStore, NoSpace, NotWaiting}
use Rattle.store.specs.declared.Store.{Store}
use Rattle.store.proofs.StoreLaws.{Possible, unfit-facts}

-- past a check that applies where t does
pub past : (t : Bool) (e r : ℕ) → eqb e 0 ≡ false → cond t e r ≡ 0 → (t ≡ false) × (r ≡ 0)
past true e r some h = absurd (eqb-false e 0 some h)
past false e r some h = (refl, h)

-- a refusal that is handed on
pub handed_on : (r : Result (Unit {0}) Refusal) (e : Refusal) → IsErrAnd r (λ d. d ≡ e) → (number_of r ≡ number e) × (eqb (number_of r) 0 ≡ false)
handed_on (Ok _) e h = absurd h
handed_on (Err BadStore) e h = (ap number h, refl)
handed_on (Err NoSpace) e h = (ap number h, refl)
handed_on (Err NotWaiting) e h = (ap number h, refl)

-- ---- an append

-- where its number is 0
pub record Appendable (s : Store) (long n : ℕ) : Type 0 where
  pub possible : Possible s
  pub as_long : long ≡ s.length
  pub some : 0 < s.children
  pub fits : n ≤ free s

pub appendable : (s : Store) (long n : ℕ) → append_number s long n ≡ 0 → Appendable s long n
unfolding append_number
appendable s long n h =
    let (bad, rest) = past _ bad_store _ refl h in
    let fit = unfit-facts s long (or_no_left _ _ bad) in
    let none : s.children ≡ 0 → ⊥ = eqb-false s.children 0 (or_no_right (unfit s long) _ bad) in
    let some : 0 < s.children = omega arith in
    record { possible = fit.0; as_long = fit.1; some = some; fits = ltb-false _ _ (past _ no_space 0 refl rest).0 }

-- the number, by the checks
pub append_bad : (s : Store) (long n : ℕ) → (unfit s long || eqb s.children 0) ≡ true → bad_store ≡ append_number s long n
unfolding append_number
append_bad s long n h = rw h

pub append_past : (s : Store) (long n : ℕ) → unfit s long ≡ false → 0 < s.children
    → append_number s long n ≡ cond (ltb (free s) n) no_space 0
unfolding append_number
append_past s long n fit some = rw (fit, ne_eqb s.children 0 (λ e. omega arith))

-- what it leaves
module _ (s : Store) (l bytes : List ℕ) (r : ℕ) (s' : Store) (l' : List ℕ) (h : Appends s l bytes r s' l') where
  pub append-answered : eqb r 0 ≡ true
      → Appendable s (length l) (length bytes) × ((s' ≡ appended s (length bytes)) × (l' ≡ written s.place l bytes))
  unfolding Appends
  append-answered e = (appendable s (length l) (length bytes) (sym h.0 ∙ eqb-true r 0 e), (h.1.0 ∙ rw e, h.1.1 ∙ rw e))

  pub append-refused : eqb r 0 ≡ false → (s' ≡ s) × (l' ≡ l)
  unfolding Appends
  append-refused e = (h.1.0 ∙ rw e, h.1.1 ∙ rw e)

pub append-answers : (s : Store) (l bytes : List ℕ) (r : ℕ) → r ≡ append_number s (length l) (length bytes) → eqb r 0 ≡ true
    → Appends s l bytes r (appended s (length bytes)) (written s.place l bytes)
unfolding Appends
append-answers s l bytes r h e = (h, (rw e, rw e))

pub append_refuses : (s : Store) (l bytes : List ℕ) (r : ℕ) → r ≡ append_number s (length l) (length bytes) → eqb r 0 ≡ false
    → Appends s l bytes r s l
unfolding Appends
append_refuses s l bytes r h e = (h, (rw e, rw e))

-- ---- a take

-- where its number is 0
pub record Takeable (s : Store) (long c n : ℕ) : Type 0 where
  pub possible : Possible s
  pub as_long : long ≡ s.length
  pub child : c < s.children
  pub enough : n ≤ waiting_for s c

pub takeable : (s : Store) (long c n : ℕ) → take_number s long c n ≡ 0 → Takeable s long c n
unfolding take_number
takeable s long c n h =
    let (bad, rest) = past _ bad_store _ refl h in
    let fit = unfit-facts s long (or_no_left _ _ bad) in record {
      possible = fit.0;
      as_long = fit.1;
      child = ltb-true _ _ (not-false _ (or_no_right (unfit s long) _ bad));
      enough = ltb-false _ _ (past _ not_waiting 0 refl rest).0;
    }

-- the number, by the checks
pub take_bad : (s : Store) (long c n : ℕ) → (unfit s long || not (ltb c s.children)) ≡ true → bad_store ≡ take_number s long c n
unfolding take_number
take_bad s long c n h = rw h

pub take_past : (s : Store) (long c n : ℕ) → unfit s long ≡ false → c < s.children
    → take_number s long c n ≡ cond (ltb (waiting_for s c) n) not_waiting 0
unfolding take_number
take_past s long c n fit child = rw (fit, lt-ltb c s.children child)

-- what it leaves
module _ (s : Store) (l : List ℕ) (c : ℕ) (out : List ℕ) (r : ℕ) (s' : Store) (out' : List ℕ) (h : Takes s l c out r s' out') where
  pub take-answered : eqb r 0 ≡ true
      → Takeable s (length l) c (length out) × ((s' ≡ taken s c (length out)) × (out' ≡ take (length out) (waiting_bytes s l c)))
  unfolding Takes
  take-answered e = (takeable s (length l) c (length out) (sym h.0 ∙ eqb-true r 0 e), (h.1.0 ∙ rw e, h.1.1 ∙ rw e))

  pub take-refused : eqb r 0 ≡ false → s' ≡ s
  unfolding Takes
  take-refused e = h.1.0 ∙ rw e

pub take-answers : (s : Store) (l : List ℕ) (c : ℕ) (out : List ℕ) (r : ℕ) → r ≡ take_number s (length l) c (length out) → eqb r 0 ≡ true
    → Takes s l c out r (taken s c (length out)) (take (length out) (waiting_bytes s l c))
unfolding Takes
take-answers s l c out r h e = (h, (rw e, rw e))

pub take_refuses : (s : Store) (l : List ℕ) (c : ℕ) (out : List ℕ) (r : ℕ) → r ≡ take_number s (length l) c (length out) → eqb r 0 ≡ false
    → Takes s l c out r s out
unfolding Takes
take_refuses s l c out r h e = (h, (rw e, rw e))
