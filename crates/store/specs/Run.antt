-- Document 02, 'The box's byte store': calls in a row, each given the store and the slice that the one before left.
use Rattle.std.specs.Prelude.{cond, not, ◌||◌, List, [], ◌++◌, ◌≡◌, ℕ, ◌-◌, ◌<◌, eqb, ltb, length}
use Rattle.base.specs.Range.{greatest}
use Rattle.store.specs.Store.{bad_store, no_space, not_waiting, waiting_bytes, Starts, Appends, Takes}
use Rattle.store.specs.declared.Store.{Store}

-- what child d has received after child c was given bytes
abbrev pub received_by : (ℕ → List ℕ) → ℕ → List ℕ → ℕ → List ℕ
received_by received c bytes d = cond (eqb d c) (received d ++ bytes) (received d)

-- calls from a start for a slice of length m and n children: the store and the slice that they leave, the stream of all bytes that were
-- appended, and what each child has received
pub data Run (m n : ℕ) : Store → List ℕ → List ℕ → (ℕ → List ℕ) → Type 0 where
  start : (s₀ : Store) {s : Store} → Starts s₀ m n 0 s → (l : List ℕ) → Run m n s l [] (λ c. [])
  append : {s s' : Store} {l l' stream : List ℕ} {received : ℕ → List ℕ} → Run m n s l stream received
      → (bytes : List ℕ) (r : ℕ) → Appends s l bytes r s' l'
      → Run m n s' l' (cond (eqb r 0) (stream ++ bytes) stream) received
  take : {s s' : Store} {l stream : List ℕ} {received : ℕ → List ℕ} → Run m n s l stream received
      → (c : ℕ) (out out' : List ℕ) (r : ℕ) → Takes s l c out r s' out'
      → Run m n s' l stream (cond (eqb r 0) (received_by received c out') received)

-- what holds after any calls
pub record Serves (m n : ℕ) (s : Store) (l stream : List ℕ) (received : ℕ → List ℕ) : Type 0 where
  -- each child has received the stream in order, and what waits for it is the rest
  pub in_order : (c : ℕ) → c < n → received c ++ waiting_bytes s l c ≡ stream
  -- past 17 an append is refused just where its bytes are more than the length less the most that some child has yet to receive
  pub append-number : (bytes : List ℕ) (r : ℕ) (s' : Store) (l' : List ℕ) → Appends s l bytes r s' l'
      → r ≡ cond (not (eqb (length l) m) || eqb n 0) bad_store
      (cond (ltb (m - greatest (λ c. length stream - length (received c)) n) (length bytes)) no_space 0)
  -- and a take just where it asks for more than its child has yet to receive
  pub take-number : (c : ℕ) (out : List ℕ) (r : ℕ) (s' : Store) (out' : List ℕ) → Takes s l c out r s' out'
      → r ≡ cond (not (eqb (length l) m) || not (ltb c n)) bad_store
      (cond (ltb (length stream - length (received c)) (length out)) not_waiting 0)

-- some calls leave the store
abbrev pub Reachable : Store → Type 0
Reachable s = (m : ℕ) × (n : ℕ) × (l : List ℕ) × (stream : List ℕ) × (received : ℕ → List ℕ) × Run m n s l stream received
