-- Document 02, 'The box's byte store': the numbers of a store over one lent slice, and what each call does.
use Rattle.std.specs.Prelude.{Bool, cond, not, ◌&&◌, ◌||◌, List, ◌≡◌, ℕ, ◌+◌, ◌-◌, eqb, ltb, length, get_or, set, take}
use Rattle.std.specs.Prelude.{Result, Ok, Err}
use Rattle.base.specs.Range.{some, greatest}
use Rattle.base.specs.Table.{tab}
use Rattle.store.specs.declared.Refusal.{Refusal}
use Rattle.store.specs.declared.Refusal.TheVariants.{BadStore, NoSpace, NotWaiting}
use Rattle.store.specs.declared.Store.{Store}

-- ---- the numbers of the checks, and the most children

abbrev pub bad_store : ℕ
bad_store = 17

abbrev pub no_space : ℕ
no_space = 18

abbrev pub not_waiting : ℕ
not_waiting = 19

abbrev pub number : Refusal → ℕ
number BadStore = bad_store
number NoSpace = no_space
number NotWaiting = not_waiting

-- what a call says: 0 where it is answered
abbrev pub number_of : {T : Type 0} → Result T Refusal → ℕ
number_of (Ok _) = 0
number_of (Err refusal) = number refusal

abbrev pub most_children : ℕ
most_children = 63

-- ---- places, round the end of a slice

-- the place n after place p of m, where n is no more than m
unfoldable pub onward : ℕ → ℕ → ℕ → ℕ
onward m p n = cond (ltb (p + n) m) (p + n) (p + n - m)

-- the place n before it
unfoldable pub back : ℕ → ℕ → ℕ → ℕ
back m p n = cond (ltb p n) (p + m - n) (p - n)

-- ---- a store: the slice's length at the start, the child count, the place of the next byte, and how many bytes wait for each child

-- from these numbers
abbrev pub store_of : ℕ → ℕ → ℕ → List ℕ → Store
store_of long children place waiting = record { length = long; children = children; place = place; waiting = waiting }

-- how many appended bytes child c hasn't taken
abbrev pub waiting_for : Store → ℕ → ℕ
waiting_for s c = get_or s.waiting c 0

-- those bytes, the oldest first: they end at the place of the next byte
unfoldable pub waiting_bytes : Store → List ℕ → ℕ → List ℕ
waiting_bytes s slice c = tab (λ i. get_or slice (back s.length s.place (waiting_for s c - i)) 0) (waiting_for s c)

-- the space that is free: the length less the most that waits for some child
unfoldable pub free : Store → ℕ
free s = s.length - greatest (waiting_for s) s.children

-- of child c: more waits than the slice holds, or something waits and the store hasn't got the child
abbrev pub count_wrong : Store → ℕ → Bool
count_wrong s c = ltb (cond (ltb c s.children) s.length 0) (waiting_for s c)

-- bytes were appended, as the place isn't 0, and there is no child to append for, or the place isn't one of the slice
abbrev pub place_wrong : ℕ → ℕ → ℕ → Bool
place_wrong long children place = not (eqb place 0) && (eqb children 0 || not (ltb place long))

-- a store no calls could leave
unfoldable pub impossible : Store → Bool
impossible s =
    ltb most_children s.children || (place_wrong s.length s.children s.place || some (count_wrong s) most_children)

-- ---- the first check that applies, 0 where none does

-- a slice not as long as at the start, or a store no calls could leave
unfoldable pub unfit : Store → ℕ → Bool
unfit s long = not (eqb long s.length) || impossible s

unfoldable pub start_number : ℕ → ℕ
start_number children = cond (ltb most_children children) bad_store 0

-- with a slice of this length and so many bytes: no child to append for, or not enough space
unfoldable pub append_number : Store → ℕ → ℕ → ℕ
append_number s long n =
    cond (unfit s long || eqb s.children 0) bad_store
    (cond (ltb (free s) n) no_space
    0)

-- by child c: a child the store hasn't got, or too few bytes that wait for it
unfoldable pub take_number : Store → ℕ → ℕ → ℕ → ℕ
take_number s long c n =
    cond (unfit s long || not (ltb c s.children)) bad_store
    (cond (ltb (waiting_for s c) n) not_waiting
    0)

-- ---- what a call leaves where none applies

-- nothing is appended
abbrev pub started : ℕ → ℕ → Store
started long children = store_of long children 0 (tab (λ c. 0) most_children)

-- n bytes more wait for each child
abbrev pub appended : Store → ℕ → Store
appended s n =
    store_of s.length s.children (onward s.length s.place n)
    (tab (λ c. waiting_for s c + cond (ltb c s.children) n 0) most_children)

-- n bytes less wait for child c
abbrev pub taken : Store → ℕ → ℕ → Store
taken s c n = store_of s.length s.children s.place (set s.waiting c (waiting_for s c - n))

-- the slice with bytes at the places from place p on, round the end
unfoldable pub written : ℕ → List ℕ → List ℕ → List ℕ
written p slice bytes =
    tab (λ q. let i = back (length slice) q p in cond (ltb i (length bytes)) (get_or bytes i 0) (get_or slice q 0)) (length slice)

-- ---- what each call says and leaves: r is its number, and where that isn't 0 nothing changes

-- a start for a slice of this length and so many children, from any store s to s'
unfoldable pub Starts : Store → ℕ → ℕ → ℕ → Store → Type 0
Starts s long children r s' = (r ≡ start_number children) × (s' ≡ cond (eqb r 0) (started long children) s)

-- an append, from the store s and the slice l to s' and l'
unfoldable pub Appends : Store → List ℕ → List ℕ → ℕ → Store → List ℕ → Type 0
Appends s l bytes r s' l' =
    (r ≡ append_number s (length l) (length bytes))
    × ((s' ≡ cond (eqb r 0) (appended s (length bytes)) s) × (l' ≡ cond (eqb r 0) (written s.place l bytes) l))

-- a take by child c of as many bytes as the lent output is long, from the store s to s', with the output before and after
unfoldable pub Takes : Store → List ℕ → ℕ → List ℕ → ℕ → Store → List ℕ → Type 0
Takes s l c out r s' out' =
    (r ≡ take_number s (length l) c (length out))
    × ((s' ≡ cond (eqb r 0) (taken s c (length out)) s) × (out' ≡ cond (eqb r 0) (take (length out) (waiting_bytes s l c)) out))
