-- Laws of numbers written into bytes, and of an answer put back: what changes, and what stays.
use mathlib.Core.Bool.{Bool, true, false, cond}
use mathlib.Core.List.{List}
use mathlib.Core.Path.{◌≡◌, refl, ap, sym, ◌∙◌}
use mathlib.Core.Logic.{◌⊎◌, inl, inr, ⊎_elim}
use Prim.Native.Nat.{ℕ, zero, suc, ◌+◌, ◌-◌, ◌/◌, ◌%◌, ◌^◌, ◌≤◌, ◌<◌}
use native.Mathlib.Nat.{pow-suc, add-zero, add-suc}
use native.Mathlib.Numerals.{add-one}
use native.Mathlib.Omega.{arith}
use lib.ListN.{length, get_or, set, length-set}
use lib.Seq.{get_or-set_same, get_or-set_other, set_comm}
use Rattle.base.specs.Number.{number}
use Rattle.base.specs.Range.{fold}
use Rattle.base.proofs.BoolLaws.{true_or_false}
use Rattle.base.proofs.NumberLaws.{number_cong}
use Rattle.base.proofs.RangeLaws.{fold-take}
use Rattle.job.specs.Tree.{Tree, link, leaf}
use Rattle.job.specs.Bytes.{record_place}
use Rattle.job.proofs.TreeLaws.{link_is, link_in}
use Rattle.writing.specs.PutBack.{written, record_put}

-- ---- one number

pub length-written : (s : List ℕ) (place width x : ℕ) → length (written s place width x) ≡ length s
unfolding written
length-written s place zero x = refl
length-written s place (suc width) x = length-set (written s place width (x / 256)) (place + width) (x % 256) ∙ length-written s place width (x / 256)

-- a place that lies before a part, or past it
abbrev pub Apart : ℕ → ℕ → ℕ → ℕ → Type 0
Apart place width from to = (place + width ≤ from) ⊎ (to ≤ place)

-- a byte outside of the number is as before
pub get_or-written : (s : List ℕ) (place width x i : ℕ) → Apart i 1 place (place + width) → get_or (written s place width x) i 0 ≡ get_or s i 0
unfolding written
get_or-written s place zero x i h = refl
get_or-written s place (suc width) x i h =
    get_or-set_other (written s place width (x / 256)) (place + width) i (x % 256) 0 (ne h) ∙ get_or-written s place width (x / 256) i (less h)
  where
    ne : Apart i 1 place (place + suc width) → i ≡ place + width → ⊥
    ne (inl l) e = omega arith
    ne (inr l) e = omega arith

    less : Apart i 1 place (place + suc width) → Apart i 1 place (place + width)
    less (inl l) = inl l
    less (inr l) = inr (omega arith)

-- and so is a number outside of it
pub number_apart : (s : List ℕ) (place width x other wide : ℕ) → Apart other wide place (place + width)
    → number (written s place width x) other wide ≡ number s other wide
number_apart s place width x other wide h =
    number_cong (written s place width x) s other wide (λ i a b. get_or-written s place width x i (byte i a b h))
  where
    byte : (i : ℕ) → other ≤ i → i < other + wide → Apart other wide place (place + width) → Apart i 1 place (place + width)
    byte i a b (inl l) = inl (omega arith)
    byte i a b (inr l) = inr (omega arith)

-- what is written is read
pub number-written : (s : List ℕ) (place width x : ℕ) → place + width ≤ length s → x < 256 ^ width → number (written s place width x) place width ≡ x
unfolding written number
number-written s place zero x h k = omega arith
number-written s place (suc width) x h k =
    let W = written s place width (x / 256) in
    let small : x / 256 < 256 ^ width = omega (arith, rw pow-suc at k) in
    let front : number (set W (place + width) (x % 256)) place width ≡ x / 256 =
    number_cong (set W (place + width) (x % 256)) W place width (λ i a b. get_or-set_other W (place + width) i (x % 256) 0 (omega arith))
    ∙ number-written s place width (x / 256) (omega arith) small in
    let last : get_or (set W (place + width) (x % 256)) (place + width) 0 ≡ x % 256 =
    get_or-set_same W (place + width) (x % 256) 0 (omega (arith, length-written s place width (x / 256))) in
    rw (front, last) (omega arith)

-- the last byte may be written first
pub written-set : (s : List ℕ) (place width x i v : ℕ) → place + width ≤ i → written (set s i v) place width x ≡ set (written s place width x) i v
unfolding written
written-set s place zero x i v h = refl
written-set s place (suc width) x i v h =
    rw (written-set s place width (x / 256) i v (omega arith))
    (set_comm (written s place width (x / 256)) i (place + width) v (x % 256) (omega arith))

-- a loop that writes the last byte, and then the bytes before it
pub written_last : (s : List ℕ) (place width x : ℕ) → 0 < width
    → written (set s (place + (width - 1)) (x % 256)) place (width - 1) (x / 256) ≡ written s place width x
unfolding written
written_last s place zero x h = absurd (omega arith)
written_last s place (suc width) x h =
    let e : suc width - 1 ≡ width = omega arith in
    rw e (written-set s place width (x / 256) (place + width) (x % 256) (omega arith))

-- ---- one record

module _ (t : Tree) (w : ℕ) (b : ℕ → ℕ) (s : List ℕ) (i : ℕ) where
  -- the bytes with the delay alone
  delayed : List ℕ
  delayed = cond (leaf t i) (written s (record_place i + 1) 2 w) s

  length_delayed : length delayed ≡ length s
  unfolding delayed
  length_delayed =
      ⊎_elim
      (λ (e : leaf t i ≡ true). rw e (length-written s (record_place i + 1) 2 w))
      (λ (e : leaf t i ≡ false). rw e refl)
      (true_or_false (leaf t i))

  delayed_apart : (place width : ℕ) → Apart place width (record_place i + 1) (record_place i + 3) → number delayed place width ≡ number s place width
  unfolding delayed
  delayed_apart place width h =
      ⊎_elim
      (λ (e : leaf t i ≡ true). rw e (number_apart s (record_place i + 1) 2 w place width (part h)))
      (λ (e : leaf t i ≡ false). rw e refl)
      (true_or_false (leaf t i))
    where
      part : Apart place width (record_place i + 1) (record_place i + 3) → Apart place width (record_place i + 1) (record_place i + 1 + 2)
      part (inl l) = inl l
      part (inr l) = inr (omega arith)

  pub length_record : length (record_put t w b s i) ≡ length s
  unfolding record_put delayed
  length_record = length-written delayed (record_place i + 3) 8 (b i) ∙ length_delayed

  -- outside of delay and memory the record changes nothing
  pub record_apart : (place width : ℕ) → Apart place width (record_place i + 1) (record_place i + 11)
      → number (record_put t w b s i) place width ≡ number s place width
  unfolding record_put delayed
  record_apart place width h =
      number_apart delayed (record_place i + 3) 8 (b i) place width (memory h) ∙ delayed_apart place width (delay h)
    where
      memory : Apart place width (record_place i + 1) (record_place i + 11) → Apart place width (record_place i + 3) (record_place i + 3 + 8)
      memory (inl l) = inl (omega arith)
      memory (inr l) = inr (omega arith)

      delay : Apart place width (record_place i + 1) (record_place i + 11) → Apart place width (record_place i + 1) (record_place i + 3)
      delay (inl l) = inl l
      delay (inr l) = inr (omega arith)

  pub record_memory : record_place i + 11 ≤ length s → b i < 256 ^ 8 → number (record_put t w b s i) (record_place i + 3) 8 ≡ b i
  unfolding record_put delayed
  record_memory h k = number-written delayed (record_place i + 3) 8 (b i) (omega (arith, length_delayed)) k

  pub record_leaf : leaf t i ≡ true → record_place i + 3 ≤ length s → w < 256 ^ 2 → number (record_put t w b s i) (record_place i + 1) 2 ≡ w
  unfolding record_put delayed
  record_leaf e h k =
      number_apart delayed (record_place i + 3) 8 (b i) (record_place i + 1) 2 (inl (omega arith))
      ∙ rw e (number-written s (record_place i + 1) 2 w (omega arith) k)

  pub record_inner : leaf t i ≡ false → number (record_put t w b s i) (record_place i + 1) 2 ≡ number s (record_place i + 1) 2
  unfolding record_put delayed
  record_inner e =
      number_apart delayed (record_place i + 3) 8 (b i) (record_place i + 1) 2 (inl (omega arith))
      ∙ rw e refl

-- ---- the records of the nodes below k, of n

module _ (t : Tree) (w : ℕ) (b : ℕ → ℕ) (s : List ℕ) (n : ℕ) where
  abbrev pub records_to : ℕ → List ℕ
  records_to k = fold (record_put t w b) s (link n) k

  pub records_none : records_to 1 ≡ s
  unfolding fold link
  records_none = refl

  records_more : (k : ℕ) → 0 < k → k < n → records_to (suc k) ≡ record_put t w b (records_to k) k
  records_more k h l = fold-take (record_put t w b) s (link n) k (link_is n k h l)

  -- what a loop over the nodes writes for node k, where a set says who is a leaf
  pub records_next : (p : List ℕ) (k : ℕ) (is_leaf : Bool) → 0 < k → k < n → p ≡ records_to k → is_leaf ≡ leaf t k
      → written (cond is_leaf (written p (record_place k + 1) 2 w) p) (record_place k + 3) 8 (b k) ≡ records_to (k + 1)
  unfolding record_put
  records_next p k is_leaf h l e f = rw (e, f, add-one k) (sym (records_more k h l))

  pub length_records : (k : ℕ) → length (records_to k) ≡ length s
  unfolding fold
  length_records zero = refl
  length_records (suc k) =
      ⊎_elim
      (λ (e : link n k ≡ true). rw e (length_record t w b (records_to k) k ∙ length_records k))
      (λ (e : link n k ≡ false). rw e (length_records k))
      (true_or_false (link n k))

  -- the records from a on leave a number as before that lies apart from the delay and memory of each
  apart_by : (place width a d : ℕ) → ((i : ℕ) → a ≤ i → i < a + d → 0 < i → i < n → Apart place width (record_place i + 1) (record_place i + 11))
      → number (records_to (a + d)) place width ≡ number (records_to a) place width
  unfolding fold
  apart_by place width a zero h = rw add-zero refl
  apart_by place width a (suc d) h =
      rw (add-suc a d)
      (⊎_elim
      (λ (e : link n (a + d) ≡ true).
      let (p, q) = link_in n (a + d) e in
      rw e (record_apart t w b (records_to (a + d)) (a + d) place width (h (a + d) (omega arith) (omega arith) p q) ∙ apart_by place width a d (λ i x y. h i x (omega arith))))
      (λ (e : link n (a + d) ≡ false). rw e (apart_by place width a d (λ i x y. h i x (omega arith))))
      (true_or_false (link n (a + d))))

  pub records_apart : (place width k : ℕ) → ((i : ℕ) → 0 < i → i < n → Apart place width (record_place i + 1) (record_place i + 11))
      → number (records_to k) place width ≡ number s place width
  unfolding fold
  records_apart place width k h =
      let e : 0 + k ≡ k = omega arith in
      rw e at (apart_by place width 0 k (λ i x y p q. h i p q))

  -- what lies within node i's record is settled when that is written
  pub records_at : (i place width : ℕ) → 0 < i → i < n → record_place i ≤ place → place + width ≤ record_place i + 19
      → number (records_to n) place width ≡ number (record_put t w b (records_to i) i) place width
  records_at i place width h k l r =
      let e : suc i + (n - suc i) ≡ n = omega arith in
      rw e at (apart_by place width (suc i) (n - suc i) (λ j x y p q. inl (omega arith)))
      ∙ ap (λ (x : List ℕ). number x place width) (records_more i h k)

  -- and until then it is as it was
  pub records_before : (i place width : ℕ) → record_place i ≤ place → number (records_to i) place width ≡ number s place width
  unfolding fold
  records_before i place width l =
      let e : 0 + i ≡ i = omega arith in
      rw e at (apart_by place width 0 i (λ j x y p q. inr (omega arith)))
