-- Laws of rows that take in one leaf after the other.
use mathlib.Core.Bool.{true, false, not, ◌&&◌, ◌||◌}
use mathlib.Core.Path.{◌≡◌, refl, ap, sym, ◌∙◌}
use mathlib.Core.List.{List, [], ◌∷◌}
use mathlib.Core.Logic.{◌⊎◌, inl, inr}
use Prim.Native.Nat.{ℕ, zero, suc, ◌+◌, ◌-◌, ◌≤◌, ◌<◌, max}
use native.Mathlib.Omega.{arith}
use lib.Dec.{eqb, ltb}
use lib.ListN.{length, take, drop, get_or, set, length-set, length-take, length-drop}
use lib.Seq.{get_or-set_same, get_or-set_other, get_or-take, get_or-drop}
use Rattle.base.specs.Range.{fold, greatest_over}
use Rattle.base.specs.Set.{has, members, word_bits}
use Rattle.base.proofs.MemberLaws.{fold_members}
use Rattle.std.specs.List as list
use Rattle.base.specs.Table.{tab}
use Rattle.base.proofs.BoolLaws.{true_or_false}
use Rattle.base.proofs.TableLaws.{length-tab, get_or-tab, tab_cong, tab_of_list}
use Rattle.job.specs.Sums.{HoldsSums, sums_in}
use Rattle.job.specs.Tree.{Tree}
use Rattle.job.proofs.SumsLaws.{film_of, place-fits, sum_fits}
use Rattle.rows.specs.Row.{InRange}
use Rattle.curves.specs.Curves.{plays}
use Rattle.curves.specs.Rows.{most_played, raised_by, raised_by_all, TakenIn}
use Rattle.curves.proofs.LeafLaws.{only_member, played-none, played_one, played_parts}

-- a row with these numbers in its places is the table of them
pub row_is : (f : ℕ → ℕ) (l : List ℕ) (n : ℕ) → length l ≡ n → ((k : ℕ) → k < n → get_or l k 0 ≡ f k) → l ≡ tab f n
row_is f l n h each = tab_of_list l n h ∙ tab_cong (λ k. get_or l k 0) f n each

-- a row without slots has no slot 0
pub zero-none : (l : List ℕ) → length l ≤ 0 → l ≡ set l 0 0
zero-none [] h = refl
zero-none (x ∷ l) h = absurd (omega arith)

-- a row whose slot 0 becomes 0
pub zero_slot : (f g : ℕ → ℕ) (n : ℕ) → g 0 ≡ 0 → ((k : ℕ) → f (suc k) ≡ g (suc k)) → set (tab f n) 0 0 ≡ tab g n
zero_slot f g n z same = row_is g (set (tab f n) 0 0) n (length-set (tab f n) 0 0 ∙ length-tab f n) slot
  where
    slot : (k : ℕ) → k < n → get_or (set (tab f n) 0 0) k 0 ≡ g k
    slot zero h = get_or-set_same (tab f n) 0 0 0 (rw length-tab h) ∙ sym z
    slot (suc k) h = get_or-set_other (tab f n) 0 (suc k) 0 0 (omega arith) ∙ get_or-tab f n (suc k) h ∙ same k

-- ---- leaves taken in

-- what two bring less an amount is what each brings less it
pub less_each : (a b less : ℕ) → max a b - less ≡ max (a - less) (b - less)
less_each a b less = omega arith

one_more : (x y a b : ℕ) → x ≡ max y a → max x b ≡ max y (max a b)
one_more x y a b e = omega arith

module _ (sums : List ℕ) (held : HoldsSums sums) where
  -- a delay as long as the row stands for none: nothing is played within it
  pub none-taken : (less n : ℕ) (row : List ℕ) → length row ≡ n → InRange row → TakenIn sums n less row
  none-taken less n row e small k q = let z : k - n ≡ 0 = omega arith in rw z (omega (arith, (film_of sums held).starts), small k q)

  -- a part of the sums is in range
  pub sums_range : (n a : ℕ) → InRange (take n (drop a sums))
  sums_range n a k q =
      rw (get_or-take n (drop a sums) k 0 (omega (arith, q, length-take n (drop a sums))), get_or-drop a sums k 0)
      (place-fits sums held (a + k) (omega (arith, q, length-take n (drop a sums), length-drop a sums)))

  -- nor is anything in a row of zeros
  pub zeros-taken : (row : List ℕ) → row ≡ tab (λ _. 0) (length row) → TakenIn sums (length row) 0 row
  zeros-taken row e =
      none-taken 0 (length row) row refl
      (λ k q. omega (arith, ap (λ (r : List ℕ). get_or r k 0) e, get_or-tab (λ _. 0) (length row) k q))

  -- a fresh row that a leaf fills has taken in its delay
  pub shifted-taken : (d n : ℕ) → TakenIn sums d 0 (tab (λ k. sums_in sums (k - d)) n)
  shifted-taken d n k q =
      let at = get_or-tab (λ k. sums_in sums (k - d)) n k (rw length-tab at q) in
      (omega (arith, at), omega (arith, at, sum_fits sums held (k - d)))

  -- a leaf that starts no earlier than one taken in brings nothing
  pub raised_none : (t : Tree) (l less taken : ℕ) (row : List ℕ) → taken ≤ t.delay l → TakenIn sums taken less row
      → row ≡ raised_by t sums l less row
  unfolding raised_by
  raised_none t l less taken row h each =
      row_is _ row (length row) refl (λ k q. omega (
        arith,
        (each k q).0,
        (film_of sums held).grows (k - t.delay l) (k - taken) (omega arith),
      ))

module _ (t : Tree) (sums : List ℕ) where
  -- the first leaf of a fresh row
  pub raised_fresh : (l n : ℕ) → tab (λ k. sums_in sums (k - t.delay l)) n ≡ raised_by t sums l 0 (tab (λ _. 0) n)
  unfolding raised_by
  raised_fresh l n = rw length-tab (tab_cong _ _ n (λ k q. omega (arith, get_or-tab (λ _. 0) n k q)))

module _ (t : Tree) (sums : List ℕ) (less : ℕ) where
  -- a leaf that was taken in has been
  pub raised_taken : HoldsSums sums → (l : ℕ) (row : List ℕ) → InRange row → TakenIn sums (t.delay l) less (raised_by t sums l less row)
  unfolding raised_by
  raised_taken held l row small k q =
      let h : k < length row = rw length-tab at q in
      let at = get_or-tab (λ k. max (get_or row k 0) (plays t (sums_in sums) l k - less)) (length row) k h in
      (omega (arith, at), omega (arith, at, small k h, sum_fits sums held (k - t.delay l)))

  pub all_length : (set : ℕ) (row : List ℕ) → length (raised_by_all t sums set less row) ≡ length row
  unfolding raised_by_all
  all_length set row = length-tab _ (length row)

  -- the leaves of a set below n, one after the other
  raised_so_far : (set : ℕ) (row : List ℕ) (n : ℕ) → fold (λ r l. raised_by t sums l less r) row (has set) n
      ≡ tab (λ k. max (get_or row k 0) (greatest_over (has set) (λ l. plays t (sums_in sums) l k) n - less)) (length row)
  unfolding fold raised_by
  raised_so_far set row zero = row_is _ row (length row) refl (λ k q. omega arith)
  raised_so_far set row (suc n) = go (true_or_false (has set n)) (raised_so_far set row n)
    where
      step : List ℕ → ℕ → List ℕ
      step r l = raised_by t sums l less r

      up_to : ℕ → ℕ → ℕ
      up_to n k = max (get_or row k 0) (greatest_over (has set) (λ l. plays t (sums_in sums) l k) n - less)

      go : (has set n ≡ true) ⊎ (has set n ≡ false) → fold step row (has set) n ≡ tab (up_to n) (length row)
          → fold step row (has set) (suc n) ≡ tab (up_to (suc n)) (length row)
      go (inl e) ih =
          rw (e, ih, length-tab)
          (tab_cong _ _ (length row) (λ k q. rw (e, less_each) (one_more _ _ _ _ (get_or-tab (up_to n) (length row) k q))))
      go (inr e) ih = rw e (ih ∙ tab_cong _ _ (length row) (λ k q. rw e refl))

  raised_all : (set : ℕ) (row : List ℕ) → fold (λ r l. raised_by t sums l less r) row (has set) word_bits ≡ raised_by_all t sums set less row
  unfolding raised_by_all most_played
  raised_all set row = raised_so_far set row word_bits

  -- the same, where a walk takes in each of them
  pub raised_members : (set : ℕ) (row : List ℕ)
      → list.fold (λ r l. raised_by t sums l less r) row (members set) ≡ raised_by_all t sums set less row
  raised_members set row = fold_members _ row set ∙ raised_all set row

  -- none at all
  pub raised_by_none : (row : List ℕ) → row ≡ raised_by_all t sums 0 less row
  unfolding raised_by_all
  raised_by_none row = row_is _ row (length row) refl (λ k q. omega (arith, played-none t (sums_in sums) k))

  -- one first, then the rest
  pub raised_by_all_lem : (set one rest i : ℕ) (row : List ℕ) → i < word_bits → has set i ≡ true
      → ((j : ℕ) → has one j ≡ (has 0 j || (eqb j i && ltb j word_bits))) → ((j : ℕ) → has rest j ≡ (has set j && not (has one j)))
      → raised_by_all t sums rest less (raised_by t sums i less row) ≡ raised_by_all t sums set less row
  unfolding raised_by_all raised_by
  raised_by_all_lem set one rest i row h m is_one is-rest =
      rw length-tab
      (tab_cong _ _ (length row) (λ k q.
      one_more _ _ _ _ (get_or-tab (λ k. max (get_or row k 0) (plays t (sums_in sums) i k - less)) (length row) k q)
      ∙ ap (max (get_or row k 0)) (sym (ap (λ (x : ℕ). x - less) (whole k) ∙ less_each _ _ less))))
    where
      whole : (k : ℕ) → most_played t (sums_in sums) set k ≡ max (plays t (sums_in sums) i k) (most_played t (sums_in sums) rest k)
      whole k =
          played_parts t (sums_in sums) k set one rest (λ j e. rw (only_member one i is_one j e) m) is-rest
          ∙ rw (played_one t (sums_in sums) k one i h is_one)
