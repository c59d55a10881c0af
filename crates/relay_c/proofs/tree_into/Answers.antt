-- The slot's number, and behind it the table of what the nodes carry.
use Rattle.std.proofs.Common.{rules, [], ◌∷◌, ◌++◌, ◌≡◌, ◌∙◌, ℕ, zero, suc, ◌-◌, ◌<◌, List, take, drop, get_or, length, arith, refl, append-nil}
use lib.ListN.{set}
use lib.Seq.{drop-length}
use Rattle.base.specs.Table.{tab}
use Rattle.base.proofs.TableLaws.{tab_of_list, tab_cong}
use Rattle.job.specs.Limits.{most_nodes}
use Rattle.running.specs.declared.Running.{Running}
use Rattle.relay_c.specs.Numbers.{number_at}
use Rattle.relay_c.proofs.tree_into.Goals as goal

put_behind : (x : ℕ) (l part : List ℕ) → 0 < length l
    → take 1 (set l 0 x) ++ (part ++ drop (length (set l 0 x) - 1) (drop 1 (set l 0 x))) ≡ x ∷ part
put_behind x [] part h = absurd (omega arith)
put_behind x (y ∷ rest) part h =
    let e : length (x ∷ rest) - 1 ≡ length rest = omega arith in
    rw (e, drop-length, append-nil) refl

number_in : (tree : Running) (k : ℕ) → get_or (tree.slot ∷ tree.carried) k 0 ≡ number_at tree k
unfolding number_at
number_in tree zero = refl
number_in tree (suc v) = refl

numbers_tab : (tree : Running) (n : ℕ) → length tree.carried ≡ n → tree.slot ∷ tree.carried ≡ tab (number_at tree) (suc n)
numbers_tab tree n h = tab_of_list (tree.slot ∷ tree.carried) (suc n) (omega arith) ∙ tab_cong _ _ (suc n) (λ k l. number_in tree k)

pub returns : goal.returns
returns c =
    let e = c.copy_from_slice.ensures.after in
    put_behind c.args.tree.slot c.args.numbers.now _ (omega arith) ∙ rw e (numbers_tab c.args.tree most_nodes (search rules))
