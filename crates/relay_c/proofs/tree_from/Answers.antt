-- The numbers from place 1 on are the table of what the nodes carry.
use Rattle.std.proofs.Common.{[], ◌∷◌, ◌≡◌, ◌∙◌, ℕ, suc, ◌-◌, List, take, drop, get_or, length, arith, refl}
use lib.Seq.{take_all}
use Rattle.base.specs.Table.{tab}
use Rattle.base.proofs.TableLaws.{tab_of_list}
use Rattle.job.specs.Limits.{most_nodes}
use Rattle.relay_c.proofs.tree_from.Goals as goal

rest_tab : (l : List ℕ) (n : ℕ) → length l ≡ suc n → take (length l - 1) (drop 1 l) ≡ tab (λ v. get_or l (suc v) 0) n
rest_tab [] n h = absurd (omega arith)
rest_tab (x ∷ rest) n h = take_all _ rest (omega arith) ∙ tab_of_list rest n (omega arith)

pub returns : goal.returns
returns c = let e = c.copy_from_slice.ensures.after ∙ rest_tab c.args.numbers.now most_nodes c.requires in rw e refl
