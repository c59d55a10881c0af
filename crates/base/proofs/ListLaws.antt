-- Laws that lead from the library's words for lists to questions about the numbers 0 to n - 1 and to tables.
use mathlib.Core.Bool.{Bool}
use mathlib.Core.List.{List, [], ◌∷◌, ◌++◌}
use mathlib.Core.Path.{◌≡◌, refl, sym, ap, ◌∙◌}
use Prim.Native.Nat.{ℕ, zero, suc, ◌+◌}
use native.Mathlib.Omega.{arith}
use lib.ListN.{length, get_or}
use Rattle.std.specs.List.{list_any}
use Rattle.std.specs.Prelude.{replicate}
use Rattle.std.proofs.lemmas.Grind.{get_or_default_zero}
use Rattle.std.proofs.lemmas.List.{replicate_more}
use Rattle.std.proofs.lemmas.List.Folds.{Any-from_list_any, list_any_at}
use Rattle.base.specs.Range.{some}
use Rattle.base.specs.Table.{tab}
use Rattle.base.proofs.BoolLaws.{iff_same}
use Rattle.base.proofs.RangeLaws.{some-passes, which_passes}

-- some element passes: some place's number does
pub list_any_some : (p : ℕ → Bool) (xs : List ℕ) → list_any p xs ≡ some (λ i. p (get_or xs i 0)) (length xs)
list_any_some p xs =
    iff_same _ _
    (λ h. let (k, x, l, e, q) = Any-from_list_any p xs h in some-passes (λ i. p (get_or xs i 0)) (length xs) k l (ap p (sym (get_or_default_zero xs k x l) ∙ e) ∙ q))
    (λ h. let (i, l, q) = which_passes (λ i. p (get_or xs i 0)) (length xs) h in list_any_at p xs i 0 l q)

-- the same number in every place
pub tab_const : (x n : ℕ) → tab (λ _. x) n ≡ replicate n x
unfolding tab
tab_const x zero = refl
tab_const x (suc n) =
    let e : n + 1 ≡ suc n = omega arith in
    let more : replicate n x ++ (x ∷ []) ≡ replicate (n + 1) x = replicate_more n x in
    rw (tab_const x n) (rw e at more)
