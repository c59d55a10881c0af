-- Past the first refusal a count above the length less n is left to find, which is that n is more than is free.
use native.Mathlib.Omega.{arith}
use mathlib.Core.Bool.{false, true, cond}
use mathlib.Core.Path.{◌≡◌, sym, ◌∙◌}
use Prim.Native.Nat.{ℕ, ◌-◌, ◌≤◌, ◌<◌}
use lib.Dec.{ltb}
use lib.ListN.{length, take}
use borrow.Author.Rules.{rules}
use borrow.Author.Tests.{eq-eqb}
use Rattle.std.specs.List.{list_any}
use Rattle.base.proofs.BoolLaws.{or_right}
use Rattle.store.specs.Store.{most_children, no_space, unfit, append_number}
use Rattle.store.specs.declared.Store.{Store}
use Rattle.store.proofs.StoreLaws.{unfit-facts}
use Rattle.store.proofs.CountLaws.{own_above, full_long, full_is}
use Rattle.store.proofs.CallLaws.{append_bad, append_past}
use Rattle.store.proofs.Store.check_append.Goals as goal
use Rattle.store.proofs.Store.check_append.Goals.{then-unfit-via-then-unfit, then-unfit-via-else-unfit+then-self-eq0}
use Rattle.store.proofs.Store.check_append.Goals.{then-self-n-via-then-self-n, then-self-n-via-else-self-n+then-some_above}

by_counts : (s : Store) (long n : ℕ) → length s.waiting ≡ most_children → unfit s long ≡ false → 0 < s.children → n ≤ s.length
    → append_number s long n ≡ cond (list_any (ltb (s.length - n)) (take s.children s.waiting)) no_space 0
by_counts s long n counted fit some fits =
    let possible = (unfit-facts s long fit).0 in
    append_past s long n fit some ∙ rw (full_is s possible n fits, own_above s counted possible.few (s.length - n))

pub returns-then-unfit : goal.returns-then-unfit
returns-then-unfit c =
    let s = c.args.self.now in
    elim c.then-unfit.branch [
      | then-unfit-via-then-unfit w ↦
          let bad : unfit s c.args.long ≡ true = sym c.unfit.ensures ∙ w.if-unfit.true in append_bad s c.args.long c.args.n (rw bad)
      | then-unfit-via-else-unfit+then-self-eq0 w ↦
          append_bad s c.args.long c.args.n (or_right (unfit s c.args.long) (eq-eqb _ 0 w.if-self-eq0.true))
    ]

pub returns-then-self-n : goal.returns-then-self-n
returns-then-self-n c =
    let s = c.args.self.now in
    let fit : unfit s c.args.long ≡ false = sym c.unfit.ensures ∙ c.if-unfit.false in
    let counted : length s.waiting ≡ most_children = search rules in
    elim c.then-self-n.branch [
      | then-self-n-via-then-self-n w ↦
          sym (append_past s c.args.long c.args.n fit (omega arith)
          ∙ rw (full_long s (unfit-facts s _ fit).0 c.args.n w.if-self-n.true))
      | then-self-n-via-else-self-n+then-some_above w ↦
          sym (by_counts s c.args.long c.args.n counted fit (omega arith) (omega arith)
          ∙ rw (sym w.some_above.ensures ∙ w.if-some_above.true))
    ]

pub returns : goal.returns
returns c =
    let s = c.args.self.now in
    let fit : unfit s c.args.long ≡ false = sym c.unfit.ensures ∙ c.if-unfit.false in
    let counted : length s.waiting ≡ most_children = search rules in
    sym (by_counts s c.args.long c.args.n counted fit (omega arith) (omega arith)
    ∙ rw (sym c.some_above.ensures ∙ c.if-some_above.false))
