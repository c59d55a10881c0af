-- Laws of what `put_back` says: which refusal it gives and where, and what the bytes then are.
use mathlib.Core.Bool.{true, false}
use mathlib.Core.List.{List}
use mathlib.Core.Path.{◌≡◌, refl, ap, sym, ◌∙◌}
use Prim.Native.Nat.{ℕ, ◌-◌, ◌≤◌, ◌<◌}
use native.Mathlib.Omega.{arith}
use lib.Dec.{ltb}
use lib.ListN.{length, get_or}
use borrow.Author.Tests.{lt-ltb, le-ltb, ltb-false, eq-eqb, ne_eqb}
use Rattle.base.proofs.RangeLaws.{none_passes}
use Rattle.job.specs.Limits.{longest_delay, greatest_memory}
use Rattle.job.specs.Tree.{link}
use Rattle.job.specs.Bytes.{node_count}
use Rattle.std.proofs.Common.{Result, Ok, Err, IsErrAnd}
use Rattle.job.specs.declared.Refusal.{Refusal}
use Rattle.job.specs.Refusal.{number, bad_delay, large_memory, bad_lent, refusal}
use Rattle.job.proofs.TreeLaws.{link_in}
use Rattle.job.proofs.RefusalLaws.{number_none, or_else-first, or_else_second}
use Rattle.writing.specs.PutBack.{put_back, memories_in, some_memory_wrong, put_back_refusal, Puts}
use Rattle.writing.proofs.AnswerLaws.{answered_bytes, answered_read}

module _ (s : List ℕ) (w : ℕ) (l : List ℕ) where
  -- the job's own refusal, which a `?` passes on, comes first
  pub put-job : (r : Result (Unit {0}) Refusal) (e : Refusal) → IsErrAnd r (λ x. x ≡ e) → number e ≡ refusal s → Puts s w l r s
  unfolding put_back_refusal
  put-job (Ok done) e h k = absurd h
  put-job (Err x) e h k =
      (ap number h ∙ k ∙ sym (or_else-first (refusal s) _ (λ z. number_none e (k ∙ z))), refl)

  module _ (none : refusal s ≡ 0) where
    pub put-delay : longest_delay < w → put_back_refusal s w l ≡ bad_delay
    unfolding put_back_refusal
    put-delay h = or_else_second (refusal s) _ none ∙ rw (lt-ltb longest_delay w h) refl

    module _ (short : w ≤ longest_delay) where
      pub put-memory : some_memory_wrong l ≡ true → put_back_refusal s w l ≡ large_memory
      unfolding put_back_refusal
      put-memory h = or_else_second (refusal s) _ none ∙ rw (le-ltb longest_delay w short, h) refl

      module _ (within : some_memory_wrong l ≡ false) where
        pub put-length : (length l ≡ node_count s - 1 → ⊥) → put_back_refusal s w l ≡ bad_lent
        unfolding put_back_refusal
        put-length h =
            or_else_second (refusal s) _ none ∙ rw (le-ltb longest_delay w short, within, ne_eqb (length l) (node_count s - 1) h) refl

        module _ (long : length l ≡ node_count s - 1) where
          small : (i : ℕ) → link (node_count s) i ≡ true → memories_in l i ≤ greatest_memory
          small i k =
              let (p, q) = link_in (node_count s) i k in
              ltb-false greatest_memory (memories_in l i) (none_passes (λ k. ltb greatest_memory (get_or l k 0)) (length l) within (i - 1) (omega (arith, long)))

          pub put-done : (out : List ℕ) → out ≡ put_back s w (memories_in l) → Puts s w l (Ok tt) out
          unfolding put_back_refusal
          put-done out e = (
            or_else_second (refusal s) _ none ∙ rw (le-ltb longest_delay w short, within, eq-eqb (length l) (node_count s - 1) long) refl,
            (
              e,
              (
                rw e (answered_read s w (memories_in l) none short small),
                rw e (answered_bytes s w (memories_in l) none short small),
              ),
            ),
          )
