-- From the work on an accepted job to the rate question's answer.
use mathlib.Core.Bool.{true, cond}
use mathlib.Core.List.{List}
use mathlib.Core.Path.{◌≡◌, refl, ap, sym, ◌∙◌}
use mathlib.Core.Logic.{inl, inr, ⊎_elim}
use Prim.Native.Nat.{ℕ, zero, suc, ◌-◌, ◌≤◌}
use native.Mathlib.Omega.{arith}
use lib.Dec.{eqb}
use lib.ListN.{length}
use Rattle.std.specs.Prelude.{Result, Ok, Err, IsErrAnd}
use borrow.Author.Tests.{eq-eqb, ne_eqb}
use Rattle.base.specs.Table.{tab}
use Rattle.job.specs.Limits.{longest_delay}
use Rattle.job.specs.Tree.{Tree, link, T}
use Rattle.job.specs.Bytes.{job_of}
use Rattle.job.specs.Refusal.{bad_lent, refusal}
use Rattle.job.specs.Read.{Accepted}
use Rattle.job.specs.declared.Job.{Job}
use Rattle.job.specs.declared.Refusal.TheVariants.{Short, BadMark, BadVersion, BadNodes, BadFrames, BadLength, BadParent, BadDelay, LargeMemory, LargeFrame, BadLent}
use Rattle.job.specs.declared.Refusal as declared
use Rattle.job.specs.Refusal as job
use Rattle.job.proofs.RefusalLaws.{number_none}
use Rattle.job.proofs.TreeLaws.{link_in}
use Rattle.smoothing.specs.Tree.{Link}
use Rattle.job.specs.Sums.{sums_of}
use Rattle.job.proofs.SumsLaws.{sums_of_lem}
use Rattle.writing.specs.PutBack.{put_back, memories_in}
use Rattle.writing.proofs.AnswerLaws.{answered_bytes, answered_read}
use Rattle.pacing.specs.Pace.{no_delay}
use Rattle.rates.specs.declared.Sizing.{Sizing}
use Rattle.rates.specs.declared.Refusal.{Refusal}
use Rattle.rates.specs.declared.Refusal.TheVariants.{Job as OfJob, NoDelay}
use Rattle.rates.specs.Rates.{total, start_delay, memory}
use Rattle.rates.specs.Answer.{number, early_refusal, Least, Sizes}
use Rattle.rates.specs.Work.{Worked}
use Rattle.rates.proofs.LeastLaws.{delay-least, none-serves, memory-serves, total-least, least_in_order, memory-fits, within-rates}
use Rattle.rates.proofs.WorkLaws.{memory_at_lem}

-- ---- refusals 1 to 11

pub early_read : (s : List ℕ) (lent : ℕ) → (refusal s ≡ 0 → ⊥) → early_refusal s lent ≡ refusal s
unfolding early_refusal
early_read s lent h = rw (ne_eqb (refusal s) 0 h) refl

pub early_lent : (s : List ℕ) (lent : ℕ) → refusal s ≡ 0 → (lent ≡ (job_of s).tree.n - 1 → ⊥) → early_refusal s lent ≡ bad_lent
unfolding early_refusal
early_lent s lent h ne = rw (h, ne_eqb lent ((job_of s).tree.n - 1) ne) refl

pub early_none : (s : List ℕ) (lent : ℕ) → refusal s ≡ 0 → lent ≡ (job_of s).tree.n - 1 → early_refusal s lent ≡ 0
unfolding early_refusal
early_none s lent h e = rw (h, eq-eqb lent ((job_of s).tree.n - 1) e) refl

-- what is refused so leaves the memories
module _ (s memories : List ℕ) where
  pub sized-early : (e : declared.Refusal) → job.number e ≡ early_refusal s (length memories) → Sizes (Err (OfJob e)) s memories memories
  unfolding Sizes
  sized-early e h = (refl, inl (h, λ z. number_none e (h ∙ z)))

  -- and so where a `?` passes the job's refusal on
  pub sized-passed : (r : Result Sizing Refusal) (e : declared.Refusal) → IsErrAnd r (λ x. x ≡ OfJob e)
      → job.number e ≡ early_refusal s (length memories) → Sizes r s memories memories
  sized-passed (Ok x) e h k = absurd h
  sized-passed (Err x) e h k = rw h (sized-early e k)

-- ---- demand 3 of what is answered

pub least-answer : (s : List ℕ) (job : Job) → Accepted s job → (w : ℕ) (l : List ℕ) → let j = job_of s in w ≤ longest_delay
    → w ≡ start_delay j.tree j.M (T j) → l ≡ tab (λ i. memory j.tree j.M (T j) w (suc i)) (j.tree.n - 1)
    → Least s w (memories_in l)
least-answer s job acc w l fits is-delay is =
    let j = job_of s in
    let b = memories_in l in
    let is-memory : (i : ℕ) → Link j.tree.n i → memories_in l i ≡ memory j.tree j.M (T j) w i =
    λ i h. memory_at_lem (memory j.tree j.M (T j) w) j.tree.n l is i h.0 h.1 in
    let serves = memory-serves j acc.within w fits is-delay b is-memory in
    let small = memory-fits j acc.within w fits is-delay b is-memory in
    record {
      serves = serves;
      least-delay = delay-least j acc.within w fits is-delay;
      least_total = total-least j acc.within w fits is-delay b is-memory;
      least_in_order = least_in_order j acc.within w fits is-delay b is-memory;
      put-back = within-rates (put_back s w b) j w b (answered_bytes s w b acc.none fits small)
          (answered_read s w b acc.none fits small) serves;
    }

-- and it settles the answer: the delay, and the memory of each node
pub least_settled : (s : List ℕ) (w w' : ℕ) (b b' : ℕ → ℕ) → Least s w b → Least s w' b'
    → (w ≡ w') × ((i : ℕ) → link (job_of s).tree.n i ≡ true → b i ≡ b' i)
least_settled s w w' b b' one other = (same, λ i h. up_to_lem i i (omega arith) h)
  where
    same : w ≡ w'
    same = omega (arith, one.least-delay w' b' other.serves, other.least-delay w b one.serves)

    too : Least s w b'
    too = rw same other

    totals : total (job_of s).tree b ≡ total (job_of s).tree b'
    totals = omega (arith, one.least_total b' too.serves, too.least_total b one.serves)

    up_to_lem : (m i : ℕ) → i ≤ m → link (job_of s).tree.n i ≡ true → b i ≡ b' i
    up_to_lem zero i l h = absurd (omega (arith, link_in (job_of s).tree.n i h))
    up_to_lem (suc m) i l h =
        omega (
          arith,
          one.least_in_order b' too.serves (sym totals) i h (λ k g r. sym (up_to_lem m k (omega arith) g)),
          too.least_in_order b one.serves totals i h (λ k g r. up_to_lem m k (omega arith) g),
        )

-- ---- the same job, by its struct and by its bytes

module _ (s : List ℕ) (job : Job) (acc : Accepted s job) (l l' : List ℕ) (long : length l ≡ (job_of s).tree.n - 1) where
  nodes_are : job.nodes ≡ (job_of s).tree.n
  nodes_are = ap (λ (t : Tree). t.n) acc.held

  pub sized : (answer : Result Sizing Refusal) → Worked answer job (sums_of s) l l' → Sizes answer s l l'
  unfolding Worked Sizes
  sized (Err e) w =
      let (is, (past, left)) = rw (acc.held, acc.frames, sums_of_lem (job_of s)) at w in
      (left, inr (early_none s (length l) acc.none long, (ap number is, none-serves (job_of s) acc.within past)))
  sized (Ok sizing) w =
      let (fits, (is-delay, (filled, is-total))) = rw (acc.held, nodes_are, acc.frames, sums_of_lem (job_of s)) at w in (
        early_none s (length l) acc.none long,
        (fits, (is-delay, (filled, (is-total, least-answer s job acc sizing.delay l' fits is-delay filled)))),
      )

-- ---- the bytes settle the answer, and with it the memories

-- a refusal by its number
refusal_of : ℕ → Refusal
refusal_of n =
    cond (eqb n no_delay)
    NoDelay
    (OfJob (cond (eqb n 1)
    Short
    (cond (eqb n 2)
    BadMark
    (cond (eqb n 3)
    BadVersion
    (cond (eqb n 4)
    BadNodes
    (cond (eqb n 5)
    BadFrames
    (cond (eqb n 6)
    BadLength
    (cond (eqb n 7)
    BadParent
    (cond (eqb n 8) BadDelay (cond (eqb n 9) LargeMemory (cond (eqb n 10) LargeFrame BadLent)))))))))))

refusal_is : (e : Refusal) → refusal_of (number e) ≡ e
unfolding refusal_of
refusal_is NoDelay = refl
refusal_is (OfJob Short) = refl
refusal_is (OfJob BadMark) = refl
refusal_is (OfJob BadVersion) = refl
refusal_is (OfJob BadNodes) = refl
refusal_is (OfJob BadFrames) = refl
refusal_is (OfJob BadLength) = refl
refusal_is (OfJob BadParent) = refl
refusal_is (OfJob BadDelay) = refl
refusal_is (OfJob LargeMemory) = refl
refusal_is (OfJob LargeFrame) = refl
refusal_is (OfJob BadLent) = refl

-- two refusals of the same number are the same
pub number_settled : (e e' : Refusal) → number e ≡ number e' → e ≡ e'
number_settled e e' h = sym (refusal_is e) ∙ ap refusal_of h ∙ refusal_is e'

-- and two sizings of the same delay and total
abbrev sizing_with : ℕ → ℕ → Sizing
sizing_with w all = record { delay = w; total = all }

same_sizing : (a b : Sizing) → a.delay ≡ b.delay → a.total ≡ b.total → a ≡ b
same_sizing a b p q = ap (λ (w : ℕ). sizing_with w a.total) p ∙ ap (sizing_with b.delay) q

-- with the same number of memories lent, any two answers that the contract allows are the same
pub sizing_settled : (s : List ℕ) (a a' : Result Sizing Refusal) (l l' k k' : List ℕ) → length l ≡ length k → Sizes a s l l' → Sizes a' s k k' → a ≡ a'
unfolding Sizes
sizing_settled s (Err e) (Err e') l l' k k' long one other =
    ap Err
    (number_settled e e' (⊎_elim
    (λ early. ⊎_elim
    (λ early'. early.0 ∙ ap (early_refusal s) long ∙ sym early'.0)
    (λ none. absurd (early.1 (ap (early_refusal s) long ∙ none.0)))
    other.1)
    (λ none. ⊎_elim
    (λ early. absurd (early.1 (ap (early_refusal s) (sym long) ∙ none.0)))
    (λ none'. none.1.0 ∙ sym none'.1.0)
    other.1)
    one.1))
sizing_settled s (Err e) (Ok sizing) l l' k k' long one other =
    absurd
    (⊎_elim
    (λ early. early.1 (ap (early_refusal s) long ∙ other.0))
    (λ none. none.1.1 sizing.delay (memories_in k') other.1.0 other.1.1.1.1.1.serves)
    one.1)
sizing_settled s (Ok sizing) (Err e) l l' k k' long one other =
    absurd
    (⊎_elim
    (λ early. early.1 (ap (early_refusal s) (sym long) ∙ one.0))
    (λ none. none.1.1 sizing.delay (memories_in l') one.1.0 one.1.1.1.1.1.serves)
    other.1)
sizing_settled s (Ok sizing) (Ok sizing') l l' k k' long one other =
    let j = job_of s in
    let same : sizing.delay ≡ sizing'.delay = one.1.1.0 ∙ sym other.1.1.0 in
    let filled : l' ≡ k' = one.1.1.1.0 ∙ ap (λ (d : ℕ). tab (λ i. memory j.tree j.M (T j) d (suc i)) (j.tree.n - 1))
    same ∙ sym other.1.1.1.0 in
    let totals : sizing.total ≡ sizing'.total = one.1.1.1.1.0 ∙ ap (λ (x : List ℕ). total j.tree (memories_in x)) filled ∙ sym
    other.1.1.1.1.0 in
    ap Ok (same_sizing sizing sizing' same totals)

-- and what an accepted job has filled is the same
pub memories_settled : (s : List ℕ) (sizing : Sizing) (l l' k k' : List ℕ) → Sizes (Ok sizing) s l l' → Sizes (Ok sizing) s k k' → l' ≡ k'
unfolding Sizes
memories_settled s sizing l l' k k' one other = one.1.1.1.0 ∙ sym other.1.1.1.0
