-- Laws of what is printed: which of the cases a job falls in, that the room is enough, and that the bytes settle the text.
use mathlib.Core.List.{List, []}
use mathlib.Core.Path.{◌≡◌, refl, ap, sym, ◌∙◌}
use mathlib.Core.Logic.{⊎_elim}
use Prim.Native.Nat.{ℕ, ◌+◌, ◌-◌, ◌*◌, ◌≤◌, ◌<◌}
use native.Mathlib.Omega.{arith}
use lib.ListN.{length}
use borrow.Author.Tests.{lt-ltb, le-ltb, eq-eqb, ne_eqb}
use Rattle.base.proofs.BoolLaws.{lt_or_le}
use Rattle.job.specs.Bytes.{job_of, tree_of, frame_count}
use Rattle.job.specs.Read.{struct_of}
use Rattle.job.specs.Refusal.{refusal}
use Rattle.job.specs.Limits.{most_nodes}
use Rattle.job.specs.Tree.{H, plan_length}
use Rattle.planner.specs.Rules.{Keeps}
use Rattle.planner.specs.Answer.{early_refusal, plan_in, Answers}
use Rattle.planner.proofs.AnswerLaws.{early_none}
use Rattle.planner.specs.Answer as planner
use Rattle.planner.specs.declared.Planned.{Planned}
use Rattle.planner.specs.declared.Refusal as problem
use Rattle.job.proofs.RefusalLaws as job
use Rattle.std.proofs.Common.{Result, Ok, Err}
use Rattle.rates.specs.Answer.{Sizes}
use Rattle.rates.specs.declared.Sizing.{Sizing}
use Rattle.rates.specs.declared.Refusal as sizes
use Rattle.rates.proofs.AnswerLaws.{sizing_settled, memories_settled}
use Rattle.relay.specs.Text.{line, memory_text, rate_text}
use Rattle.relay.specs.Printed.{too_large, most_bytes, most_planned, job_refusal, MemoryLines, RateLine, BothAnswers, Printed}
use Rattle.relay.specs.Room.{word_width, memory_room, rate_room, text_room}
use Rattle.relay.specs.Taken.{number}
use Rattle.relay.specs.declared.Refusal.{Refusal}
use Rattle.relay.specs.declared.Refusal.TheVariants.{TooLarge, Job}

-- ---- which number refuses a job before both questions

pub refusal_long : (s : List ℕ) → most_bytes < length s → job_refusal s ≡ too_large
unfolding job_refusal
refusal_long s h = rw (lt-ltb most_bytes (length s) h) refl

pub refusal_read : (s : List ℕ) → length s ≤ most_bytes → (refusal s ≡ 0 → ⊥) → job_refusal s ≡ refusal s
unfolding job_refusal
refusal_read s h r = rw (le-ltb most_bytes (length s) h, ne_eqb (refusal s) 0 r) refl

pub refusal_planned : (s : List ℕ) → length s ≤ most_bytes → refusal s ≡ 0 → most_planned < plan_length (job_of s)
    → job_refusal s ≡ too_large
unfolding job_refusal
refusal_planned s h r p =
    rw (le-ltb most_bytes (length s) h, eq-eqb (refusal s) 0 r, lt-ltb most_planned (plan_length (job_of s)) p) refl

pub refusal_none : (s : List ℕ) → length s ≤ most_bytes → refusal s ≡ 0 → plan_length (job_of s) ≤ most_planned → job_refusal s ≡ 0
unfolding job_refusal
refusal_none s h r p =
    rw (le-ltb most_bytes (length s) h, eq-eqb (refusal s) 0 r, le-ltb most_planned (plan_length (job_of s)) p) refl

-- a job that is not refused so is one
pub taken_read : (s : List ℕ) → job_refusal s ≡ 0 → refusal s ≡ 0
unfolding job_refusal
taken_read s h =
    ⊎_elim
    (λ (l : most_bytes < length s). absurd (omega (arith, h, refusal_long s l)))
    (λ (l : length s ≤ most_bytes).
    ⊎_elim
    (λ (p : 0 < refusal s). let r : refusal s ≡ 0 → ⊥ = λ z. omega (arith, z) in sym (refusal_read s l r) ∙ h)
    (λ (p : refusal s ≤ 0). omega arith)
    (lt_or_le 0 (refusal s)))
    (lt_or_le most_bytes (length s))

-- and has a node
pub node_some : (s : List ℕ) → job_refusal s ≡ 0 → 1 ≤ (job_of s).tree.n
node_some s h =
    let a = job.read_accepts s (struct_of (tree_of s) (frame_count s)) (taken_read s h, refl) in
    omega (arith, a.tree_within.nodes_from)

-- and no more than the tree may have
pub nodes_most : (s : List ℕ) → job_refusal s ≡ 0 → (job_of s).tree.n ≤ most_nodes
nodes_most s h =
    let a = job.read_accepts s (struct_of (tree_of s) (frame_count s)) (taken_read s h, refl) in
    omega (arith, a.tree_within.nodes_to)

-- and a plan that is not too large
pub planned_most : (s : List ℕ) → job_refusal s ≡ 0 → plan_length (job_of s) ≤ most_planned
planned_most s h =
    ⊎_elim
    (λ (p : most_planned < plan_length (job_of s)).
    ⊎_elim
    (λ (l : most_bytes < length s). absurd (omega (arith, h, refusal_long s l)))
    (λ (l : length s ≤ most_bytes). absurd (omega (arith, h, refusal_planned s l (taken_read s h) p)))
    (lt_or_le most_bytes (length s)))
    (λ (p : plan_length (job_of s) ≤ most_planned). p)
    (lt_or_le most_planned (plan_length (job_of s)))

-- ---- room

-- the lines of l nodes with h numbers in a row
lines_room : (l h : ℕ) → l * (word_width * (2 + h)) ≡ word_width * 2 * l + word_width * (l * h)
lines_room l h = omega arith

-- both answers to a job that is not refused have room
pub room_enough : (s : List ℕ) → job_refusal s ≡ 0 → memory_room s + rate_room s ≤ text_room
unfolding plan_length
room_enough s h =
    omega (arith, lines_room ((job_of s).tree.n - 1) (H (job_of s) + 1), planned_most s h, nodes_most s h)

-- ---- the numbers

pub number_none : (e : Refusal) → number e ≡ 0 → ⊥
number_none TooLarge h = omega arith
number_none (Job e) h = job.number_none e h

-- ---- what is printed in each case

pub printed_refused : (s text : List ℕ) (e : Refusal) → number e ≡ job_refusal s → text ≡ line (number e) [] → Printed s text
printed_refused s text e is t =
    record { refused = λ _. rw is at t; answered = λ z. absurd (number_none e (is ∙ z)) }

pub printed_answered : (s text : List ℕ) → job_refusal s ≡ 0 → BothAnswers s text → Printed s text
printed_answered s text none b = record { refused = λ z. absurd (z none); answered = λ _. b }

-- ---- the memory question's lines are settled by the bytes

-- of an accepted job, lent outputs of the right length, only 12 is left to refuse with
only_twelve : (s plan₀ plan₁ peaks₀ peaks₁ : List ℕ) (e : problem.Refusal) → early_refusal s (length plan₀) (length peaks₀) ≡ 0
    → Answers (Err e) s plan₀ plan₁ peaks₀ peaks₁ → (planner.number e ≡ 12) × ((S : ℕ → ℕ → ℕ) → Keeps (job_of s) S → ⊥)
unfolding Answers
only_twelve s plan₀ plan₁ peaks₀ peaks₁ e none a =
    ⊎_elim (λ w. absurd (w.1 none)) (λ w. w.1) a.1.1

given-keeps : (s plan₀ plan₁ peaks₀ peaks₁ : List ℕ) (p : Planned) → Answers (Ok p) s plan₀ plan₁ peaks₀ peaks₁
    → Keeps (job_of s) (plan_in (job_of s) plan₁)
unfolding Answers
given-keeps s plan₀ plan₁ peaks₀ peaks₁ p a = a.1.1.1.1.0.keeps

-- two plans that are given are the rows that the curves define, and so are printed alike
both_given : (s plan₀ plan₁ peaks₀ peaks₁ plan₂ plan₃ peaks₂ peaks₃ : List ℕ) (p q : Planned)
    → Answers (Ok p) s plan₀ plan₁ peaks₀ peaks₁ → Answers (Ok q) s plan₂ plan₃ peaks₂ peaks₃
    → memory_text (Ok p) s plan₁ peaks₁ ≡ memory_text (Ok q) s plan₃ peaks₃
unfolding Answers memory_text
both_given s plan₀ plan₁ peaks₀ peaks₁ plan₂ plan₃ peaks₂ peaks₃ p q a b =
    let last : p.last_slot ≡ q.last_slot = a.1.0 ∙ sym b.1.0 in
    let total : p.total ≡ q.total = a.1.1.0 ∙ sym b.1.1.0 in
    let plans : plan₁ ≡ plan₃ = a.1.1.1.0 ∙ sym b.1.1.1.0 in
    let peaks : peaks₁ ≡ peaks₃ = rw plans at a.1.1.1.1.1 ∙ sym b.1.1.1.1.1 in
    rw (last, total, plans, peaks) refl

text_settled : (s : List ℕ) (a b : Result Planned problem.Refusal) (plan₀ plan₁ peaks₀ peaks₁ plan₂ plan₃ peaks₂ peaks₃ : List ℕ)
    → early_refusal s (length plan₀) (length peaks₀) ≡ 0 → early_refusal s (length plan₂) (length peaks₂) ≡ 0
    → Answers a s plan₀ plan₁ peaks₀ peaks₁ → Answers b s plan₂ plan₃ peaks₂ peaks₃
    → memory_text a s plan₁ peaks₁ ≡ memory_text b s plan₃ peaks₃
unfolding memory_text
text_settled s (Err e) (Err f) plan₀ plan₁ peaks₀ peaks₁ plan₂ plan₃ peaks₂ peaks₃ n m a b =
    rw ((only_twelve s plan₀ plan₁ peaks₀ peaks₁ e n a).0, (only_twelve s plan₂ plan₃ peaks₂ peaks₃ f m b).0) refl
text_settled s (Err e) (Ok q) plan₀ plan₁ peaks₀ peaks₁ plan₂ plan₃ peaks₂ peaks₃ n m a b =
    absurd ((only_twelve s plan₀ plan₁ peaks₀ peaks₁ e n a).1 _ (given-keeps s plan₂ plan₃ peaks₂ peaks₃ q b))
text_settled s (Ok p) (Err f) plan₀ plan₁ peaks₀ peaks₁ plan₂ plan₃ peaks₂ peaks₃ n m a b =
    absurd ((only_twelve s plan₂ plan₃ peaks₂ peaks₃ f m b).1 _ (given-keeps s plan₀ plan₁ peaks₀ peaks₁ p a))
text_settled s (Ok p) (Ok q) plan₀ plan₁ peaks₀ peaks₁ plan₂ plan₃ peaks₂ peaks₃ n m a b =
    both_given s plan₀ plan₁ peaks₀ peaks₁ plan₂ plan₃ peaks₂ peaks₃ p q a b

-- two texts that are the lines of the memory question's answer are the same
pub memory_settled : (s t u : List ℕ) → refusal s ≡ 0 → MemoryLines s t → MemoryLines s u → t ≡ u
memory_settled s t u h m k =
    m.printed
    ∙ text_settled s m.answer k.answer m.plan₀ m.plan₁ m.peaks₀ m.peaks₁ k.plan₀ k.plan₁ k.peaks₀ k.peaks₁
    (early_none s (length m.plan₀) (length m.peaks₀) h m.plan_long m.peaks_long)
    (early_none s (length k.plan₀) (length k.peaks₀) h k.plan_long k.peaks_long)
    m.answers k.answers
    ∙ sym k.printed

-- ---- and so is the rate question's line

same-sizing : (s : List ℕ) (a : Result Sizing sizes.Refusal) (l l' k k' : List ℕ) → Sizes a s l l' → Sizes a s k k'
    → rate_text a l' ≡ rate_text a k'
unfolding rate_text
same-sizing s (Err e) l l' k k' one other = refl
same-sizing s (Ok sizing) l l' k k' one other = rw (memories_settled s sizing l l' k k' one other) refl

pub rate_settled : (s t u : List ℕ) → RateLine s t → RateLine s u → t ≡ u
rate_settled s t u m k =
    let long : length m.memories₀ ≡ length k.memories₀ = m.memories_long ∙ sym k.memories_long in
    let same = sizing_settled s m.sizing k.sizing m.memories₀ m.memories₁ k.memories₀ k.memories₁ long m.answers k.answers in
    m.printed
    ∙ ap (λ (a : Result Sizing sizes.Refusal). rate_text a m.memories₁) same
    ∙ same-sizing s k.sizing m.memories₀ m.memories₁ k.memories₀ k.memories₁ (rw same at m.answers) k.answers
    ∙ sym k.printed
