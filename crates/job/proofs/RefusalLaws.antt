-- Laws of the refusal of a job: the table in parts, as the reader goes through it; what an accepted job has; and that nothing else is needed.
use mathlib.Core.Bool.{Bool, true, false, cond, not, ◌&&◌}
use mathlib.Core.List.{List}
use mathlib.Core.Path.{◌≡◌, refl, ap, sym, ◌∙◌}
use mathlib.Core.Logic.{⊎_elim}
use Prim.Native.Nat.{ℕ, ◌≤◌, ◌<◌}
use native.Mathlib.Omega.{arith}
use lib.Dec.{eqb, ltb}
use lib.ListN.{length}
use borrow.Author.Tests.{eq-eqb, ne_eqb, eqb-true, ltb-false, not-false}
use Rattle.base.specs.Range.{some}
use Rattle.base.proofs.BoolLaws.{true_or_false, not_both, or_no_left, or_no_right}
use Rattle.base.proofs.RangeLaws.{none_passes}
use Rattle.job.specs.Limits.{fewest_nodes, most_nodes, fewest_frames, most_frames, longest_delay, greatest_memory, greatest_rate, greatest_frame}
use Rattle.job.specs.Tree.{Tree, TreeWithin, JobWithin, link, child, has_child, leaf}
use Rattle.job.specs.Bytes.{mark_rly, version_one, header_width, mark, version, node_count, frame_count, frame_at, wanted_length, tree_of, job_of}
use Rattle.job.specs.Refusal.{outside, parent_wrong, delay_wrong, amount_wrong, frame_wrong, some_node, refusal, number}
use Rattle.job.specs.Read.{Gives, Reads, Accepted, struct_of, tree_in, size_refusal, frame_refusal}
use Rattle.job.specs.Steps.{parents_of, or_else, head_refusal, nodes_refusal, rest_refusal, Sized}
use Rattle.job.specs.declared.Job.{Job}
use Rattle.job.specs.declared.Refusal.{Refusal}
use Rattle.job.specs.declared.Refusal.TheVariants.{Short}
use Rattle.std.specs.Prelude.{Result, Ok, Err, is_err, IsErrAnd}
use Rattle.std.specs.Result.{MatchResult}
use Rattle.job.proofs.TreeLaws.{link_in}
use Rattle.job.proofs.ReadLaws.{struct_holds, per_node_past}

-- ---- a refusal in parts

-- no refusal has the number 0
pub number_none : (e : Refusal) → number e ≡ 0 → ⊥
number_none Short = omega arith
number_none e = omega arith

pub or_else-first : (a b : ℕ) → (a ≡ 0 → ⊥) → or_else a b ≡ a
or_else-first a b h = rw (ne_eqb a 0 h) refl

pub or_else_second : (a b : ℕ) → a ≡ 0 → or_else a b ≡ b
or_else_second a b h = rw h refl

-- row 6
abbrev pub length_refusal : List ℕ → ℕ
length_refusal s = cond (not (eqb (length s) (wanted_length s))) 6 0

parts : (a b c d e f g h i j : Bool)
    → cond a 1 (cond b 2 (cond c 3 (cond d 4 (cond e 5 (cond f 6 (cond g 7 (cond h 8 (cond i 9 (cond j 10 0)))))))))
    ≡ or_else (cond a 1 (cond b 2 (cond c 3 0)))
    (or_else (cond d 4 (cond e 5 0))
    (or_else (cond f 6 0) (or_else (cond g 7 (cond h 8 (cond i 9 0))) (cond j 10 0))))
parts true b c d e f g h i j = refl
parts false true c d e f g h i j = refl
parts false false true d e f g h i j = refl
parts false false false true e f g h i j = refl
parts false false false false true f g h i j = refl
parts false false false false false true g h i j = refl
parts false false false false false false true h i j = refl
parts false false false false false false false true i j = refl
parts false false false false false false false false true j = refl
parts false false false false false false false false false true = refl
parts false false false false false false false false false false = refl

pub refusal_parts : (s : List ℕ)
    → refusal s ≡ or_else (head_refusal s) (or_else (size_refusal (node_count s) (frame_count s)) (or_else (length_refusal s) (rest_refusal s)))
unfolding refusal
refusal_parts s =
    let t = tree_of s in
    parts
    (ltb (length s) header_width)
    (not (eqb (mark s) mark_rly))
    (not (eqb (version s) version_one))
    (outside fewest_nodes most_nodes (node_count s))
    (outside fewest_frames most_frames (frame_count s))
    (not (eqb (length s) (wanted_length s)))
    (some_node t (λ i. parent_wrong i (t.parent i)))
    (some_node t (λ i. delay_wrong (leaf t i) (t.delay i)))
    (some_node t (λ i. amount_wrong (t.memory i) (t.rate i)))
    (some (λ m. frame_wrong (frame_at s m)) (frame_count s))

-- ---- what no refusal says

-- no row of a chain applies where the chain gives 0
cond-first : (b : Bool) (k x : ℕ) → (k ≡ 0 → ⊥) → cond b k x ≡ 0 → b ≡ false
cond-first true k x h e = absurd (h e)
cond-first false k x h e = refl

cond_rest : (b : Bool) (k x : ℕ) → (k ≡ 0 → ⊥) → cond b k x ≡ 0 → x ≡ 0
cond_rest true k x h e = absurd (h e)
cond_rest false k x h e = e

inside-from : (least most x : ℕ) → outside least most x ≡ false → least ≤ x
inside-from least most x h = ltb-false x least (or_no_left (ltb x least) (ltb most x) h)

inside-to : (least most x : ℕ) → outside least most x ≡ false → x ≤ most
inside-to least most x h = ltb-false most x (or_no_right (ltb x least) (ltb most x) h)

-- counts that are not refused
pub sizes_in : (n M : ℕ) → size_refusal n M ≡ 0 → (fewest_nodes ≤ n) × (n ≤ most_nodes) × (fewest_frames ≤ M) × (M ≤ most_frames)
sizes_in n M h =
    let a = cond-first (outside fewest_nodes most_nodes n) 4 (cond (outside fewest_frames most_frames M) 5 0) (omega arith) h in
    let r = cond_rest (outside fewest_nodes most_nodes n) 4 (cond (outside fewest_frames most_frames M) 5 0) (omega arith) h in
    let b = cond-first (outside fewest_frames most_frames M) 5 0 (omega arith) r in
    (inside-from fewest_nodes most_nodes n a, inside-to fewest_nodes most_nodes n a, inside-from fewest_frames most_frames M b, inside-to fewest_frames most_frames M b)

-- no node fails
each_node : (t : Tree) (wrong : ℕ → Bool) → some_node t wrong ≡ false → (i : ℕ) → link t.n i ≡ true → wrong i ≡ false
each_node t wrong h i l =
    let (p, q) = link_in t.n i l in
    sym (rw l refl) ∙ none_passes (λ k. link t.n k && wrong k) t.n h i q

delay-leaf : (b : Bool) (d : ℕ) → b ≡ true → delay_wrong b d ≡ false → d ≤ longest_delay
delay-leaf true d h e = ltb-false longest_delay d e
delay-leaf false d h e = absurd (not_both h refl)

delay_inner : (b : Bool) (d : ℕ) → b ≡ false → delay_wrong b d ≡ false → d ≡ 0
delay_inner true d h e = absurd (not_both refl h)
delay_inner false d h e = eqb-true d 0 (not-false (eqb d 0) e)

-- the three rows on nodes, and the counts, say that the tree is within the limits
tree_within : (t : Tree) → fewest_nodes ≤ t.n → t.n ≤ most_nodes → nodes_refusal t ≡ 0 → TreeWithin t
tree_within t a b h =
    let P = some_node t (λ i. parent_wrong i (t.parent i)) in
    let D = some_node t (λ i. delay_wrong (leaf t i) (t.delay i)) in
    let A = some_node t (λ i. amount_wrong (t.memory i) (t.rate i)) in
    let p = cond-first P 7 (cond D 8 (cond A 9 0)) (omega arith) h in
    let h' = cond_rest P 7 (cond D 8 (cond A 9 0)) (omega arith) h in
    let d = cond-first D 8 (cond A 9 0) (omega arith) h' in
    let m = cond-first A 9 0 (omega arith) (cond_rest D 8 (cond A 9 0) (omega arith) h') in
    record {
      nodes_from = a;
      nodes_to = b;
      parents = λ i l. parent-lower i (t.parent i) (each_node t (λ k. parent_wrong k (t.parent k)) p i l);
      leaf_delays = λ i l f. delay-leaf (leaf t i) (t.delay i) f (each_node t (λ k. delay_wrong (leaf t k) (t.delay k)) d i l);
      inner_delays = λ i l f. delay_inner (leaf t i) (t.delay i) f (each_node t (λ k. delay_wrong (leaf t k) (t.delay k)) d i l);
      memories = λ i l. ltb-false greatest_memory (t.memory i) (or_no_left _ (ltb greatest_rate (t.rate i)) (each_node t (λ k. amount_wrong (t.memory k) (t.rate k)) m i l));
      rates = λ i l. ltb-false greatest_rate (t.rate i) (or_no_right (ltb greatest_memory (t.memory i)) _ (each_node t (λ k. amount_wrong (t.memory k) (t.rate k)) m i l));
    }
  where
    parent-lower : (i p : ℕ) → parent_wrong i p ≡ false → p < i
    parent-lower i p e = borrow.Author.Tests.ltb-true p i (not-false (ltb p i) e)

or_else-none : (a b : ℕ) → or_else a b ≡ 0 → (a ≡ 0) × (b ≡ 0)
or_else-none a b h =
    ⊎_elim
    (λ (e : eqb a 0 ≡ true). (eqb-true a 0 e, rw e at h))
    (λ (e : eqb a 0 ≡ false). let z : a ≡ 0 = rw e at h in absurd (not_both (eq-eqb a 0 z) e))
    (true_or_false (eqb a 0))

-- an accepted job has counts within their bounds and the length that they ask for
pub accepted_sized : (s : List ℕ) → refusal s ≡ 0 → Sized s
accepted_sized s h =
    let (a, r) = or_else-none (head_refusal s) _ (sym (refusal_parts s) ∙ h) in
    let (b, q) = or_else-none (size_refusal (node_count s) (frame_count s)) _ r in
    let (l, w) = or_else-none (length_refusal s) (rest_refusal s) q in
    let (n1, n2, f1, f2) = sizes_in (node_count s) (frame_count s) b in
    record {
      nodes_from = n1;
      nodes_to = n2;
      frames_from = f1;
      frames_to = f2;
      long = eqb-true (length s) (wanted_length s) (not-false (eqb (length s) (wanted_length s)) (cond-first _ 6 0 (omega arith) l));
    }

-- an accepted job is within the limits: every field's range, and each parent lower than its child
pub accepted_within : (s : List ℕ) → refusal s ≡ 0 → JobWithin (job_of s)
accepted_within s h =
    let z = accepted_sized s h in
    let (a, r) = or_else-none (head_refusal s) _ (sym (refusal_parts s) ∙ h) in
    let (b, q) = or_else-none (size_refusal (node_count s) (frame_count s)) _ r in
    let (l, w) = or_else-none (length_refusal s) (rest_refusal s) q in
    let (x, y) = or_else-none (nodes_refusal (tree_of s)) _ w in
    record {
      tree = tree_within (tree_of s) z.nodes_from z.nodes_to x;
      frames_from = z.frames_from;
      frames_to = z.frames_to;
      frames = λ m k. ltb-false greatest_frame (frame_at s m) (none_passes (λ i. frame_wrong (frame_at s i)) (frame_count s) (cond-first _ 10 0 (omega arith) y) m k);
    }

-- ---- what the reader returns, and where

-- the first part of the table that refuses gives the number
pub at_head : (s : List ℕ) → (head_refusal s ≡ 0 → ⊥) → refusal s ≡ head_refusal s
at_head s h = refusal_parts s ∙ or_else-first (head_refusal s) _ h

pub at_size : (s : List ℕ) → head_refusal s ≡ 0 → (size_refusal (node_count s) (frame_count s) ≡ 0 → ⊥) → refusal s ≡ size_refusal (node_count s) (frame_count s)
at_size s a h = refusal_parts s ∙ or_else_second (head_refusal s) _ a ∙ or_else-first (size_refusal (node_count s) (frame_count s)) _ h

pub at_length : (s : List ℕ) → head_refusal s ≡ 0 → size_refusal (node_count s) (frame_count s) ≡ 0 → (length s ≡ wanted_length s → ⊥) → refusal s ≡ 6
at_length s a b h =
    refusal_parts s
    ∙ or_else_second (head_refusal s) _ a
    ∙ or_else_second (size_refusal (node_count s) (frame_count s)) _ b
    ∙ rw (ne_eqb (length s) (wanted_length s) h) refl

pub at_rest : (s : List ℕ) → head_refusal s ≡ 0 → size_refusal (node_count s) (frame_count s) ≡ 0 → length s ≡ wanted_length s → refusal s ≡ rest_refusal s
at_rest s a b h =
    refusal_parts s
    ∙ or_else_second (head_refusal s) _ a
    ∙ or_else_second (size_refusal (node_count s) (frame_count s)) _ b
    ∙ rw (eq-eqb (length s) (wanted_length s) h) refl

-- a refusal that a `?` hands on, by its row
pub refusal_passed : {A : Type 0} (r : Result A Refusal) (e : Refusal) (row : ℕ) (x : A) → IsErrAnd r (λ y. y ≡ e) → number e ≡ row → Gives r row x
refusal_passed (Ok y) e row x h is = absurd h
refusal_passed (Err y) e row x h is = ap number h ∙ is

-- a frame is refused exactly where it is too large
pub frame_refused : {A : Type 0} (r : Result A Refusal) (size : ℕ) (x : A) → Gives r (frame_refusal size) x → is_err r ≡ frame_wrong size
frame_refused (Ok y) size x (none, is) = sym (cond-first (frame_wrong size) 10 0 (omega arith) none)
frame_refused (Err e) size x is = go (frame_wrong size) is
  where
    go : (b : Bool) → number e ≡ cond b 10 0 → true ≡ b
    go true q = refl
    go false q = absurd (number_none e q)

-- the parents alone settle who is a parent
pub parents_settle : (s : List ℕ) → node_count s ≤ most_nodes → (k : ℕ) → has_child (tree_in (struct_of (parents_of s) (frame_count s))) k ≡ has_child (tree_of s) k
unfolding has_child child
parents_settle s h k =
    ap (λ (t : Tree). has_child t k)
    (struct_holds (parents_of s) (frame_count s)
    (record { parents = λ i q. per_node_past _ _ i (omega arith); delays = λ i q. refl; memories = λ i q. refl; rates = λ i q. refl }))

-- the struct that the reader gives holds the tree that the bytes say
pub read_holds : (s : List ℕ) → node_count s ≤ most_nodes → tree_in (struct_of (tree_of s) (frame_count s)) ≡ tree_of s
read_holds s h =
    struct_holds (tree_of s) (frame_count s)
    (record {
      parents = λ i q. per_node_past _ _ i (omega arith);
      delays = λ i q. per_node_past _ _ i (omega arith);
      memories = λ i q. per_node_past _ _ i (omega arith);
      rates = λ i q. per_node_past _ _ i (omega arith);
    })

-- ---- what a caller learns from a reading

-- a job that was read is accepted
pub read_accepts : (s : List ℕ) (job : Job) → Reads (Ok job) s → Accepted s job
read_accepts s job (none, is) =
    let w = accepted_within s none in
    let held : tree_in job ≡ tree_of s = ap tree_in is ∙ read_holds s w.tree.nodes_to in
    let frames : job.frames ≡ frame_count s = ap (λ (j : Job). j.frames) is in
    record {
      none = none;
      held = held;
      frames = frames;
      tree_within = rw held w.tree;
      within = w;
      same = λ x. record { tree = held x; M = frames x; frame = frame_at s };
    }

-- the number of a reading is the refusal's: 0 of a job
pub read_number : (s : List ℕ) (r : Result Job Refusal) → Reads r s → MatchResult r (λ _. 0 ≡ refusal s) (λ e. number e ≡ refusal s)
read_number s (Ok job) (none, is) = sym none
read_number s (Err e) is = is

-- bytes that were not read are no job
pub read_refuses : (s : List ℕ) (e : Refusal) → Reads (Err e) s → refusal s ≡ 0 → ⊥
read_refuses s e is none = number_none e (is ∙ none)

-- an accepted job's struct has what H and the plan's length ask of one
pub accepted_struct : (s : List ℕ) (job : Job) → Accepted s job → TreeWithin (tree_in job) × (job.frames ≤ most_frames)
accepted_struct s job acc = (acc.tree_within, rw acc.frames acc.within.frames_to)
