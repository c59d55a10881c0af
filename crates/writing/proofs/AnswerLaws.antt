-- Laws of an answer put back: the job that the bytes then say is the answered job, and it is accepted.
use mathlib.Core.Bool.{Bool, true, false, cond, ◌&&◌}
use mathlib.Core.List.{List}
use mathlib.Core.Path.{◌≡◌, refl, sym, ◌∙◌, fun_ext}
use mathlib.Core.Logic.{inl, inr, ⊎_elim}
use Prim.Native.Nat.{ℕ, ◌+◌, ◌*◌, ◌≤◌, ◌<◌}
use native.Mathlib.Omega.{arith}
use lib.Dec.{eqb}
use lib.ListN.{length}
use borrow.Author.Tests.{lt-ltb, le-ltb, eqb-true, eqb-false}
use Rattle.base.specs.Number.{number}
use Rattle.base.proofs.BoolLaws.{true_or_false, not_both, otherwise, lt_or_le}
use Rattle.base.proofs.RangeLaws.{all_fail}
use Rattle.job.specs.Limits.{fewest_nodes, most_nodes, fewest_frames, most_frames, longest_delay, greatest_memory, greatest_rate, greatest_frame}
use Rattle.job.specs.Tree.{Tree, JobData, TreeWithin, JobWithin, link, child, has_child, leaf}
use Rattle.job.specs.Bytes.{record_place, mark, version, node_count, frame_count, parent_at, delay_at, memory_at, rate_at, frame_at, frames_place, frame_width, wanted_length, per_node, tree_of, job_of}
use Rattle.job.specs.Refusal.{parent_wrong, delay_wrong, amount_wrong, frame_wrong, some_node, refusal}
use Rattle.job.specs.Read.{size_refusal}
use Rattle.job.specs.Steps.{head_refusal, nodes_refusal, Sized}
use Rattle.job.proofs.TreeLaws.{link_is, link_in}
use Rattle.job.proofs.SlotLaws.{leaf-link}
use Rattle.job.proofs.ReadLaws.{record_in, per_node_in}
use Rattle.job.proofs.RefusalLaws.{accepted_sized, accepted_within, at_head, at_rest}
use Rattle.writing.specs.PutBack.{put_back, answered_job}
use Rattle.writing.proofs.WriteLaws.{Apart, records_to, length_records, records_apart, records_at, records_before, record_memory, record_leaf, record_inner}

node_count_is : (s : List ℕ) → node_count s ≡ number s 5 1
unfolding node_count
node_count_is s = refl

pub length-put_back : (s : List ℕ) (w : ℕ) (b : ℕ → ℕ) → length (put_back s w b) ≡ length s
unfolding put_back
length-put_back s w b = length_records (tree_of s) w b s (node_count s) (node_count s)

-- ---- the fields that stay

module _ (s : List ℕ) (w : ℕ) (b : ℕ → ℕ) where
  -- a number apart from the delay and memory of each record
  stays : (place width : ℕ) → ((i : ℕ) → 0 < i → i < node_count s → Apart place width (record_place i + 1) (record_place i + 11))
      → number (put_back s w b) place width ≡ number s place width
  unfolding put_back
  stays place width h = records_apart (tree_of s) w b s (node_count s) place width (node_count s) h

  mark_stays : mark (put_back s w b) ≡ mark s
  unfolding mark
  mark_stays = stays 0 3 (λ i h k. inl (omega arith))

  version_stays : version (put_back s w b) ≡ version s
  unfolding version
  version_stays = stays 3 2 (λ i h k. inl (omega arith))

  pub nodes_stay : node_count (put_back s w b) ≡ node_count s
  nodes_stay = node_count_is (put_back s w b) ∙ stays 5 1 (λ i h k. inl (omega arith)) ∙ sym (node_count_is s)

  frames_stay : frame_count (put_back s w b) ≡ frame_count s
  unfolding frame_count
  frames_stay = stays 6 4 (λ i h k. inl (omega arith))

  -- within one record: the byte before the delay, and those after the memory
  parent_stays : (i : ℕ) → 0 < i → parent_at (put_back s w b) i ≡ parent_at s i
  unfolding parent_at
  parent_stays i h =
      stays (record_place i) 1
      (λ j p q. ⊎_elim (λ (l : j < i). inr (omega arith)) (λ (l : i ≤ j). inl (omega arith)) (lt_or_le j i))

  rate_stays : (i : ℕ) → 0 < i → rate_at (put_back s w b) i ≡ rate_at s i
  unfolding rate_at
  rate_stays i h =
      stays (record_place i + 11) 8
      (λ j p q. ⊎_elim (λ (l : i < j). inl (omega arith)) (λ (l : j ≤ i). inr (omega arith)) (lt_or_le i j))

  -- the frames come after the records
  frame_stays : (m : ℕ) → frame_at (put_back s w b) m ≡ frame_at s m
  unfolding frame_at
  frame_stays m = rw nodes_stay (stays (frames_place s + frame_width * m) 4 (λ i h k. inr (omega arith)))

  wanted_stays : wanted_length (put_back s w b) ≡ wanted_length s
  unfolding wanted_length
  wanted_stays = rw (nodes_stay, frames_stay) refl

  head_stays : head_refusal (put_back s w b) ≡ head_refusal s
  head_stays = rw (length-put_back s w b, mark_stays, version_stays) refl

  -- ---- the fields that are written

  module _ (sized : Sized s) where
    memory_is : (i : ℕ) → 0 < i → i < node_count s → b i ≤ greatest_memory → memory_at (put_back s w b) i ≡ b i
    unfolding memory_at put_back
    memory_is i h k l =
        let t = tree_of s in
        let n = node_count s in
        records_at t w b s n i (record_place i + 3) 8 h k (omega arith) (omega arith)
        ∙ record_memory t w b (records_to t w b s n i) i (omega (arith, length_records t w b s n i, record_in s sized i h k)) (omega arith)

    leaf-delay_is : (i : ℕ) → 0 < i → i < node_count s → leaf (tree_of s) i ≡ true → w ≤ longest_delay → delay_at (put_back s w b) i ≡ w
    unfolding delay_at put_back
    leaf-delay_is i h k e l =
        let t = tree_of s in
        let n = node_count s in
        records_at t w b s n i (record_place i + 1) 2 h k (omega arith) (omega arith)
        ∙ record_leaf t w b (records_to t w b s n i) i e (omega (arith, length_records t w b s n i, record_in s sized i h k)) (omega arith)

    inner_delay_is : (i : ℕ) → 0 < i → i < node_count s → leaf (tree_of s) i ≡ false → delay_at (put_back s w b) i ≡ delay_at s i
    unfolding delay_at put_back
    inner_delay_is i h k e =
        let t = tree_of s in
        let n = node_count s in
        records_at t w b s n i (record_place i + 1) 2 h k (omega arith) (omega arith)
        ∙ record_inner t w b (records_to t w b s n i) i e
        ∙ records_before t w b s n i (record_place i + 1) 2 (omega arith)

-- ---- the job

-- a field of the nodes 1 to n-1 is settled by those nodes
per_node_cong : (n m : ℕ) (f g : ℕ → ℕ) → n ≡ m → ((i : ℕ) → 0 < i → i < m → f i ≡ g i) → per_node n f ≡ per_node m g
unfolding per_node
per_node_cong n m f g e h =
    rw e
    (fun_ext (λ i. ⊎_elim
    (λ (l : link m i ≡ true). let (p, q) = link_in m i l in rw l (h i p q))
    (λ (l : link m i ≡ false). rw l refl)
    (true_or_false (link m i))))

-- no leaf outside of the nodes 1 to n-1, and of those the leaves have w and the others 0
delays_are : (t : Tree) (n w : ℕ) (f : ℕ → ℕ) → TreeWithin t → n ≡ t.n
    → ((i : ℕ) → 0 < i → i < t.n → f i ≡ cond (leaf t i) w 0) → per_node n f ≡ (λ i. cond (leaf t i) w 0)
unfolding per_node
delays_are t n w f within e h =
    rw e
    (fun_ext (λ i. ⊎_elim
    (λ (l : link t.n i ≡ true). let (p, q) = link_in t.n i l in rw l (h i p q))
    (λ (l : link t.n i ≡ false).
    let no : leaf t i ≡ false = otherwise (leaf t i) (λ y. not_both (leaf-link t within i y) l) in
    rw (l, no) refl)
    (true_or_false (link t.n i))))

-- ---- bytes that are accepted

-- no node fails
no_node : (t : Tree) (wrong : ℕ → Bool) → ((i : ℕ) → link t.n i ≡ true → wrong i ≡ false) → some_node t wrong ≡ false
no_node t wrong h =
    all_fail (λ i. link t.n i && wrong i) t.n
    (λ i q. ⊎_elim
    (λ (l : link t.n i ≡ true). rw (l, h i l) refl)
    (λ (l : link t.n i ≡ false). rw l refl)
    (true_or_false (link t.n i)))

delay_right : (t : Tree) → TreeWithin t → (i : ℕ) → link t.n i ≡ true → delay_wrong (leaf t i) (t.delay i) ≡ false
delay_right t h i l =
    ⊎_elim
    (λ (e : leaf t i ≡ true). rw (e, le-ltb longest_delay (t.delay i) (h.leaf_delays i l e)) refl)
    (λ (e : leaf t i ≡ false). rw (e, h.inner_delays i l e) refl)
    (true_or_false (leaf t i))

nodes_right : (t : Tree) → TreeWithin t → nodes_refusal t ≡ 0
nodes_right t h =
    rw (
      no_node t (λ i. parent_wrong i (t.parent i)) (λ i l. rw (lt-ltb (t.parent i) i (h.parents i l)) refl),
      no_node t (λ i. delay_wrong (leaf t i) (t.delay i)) (delay_right t h),
      no_node t (λ i. amount_wrong (t.memory i) (t.rate i))
          (λ i l. rw (le-ltb greatest_memory (t.memory i) (h.memories i l), le-ltb greatest_rate (t.rate i) (h.rates i l)) refl),
    )
    refl

-- bytes with the right head and length that say a job within the limits are accepted
pub accepted_if : (s : List ℕ) → head_refusal s ≡ 0 → length s ≡ wanted_length s → JobWithin (job_of s) → refusal s ≡ 0
accepted_if s head long h =
    let t = h.tree in
    let sizes : size_refusal (node_count s) (frame_count s) ≡ 0 =
    rw (
      le-ltb (node_count s) fewest_nodes t.nodes_from,
      le-ltb most_nodes (node_count s) t.nodes_to,
      le-ltb (frame_count s) fewest_frames h.frames_from,
      le-ltb most_frames (frame_count s) h.frames_to,
    )
    refl in
    at_rest s head sizes long
    ∙ rw (
      nodes_right (tree_of s) t,
      all_fail (λ m. frame_wrong (frame_at s m)) (frame_count s) (λ m q. le-ltb greatest_frame (frame_at s m) (h.frames m q)),
    )
    refl

head_right : (s : List ℕ) → refusal s ≡ 0 → head_refusal s ≡ 0
head_right s h =
    ⊎_elim
    (λ (e : eqb (head_refusal s) 0 ≡ true). eqb-true (head_refusal s) 0 e)
    (λ (e : eqb (head_refusal s) 0 ≡ false). let ne = eqb-false (head_refusal s) 0 e in sym (at_head s ne) ∙ h)
    (true_or_false (eqb (head_refusal s) 0))

-- who is a leaf, the delays and memories don't say
leaves_same : (j : JobData) (w : ℕ) (b : ℕ → ℕ) (i : ℕ) → leaf (answered_job j w b).tree i ≡ leaf j.tree i
unfolding leaf has_child child
leaves_same j w b i = refl

-- an answered job is within the limits
pub answered-within : (j : JobData) (w : ℕ) (b : ℕ → ℕ) → JobWithin j → w ≤ longest_delay → ((i : ℕ) → link j.tree.n i ≡ true → b i ≤ greatest_memory)
    → JobWithin (answered_job j w b)
answered-within j w b h short small =
    let t = h.tree in
    record {
      tree =
          record {
            nodes_from = t.nodes_from;
            nodes_to = t.nodes_to;
            parents = t.parents;
            leaf_delays = λ i l e. let q : leaf j.tree i ≡ true = sym (leaves_same j w b i) ∙ e in rw q short;
            inner_delays = λ i l e. let q : leaf j.tree i ≡ false = sym (leaves_same j w b i) ∙ e in rw q refl;
            memories = λ i l. let (p, q) = link_in j.tree.n i l in rw (per_node_in j.tree.n b i p q) (small i l);
            rates = t.rates;
          };
      frames_from = h.frames_from;
      frames_to = h.frames_to;
      frames = h.frames;
    }

-- ---- the answered job

module _ (s : List ℕ) (w : ℕ) (b : ℕ → ℕ) (accepted : refusal s ≡ 0) (short : w ≤ longest_delay)
    (small : (i : ℕ) → link (node_count s) i ≡ true → b i ≤ greatest_memory) where
  sized : Sized s
  sized = accepted_sized s accepted

  within : JobWithin (job_of s)
  within = accepted_within s accepted

  delay_is : (i : ℕ) → 0 < i → i < node_count s → delay_at (put_back s w b) i ≡ cond (leaf (tree_of s) i) w 0
  delay_is i h k =
      ⊎_elim
      (λ (e : leaf (tree_of s) i ≡ true). rw e (leaf-delay_is s w b sized i h k e short))
      (λ (e : leaf (tree_of s) i ≡ false). rw e
      (inner_delay_is s w b sized i h k e ∙ sym (per_node_in (node_count s) (delay_at s) i h k) ∙ within.tree.inner_delays i (link_is (node_count s) i h k) e))
      (true_or_false (leaf (tree_of s) i))

  -- the job that the bytes say is the answered one
  pub answered_bytes : job_of (put_back s w b) ≡ answered_job (job_of s) w b
  answered_bytes =
      let n = node_count s in
      let e = nodes_stay s w b in
      let parents = per_node_cong (node_count (put_back s w b)) n (parent_at (put_back s w b)) (parent_at s) e (λ i h k. parent_stays s w b i h) in
      let delays = delays_are (tree_of s) (node_count (put_back s w b)) w (delay_at (put_back s w b)) within.tree e delay_is in
      let memories = per_node_cong (node_count (put_back s w b)) n (memory_at (put_back s w b)) b e (λ i h k. memory_is s w b sized i h k (small i (link_is n i h k))) in
      let rates = per_node_cong (node_count (put_back s w b)) n (rate_at (put_back s w b)) (rate_at s) e (λ i h k. rate_stays s w b i h) in
      let frames = fun_ext (λ m. frame_stays s w b m) in
      λ x. record {
        tree = record { n = e x; parent = parents x; delay = delays x; memory = memories x; rate = rates x };
        M = frames_stay s w b x;
        frame = frames x;
      }

  -- and it is accepted
  pub answered_read : refusal (put_back s w b) ≡ 0
  answered_read =
      accepted_if (put_back s w b)
      (head_stays s w b ∙ head_right s accepted)
      (length-put_back s w b ∙ sized.long ∙ sym (wanted_stays s w b))
      (rw answered_bytes (answered-within (job_of s) w b within short small))
