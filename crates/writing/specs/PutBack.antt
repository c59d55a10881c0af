-- Document 01, 'To put an answer back': w as every leaf's delay and the memories given written into the job bytes, all else as it was.
use Rattle.std.specs.Prelude.{Bool, cond, not, List, Result, Ok, Err, ◌≡◌, ℕ, zero, suc, ◌+◌, ◌-◌, ◌/◌, ◌%◌, eqb, ltb, length, get_or, set}
use Rattle.base.specs.Range.{fold, some}
use Rattle.base.specs.Set.{has}
use Rattle.job.specs.Limits.{longest_delay, greatest_memory}
use Rattle.job.specs.Tree.{Tree, JobData, link, leaf}
use Rattle.job.specs.Bytes.{record_place, node_count, per_node, tree_of, job_of}
use Rattle.job.specs.declared.Refusal.{Refusal}
use Rattle.job.specs.Refusal.{number, bad_delay, large_memory, bad_lent, refusal}
use Rattle.job.specs.Steps.{or_else}

-- s with the number x in the `width` bytes from `place` on, the most significant first
unfoldable pub written : List ℕ → ℕ → ℕ → ℕ → List ℕ
written s place zero x = s
written s place (suc width) x = set (written s place width (x / 256)) (place + width) (x % 256)

-- the bytes s with what an answer changes in node i's record: the delay w where the node is a leaf, and the memory
abbrev pub record_with : List ℕ → ℕ → Bool → ℕ → ℕ → List ℕ
record_with s i is_leaf w memory = written (cond is_leaf (written s (record_place i + 1) 2 w) s) (record_place i + 3) 8 memory

unfoldable pub record_put : Tree → ℕ → (ℕ → ℕ) → List ℕ → ℕ → List ℕ
record_put t w b s i = record_with s i (leaf t i) w (b i)

-- to put an answer back: w as every leaf's delay and the memories b written into the job, all else as it was
unfoldable pub put_back : List ℕ → ℕ → (ℕ → ℕ) → List ℕ
put_back s w b = fold (record_put (tree_of s) w b) s (link (node_count s)) (node_count s)

-- the job with w as every leaf's delay and the memories b, all else as it was
abbrev pub answered_job : JobData → ℕ → (ℕ → ℕ) → JobData
answered_job j w b =
    record {
      tree =
          record {
            n = j.tree.n;
            parent = j.tree.parent;
            delay = λ i. cond (leaf j.tree i) w 0;
            memory = per_node j.tree.n b;
            rate = j.tree.rate;
          };
      M = j.M;
      frame = j.frame;
    }

-- the memory that a list with the memories of nodes 1 to n-1 has for node i
abbrev pub memories_in : List ℕ → ℕ → ℕ
memories_in l i = get_or l (i - 1) 0

-- some number of a list is too large a memory, whatever the list's length
abbrev pub some_memory_wrong : List ℕ → Bool
some_memory_wrong l = some (λ k. ltb greatest_memory (get_or l k 0)) (length l)

-- the first refusal that applies to putting back: 1 to 10 of the job as it is, 8 where w is too long a delay, 9 where a number of the lent
-- list is too large, 11 where the list isn't n-1 long
unfoldable pub put_back_refusal : List ℕ → ℕ → List ℕ → ℕ
put_back_refusal s w memories =
    or_else (refusal s)
    (cond (ltb longest_delay w) bad_delay
    (cond (some_memory_wrong memories) large_memory
    (cond (not (eqb (length memories) (node_count s - 1))) bad_lent
    0)))

-- What putting back gives for bytes s, a delay w and a lent list, and the bytes after it. The first refusal that applies, and the bytes are
-- as before; or none applies, the answer is put back, and the bytes are those of the answered job.
abbrev pub Puts : List ℕ → ℕ → List ℕ → Result (Unit {0}) Refusal → List ℕ → Type 0
Puts s w memories (Err e) after = (number e ≡ put_back_refusal s w memories) × (after ≡ s)
Puts s w memories (Ok done) after =
    (put_back_refusal s w memories ≡ 0)
    × ((after ≡ put_back s w (memories_in memories))
    × ((refusal after ≡ 0) × (job_of after ≡ answered_job (job_of s) w (memories_in memories))))

-- what `put_records` is handed: an accepted job, its node count and its leaves, and a memory for each node 1 to n-1
pub record Puttable (s : List ℕ) (nodes leaves : ℕ) (memories : List ℕ) : Type 0 where
  pub none : refusal s ≡ 0
  pub count : nodes ≡ node_count s
  pub leaf_set : (k : ℕ) → has leaves k ≡ leaf (tree_of s) k
  pub long : length memories ≡ nodes - 1
