-- The reader's pass over the nodes: after the nodes below i, the struct has their records and the row is the first of 7 to 9 among them.
use mathlib.Core.Bool.{Bool, true, false, cond, ◌&&◌, ◌||◌}
use mathlib.Core.List.{List}
use mathlib.Core.Path.{◌≡◌, refl, sym}
use mathlib.Core.Logic.{⊎_elim}
use Prim.Native.Nat.{ℕ, ◌+◌, ◌<◌}
use lib.Dec.{eqb}
use lib.ListN.{set}
use borrow.Author.Tests.{eqb-true}
use Rattle.base.specs.Range.{some}
use Rattle.base.specs.Table.{tab}
use Rattle.base.proofs.BoolLaws.{true_or_false}
use Rattle.job.specs.Limits.{most_nodes}
use Rattle.job.specs.Tree.{Tree, link, leaf}
use Rattle.job.specs.Bytes.{node_count, frame_count, parent_at, delay_at, memory_at, rate_at, per_node, tree_of}
use Rattle.job.specs.Refusal.{parent_wrong, delay_wrong, amount_wrong}
use Rattle.job.specs.Read.{struct_of, node_refusal}
use Rattle.job.specs.Steps.{node_at, parents_of, sooner}
use Rattle.job.specs.declared.Job.{Job}
use Rattle.job.specs.declared.Node.{Node}
use Rattle.job.proofs.TreeLaws.{some-link-none, some-link_more}
use Rattle.job.proofs.ReadLaws.{fields_none, fields_more, per_node_in}

-- ---- the records

-- the tree that the bytes say, with all parents and with what else the records of the nodes below i have
abbrev pub tree_to : List ℕ → ℕ → Tree
tree_to s i =
    record {
      n = node_count s;
      parent = per_node (node_count s) (parent_at s);
      delay = per_node i (delay_at s);
      memory = per_node i (memory_at s);
      rate = per_node i (rate_at s);
    }

pub records_none : (s : List ℕ) → struct_of (parents_of s) (frame_count s) ≡ struct_of (tree_to s 1) (frame_count s)
records_none s =
    λ x. record {
      nodes = node_count s;
      frames = frame_count s;
      parent = tab (per_node (node_count s) (parent_at s)) most_nodes;
      delay = fields_none (delay_at s) x;
      memory = fields_none (memory_at s) x;
      rate = fields_none (rate_at s) x;
    }

-- what else node i's record has is stored
unfoldable pub stored : Job → ℕ → Node → Job
stored j i node =
    record {
      nodes = j.nodes;
      frames = j.frames;
      parent = j.parent;
      delay = set j.delay i node.delay;
      memory = set j.memory i node.memory;
      rate = set j.rate i node.rate;
    }

pub records_more : (s : List ℕ) (i : ℕ) → 0 < i → i < most_nodes
    → stored (struct_of (tree_to s i) (frame_count s)) i (node_at s i) ≡ struct_of (tree_to s (i + 1)) (frame_count s)
unfolding stored
records_more s i h k =
    λ x. record {
      nodes = node_count s;
      frames = frame_count s;
      parent = tab (per_node (node_count s) (parent_at s)) most_nodes;
      delay = fields_more (delay_at s) i h k x;
      memory = fields_more (memory_at s) i h k x;
      rate = fields_more (rate_at s) i h k x;
    }

-- ---- the rows

-- rows 7, 8 and 9 by what applies
abbrev three : Bool → Bool → Bool → ℕ
three p d a = cond p 7 (cond d 8 (cond a 9 0))

-- the first of rows 7 to 9 among the nodes below i
abbrev pub row_to : Tree → ℕ → ℕ
row_to t i =
    three
    (some (λ k. link t.n k && parent_wrong k (t.parent k)) i)
    (some (λ k. link t.n k && delay_wrong (leaf t k) (t.delay k)) i)
    (some (λ k. link t.n k && amount_wrong (t.memory k) (t.rate k)) i)

pub row-none : (t : Tree) → row_to t 1 ≡ 0
row-none t =
    rw (
      some-link-none t.n (λ k. parent_wrong k (t.parent k)),
      some-link-none t.n (λ k. delay_wrong (leaf t k) (t.delay k)),
      some-link-none t.n (λ k. amount_wrong (t.memory k) (t.rate k)),
    )
    refl

-- of two nodes, or of some nodes and one more, the earlier row
join : (p d a p' d' a' : Bool) → three (p || p') (d || d') (a || a') ≡ sooner (three p d a) (three p' d' a')
join true d a true d' a' = refl
join true d a false true a' = refl
join true d a false false true = refl
join true d a false false false = refl
join false true a true d' a' = refl
join false true a false true a' = refl
join false true a false false true = refl
join false true a false false false = refl
join false false true true d' a' = refl
join false false true false true a' = refl
join false false true false false true = refl
join false false true false false false = refl
join false false false true d' a' = refl
join false false false false true a' = refl
join false false false false false true = refl
join false false false false false false = refl

pub row_more : (s : List ℕ) (i : ℕ) → 0 < i → i < node_count s
    → row_to (tree_of s) (i + 1) ≡ sooner (row_to (tree_of s) i) (node_refusal i (leaf (tree_of s) i) (node_at s i))
row_more s i h k =
    let t = tree_of s in
    rw (
      some-link_more t.n (λ x. parent_wrong x (t.parent x)) i h k,
      some-link_more t.n (λ x. delay_wrong (leaf t x) (t.delay x)) i h k,
      some-link_more t.n (λ x. amount_wrong (t.memory x) (t.rate x)) i h k,
      per_node_in t.n (parent_at s) i h k,
      per_node_in t.n (delay_at s) i h k,
      per_node_in t.n (memory_at s) i h k,
      per_node_in t.n (rate_at s) i h k,
    )
    (join
    (some (λ x. link t.n x && parent_wrong x (t.parent x)) i)
    (some (λ x. link t.n x && delay_wrong (leaf t x) (t.delay x)) i)
    (some (λ x. link t.n x && amount_wrong (t.memory x) (t.rate x)) i)
    (parent_wrong i (parent_at s i))
    (delay_wrong (leaf t i) (delay_at s i))
    (amount_wrong (memory_at s i) (rate_at s i)))

pub sooner-none : (a : ℕ) → sooner a 0 ≡ a
sooner-none a = ⊎_elim (λ (e : eqb a 0 ≡ true). rw e (sym (eqb-true a 0 e))) (λ (e : eqb a 0 ≡ false). rw e refl) (true_or_false (eqb a 0))
