-- Laws of the struct that holds a job: what a store does to a field, and that the struct holds the tree.
use mathlib.Core.List.{List}
use mathlib.Core.Path.{◌≡◌, refl, sym, ◌∙◌, fun_ext}
use mathlib.Core.Logic.{⊎_elim}
use Prim.Native.Nat.{ℕ, ◌+◌, ◌*◌, ◌≤◌, ◌<◌}
use native.Mathlib.Omega.{arith}
use lib.ListN.{length, get_or, set, length-set}
use lib.Seq.{ext_get_or, get_or-set_same, get_or-set_other}
use Rattle.base.specs.Table.{tab}
use Rattle.base.proofs.BoolLaws.{lt_or_le}
use Rattle.base.proofs.TableLaws.{length-tab, get_or-tab, get_or-tab_past, tab_cong}
use Rattle.job.specs.Limits.{most_nodes}
use Rattle.job.specs.Tree.{Tree, link}
use Rattle.job.specs.Bytes.{header_width, record_width, frame_width, record_place, frames_place, node_count, frame_count, wanted_length, per_node}
use Rattle.job.specs.Read.{struct_of, tree_in}
use Rattle.job.specs.Steps.{Sized}
use Rattle.job.proofs.TreeLaws.{link_is, link_past}

-- ---- a field of the nodes 1 to n-1

pub per_node_in : (n : ℕ) (f : ℕ → ℕ) (i : ℕ) → 0 < i → i < n → per_node n f i ≡ f i
unfolding per_node
per_node_in n f i h k = rw (link_is n i h k)

pub per_node_root : (n : ℕ) (f : ℕ → ℕ) → per_node n f 0 ≡ 0
unfolding per_node link
per_node_root n f = refl

pub per_node_past : (n : ℕ) (f : ℕ → ℕ) (i : ℕ) → n ≤ i → per_node n f i ≡ 0
unfolding per_node
per_node_past n f i h = rw (link_past n i h)

-- one node more changes only its own place
pub per_node_other : (i : ℕ) (f : ℕ → ℕ) (j : ℕ) → (j ≡ i → ⊥) → per_node (i + 1) f j ≡ per_node i f j
per_node_other i f j ne =
    ⊎_elim
    (λ (h : j < i). ⊎_elim
    (λ (p : 0 < j). per_node_in (i + 1) f j p (omega arith) ∙ sym (per_node_in i f j p h))
    (λ (p : j ≤ 0). let e : j ≡ 0 = omega arith in rw e (per_node_root (i + 1) f ∙ sym (per_node_root i f)))
    (lt_or_le 0 j))
    (λ (h : i ≤ j). per_node_past (i + 1) f j (omega arith) ∙ sym (per_node_past i f j h))
    (lt_or_le j i)

-- before the first node nothing is stored
pub fields_none : (f : ℕ → ℕ) → tab (λ i. 0) most_nodes ≡ tab (per_node 1 f) most_nodes
fields_none f =
    tab_cong (λ i. 0) (per_node 1 f) most_nodes
    (λ j h. ⊎_elim
    (λ (p : 0 < j). sym (per_node_past 1 f j p))
    (λ (p : j ≤ 0). let e : j ≡ 0 = omega arith in rw e (sym (per_node_root 1 f)))
    (lt_or_le 0 j))

-- node i's value is stored at place i
pub fields_more : (f : ℕ → ℕ) (i : ℕ) → 0 < i → i < most_nodes → set (tab (per_node i f) most_nodes) i (f i) ≡ tab (per_node (i + 1) f) most_nodes
fields_more f i h k =
    ext_get_or 0 _ _ (length-set (tab (per_node i f) most_nodes) i (f i) ∙ long i ∙ sym (long (i + 1)))
    (λ j q. let l : j < most_nodes = omega (arith, length-set (tab (per_node i f) most_nodes) i (f i), long i) in
    place j l (native.Mathlib.Decide.ℕ_discrete j i))
  where
    long : (n : ℕ) → length (tab (per_node n f) most_nodes) ≡ most_nodes
    long n = length-tab (per_node n f) most_nodes

    place : (j : ℕ) → j < most_nodes → Dec (j ≡ i)
        → get_or (set (tab (per_node i f) most_nodes) i (f i)) j 0 ≡ get_or (tab (per_node (i + 1) f) most_nodes) j 0
    place j l (yes e) =
        rw e
        (get_or-set_same (tab (per_node i f) most_nodes) i (f i) 0 (omega (arith, long i))
        ∙ sym (get_or-tab (per_node (i + 1) f) most_nodes i k ∙ per_node_in (i + 1) f i h (omega arith)))
    place j l (no ne) =
        get_or-set_other (tab (per_node i f) most_nodes) i j (f i) 0 ne
        ∙ get_or-tab (per_node i f) most_nodes j l
        ∙ sym (get_or-tab (per_node (i + 1) f) most_nodes j l ∙ per_node_other i f j ne)

-- ---- the struct holds the tree

-- an array of 64 gives its function back, where that is 0 past the array
field_back : (f : ℕ → ℕ) → ((i : ℕ) → most_nodes ≤ i → f i ≡ 0) → (λ i. get_or (tab f most_nodes) i 0) ≡ f
field_back f past =
    fun_ext (λ i. ⊎_elim
    (λ (h : i < most_nodes). get_or-tab f most_nodes i h)
    (λ (h : most_nodes ≤ i). get_or-tab_past f most_nodes i h ∙ sym (past i h))
    (lt_or_le i most_nodes))

-- the fields have nothing past the last place of the arrays
pub record Short (t : Tree) : Type 0 where
  pub parents : (i : ℕ) → most_nodes ≤ i → t.parent i ≡ 0
  pub delays : (i : ℕ) → most_nodes ≤ i → t.delay i ≡ 0
  pub memories : (i : ℕ) → most_nodes ≤ i → t.memory i ≡ 0
  pub rates : (i : ℕ) → most_nodes ≤ i → t.rate i ≡ 0

pub struct_holds : (t : Tree) (frames : ℕ) → Short t → tree_in (struct_of t frames) ≡ t
struct_holds t frames h =
    λ x. record {
      n = t.n;
      parent = field_back t.parent h.parents x;
      delay = field_back t.delay h.delays x;
      memory = field_back t.memory h.memories x;
      rate = field_back t.rate h.rates x;
    }

-- ---- places

-- the fields before the records lie within the bytes, and so does each record and each frame
pub header_in : (s : List ℕ) → Sized s → header_width ≤ length s
unfolding wanted_length
header_in s z = omega (arith, z.long)

pub record_in : (s : List ℕ) → Sized s → (i : ℕ) → 0 < i → i < node_count s → record_place i + record_width ≤ length s
unfolding wanted_length
record_in s z i h k = omega (arith, z.long)

pub frame_in : (s : List ℕ) → Sized s → (m : ℕ) → m < frame_count s → frames_place s + frame_width * m + frame_width ≤ length s
unfolding wanted_length
frame_in s z m h = omega (arith, z.long)
