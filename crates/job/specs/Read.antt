-- What the code's types hold, in terms of the definitions: a job's struct, and what each constructor and the reader give.
use Rattle.std.specs.Prelude.{Bool, cond, List, ◌≡◌, ℕ, Result, Ok, Err, get_or}
use Rattle.base.specs.Table.{tab}
use Rattle.job.specs.Limits.{fewest_nodes, most_nodes, fewest_frames, most_frames, longest_delay, greatest_memory, greatest_rate, greatest_frame}
use Rattle.job.specs.Tree.{Tree, JobData, H, plan_length, TreeWithin, JobWithin}
use Rattle.job.specs.Bytes.{frame_count, frame_at, tree_of, job_of}
use Rattle.job.specs.Refusal.{bad_nodes, bad_frames, bad_parent, bad_delay, large_memory, large_frame, outside, parent_wrong, delay_wrong, amount_wrong, frame_wrong, refusal, number}
use Rattle.job.specs.declared.Refusal.{Refusal}
use Rattle.job.specs.declared.Node.{Node}
use Rattle.job.specs.declared.Job.{Job}
use Rattle.job.specs.declared.Sizes.{Sizes}
use Rattle.job.specs.declared.Limits.{Limits}

-- every bound, as a struct
abbrev pub limits : Limits
limits =
    record {
      fewest_nodes = fewest_nodes;
      most_nodes = most_nodes;
      fewest_frames = fewest_frames;
      most_frames = most_frames;
      longest_delay = longest_delay;
      greatest_memory = greatest_memory;
      greatest_rate = greatest_rate;
      greatest_frame = greatest_frame;
    }

-- the struct that holds a tree and a frame count: place i of each array is node i's
abbrev pub struct_of : Tree → ℕ → Job
struct_of t frames =
    record {
      nodes = t.n;
      frames = frames;
      parent = tab t.parent most_nodes;
      delay = tab t.delay most_nodes;
      memory = tab t.memory most_nodes;
      rate = tab t.rate most_nodes;
    }

-- the tree that a struct holds
abbrev pub tree_in : Job → Tree
tree_in job =
    record {
      n = job.nodes;
      parent = λ i. get_or job.parent i 0;
      delay = λ i. get_or job.delay i 0;
      memory = λ i. get_or job.memory i 0;
      rate = λ i. get_or job.rate i 0;
    }

-- the job that a struct holds, with these frames
abbrev pub job_in : Job → (ℕ → ℕ) → JobData
job_in job frame = record { tree = tree_in job; M = job.frames; frame = frame }

-- a tree of n nodes with nothing in its records
abbrev pub bare_tree : ℕ → Tree
bare_tree n = record { n = n; parent = λ i. 0; delay = λ i. 0; memory = λ i. 0; rate = λ i. 0 }

-- what a reader or a constructor gives: the value where no row of the table applies, else the refusal of that row
abbrev pub Gives : {A : Type 0} → Result A Refusal → ℕ → A → Type 0
Gives (Ok x) row value = (row ≡ 0) × (x ≡ value)
Gives (Err e) row value = number e ≡ row

-- the reader, of any bytes
abbrev pub Reads : Result Job Refusal → List ℕ → Type 0
Reads r s = Gives r (refusal s) (struct_of (tree_of s) (frame_count s))

-- the sizes of a job: n, M, H and the plan's length
abbrev pub sizes_of : JobData → Sizes
sizes_of j = record { nodes = j.tree.n; frames = j.M; last_slot = H j; plan_length = plan_length j }

-- an accepted job and its struct, as a caller of the reader has them
pub record Accepted (s : List ℕ) (job : Job) : Type 0 where
  pub none : refusal s ≡ 0
  pub held : tree_in job ≡ tree_of s
  pub frames : job.frames ≡ frame_count s
  pub tree_within : TreeWithin (tree_in job)
  pub within : JobWithin (job_of s)
  pub same : job_in job (frame_at s) ≡ job_of s

-- the rows of the table that speak of the counts alone, those that speak of one node alone, and that of a frame
abbrev pub size_refusal : ℕ → ℕ → ℕ
size_refusal n M = cond (outside fewest_nodes most_nodes n) bad_nodes (cond (outside fewest_frames most_frames M) bad_frames 0)

abbrev pub node_refusal : ℕ → Bool → Node → ℕ
node_refusal i is_leaf node =
    cond (parent_wrong i node.parent) bad_parent
    (cond (delay_wrong is_leaf node.delay) bad_delay
    (cond (amount_wrong node.memory node.rate) large_memory
    0))

abbrev pub frame_refusal : ℕ → ℕ
frame_refusal size = cond (frame_wrong size) large_frame 0
