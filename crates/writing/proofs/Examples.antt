-- The definitions computed on a small job: node 1 under the root, leaf 2 under node 1, one frame. Expected values are written from document 01.
use mathlib.Core.List.{List, [], ◌∷◌}
use mathlib.Core.Path.{◌≡◌, refl}
use Prim.Native.Nat.{ℕ, ◌+◌}
use Rattle.base.specs.Number.{number}
use Rattle.base.specs.Range.{some, fold}
use Rattle.job.specs.Tree.{link, child, has_child, leaf}
use Rattle.job.specs.Bytes.{mark, version, node_count, frame_count, parent_at, delay_at, memory_at, rate_at, frame_at, wanted_length, per_node}
use Rattle.job.specs.Limits.{greatest_memory}
use Rattle.job.specs.Refusal.{refusal}
use Rattle.writing.specs.PutBack.{written, record_put, put_back, memories_in, put_back_refusal}

-- the job with these two bytes as node 2's delay and these low bytes of the memories; the rates are 5 and 4
small : ℕ → ℕ → ℕ → ℕ → List ℕ
small high low one two =
    82 ∷ 76 ∷ 89 ∷ 0 ∷ 1 ∷ 3 ∷ 0 ∷ 0 ∷ 0 ∷ 1
    ∷ (0 ∷ 0 ∷ 0 ∷ 0 ∷ 0 ∷ 0 ∷ 0 ∷ 0 ∷ 0 ∷ 0 ∷ one ∷ 0 ∷ 0 ∷ 0 ∷ 0 ∷ 0 ∷ 0 ∷ 0 ∷ 5
    ∷ (1 ∷ high ∷ low ∷ 0 ∷ 0 ∷ 0 ∷ 0 ∷ 0 ∷ 0 ∷ 0 ∷ two ∷ 0 ∷ 0 ∷ 0 ∷ 0 ∷ 0 ∷ 0 ∷ 0 ∷ 4
    ∷ (0 ∷ 0 ∷ 0 ∷ 4 ∷ [])))

-- the most significant byte first, and the rest of the bytes as they were
in_bytes : written (9 ∷ 9 ∷ 9 ∷ 9 ∷ []) 1 2 258 ≡ (9 ∷ 1 ∷ 2 ∷ 9 ∷ [])
unfolding written
in_bytes = refl

-- the delay goes to the leaf alone, and each memory to its node
put : put_back (small 0 3 4 6) 258 (memories_in (7 ∷ 9 ∷ [])) ≡ small 1 2 7 9
unfolding small written record_put put_back number some fold link child has_child leaf node_count parent_at delay_at memory_at rate_at per_node
put = refl

-- none; 8 before 9 and 11, 9 before 11 also past the last node, 11; and a refusal of the job before all
refusals :
    (put_back_refusal (small 0 3 4 6) 4096 (7 ∷ greatest_memory ∷ [])
    ∷ put_back_refusal (small 0 3 4 6) 4097 ((greatest_memory + 1) ∷ [])
    ∷ put_back_refusal (small 0 3 4 6) 4096 (7 ∷ 9 ∷ (greatest_memory + 1) ∷ [])
    ∷ put_back_refusal (small 0 3 4 6) 4096 (7 ∷ [])
    ∷ put_back_refusal (small 17 3 4 6) 4096 ((greatest_memory + 1) ∷ [])
    ∷ put_back_refusal [] 4097 ((greatest_memory + 1) ∷ [])
    ∷ [])
    ≡ (0 ∷ 8 ∷ 9 ∷ 11 ∷ 8 ∷ 1 ∷ [])
unfolding small put_back_refusal refusal number some link child has_child leaf mark version node_count frame_count parent_at delay_at memory_at rate_at frame_at wanted_length per_node
refusals = refl
