-- Laws of a row's place in a plan.
use mathlib.Core.Bool.{Bool, true, false, cond, ◌&&◌}
use mathlib.Core.List.{List}
use mathlib.Core.Path.{◌≡◌, refl}
use Prim.Native.Nat.{ℕ, ◌+◌, ◌-◌, ◌*◌, ◌≤◌}
use native.Mathlib.Omega.{arith}
use borrow.Author.Tests.{eq-eqb, ne_eqb, eqb-true}
use lib.Dec.{eqb}
use lib.ListN.{length, length-take}
use Rattle.base.proofs.BoolLaws.{and_left, and_right}
use Rattle.base.proofs.TableLaws.{row_end}
use Rattle.job.specs.Bytes.{job_of}
use Rattle.job.specs.Refusal.{refusal}
use Rattle.job.specs.Tree.{JobData, link, H, plan_length}
use Rattle.job.proofs.TreeLaws.{link_in}
use Rattle.planner.specs.Answer.{row_place, part_at, row_of}
use Rattle.std.proofs.Common.{Some, None, Result, Ok, Err}
use Rattle.std.specs.Result.{result_ok}
use Rattle.job.specs.Read.{Reads, Accepted}
use Rattle.job.specs.declared.Job.{Job}
use Rattle.job.specs.declared.Refusal.{Refusal}
use Rattle.job.proofs.RefusalLaws.{read_accepts, read_refuses}
use Rattle.planner.specs.declared.Place.{Place}

-- ---- a job read or nothing

pub read_some : (s : List ℕ) (r : Result Job Refusal) (job : Job) → result_ok r ≡ Some job → Reads r s → Accepted s job
read_some s (Ok x) job e h = let same : x ≡ job = cc in read_accepts s job (rw same at h)
read_some s (Err x) job e h = cc

pub read_none : (s : List ℕ) (r : Result Job Refusal) → result_ok r ≡ None → Reads r s → refusal s ≡ 0 → ⊥
read_none s (Ok x) e h = cc
read_none s (Err x) e h = read_refuses s x h

-- ---- the place in each case

-- where the job is refused there is none
pub refused_nowhere : (s : List ℕ) (planned i : ℕ) → (refusal s ≡ 0 → ⊥) → row_place s planned i ≡ None
unfolding row_place
refused_nowhere s planned i h = rw (ne_eqb (refusal s) 0 h) refl

-- where there is no such link there is none
pub no_link_nowhere : (s : List ℕ) (planned i : ℕ) → refusal s ≡ 0 → link (job_of s).tree.n i ≡ false → row_place s planned i ≡ None
unfolding row_place
no_link_nowhere s planned i h l = rw (h, l) refl

-- where the plan has another length there is none
pub no_plan_nowhere : (s : List ℕ) (planned i : ℕ) → refusal s ≡ 0 → link (job_of s).tree.n i ≡ true → (planned ≡ plan_length (job_of s) → ⊥)
    → row_place s planned i ≡ None
unfolding row_place
no_plan_nowhere s planned i h l k = rw (h, l, ne_eqb planned (plan_length (job_of s)) k) refl

-- else it is that of row i - 1 of rows of H + 1
pub place_is : (s : List ℕ) (planned i w : ℕ) → refusal s ≡ 0 → link (job_of s).tree.n i ≡ true → planned ≡ plan_length (job_of s) → w ≡ H (job_of s) + 1
    → row_place s planned i ≡ Some (record { start = (i - 1) * w; slots = w })
unfolding row_place
place_is s planned i w h l k e = rw (h, l, eq-eqb planned (plan_length (job_of s)) k, e) refl

-- ---- it lies within the plan, and has no more than H + 1 slots

-- a row ends within a plan of the right length
pub row_inside : (j : JobData) (planned i w : ℕ) → link j.tree.n i ≡ true → planned ≡ plan_length j → w ≡ H j + 1 → (i - 1) * w + w ≤ planned
unfolding plan_length
row_inside j planned i w l k e =
    let (p, q) = link_in j.tree.n i l in
    rw (k, e) (row_end (i - 1) (j.tree.n - 1) (H j + 1) (omega arith))

-- the test of `row_place`, and the place where it holds
abbrev placed : List ℕ → ℕ → ℕ → Bool
placed s planned i = eqb (refusal s) 0 && (link (job_of s).tree.n i && eqb planned (plan_length (job_of s)))

abbrev there : List ℕ → ℕ → Place
there s i = record { start = (i - 1) * (H (job_of s) + 1); slots = H (job_of s) + 1 }

pub place_inside : (s : List ℕ) (planned i : ℕ) (p : Place) → row_place s planned i ≡ Some p → p.start + p.slots ≤ planned
unfolding row_place
place_inside s planned i p = either (placed s planned i) refl
  where
    either : (b : Bool) → placed s planned i ≡ b → cond b (Some (there s i)) None ≡ Some p → p.start + p.slots ≤ planned
    either true h e =
        let r = and_right (eqb (refusal s) 0) _ h in
        let same : there s i ≡ p = cc in
        rw (← same)
        (row_inside (job_of s) planned i (H (job_of s) + 1) (and_left _ _ r)
        (eqb-true planned (plan_length (job_of s)) (and_right (link (job_of s).tree.n i) _ r)) refl)
    either false h e = cc

-- a row has at most H + 1 numbers
pub row_most : (s plan : List ℕ) (i : ℕ) → length (row_of s plan i) ≤ H (job_of s) + 1
unfolding row_of row_place
row_most s plan i = either (placed s (length plan) i)
  where
    either : (b : Bool) → length (part_at (cond b (Some (there s i)) None) plan) ≤ H (job_of s) + 1
    either true = rw length-take (omega arith)
    either false = omega arith
