-- Laws of a slice that holds T(0) to T(M).
use mathlib.Core.Path.{◌≡◌, ap, sym, ◌∙◌, fun_ext}
use mathlib.Core.List.{List}
use mathlib.Core.Logic.{⊎_elim}
use Prim.Native.Nat.{ℕ, ◌+◌, ◌-◌, ◌≤◌, ◌<◌, min}
use native.Mathlib.Omega.{arith}
use lib.ListN.{length, get_or}
use Rattle.base.specs.Table.{tab}
use Rattle.base.proofs.BoolLaws.{lt_or_le}
use Rattle.base.proofs.TableLaws.{length-tab, get_or-tab}
use Rattle.job.specs.Limits.{greatest_total}
use Rattle.job.specs.Tree.{JobData, JobWithin, T}
use Rattle.job.proofs.SlotLaws.{T-zero, T_past, T_le, T_top, T-fits}
use Rattle.job.specs.Bytes.{frame_count, job_of}
use Rattle.job.specs.Read.{Accepted}
use Rattle.job.specs.Sums.{Film, HoldsSums, FilmSums, WithSums, sums_in, last_in, sums_of}
use Rattle.job.specs.declared.Job.{Job}

-- the numbers that it holds are a film's
pub film_of : (l : List ℕ) → HoldsSums l → Film (sums_in l) (last_in l)
unfolding sums_in last_in
film_of l h = record {
  starts = let e : min 0 (length l - 1) ≡ 0 = omega arith in rw e h.starts;
  grows = λ m k q. h.grows (min m (length l - 1)) (min k (length l - 1)) (omega arith) (omega (arith, h.some_sum));
  under = λ m. h.grows (min m (length l - 1)) (length l - 1) (omega arith) (omega (arith, h.some_sum));
}

-- and end with T(M)
pub film-to : (l : List ℕ) → HoldsSums l → (M : ℕ) → length l ≡ M + 1 → Film (sums_in l) (sums_in l M)
unfolding sums_in last_in
film-to l h M long = let e : min M (length l - 1) ≡ length l - 1 = omega arith in rw e (film_of l h)

-- a number of the slice is T at its place
pub sum_at : (l : List ℕ) (m : ℕ) → m < length l → get_or l m 0 ≡ sums_in l m
unfolding sums_in
sum_at l m h = let e : min m (length l - 1) ≡ m = omega arith in rw e

-- T is at most what the limits allow
pub sum_fits : (l : List ℕ) → HoldsSums l → (m : ℕ) → sums_in l m ≤ greatest_total
sum_fits l h m = omega (arith, (film_of l h).under m, h.fits)

-- and so is every number of the slice
pub place-fits : (l : List ℕ) → HoldsSums l → (m : ℕ) → m < length l → get_or l m 0 ≤ greatest_total
unfolding last_in
place-fits l h m q = omega (arith, h.grows m (length l - 1) (omega arith) (omega arith), h.fits)

-- ---- of a job within the limits

-- a film is a film
pub job-film : (j : JobData) → Film (T j) (T j j.M)
job-film j = record { starts = T-zero j; grows = T_le j; under = T_top j }

-- the slice with T(0) to T(M) gives T
pub sums_of_lem : (j : JobData) → sums_in (tab (T j) (j.M + 1)) ≡ T j
unfolding sums_in
sums_of_lem j = fun_ext (λ m.
    let e : length (tab (T j) (j.M + 1)) - 1 ≡ j.M = rw length-tab (omega arith) in
    rw e (get_or-tab (T j) (j.M + 1) (min m j.M) (omega arith)
    ∙ ⊎_elim
    (λ (q : m < j.M). ap (T j) (omega arith))
    (λ (q : j.M ≤ m). let d : min m j.M ≡ j.M = omega arith in rw d (sym (T_past j m q)))
    (lt_or_le m j.M)))

pub last_of : (j : JobData) → last_in (tab (T j) (j.M + 1)) ≡ T j j.M
unfolding last_in
last_of j =
    let e : length (tab (T j) (j.M + 1)) - 1 ≡ j.M = rw length-tab (omega arith) in
    rw e (get_or-tab (T j) (j.M + 1) j.M (omega arith))

pub job_sums : (j : JobData) → JobWithin j → HoldsSums (tab (T j) (j.M + 1))
job_sums j w =
    let e = length-tab (T j) (j.M + 1) in
    record {
      some_sum = rw e (omega arith);
      starts = get_or-tab (T j) (j.M + 1) 0 (omega arith) ∙ T-zero j;
      grows = λ m k q h. rw (get_or-tab (T j) (j.M + 1) m (omega arith), get_or-tab (T j) (j.M + 1) k (omega arith)) (T_le j m k q);
      fits = rw (last_of j) (T-fits j w j.M);
    }

-- the sums of an accepted job are those of its struct
pub with_sums : (s : List ℕ) (job : Job) → Accepted s job → WithSums job (sums_of s)
with_sums s job acc = record {
  tree = acc.tree_within;
  frames_to = omega (arith, acc.frames, acc.within.frames_to);
  film = job_sums (job_of s) acc.within;
  long = length-tab (T (job_of s)) (frame_count s + 1) ∙ omega (arith, acc.frames);
}

-- and those of a film within the limits
pub film_sums : (job : Job) (sums : List ℕ) → WithSums job sums → FilmSums sums
film_sums job sums with = record { holds = with.film; frames_to = omega (arith, with.long, with.frames_to) }
