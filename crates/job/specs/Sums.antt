-- The sums T(0) to T(M) of a film, as a function of a frame count and as a slice that holds them.
use Rattle.std.specs.Prelude.{List, ◌≡◌, ℕ, ◌+◌, ◌-◌, ◌≤◌, ◌<◌, min, length, get_or}
use Rattle.base.specs.Table.{tab}
use Rattle.job.specs.Limits.{most_frames, greatest_total}
use Rattle.job.specs.Tree.{T, TreeWithin}
use Rattle.job.specs.Bytes.{frame_count, job_of}
use Rattle.job.specs.Read.{tree_in}
use Rattle.job.specs.declared.Job.{Job}

-- What 01 says of T: T(0) is 0, T never falls, and it never passes T(M).
pub record Film (T : ℕ → ℕ) (top : ℕ) : Type 0 where
  pub starts : T 0 ≡ 0
  pub grows : (m k : ℕ) → m ≤ k → T m ≤ T k
  pub under : (m : ℕ) → T m ≤ top

-- ---- a slice that holds T(0) to T(M)

-- T(0) to T(M) of the job that the bytes say
abbrev pub sums_of : List ℕ → List ℕ
sums_of s = tab (T (job_of s)) (frame_count s + 1)

-- rooms for sums: how many each has place for, of which the last is enough for every film
abbrev pub tiny_room : ℕ
tiny_room = 1024

abbrev pub short_room : ℕ
short_room = 4097

abbrev pub middle_room : ℕ
middle_room = 16385

abbrev pub long_room : ℕ
long_room = most_frames + 1

-- T(m): the number at m, and the last one for m above M
unfoldable pub sums_in : List ℕ → ℕ → ℕ
sums_in l m = get_or l (min m (length l - 1)) 0

-- T(M)
unfoldable pub last_in : List ℕ → ℕ
last_in l = get_or l (length l - 1) 0

-- What is asked of such a slice: it isn't empty, it begins with 0, it never falls, and it ends within what the limits allow.
pub record HoldsSums (l : List ℕ) : Type 0 where
  pub some_sum : 0 < length l
  pub starts : get_or l 0 0 ≡ 0
  pub grows : (m k : ℕ) → m ≤ k → k < length l → get_or l m 0 ≤ get_or l k 0
  pub fits : last_in l ≤ greatest_total

-- the sums T(0) to T(M) of a film within the limits
pub record FilmSums (sums : List ℕ) : Type 0 where
  pub holds : HoldsSums sums
  pub frames_to : length sums ≤ most_frames + 1

-- a job's struct within the limits, and the sums of its film
pub record WithSums (job : Job) (sums : List ℕ) : Type 0 where
  pub tree : TreeWithin (tree_in job)
  pub frames_to : job.frames ≤ most_frames
  pub film : HoldsSums sums
  pub long : length sums ≡ job.frames + 1
