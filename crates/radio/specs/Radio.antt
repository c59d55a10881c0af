-- Document 02, L1: a link that sends R bytes in every slot until the film is through, into one screen; and a delay and a memory of that
-- screen that serve at the rate R. R, d and b are any whole numbers.
use Rattle.std.specs.Prelude.{cond, List, [], ◌∷◌, ℕ, ◌+◌, ◌-◌, ◌*◌, ◌≤◌, min, ltb, length, get_or}
use Rattle.base.specs.Table.{rows_of}
use Rattle.job.specs.Limits.{longest_delay}
use Rattle.job.specs.Tree.{JobData, T}
use Rattle.smoothing.specs.Row.{greatest_excess}
use Rattle.planner.specs.Rules.{Keeps}
use Rattle.pacing.specs.Pace.{delay_at, no_delay}

-- what the link has carried by slot k, of a film that totals `top`: the smaller of R × k and T(M)
abbrev pub carried : ℕ → ℕ → ℕ → ℕ
carried top R k = min (R * k) top

-- ---- what a delay and a memory are worth

-- the job of a root and one leaf with the film of j, the delay d and the memory b of the leaf, and the rate R of its link
abbrev pub one_screen : JobData → ℕ → ℕ → ℕ → JobData
one_screen j R d b =
    record { tree = record { n = 2; parent = λ i. 0; delay = λ i. d; memory = λ i. b; rate = λ i. R }; M = j.M; frame = j.frame }

-- a delay d and a memory b serve at the rate R: what the link carries keeps the rules of a plan of that job
abbrev pub ServesAt : JobData → ℕ → ℕ → ℕ → Type 0
ServesAt j R d b = Keeps (one_screen j R d b) (λ i k. carried (T j j.M) R k)

-- d and b are the least at the rate R: they serve, and no delay and memory with either of them smaller do
pub record Least (j : JobData) (R d b : ℕ) : Type 0 where
  pub serves : ServesAt j R d b
  pub least-delay : (d' b' : ℕ) → ServesAt j R d' b' → d ≤ d'
  pub least_memory : (d' b' : ℕ) → ServesAt j R d' b' → b ≤ b'

-- ---- the delay and the memory answered

-- of a film of M frames: T m is T(m)
module _ (M : ℕ) (T : ℕ → ℕ) where
  -- the memory with the delay d: the greatest excess, over slots 0 to M + d, of what the link has carried over what is played
  unfoldable pub memory_at : ℕ → ℕ → ℕ
  memory_at R d = greatest_excess (M + d) (carried (T M) R) (λ k. T (k - d))

  -- the line of the rate R with the delay d: 0, d and the memory with it; 13 and zeros where d is past the longest
  unfoldable pub line_with : ℕ → ℕ → List ℕ
  line_with R d = cond (ltb longest_delay d) (no_delay ∷ 0 ∷ 0 ∷ []) (0 ∷ d ∷ memory_at R d ∷ [])

  -- the line of the rate R: with the least delay that is in time
  unfoldable pub line_of : ℕ → List ℕ
  line_of R = line_with R (delay_at R M T)

  -- the lines in the order of the rates
  abbrev pub lines_of : List ℕ → List ℕ
  lines_of rates = rows_of (λ i. line_of (get_or rates i 0)) (length rates)

-- those of the film of a job
abbrev pub lines_for : JobData → List ℕ → List ℕ
lines_for j rates = lines_of j.M (T j) rates
