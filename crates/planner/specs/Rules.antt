-- Document 01, 'Curves and plan rules': the rules of a plan, what keeps them, and the plan of demand 3.
-- A column gives each link 1 to n-1 a number, what it has carried by the end of one slot. A plan S gives each link a row: S i k.
use Rattle.std.specs.Prelude.{true, ◌≡◌, ℕ, suc, ◌+◌, ◌≤◌, ◌<◌}
use Rattle.job.specs.Tree.{JobData, link, child, leaf, T, H}
use Rattle.smoothing.specs.Row.{peak}
use Rattle.curves.specs.Curves.{D}

module _ (j : JobData) where
  -- P1, from one column to the next: the link into node i does not fall and does not pass T(M)
  abbrev pub P1 : (ℕ → ℕ) → (ℕ → ℕ) → ℕ → Type 0
  P1 before now i = (before i ≤ now i) × (now i ≤ T j j.M)

  -- P2, at slot k: leaf i has what it plays, and no more than that and its memory
  abbrev pub P2 : ℕ → (ℕ → ℕ) → ℕ → Type 0
  P2 k now i = (D j.tree (T j) i k ≤ now i) × (now i ≤ D j.tree (T j) i k + j.tree.memory i)

  -- P3: inner node i has what its child c has, and no more than that and its own memory
  abbrev pub P3 : (ℕ → ℕ) → ℕ → ℕ → Type 0
  P3 now i c = (now c ≤ now i) × (now i ≤ now c + j.tree.memory i)

  -- the column of slot k keeps the rules after the column before it
  pub record ColumnKeeps (k : ℕ) (before now : ℕ → ℕ) : Type 0 where
    pub p1 : (i : ℕ) → link j.tree.n i ≡ true → P1 before now i
    pub p2 : (i : ℕ) → leaf j.tree i ≡ true → P2 k now i
    pub p3 : (i c : ℕ) → 0 < i → child j.tree c i ≡ true → P3 now i c

  -- a plan keeps the rules where P1 to P3 all hold: on every link P1, from 0 at slot 0; at every slot P2 at the leaves, and P3 at the
  -- inner nodes other than the root with each child
  pub record Keeps (S : ℕ → ℕ → ℕ) : Type 0 where
    pub starts : (i : ℕ) → link j.tree.n i ≡ true → S i 0 ≡ 0
    pub p1 : (k : ℕ) → k < H j → (i : ℕ) → link j.tree.n i ≡ true → P1 (λ v. S v k) (λ v. S v (suc k)) i
    pub p2 : (k : ℕ) → k ≤ H j → (i : ℕ) → leaf j.tree i ≡ true → P2 k (λ v. S v k) i
    pub p3 : (k : ℕ) → k ≤ H j → (i c : ℕ) → 0 < i → child j.tree c i ≡ true → P3 (λ v. S v k) i c

  -- the plan of demand 3: it keeps the rules; every plan that keeps them has on every link a peak at least as large;
  -- and every one of those with the same peaks has sent at least as much on each link by each slot
  pub record Best (S : ℕ → ℕ → ℕ) : Type 0 where
    pub keeps : Keeps S
    pub least_peaks : (S' : ℕ → ℕ → ℕ) → Keeps S' → (i : ℕ) → link j.tree.n i ≡ true → peak (H j) (S i) ≤ peak (H j) (S' i)
    pub least_sent : (S' : ℕ → ℕ → ℕ) → Keeps S'
        → ((i : ℕ) → link j.tree.n i ≡ true → peak (H j) (S' i) ≡ peak (H j) (S i))
        → (i : ℕ) → link j.tree.n i ≡ true → (k : ℕ) → k ≤ H j → S i k ≤ S' i k
