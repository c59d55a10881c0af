-- Laws of one slot: the code's test of a column is document 01's rules, and held bytes as the code computes them.
use mathlib.Core.Bool.{Bool, true, false, not, ◌&&◌, ◌||◌}
use mathlib.Core.Path.{◌≡◌, refl}
use mathlib.Core.Logic.{◌⊎◌, inl, inr, ⊎_elim}
use Prim.Native.Nat.{ℕ, ◌+◌, ◌-◌, ◌≤◌, ◌<◌}
use native.Mathlib.Omega.{arith}
use lib.Dec.{eqb, ltb}
use borrow.Author.Tests.{ltb-true, ltb-false, not-true, ne_eqb, eq-eqb}
use Rattle.base.specs.Range.{some, greatest_over, least_over}
use Rattle.base.proofs.BoolLaws.{true_or_false, not_both, and_left, and_right, or_cases, or_no_left, or_no_right, lt_or_le}
use Rattle.base.proofs.RangeLaws.{greatest_over-above, greatest_over-under, least_over-below, least_over_attained}
use Rattle.job.specs.Tree.{JobData, TreeWithin, link, child, leaf, has_child, T}
use Rattle.job.proofs.TreeLaws.{link_is, link_in, child_is, child_in, leaf_or_child}
use Rattle.job.proofs.SlotLaws.{leaf-link}
use Rattle.smoothing.specs.Tree.{Link}
use Rattle.curves.proofs.LowerLaws.{D-leaf}
use Rattle.planner.specs.Rules.{P1, P2, P3, ColumnKeeps}
use Rattle.running.specs.Work as work
use Rattle.running.specs.Running.{Breaks, held_at}

-- ---- the tests

-- outside: not between the two bounds
outside_is : (x least room : ℕ) → work.outside x least room ≡ true → (least ≤ x) × (x ≤ least + room) → ⊥
outside_is x least room h b =
    ⊎_elim
    (λ (e : ltb x least ≡ true). omega (arith, ltb-true x least e))
    (λ (e : ltb (least + room) x ≡ true). omega (arith, ltb-true (least + room) x e))
    (or_cases (ltb x least) (ltb (least + room) x) h)

outside-not : (x least room : ℕ) → work.outside x least room ≡ false → (least ≤ x) × (x ≤ least + room)
outside-not x least room h =
    omega (
      arith,
      ltb-false x least (or_no_left (ltb x least) (ltb (least + room) x) h),
      ltb-false (least + room) x (or_no_right (ltb x least) (ltb (least + room) x) h),
    )

-- a test that fails, of which the first part passes
and_fails : (a b : Bool) → a ≡ true → (a && b) ≡ false → b ≡ false
and_fails true b e h = h
and_fails false b e h = absurd (not_both e refl)

-- ---- held bytes

-- what is ahead of the least is ahead by the most
ahead : (p : ℕ → Bool) (f : ℕ → ℕ) (x n : ℕ) → some p n ≡ true → greatest_over p (λ c. x - f c) n ≡ x - least_over p f n
ahead p f x n h =
    let (c, l, e, q) = least_over_attained p f n h in
    omega (
      arith,
      greatest_over-above p (λ c. x - f c) n c l e,
      greatest_over-under p (λ c. x - f c) n (x - least_over p f n) (λ i l e. omega (arith, least_over-below p f n i l e)),
    )

module _ (j : JobData) (within : TreeWithin j.tree) (k : ℕ) (before now : ℕ → ℕ) where
  linked : (i : ℕ) → Link j.tree.n i → link j.tree.n i ≡ true
  linked i h = link_is j.tree.n i h.0 h.1

  -- which rule is broken
  abbrev Broken : ℕ → Type 0
  Broken i =
      (P1 j before now i → ⊥)
      ⊎ (((leaf j.tree i ≡ true) × (P2 j k now i → ⊥))
      ⊎ (((c : ℕ) × (child j.tree c i ≡ true) × (P3 j now i c → ⊥)) ⊎ ((u : ℕ) × (0 < u) × (child j.tree i u ≡ true) × (P3 j now u i → ⊥))))

  -- a link that the code's test finds breaks a rule
  pub breach : (i : ℕ) → Link j.tree.n i → work.breaks j.tree (T j) (T j j.M) k before now i ≡ true → Breaks j k before now i
  unfolding work.breaks
  breach i l h = (
    linked i l,
    ⊎_elim
        first
        (λ r. ⊎_elim second third (or_cases (work.breaks_p2 j.tree (T j) k now i) (work.breaks_p3 j.tree now i) r))
        (or_cases (work.breaks_p1 (T j j.M) before now i) (work.breaks_p2 j.tree (T j) k now i || work.breaks_p3 j.tree now i) h),
  )
    where
      first : work.breaks_p1 (T j j.M) before now i ≡ true → Broken i
      first e = inl (λ p. ⊎_elim
          (λ (q : ltb (now i) (before i) ≡ true). omega (arith, ltb-true (now i) (before i) q, p.0))
          (λ (q : ltb (T j j.M) (now i) ≡ true). omega (arith, ltb-true (T j j.M) (now i) q, p.1))
          (or_cases (ltb (now i) (before i)) (ltb (T j j.M) (now i)) e))

      second : work.breaks_p2 j.tree (T j) k now i ≡ true → Broken i
      second e =
          let x : work.outside (now i) (T j (k - j.tree.delay i)) (j.tree.memory i) ≡ true = and_right (leaf j.tree i) _ e in
          let f : leaf j.tree i ≡ true = and_left (leaf j.tree i) (work.outside (now i) (T j (k - j.tree.delay i)) (j.tree.memory i)) e in
          inr (inl (f, λ p. outside_is (now i) (T j (k - j.tree.delay i)) (j.tree.memory i) x (rw (← D-leaf j.tree within (T j) i k f) p)))

      third : work.breaks_p3 j.tree now i ≡ true → Broken i
      third e =
          let u = j.tree.parent i in
          let x : work.outside (now u) (now i) (j.tree.memory u) ≡ true = and_right (not (eqb u 0)) _ e in
          let z : eqb u 0 ≡ false = not-true (eqb u 0) (and_left (not (eqb u 0)) (work.outside (now u) (now i) (j.tree.memory u)) e) in
          inr (inr (inr (u, positive u z, child_is j.tree i u l.0 l.1 refl, λ p. outside_is (now u) (now i) (j.tree.memory u) x p)))
        where
          positive : (u : ℕ) → eqb u 0 ≡ false → 0 < u
          positive u z = ⊎_elim (λ (q : 0 < u). q) (λ (q : u ≤ 0). absurd (not_both (eq-eqb u 0 (omega arith)) z)) (lt_or_le 0 u)

  -- where it finds none the column keeps the rules
  pub no_breach : ((i : ℕ) → Link j.tree.n i → work.breaks j.tree (T j) (T j j.M) k before now i ≡ false) → ColumnKeeps j k before now
  unfolding work.breaks
  no_breach none =
      record {
        p1 = λ i h.
            let e = one i (link_in j.tree.n i h) in
            omega (
              arith,
              ltb-false (now i) (before i) (or_no_left (ltb (now i) (before i)) (ltb (T j j.M) (now i)) e),
              ltb-false (T j j.M) (now i) (or_no_right (ltb (now i) (before i)) (ltb (T j j.M) (now i)) e),
            );
        p2 = λ i f.
            let e = two i (link_in j.tree.n i (leaf-link j.tree within i f)) in
            let plays = T j (k - j.tree.delay i) in
            rw (D-leaf j.tree within (T j) i k f)
            (outside-not (now i) plays (j.tree.memory i) (and_fails (leaf j.tree i) (work.outside (now i) plays (j.tree.memory i)) f e));
        p3 = λ i c p e.
            let (a, b, q) = child_in j.tree c i e in
            rw q at (three c (a, b) (rw q p));
      }
    where
      one : (i : ℕ) → Link j.tree.n i → work.breaks_p1 (T j j.M) before now i ≡ false
      one i l = or_no_left (work.breaks_p1 (T j j.M) before now i) (work.breaks_p2 j.tree (T j) k now i || work.breaks_p3 j.tree now i) (none i l)

      rest : (i : ℕ) → Link j.tree.n i → (work.breaks_p2 j.tree (T j) k now i || work.breaks_p3 j.tree now i) ≡ false
      rest i l = or_no_right (work.breaks_p1 (T j j.M) before now i) (work.breaks_p2 j.tree (T j) k now i || work.breaks_p3 j.tree now i) (none i l)

      two : (i : ℕ) → Link j.tree.n i → work.breaks_p2 j.tree (T j) k now i ≡ false
      two i l = or_no_left (work.breaks_p2 j.tree (T j) k now i) (work.breaks_p3 j.tree now i) (rest i l)

      three : (c : ℕ) → Link j.tree.n c → 0 < j.tree.parent c → P3 j now (j.tree.parent c) c
      three c l p =
          let u = j.tree.parent c in
          let z : not (eqb u 0) ≡ true = rw (ne_eqb u 0 (λ q. omega arith)) in
          let e = or_no_right (work.breaks_p2 j.tree (T j) k now c) (work.breaks_p3 j.tree now c) (rest c l) in
          outside-not (now u) (now c) (j.tree.memory u) (and_fails (not (eqb u 0)) (work.outside (now u) (now c) (j.tree.memory u)) z e)

  -- and a column that breaks a rule does not keep them
  pub breach_refutes : (i : ℕ) → Breaks j k before now i → ColumnKeeps j k before now → ⊥
  breach_refutes i (h, b) keeps =
      ⊎_elim
      (λ x. x (keeps.p1 i h))
      (λ r. ⊎_elim
      (λ x. x.1 (keeps.p2 i x.0))
      (λ r. ⊎_elim
      (λ x. let (c, e, never) = x in never (keeps.p3 i c (link_in j.tree.n i h).0 e))
      (λ x. let (u, p, e, never) = x in never (keeps.p3 u i p e))
      r)
      r)
      b

  -- a node that is no leaf has a child
  inner_some : (i : ℕ) → i < j.tree.n → leaf j.tree i ≡ false → some (λ c. child j.tree c i) j.tree.n ≡ true
  unfolding has_child
  inner_some i l e = ⊎_elim (λ (f : leaf j.tree i ≡ true). absurd (not_both f e)) (λ f. f) (leaf_or_child j.tree i l)

  -- the held bytes, as the code computes them
  pub held_is : (i : ℕ) → Link j.tree.n i → work.held j.tree (T j) k now i ≡ held_at j k now i
  unfolding work.held held_at
  held_is i l =
      ⊎_elim
      (λ (e : leaf j.tree i ≡ true). rw (e, D-leaf j.tree within (T j) i k e))
      (λ (e : leaf j.tree i ≡ false). rw e (ahead (λ c. child j.tree c i) now (now i) j.tree.n (inner_some i l.1 e)))
      (true_or_false (leaf j.tree i))

  -- held bytes are within a node's memory where the column keeps the rules
  pub held_within : ColumnKeeps j k before now → (i : ℕ) → Link j.tree.n i → held_at j k now i ≤ j.tree.memory i
  unfolding held_at
  held_within keeps i l =
      ⊎_elim
      (λ (e : leaf j.tree i ≡ true). rw e (omega (arith, (keeps.p2 i e).1)))
      (λ (e : leaf j.tree i ≡ false).
      let (c, b, h, q) = least_over_attained (λ c. child j.tree c i) now j.tree.n (inner_some i l.1 e) in
      rw e (omega (arith, (keeps.p3 i c l.0 h).1)))
      (true_or_false (leaf j.tree i))
