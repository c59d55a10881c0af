-- The memories answered: their least ways are what the nodes are asked for, they have the least total, and of all that have it they are
-- the least in order.
use mathlib.Core.Path.{◌≡◌, refl, sym, ap, ◌∙◌}
use mathlib.Core.Logic.{◌≢◌, ◌⊎◌, inl, inr, ⊎_elim, ◌↔◌}
use mathlib.Core.Bool.{true, false}
use Prim.Native.Nat.{ℕ, ◌≤◌, ◌<◌, max}
use native.Mathlib.Omega.{arith}
use native.Mathlib.Decide.{ℕ_discrete}
use Rattle.base.specs.Range.{least_over}
use Rattle.base.proofs.BoolLaws.{true_or_false, lt_or_le}
use Rattle.base.proofs.RangeLaws.{some-passes, least_over-below, least_over-above, least_over_attained, least_over_cong}
use Rattle.base.proofs.CountLaws.{how_many-some, pass_two, Pair, pair_up_to, up_to_pair}
use Rattle.smoothing.specs.Tree.{Link, child, child_count, leaf, least_way}
use Rattle.smoothing.specs.Choice.{second_need, handed, ask, chosen}
use Rattle.smoothing.specs.Plan.{Optimal, KeepsRates, plan}
use Rattle.smoothing.specs.Rates.{RateQuestion, WellFormedRates, problem_with, Serves, FastEnough, need, Covers, SparesNothing}
use Rattle.smoothing.specs.Rates.{LeastTotal, memory, LeastMemories}
use Rattle.smoothing.proofs.OptimalLaws.{optimal_if_any, optimal_keeps-rates}
use Rattle.smoothing.proofs.BelowLaws.{child_is, child_of, child_parts, inner_some, from_children, from-parent}
use Rattle.smoothing.proofs.WayLaws.{way_next, way_leaf}
use Rattle.smoothing.proofs.NeedLaws.{need-parent}
use Rattle.smoothing.proofs.ServeLaws.{problem_with_well_formed}
use Rattle.smoothing.proofs.CoverLaws.{carried_fast, serves_covers}
use Rattle.smoothing.proofs.TotalLaws.{total_needed, spares_total, total_spares}
use Rattle.smoothing.proofs.ChoiceLaws.{second_least, second_is, handed-leaf, handed_one, handed_more, handed-under, ask_root, ask_next}

module _ (Q : RateQuestion) (good : WellFormedRates Q) (w : ℕ) where
  open Q use {n, parent, r}
  open good use {ordered}

  abbrev asked : ℕ → ℕ
  asked = ask n parent (need Q w)

  -- what v hands on of what it is asked for
  abbrev onward : ℕ → ℕ
  onward v = handed n parent (need Q w) v (asked v)

  -- ---- what each node is asked for is its least way

  need_asked : (v : ℕ) → Link n v → need Q w v ≤ asked v
  need_asked v h = go (ℕ_discrete (parent v) 0)
    where
      go : Dec (parent v ≡ 0) → need Q w v ≤ asked v
      go (yes e) = omega (arith, ask_root n parent (need Q w) v e)
      go (no ne) = omega (arith, ask_next n parent (need Q w) ordered v h ne)

  -- a child c of v, with its ask
  child_asked : (v c : ℕ) → Link n v → c < n → child parent v c ≡ true → Link n c × (parent c ≡ v) × (asked c ≡ max (need Q w c) (onward v))
  child_asked v c h l q =
      let (p, e) = child_parts n parent c v q in
      ((p, l), e, rw e at (ask_next n parent (need Q w) ordered c (p, l) (omega (arith, e, h))))

  -- two children with needs of at most the second least
  second_pair : (v : ℕ) → 1 < child_count n parent v
      → (i : ℕ) × (j : ℕ) × Pair (child parent v) (need Q w) n i j × (need Q w j ≤ second_need n parent (need Q w) v)
  second_pair v many = pair_up_to (child parent v) (need Q w) (second_need n parent (need Q w) v) n (second_is n parent (need Q w) v many)

  -- of the children's asks the least is what is handed on: no ask is less, and a child of the least need has no more
  least_asked : (v : ℕ) → Link n v → leaf n parent v ≡ false → least_over (child parent v) asked n ≡ onward v
  least_asked v h e =
      let any = inner_some n parent v e in
      let (m, l, q, low) = least_over_attained (child parent v) (need Q w) n any in
      let (g, is, own) = child_asked v m h l q in
      let down : need Q w m ≤ asked v =
      omega (arith, need_asked v h, need-parent Q good w m g (omega (arith, is, h)), ap (need Q w) is) in
      let few : need Q w m ≤ onward v =
      ⊎_elim
      (λ (many : 1 < child_count n parent v).
      let (i, j, pair, up_to_lem) = second_pair v many in
      omega (
        arith,
        low,
        down,
        up_to_lem,
        pair.no_less,
        handed_more n parent (need Q w) v (asked v) many,
        least_over-below (child parent v) (need Q w) n i pair.first_in pair.first_passes,
      ))
      (λ (one : child_count n parent v ≤ 1).
      omega (arith, down, handed_one n parent (need Q w) v (asked v) (omega (arith, how_many-some (child parent v) n any))))
      (lt_or_le 1 (child_count n parent v)) in
      omega (
        arith,
        own,
        few,
        least_over-below (child parent v) asked n m l q,
        least_over-above (child parent v) asked n (onward v) any (λ c i s. omega (arith, (child_asked v c h i s).2)),
      )

  way_asked : (v : ℕ) → Link n v → least_way n parent (memory Q w) v ≡ asked v
  unfolding chosen
  way_asked =
      from_children n parent ordered (λ v. least_way n parent (memory Q w) v ≡ asked v) λ v h below.
      ⊎_elim
      (λ e. omega (arith, way_leaf n parent ordered (memory Q w) v h.1 e, handed-leaf n parent (need Q w) v (asked v) e))
      (λ e.
      let same : least_over (child parent v) (least_way n parent (memory Q w)) n ≡ least_over (child parent v) asked n =
      least_over_cong (child parent v) (least_way n parent (memory Q w)) asked n
      (λ c l q. let (g, is, own) = child_asked v c h l q in below c g is) in
      omega (
        arith,
        way_next n parent ordered (memory Q w) v h.1,
        same,
        least_asked v h e,
        handed-under n parent (need Q w) v (asked v),
      ))
      (true_or_false (leaf n parent v))

  -- ---- so they cover the needs, and nothing that can be spared

  memory_covers : Covers Q w (memory Q w)
  memory_covers v h = omega (arith, way_asked v h, need_asked v h)

  -- of two children of u, one needs no less than is handed on
  handed_pair : (u b c : ℕ) → Pair (child parent u) (need Q w) n b c → onward u ≤ need Q w c
  handed_pair u b c h =
      omega (
        arith,
        handed_more n parent (need Q w) u (asked u)
            (pass_two (child parent u) n b c h.differ h.first_in h.second_in h.first_passes h.second_passes),
        second_least n parent (need Q w) u (need Q w c) (up_to_pair (child parent u) (need Q w) (need Q w c) n b c h (omega arith)),
      )

  memory_spares : SparesNothing Q w (memory Q w)
  memory_spares = record {
    at_root = λ v h e. way_asked v h ∙ ask_root n parent (need Q w) v e;
    at_sisters = λ u v h g ne e top less.
        let o = ordered v g in
        let i : Link n (parent v) = (omega arith, omega arith) in
        let own = child_is n parent u (parent v) h e in
        let own' = child_of n parent v g in
        let pair : Pair (child parent (parent v)) (need Q w) n u v = record {
          first_in = h.1;
          second_in = g.1;
          first_passes = own;
          second_passes = own';
          differ = ne;
          no_less = less;
        } in
        omega (
          arith,
          handed_pair (parent v) u v pair,
          (child_asked (parent v) u i h.1 own).2,
          (child_asked (parent v) v i g.1 own').2,
          way_asked u h,
          way_asked v g,
        );
  }

  -- ---- the theorems

  -- a delay serves with some memories just where the links are fast enough for it
  pub serves_fast : ((b : ℕ → ℕ) × Serves Q w b) ↔ FastEnough Q w
  serves_fast = (
    λ given. carried_fast Q good w given.0 given.1.0 given.1.1,
    λ fast. (memory Q w, (serves_covers Q good w fast (memory Q w)).1 memory_covers),
  )

  -- where the links are fast enough, those with the least total are just those that cover the needs and nothing that can be spared
  pub least_totals : FastEnough Q w → (b : ℕ → ℕ) → LeastTotal Q w b ↔ (Covers Q w b × SparesNothing Q w b)
  least_totals fast b = (
    λ least.
        let covers = (serves_covers Q good w fast b).0 least.0 in
        let less = least.1 (memory Q w) ((serves_covers Q good w fast (memory Q w)).1 memory_covers) in
        (covers, total_spares Q good w b covers (omega (arith, less, spares_total Q good w (memory Q w) memory_covers memory_spares))),
    λ both. (
      (serves_covers Q good w fast b).1 both.0,
      λ b' served.
          omega (
            arith,
            spares_total Q good w b both.0 both.1,
            total_needed Q good w b' ((serves_covers Q good w fast b').0 served),
          ),
    ),
  )

  -- ---- other memories with the least total, which agree with ours at the nodes before v

  module _ (b : ℕ → ℕ) (covers : Covers Q w b) (spares : SparesNothing Q w b) where
    abbrev way : ℕ → ℕ
    way = least_way n parent b

    -- a child of u has as much as it is asked for, where u has
    child_way : (u v : ℕ) → Link n u → Link n v → parent v ≡ u → least_over (child parent u) way n ≡ onward u → way v ≡ asked v
    child_way u v h g is least =
        let own = child_is n parent v u g is in
        let (c, l, q, at) = least_over_attained (child parent u) way n (some-passes (child parent u) n v g.1 own) in
        let (i, is', x) = child_asked u c h l q in
        let (j, is'', ours) = child_asked u v h g.1 own in
        omega (
          arith,
          ours,
          covers v g,
          least,
          least_over-below (child parent u) way n v g.1 own,
          most c i is' at (ℕ_discrete c v) (lt_or_le (need Q w v) (need Q w c)),
        )
      where
        most : (c : ℕ) → Link n c → parent c ≡ u → least_over (child parent u) way n ≡ way c → Dec (c ≡ v)
            → (need Q w v < need Q w c) ⊎ (need Q w c ≤ need Q w v) → way v ≤ max (need Q w v) (onward u)
        most c i is' at (yes e) less = omega (arith, at, least, ap way e)
        most c i is' at (no ne) (inl less) =
            omega (arith, at, least, spares.at_sisters v c g i (λ e. ne (sym e)) (is ∙ sym is') (omega (arith, is', h)) (omega arith))
        most c i is' at (no ne) (inr less) =
            omega (arith, spares.at_sisters c v i g ne (is' ∙ sym is) (omega (arith, is, h)) less)

    -- so going down from the root
    asked_before : (v : ℕ) → ((u : ℕ) → Link n u → u < v → b u ≡ memory Q w u) → (x : ℕ) → Link n x → x ≤ v → way x ≡ asked x
    unfolding chosen
    asked_before v same =
        from-parent n parent ordered (λ x. x ≤ v → way x ≡ asked x) λ x h above l.
        let o = ordered x h in
        step x h l above (ℕ_discrete (parent x) 0)
      where
        step : (x : ℕ) → Link n x → x ≤ v → (parent x ≢ 0 → parent x ≤ v → way (parent x) ≡ asked (parent x)) → Dec (parent x ≡ 0)
            → way x ≡ asked x
        step x h l above (yes e) = spares.at_root x h e ∙ sym (ask_root n parent (need Q w) x e)
        step x h l above (no ne) =
            let o = ordered x h in
            let g : Link n (parent x) = (omega arith, omega arith) in
            child_way (parent x) x g h refl
            (omega (
              arith,
              above ne (omega arith),
              way_next n parent ordered b (parent x) g.1,
              same (parent x) g (omega arith),
              handed-under n parent (need Q w) (parent x) (asked (parent x)),
            ))

    -- no less at v than ours
    no_less : (v : ℕ) → Link n v → way v ≡ asked v → memory Q w v ≤ b v
    unfolding chosen
    no_less v h is =
        ⊎_elim
        (λ e. omega (arith, is, way_leaf n parent ordered b v h.1 e))
        (λ e. ⊎_elim
        (λ (many : 1 < child_count n parent v).
        let (i, j, pair, up_to_lem) = second_pair v many in
        let (p, own) = child_parts n parent i v pair.first_passes in
        let (q, own') = child_parts n parent j v pair.second_passes in
        omega (
          arith,
          is,
          up_to_lem,
          handed_more n parent (need Q w) v (asked v) many,
          way_next n parent ordered b v h.1,
          least_over-below (child parent v) way n i pair.first_in pair.first_passes,
          spares.at_sisters i j (p, pair.first_in) (q, pair.second_in) pair.differ (own ∙ sym own') (omega (arith, own', h))
              pair.no_less,
        ))
        (λ (one : child_count n parent v ≤ 1).
        omega (arith, handed_one n parent (need Q w) v (asked v) (omega (arith, how_many-some (child parent v) n (inner_some n parent v e)))))
        (lt_or_le 1 (child_count n parent v)))
        (true_or_false (leaf n parent v))

  -- where the links are fast enough, ours have the least total, and of all that have it they are the least in order
  pub memory-least : FastEnough Q w → LeastMemories Q w (memory Q w)
  memory-least fast =
      let ours = (least_totals fast (memory Q w)).1 (memory_covers, memory_spares) in
      record {
        serves = ours.0;
        least_total = ours.1;
        least_in_order = λ b served same v h before.
            let (covers, spares) = (least_totals fast b).0 (served, λ b' also. omega (arith, same, ours.1 b' also)) in
            no_less b covers spares v h (asked_before b covers spares v before v h (omega arith));
      }

  -- where w serves with b, the plan answered for w and b is optimal and passes no link's rate
  pub served_plan : (b : ℕ → ℕ) → Serves Q w b → let P = problem_with Q w b in Optimal P (plan P) × KeepsRates P r (plan P)
  served_plan b served =
      let P = problem_with Q w b in
      let best = optimal_if_any P (problem_with_well_formed Q w good b) served.0 served.1.keeps in
      (best, optimal_keeps-rates P r (plan P) served.0 best served.1)
