-- What the total of memories that cover the needs is made of, and which have the least.
use mathlib.Core.Path.{◌≡◌, refl, ap, sym, ◌∙◌}
use mathlib.Core.Logic.{◌≢◌, ⊎_elim}
use mathlib.Core.Bool.{true}
use Prim.Native.Nat.{ℕ, ◌+◌, ◌-◌, ◌≤◌, ◌<◌}
use native.Mathlib.Omega.{arith}
use native.Mathlib.Decide.{ℕ_discrete}
use lib.Dec.{ltb}
use borrow.Author.Tests.{lt-ltb, ltb-true}
use Rattle.base.specs.Range.{some, sum_over, least_over}
use Rattle.base.proofs.BoolLaws.{true_or_false, not_both}
use Rattle.base.proofs.RangeLaws.{none_passes, some-passes, least_over-below, least_over-above, least_over-none, Attained, least_over_attained}
use Rattle.smoothing.specs.Tree.{Link, child, total, least_way}
use Rattle.smoothing.specs.Rates.{RateQuestion, WellFormedRates, need, Covers, SparesNothing}
use Rattle.smoothing.proofs.BelowLaws.{child_is, child_parts}
use Rattle.smoothing.proofs.SumLaws.{total-same, total_plus, sum_one, sum_two, sum-none, sum-only, by_parents}
use Rattle.smoothing.proofs.WayLaws.{way_next}

module _ (Q : RateQuestion) (good : WellFormedRates Q) (w : ℕ) where
  open Q use {n, parent}
  open good use {ordered}

  -- the least need of v's children
  abbrev pub least_need : ℕ → ℕ
  least_need v = least_over (child parent v) (need Q w) n

  module _ (b : ℕ → ℕ) (covers : Covers Q w b) where
    abbrev way : ℕ → ℕ
    way = least_way n parent b

    abbrev least_on : ℕ → ℕ
    least_on v = least_over (child parent v) way n

    -- what the least way down from v has over its need
    abbrev over : ℕ → ℕ
    over v = way v - need Q w v

    -- what v's children have over their needs in all
    abbrev over_all : ℕ → ℕ
    over_all v = sum_over (child parent v) over n

    -- of that, what the least way of v's children has over their least need
    abbrev over_least : ℕ → ℕ
    over_least v = least_on v - least_need v

    -- the rest is spare
    abbrev spare : ℕ → ℕ
    spare v = over_all v - over_least v

    kid : (c v : ℕ) → c < n → child parent v c ≡ true → Link n c × (parent c ≡ v)
    kid c v l q = let (p, e) = child_parts n parent c v q in ((p, l), e)

    least_covered : (v : ℕ) → least_need v ≤ least_on v
    least_covered v =
        ⊎_elim
        (λ e. least_over-above (child parent v) way n (least_need v) e
        (λ c l q. omega (arith, least_over-below (child parent v) (need Q w) n c l q, covers c (kid c v l q).0)))
        (λ e. omega (arith, least_over-none (child parent v) (need Q w) n e))
        (true_or_false (some (child parent v) n))

    -- no more than the child of the least need has
    least_over_lem : (v : ℕ) → over_least v ≤ over_all v
    least_over_lem v =
        ⊎_elim
        (λ e.
        let (m, l, q, is) = least_over_attained (child parent v) (need Q w) n e in
        omega (arith, is, least_over-below (child parent v) way n m l q, sum_one (child parent v) over n m l q))
        (λ e. omega (arith, least_over-none (child parent v) way n e))
        (true_or_false (some (child parent v) n))

    -- The total is that of all needs less those of the least children, and what is spare: at the root all that its children have over their
    -- needs.
    pub total_made : total n b + total n least_need ≡ total n (need Q w) + (over_all 0 + total n spare)
    total_made =
        omega (
          arith,
          total_plus n b least_on,
          total-same n (λ v. b v + least_on v) way (λ v h. sym (way_next n parent ordered b v h.1)),
          total_plus n (need Q w) over,
          total-same n (λ v. need Q w v + over v) way (λ v h. omega (arith, covers v h)),
          by_parents n parent ordered over,
          total_plus n spare over_least,
          total-same n (λ v. spare v + over_least v) over_all (λ v h. omega (arith, least_over_lem v)),
          total_plus n least_need over_least,
          total-same n (λ v. least_need v + over_least v) least_on (λ v h. omega (arith, least_covered v)),
        )

    -- ---- nothing is spare

    module _ (v : ℕ) (link : Link n v) where
      -- where nothing can be spared, a child of the least need alone has what is over
      sisters_spare : SparesNothing Q w b → spare v ≡ 0
      sisters_spare tight =
          ⊎_elim
          (λ e. alone (least_over_attained (child parent v) (need Q w) n e))
          (λ e. omega (arith, sum-none (child parent v) over n (λ c l q. absurd (not_both q (none_passes (child parent v) n e c l)))))
          (true_or_false (some (child parent v) n))
        where
          alone : Attained (child parent v) (need Q w) n (least_need v) → spare v ≡ 0
          alone (m, l, q, low) =
              omega (
                arith,
                low,
                sum-only (child parent v) over n m l q (λ c r ne s. omega (arith, other c r ne s)),
                least_over-above (child parent v) way n (way m) (some-passes (child parent v) n m l q)
                    (λ c r s. least c r s (ℕ_discrete c m)),
              )
            where
              other : (c : ℕ) → c < n → c ≢ m → child parent v c ≡ true → (way c ≡ need Q w c) × (way m ≤ need Q w c)
              other c r ne s =
                  let (h, is) = kid m v l q in
                  let (g, e) = kid c v r s in
                  tight.at_sisters m c h g (λ x. ne (sym x)) (is ∙ sym e) (omega (arith, e, link))
                  (omega (arith, low, least_over-below (child parent v) (need Q w) n c r s))

              least : (c : ℕ) → c < n → child parent v c ≡ true → Dec (c ≡ m) → way m ≤ way c
              least c r s (yes e) = rw e (omega arith)
              least c r s (no ne) = omega (arith, other c r ne s)

      -- and where nothing is spare, all but a child of the least need have just their needs, and that one no more than any of them
      module _ (none : spare v ≡ 0) (m : ℕ) (l : m < n) (q : child parent v m ≡ true) (low : least_need v ≡ need Q w m) where
        rest_tight : (c : ℕ) → c < n → c ≢ m → child parent v c ≡ true → (way c ≡ need Q w c) × (way m ≤ need Q w c)
        rest_tight c r ne s =
            omega (
              arith,
              none,
              low,
              covers m (kid m v l q).0,
              covers c (kid c v r s).0,
              least_over-below (child parent v) way n m l q,
              least_over-below (child parent v) way n c r s,
              least_covered v,
              sum_two (child parent v) over n c m ne r l s q,
            )

        pair_tight : (x y : ℕ) → x < n → y < n → child parent v x ≡ true → child parent v y ≡ true → x ≢ y → need Q w x ≤ need Q w y
            → (way y ≡ need Q w y) × (way x ≤ need Q w y)
        pair_tight x y h r s t ne less = go (ℕ_discrete y m) (ℕ_discrete x m)
          where
            go : Dec (y ≡ m) → Dec (x ≡ m) → (way y ≡ need Q w y) × (way x ≤ need Q w y)
            go (yes e) d =
                omega (
                  arith,
                  low,
                  ap way e,
                  ap (need Q w) e,
                  covers y (kid y v r t).0,
                  rest_tight x h (λ i. ne (i ∙ sym e)) s,
                  least_over-below (child parent v) (need Q w) n x h s,
                )
            go (no i) (yes e) = rw e (rest_tight y r i t)
            go (no i) (no j) = omega (arith, rest_tight y r i t, rest_tight x h j s)

      spare_sisters : spare v ≡ 0 → (x y : ℕ) → Link n x → Link n y → x ≢ y → parent x ≡ v → parent y ≡ v → need Q w x ≤ need Q w y
          → (way y ≡ need Q w y) × (way x ≤ need Q w y)
      spare_sisters none x y h g ne is is' less =
          let own = child_is n parent x v h is in
          let (m, l, q, low) = least_over_attained (child parent v) (need Q w) n (some-passes (child parent v) n x h.1 own) in
          pair_tight none m l q low x y h.1 g.1 own (child_is n parent y v g is') ne less

    -- ---- which totals are least

    pub total_needed : total n (need Q w) ≤ total n b + total n least_need
    total_needed = omega (arith, total_made)

    pub spares_total : SparesNothing Q w b → total n b + total n least_need ≤ total n (need Q w)
    unfolding total
    spares_total tight =
        omega (
          arith,
          total_made,
          sum-none (child parent 0) over n (λ c l q. let (h, e) = kid c 0 l q in omega (arith, tight.at_root c h e)),
          sum-none (λ v. ltb 0 v) spare n (λ v l q. sisters_spare v (ltb-true 0 v q, l) tight),
        )

    pub total_spares : total n b + total n least_need ≤ total n (need Q w) → SparesNothing Q w b
    unfolding total
    total_spares small = record {
      at_root = λ v h e.
          omega (arith, total_made, covers v h, sum_one (child parent 0) over n v h.1 (child_is n parent v 0 h e));
      at_sisters = λ u v h l ne e top less.
          let o = ordered v l in
          let g : Link n (parent v) = (omega arith, omega arith) in
          spare_sisters (parent v) g
          (omega (arith, total_made, sum_one (λ v. ltb 0 v) spare n (parent v) g.1 (lt-ltb 0 (parent v) g.0))) u v h l ne e refl less;
    }
