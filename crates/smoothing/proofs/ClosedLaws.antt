-- Closed families: close gives the least one above, open the greatest one below; what keeps families closed; both are monotone.
use Prim.Native.Nat.{ℕ, ◌+◌, ◌-◌, ◌≤◌, max, min}
use native.Mathlib.Omega.{arith}
use Rattle.smoothing.specs.Tree.{Tree, Ordered, Closed, AtMost, LeastClosedAbove, GreatestClosedBelow, close, «open», close_up, close_down, open_up, open_down}
use Rattle.smoothing.proofs.PassLaws.{ParentsLower, TurnLaws, Stable, both_above, both_stable, both_least}

-- ---- what keeps families closed

module _ (T : Tree) (X Y : ℕ → ℕ) (closed_x : Closed T X) (closed_y : Closed T Y) where
  pub closed-max : Closed T (λ v. max (X v) (Y v))
  closed-max v h ne = omega (arith, closed_x v h ne, closed_y v h ne)

  pub closed-min : Closed T (λ v. min (X v) (Y v))
  closed-min v h ne = omega (arith, closed_x v h ne, closed_y v h ne)

module _ (T : Tree) (X : ℕ → ℕ) (c : ℕ) (closed : Closed T X) where
  pub closed_plus : Closed T (λ v. X v + c)
  closed_plus v h ne = omega (arith, closed v h ne)

  pub closed_minus : Closed T (λ v. X v - c)
  closed_minus v h ne = omega (arith, closed v h ne)

-- one number for all links
pub closed_constant : (T : Tree) (c : ℕ) → Closed T (λ v. c)
closed_constant T c v h ne = omega arith

-- ---- the turns obey the order

close_turns : (T : Tree) → TurnLaws (λ x y. x ≤ y) (close_up T) (close_down T)
close_turns T = omega arith

open_turns : (T : Tree) → TurnLaws (λ x y. y ≤ x) (open_up T) (open_down T)
open_turns T = omega arith

module _ (T : Tree) (ordered : Ordered T) where
  parents-lower : ParentsLower (T.n - 1) T.parent
  parents-lower v p h = ordered v (omega arith)

  -- ---- close

  pub close-least-above : (f : ℕ → ℕ) → LeastClosedAbove T f (close T f)
  unfolding close Stable
  close-least-above f = record {
    above = λ v h. both_above _ _ _ (close_turns T) T.parent (T.n - 1) parents-lower f v (omega arith) (omega arith);
    closed = λ v h ne.
        let s = both_stable _ _ _ (close_turns T) T.parent (T.n - 1) parents-lower f v (omega arith) (omega arith) ne in
        omega arith;
    least = λ Y closed above v h.
        both_least _ _ _ (close_turns T) T.parent (T.n - 1) parents-lower f Y
        (λ w p q ne. let c = closed w (omega arith) ne in omega arith)
        (λ w p q. above w (omega arith)) v (omega arith) (omega arith);
  }

  pub close_monotone : (f g : ℕ → ℕ) → AtMost T f g → AtMost T (close T f) (close T g)
  close_monotone f g below =
      (close-least-above f).least (close T g) (close-least-above g).closed
      (λ v h. omega (arith, below v h, (close-least-above g).above v h))

  -- ---- open

  pub open_greatest-below : (h : ℕ → ℕ) → GreatestClosedBelow T h («open» T h)
  unfolding «open» Stable
  open_greatest-below h = record {
    below = λ v l. both_above _ _ _ (open_turns T) T.parent (T.n - 1) parents-lower h v (omega arith) (omega arith);
    closed = λ v l ne.
        let s = both_stable _ _ _ (open_turns T) T.parent (T.n - 1) parents-lower h v (omega arith) (omega arith) ne in
        omega arith;
    greatest = λ Y closed below v l.
        both_least _ _ _ (open_turns T) T.parent (T.n - 1) parents-lower h Y
        (λ w p q ne. let c = closed w (omega arith) ne in omega arith)
        (λ w p q. below w (omega arith)) v (omega arith) (omega arith);
  }

  pub open_monotone : (g h : ℕ → ℕ) → AtMost T g h → AtMost T («open» T g) («open» T h)
  open_monotone g h below =
      (open_greatest-below h).greatest («open» T g) (open_greatest-below g).closed
      (λ v l. omega (arith, below v l, (open_greatest-below g).below v l))
