-- Laws of the two passes: one place replaced, what a turn changes, what each pass keeps, and that both together give the least stable family.
-- The order is a parameter: with ≤ this is closing, with ≥ it is opening.
use mathlib.Core.Path.{◌≡◌, refl, ◌∙◌}
use mathlib.Core.Logic.{◌≢◌, ⊎_elim}
use Prim.Native.Nat.{ℕ, zero, suc, ◌≤◌, ◌<◌}
use native.Mathlib.Omega.{arith}
use native.Mathlib.Decide.{ℕ_discrete}
use borrow.Author.Tests.{eq-eqb, ne_eqb}
use Rattle.base.proofs.BoolLaws.{last_or_below}
use Rattle.smoothing.specs.Tree.{put, unless_root, turn_up, turn_down, pass_up, pass_down}

-- every node from 1 to m has a parent with a lower number
abbrev pub ParentsLower : ℕ → (ℕ → ℕ) → Type 0
ParentsLower m parent = (v : ℕ) → 0 < v → v ≤ m → parent v < v

fewer : (m : ℕ) (parent : ℕ → ℕ) → ParentsLower (suc m) parent → ParentsLower m parent
fewer m parent lower v p h = lower v p (omega arith)

-- ---- one place replaced

pub put_same : (f : ℕ → ℕ) (u x : ℕ) → put f u x u ≡ x
unfolding put
put_same f u x = rw (eq-eqb u u refl)

pub put_other : (f : ℕ → ℕ) (u x v : ℕ) → v ≢ u → put f u x v ≡ f v
unfolding put
put_other f u x v ne = rw (ne_eqb v u ne)

-- ---- one turn

module _ (parent : ℕ → ℕ) (op : ℕ → ℕ → ℕ → ℕ) where
  pub unless_root_root : (v x y : ℕ) → parent v ≡ 0 → unless_root parent op v x y ≡ x
  unfolding unless_root
  unless_root_root v x y e = rw (eq-eqb (parent v) 0 e)

  pub unless_root_inner : (v x y : ℕ) → parent v ≢ 0 → unless_root parent op v x y ≡ op v x y
  unfolding unless_root
  unless_root_inner v x y ne = rw (ne_eqb (parent v) 0 ne)

  turn_up_at : (f : ℕ → ℕ) (v : ℕ) → turn_up parent op v f (parent v) ≡ unless_root parent op v (f (parent v)) (f v)
  unfolding turn_up
  turn_up_at f v = put_same f _ _

  turn_up_other : (f : ℕ → ℕ) (v w : ℕ) → w ≢ parent v → turn_up parent op v f w ≡ f w
  unfolding turn_up
  turn_up_other f v w ne = put_other f _ _ w ne

  -- ---- what a pass leaves alone

  pass_up-late : (m : ℕ) → ParentsLower m parent → (f : ℕ → ℕ) (w : ℕ) → m ≤ w → pass_up parent op m f w ≡ f w
  unfolding pass_up
  pass_up-late zero lower f w h = refl
  pass_up-late (suc m) lower f w h =
      pass_up-late m (fewer m parent lower) (turn_up parent op (suc m) f) w (omega arith)
      ∙ turn_up_other f (suc m) w (omega (arith, lower (suc m) (omega arith) (omega arith)))

  pass_down-late : (m : ℕ) (f : ℕ → ℕ) (w : ℕ) → m < w → pass_down parent op m f w ≡ f w
  unfolding pass_down turn_down
  pass_down-late zero f w h = refl
  pass_down-late (suc m) f w h = put_other _ _ _ w (omega arith) ∙ pass_down-late m f w (omega arith)

  pass_down_early : (m : ℕ) (f : ℕ → ℕ) (w : ℕ) → w ≤ m → pass_down parent op (suc m) f w ≡ pass_down parent op m f w
  unfolding pass_down turn_down
  pass_down_early m f w h = put_other _ _ _ w (omega arith)

  pass_down_new : (m : ℕ) (f : ℕ → ℕ) → let g = pass_down parent op m f in
      pass_down parent op (suc m) f (suc m) ≡ unless_root parent op (suc m) (g (suc m)) (g (parent (suc m)))
  unfolding pass_down turn_down
  pass_down_new m f = put_same _ _ _

  -- what the pass down leaves at v, of what it found there and of what it leaves at the parent
  pub pass_down_at : (m : ℕ) → ParentsLower m parent → (f : ℕ → ℕ) (v : ℕ) → 0 < v → v ≤ m
      → pass_down parent op m f v ≡ unless_root parent op v (f v) (pass_down parent op m f (parent v))
  pass_down_at zero lower f v p h = absurd (omega arith)
  pass_down_at (suc m) lower f v p h =
      let l = lower v p h in
      let k = lower (suc m) (omega arith) (omega arith) in
      ⊎_elim
      (λ e. rw e (cc (pass_down_new m f, pass_down_early m f (parent (suc m)) (omega arith), pass_down-late m f (suc m) (omega arith))))
      (λ r. rw (pass_down_early m f v (omega arith), pass_down_early m f (parent v) (omega arith))
      (pass_down_at m (fewer m parent lower) f v p (omega arith)))
      (last_or_below v (suc m) (omega arith))

  -- ---- what every turn keeps, the pass up keeps

  module _ (n : ℕ) (lower : ParentsLower n parent) (P : ℕ → ℕ → Type 0)
      (step : (v : ℕ) → 0 < v → v ≤ n → parent v ≢ 0 → (x y : ℕ) → P (parent v) x → P v y → P (parent v) (op v x y)) where
    turn_up-keeps : (f : ℕ → ℕ) → ((v : ℕ) → 0 < v → v ≤ n → P v (f v)) → (v : ℕ) → 0 < v → v ≤ n
        → (w : ℕ) → 0 < w → w ≤ n → P w (turn_up parent op v f w)
    turn_up-keeps f each v pv hv w pw hw = go (ℕ_discrete w (parent v))
      where
        go : Dec (w ≡ parent v) → P w (turn_up parent op v f w)
        go (yes e) =
            let u = each (parent v) (omega arith) (omega (arith, lower v pv hv)) in
            rw (e, turn_up_at f v, unless_root_inner v (f (parent v)) (f v) (omega arith))
            (step v pv hv (omega arith) _ _ u (each v pv hv))
        go (no ne) = rw (turn_up_other f v w ne) (each w pw hw)

    pub pass_up-keeps : (m : ℕ) → m ≤ n → (f : ℕ → ℕ) → ((v : ℕ) → 0 < v → v ≤ n → P v (f v))
        → (w : ℕ) → 0 < w → w ≤ n → P w (pass_up parent op m f w)
    unfolding pass_up
    pass_up-keeps zero h f each = each
    pass_up-keeps (suc m) h f each =
        pass_up-keeps m (omega arith) (turn_up parent op (suc m) f) (turn_up-keeps f each (suc m) (omega arith) h)

-- ---- both passes

module _ (◌⊑◌ : ℕ → ℕ → Type 0) (up down : ℕ → ℕ → ℕ → ℕ) where
  infix 4 ◌⊑◌
  -- what the two turns owe to the order
  pub record TurnLaws : Type 0 where
    pub same : (x : ℕ) → x ⊑ x
    pub then : (x y z : ℕ) → x ⊑ y → y ⊑ z → x ⊑ z
    pub up_grows : (v x y : ℕ) → x ⊑ up v x y
    pub up_stays : (v x y z : ℕ) → up v x y ⊑ z → up v z y ⊑ z
    pub up_least : (v x y x' y' : ℕ) → x ⊑ x' → y ⊑ y' → up v x' y' ⊑ x' → up v x y ⊑ x'
    pub down_grows : (v x y : ℕ) → x ⊑ down v x y
    pub down_stays : (v x y z : ℕ) → down v x y ⊑ z → down v z y ⊑ z
    pub down_least : (v x y x' y' : ℕ) → x ⊑ x' → y ⊑ y' → down v x' y' ⊑ x' → down v x y ⊑ x'
    pub up_after_down : (v x y : ℕ) → up v y x ⊑ y → up v y (down v x y) ⊑ y

  -- a family that no turn changes, at any node that is not under the root
  unfoldable pub Stable : ℕ → (ℕ → ℕ) → (ℕ → ℕ) → Type 0
  Stable m parent y =
      (v : ℕ) → 0 < v → v ≤ m → parent v ≢ 0 → (up v (y (parent v)) (y v) ⊑ y (parent v)) × (down v (y v) (y (parent v)) ⊑ y v)

  module _ (laws : TurnLaws) (parent : ℕ → ℕ) where
    unless_root-above : (v x y : ℕ) → x ⊑ unless_root parent up v x y
    unless_root-above v x y = go (ℕ_discrete (parent v) 0)
      where
        go : Dec (parent v ≡ 0) → x ⊑ unless_root parent up v x y
        go (yes e) = rw (unless_root_root parent up v x y e) (laws.same x)
        go (no ne) = rw (unless_root_inner parent up v x y ne) (laws.up_grows v x y)

    turn_up-above : (f : ℕ → ℕ) (v w : ℕ) → f w ⊑ turn_up parent up v f w
    turn_up-above f v w = go (ℕ_discrete w (parent v))
      where
        go : Dec (w ≡ parent v) → f w ⊑ turn_up parent up v f w
        go (yes e) = rw (e, turn_up_at parent up f v) (unless_root-above v (f (parent v)) (f v))
        go (no ne) = rw (turn_up_other parent up f v w ne) (laws.same (f w))

    pub pass_up-above : (m : ℕ) (f : ℕ → ℕ) (w : ℕ) → f w ⊑ pass_up parent up m f w
    unfolding pass_up
    pass_up-above zero f w = laws.same (f w)
    pass_up-above (suc m) f w =
        laws.then _ _ _ (turn_up-above f (suc m) w) (pass_up-above m (turn_up parent up (suc m) f) w)

    pass_up_new : (m : ℕ) → ParentsLower (suc m) parent → (f : ℕ → ℕ) → parent (suc m) ≢ 0
        → let x = pass_up parent up (suc m) f in let u = parent (suc m) in up (suc m) (x u) (x (suc m)) ⊑ x u
    unfolding pass_up
    pass_up_new m lower f ne =
        let g = turn_up parent up (suc m) f in
        let u = parent (suc m) in
        let l = lower (suc m) (omega arith) (omega arith) in
        let e : g u ≡ up (suc m) (f u) (f (suc m)) = turn_up_at parent up f (suc m) ∙ unless_root_inner parent up (suc m) _ _ ne in
        rw (pass_up-late parent up m (fewer m parent lower) g (suc m) (omega arith), turn_up_other parent up f (suc m) (suc m) (omega arith))
        (laws.up_stays _ _ _ _ (rw e at (pass_up-above m g u)))

    -- after the pass up no turn up changes anything
    pub pass_up_stable : (m : ℕ) → ParentsLower m parent → (f : ℕ → ℕ) (v : ℕ) → 0 < v → v ≤ m → parent v ≢ 0
        → let x = pass_up parent up m f in up v (x (parent v)) (x v) ⊑ x (parent v)
    unfolding pass_up
    pass_up_stable zero lower f v p h ne = absurd (omega arith)
    pass_up_stable (suc m) lower f v p h ne =
        ⊎_elim
        (λ e. rw e (pass_up_new m lower f (rw e at ne)))
        (λ r. pass_up_stable m (fewer m parent lower) (turn_up parent up (suc m) f) v p (omega arith) ne)
        (last_or_below v (suc m) (omega arith))

    module _ (n : ℕ) (lower : ParentsLower n parent) (f : ℕ → ℕ) where
      abbrev x : ℕ → ℕ
      x = pass_up parent up n f

      abbrev y : ℕ → ℕ
      y = pass_down parent down n x

      y_inner : (v : ℕ) → 0 < v → v ≤ n → parent v ≢ 0 → y v ≡ down v (x v) (y (parent v))
      y_inner v p h ne = pass_down_at parent down n lower x v p h ∙ unless_root_inner parent down _ _ _ ne

      y_root : (v : ℕ) → 0 < v → v ≤ n → parent v ≡ 0 → y v ≡ x v
      y_root v p h e = pass_down_at parent down n lower x v p h ∙ unless_root_root parent down _ _ _ e

      x_y : (v : ℕ) → 0 < v → v ≤ n → x v ⊑ y v
      x_y v p h = go (ℕ_discrete (parent v) 0)
        where
          go : Dec (parent v ≡ 0) → x v ⊑ y v
          go (yes e) = rw (y_root v p h e) (laws.same (x v))
          go (no ne) = rw (y_inner v p h ne) (laws.down_grows _ _ _)

      pub both_above : (v : ℕ) → 0 < v → v ≤ n → f v ⊑ pass_down parent down n (pass_up parent up n f) v
      both_above v p h = laws.then _ _ _ (pass_up-above n f v) (x_y v p h)

      pub both_stable : Stable n parent (pass_down parent down n (pass_up parent up n f))
      unfolding Stable
      both_stable v p h ne =
          let l = lower v p h in
          let e = y_inner v p h ne in
          let u = parent v in
          let xu : up v (x u) (x v) ⊑ y u = laws.then _ _ _ (pass_up_stable n lower f v p h ne) (x_y u (omega arith) (omega arith)) in (
            rw e (laws.up_after_down v (x v) (y u) (laws.up_stays _ _ _ _ xu)),
            laws.down_stays v (x v) _ _ (rw (← e) (laws.same (y v))),
          )

      module _ (z : ℕ → ℕ) (stable : Stable n parent z) (above : (v : ℕ) → 0 < v → v ≤ n → f v ⊑ z v) where
        x_least : (v : ℕ) → 0 < v → v ≤ n → x v ⊑ z v
        unfolding Stable
        x_least =
            pass_up-keeps parent up n lower (λ v a. a ⊑ z v)
            (λ v p h ne a c l r. laws.up_least v a c _ _ l r (stable v p h ne).0) n (omega arith) f above

        y_least : (m v : ℕ) → v ≤ m → 0 < v → v ≤ n → y v ⊑ z v
        unfolding Stable
        y_least zero v hm p h = absurd (omega arith)
        y_least (suc m) v hm p h =
            let l = lower v p h in
            go (ℕ_discrete (parent v) 0) (λ ne. y_least m (parent v) (omega arith) (omega arith) (omega arith))
          where
            go : Dec (parent v ≡ 0) → (parent v ≢ 0 → y (parent v) ⊑ z (parent v)) → y v ⊑ z v
            go (yes e) ih = rw (y_root v p h e) (x_least v p h)
            go (no ne) ih = rw (y_inner v p h ne) (laws.down_least _ _ _ _ _ (x_least v p h) (ih ne) (stable v p h ne).1)

        pub both_least : (v : ℕ) → 0 < v → v ≤ n → pass_down parent down n (pass_up parent up n f) v ⊑ z v
        both_least v = y_least v v (omega arith)
