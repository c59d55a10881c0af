-- How far what is played gets ahead of a rate, slot by slot, and by a step over slots in which nothing gets ahead.
use mathlib.Core.List.{List}
use mathlib.Core.Logic.{⊎_elim, inl, inr}
use mathlib.Core.Path.{◌≡◌, refl}
use Prim.Native.Nat.{ℕ, zero, suc, ◌+◌, ◌-◌, ◌*◌, ◌≤◌, max}
use native.Mathlib.Omega.{arith}
use native.Mathlib.Decide.{ℕ_discrete}
use Rattle.pacing.specs.Pace.{ahead, most_ahead}
use Rattle.pacing.proofs.SmallFrameLaws.{SmallFrames, Step, Steps}

module _ (T : ℕ → ℕ) (grows : (m : ℕ) → T m ≤ T (suc m)) (q : ℕ) where
  -- never more than is played
  pub ahead-under : (i : ℕ) → ahead T q i ≤ T i
  unfolding ahead
  ahead-under zero = omega arith
  ahead-under (suc i) = omega (arith, grows i, ahead-under i)

  -- ---- and the most of it up to m

  pub most_above : (m i : ℕ) → i ≤ m → ahead T q i ≤ most_ahead T q m
  unfolding most_ahead ahead
  most_above zero i h = let e : i ≡ 0 = omega arith in rw e (omega arith)
  most_above (suc m) i h = go (ℕ_discrete i (suc m)) (λ l. most_above m i l)
    where
      go : Dec (i ≡ suc m) → (i ≤ m → ahead T q i ≤ most_ahead T q m) → ahead T q i ≤ most_ahead T q (suc m)
      go (yes e) ih = rw e (omega arith)
      go (no ne) ih = omega (arith, ih (omega arith))

  -- never more than the film
  pub most_under : (m : ℕ) → most_ahead T q m ≤ T m
  unfolding most_ahead
  most_under zero = omega arith
  most_under (suc m) = omega (arith, most_under m, grows m, ahead-under (suc m))

-- ---- a step of the pass

module _ (T : ℕ → ℕ) (grows : (m k : ℕ) → m ≤ k → T m ≤ T k) (r : ℕ) where
  up : (m : ℕ) → T m ≤ T (suc m)
  up m = grows m (suc m) (omega arith)

  -- where no frame is larger than r, what is ahead only falls
  record Fallen (a d : ℕ) : Type 0 where
    left : ahead T r (a + d) ≡ ahead T r a + (T (a + d) - T a) - r * d
    less : ahead T r (a + d) ≤ ahead T r a
    most : most_ahead T r (a + d) ≡ most_ahead T r a

  fallen : (a d : ℕ) → SmallFrames T r a (a + d) → Fallen a d
  unfolding ahead most_ahead
  fallen a zero low =
      let e : a + 0 ≡ a = omega arith in
      let z : r * 0 ≡ 0 = omega arith in
      record { left = rw (e, z) (omega arith); less = rw e (omega arith); most = rw e refl }
  fallen a (suc d) low =
      let e : a + suc d ≡ suc (a + d) = omega arith in
      let ih = fallen a d (λ m h l. low m h (omega arith)) in
      let frame : T (suc (a + d)) ≤ T (a + d) + r = low (a + d) (omega arith) (omega arith) in
      let less : ahead T r (a + d) + (T (suc (a + d)) - T (a + d)) - r ≤ ahead T r a = omega (arith, ih.less, frame) in
      let t : r * suc d ≡ r * d + r = omega arith in
      record {
        left = rw (e, t) (omega (arith, ih.left, frame, up (a + d), grows a (a + d) (omega arith)));
        less = rw e less;
        most = rw e (omega (arith, ih.most, less, most_above T up r a a (omega arith)));
      }

  -- a step has what is ahead after it, and the most so far
  pub record Stepped (a b : ℕ) : Type 0 where
    pub so_much : ahead T r b ≡ ahead T r a + (T b - T a) - r * (b - a)
    pub so_far : most_ahead T r b ≡ max (most_ahead T r a) (ahead T r b)

  pub stepped : (a b : ℕ) → Step T r a b → Stepped a b
  unfolding ahead most_ahead
  stepped a b (h, way) = ⊎_elim one many way
    where
      one : b ≡ suc a → Stepped a b
      one e =
          let d : suc a - a ≡ 1 = omega arith in
          let z : r * 1 ≡ r = omega arith in
          rw e (record { so_much = rw (d, z) refl; so_far = refl })

      many : SmallFrames T r a b → Stepped a b
      many low =
          let e : a + (b - a) ≡ b = omega arith in
          let f = fallen a (b - a) (rw e low) in
          record {
            so_much = rw e at f.left;
            so_far = omega (arith, rw e at f.less, rw e at f.most, most_above T up r a a (omega arith));
          }

-- a higher rate can take the same steps
pub steps_higher : (T : ℕ → ℕ) (low r M : ℕ) (places : List ℕ) (k : ℕ) → low ≤ r → Steps T low M places k → Steps T r M places k
steps_higher T low r M places k h by =
    record {
      some_place = by.some_place;
      few = by.few;
      starts = by.starts;
      ends = by.ends;
      inside = by.inside;
      steps = λ j l. let (q, way) = by.steps j l in (q, ⊎_elim (λ e. inl e) (λ w. inr (λ m a b. omega (arith, h, w m a b))) way);
    }

-- the largest of the frames gets ahead alone
pub frame_next : (T : ℕ → ℕ) (frame m : ℕ) → ((r : ℕ) → frame - r ≤ most_ahead T r m) → (r : ℕ)
    → max frame (T (suc m) - T m) - r ≤ most_ahead T r (suc m)
unfolding most_ahead ahead
frame_next T frame m so r = omega (arith, so r)
