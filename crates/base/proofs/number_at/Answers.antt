-- The loop keeps that r is the number in the first i bytes and less than 256 ^ i, which leaves room for a byte more.
use Prim.Native.Nat.{ℕ, ◌≤◌, ◌<◌, ◌^◌}
use native.Mathlib.Numerals.{add-one}
use native.Mathlib.Nat.{pow-le-pow_right, pow-suc}
use native.Mathlib.Omega.{arith}
use borrow.Author.Rules.{rules}
use Rattle.base.specs.Number.{number}
use Rattle.base.proofs.number_at.Goals as goal

-- what has been read leaves room for a byte more
room : (i : ℕ) → i < 8 → 256 ^ i ≤ 256 ^ 7
room i h = pow-le-pow_right {n = 256} (omega arith) {i = i} {j = 7} (omega arith)

pub loop-i-init : goal.loop-i-init
unfolding number
loop-i-init c = search rules

pub overflow_mul-r : goal.overflow_mul-r
overflow_mul-r c = omega (arith, room c.loop-i.i (omega arith))

pub overflow_add-r : goal.overflow_add-r
overflow_add-r c = omega (arith, room c.loop-i.i (omega arith))

pub loop-i-preserved : goal.loop-i-preserved
unfolding number
loop-i-preserved c =
    let s = c.loop-i in (
      search rules,
      (
        rw (add-one, ← s.invariant.1.0) (omega arith),
        rw (add-one, pow-suc) (omega arith),
      ),
    )
