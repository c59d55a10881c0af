-- The loop walks the members after the first, and keeps that the rest, taken in after `found`, gives the earliest.
use Prim.Native.Nat.{◌<◌}
use mathlib.Core.Path.{◌≡◌, refl}
use Rattle.base.specs.Set.{word_bits}
use Rattle.base.proofs.BoolLaws.{cond_both, not_both}
use Rattle.curves.specs.Rows.{earlier, earliest_of}
use native.Mathlib.Omega.{arith}
use Rattle.base.proofs.MemberLaws.{next_in}
use Rattle.curves.proofs.LeafLaws.{earliest_members, earliest_member, no_member, some_member}
use Rattle.curves.proofs.earliest.Goals as goal

pub loop-l-init : goal.loop-l-init
loop-l-init c =
    let met = rw c.members-members.ensures at c.in_ok-found.ensures.steps in (
      (next_in _ _ _ met).0,
      rw c.into_iter-l-iterator.ensures.into_iter_gives (earliest_members c.args.delay.now c.args.set _ _ (omega arith) met),
    )

pub loop-l-preserved : goal.loop-l-preserved
unfolding earlier
loop-l-preserved c =
    let low = (next_in _ _ _ c.in-Some.ensures.steps).0 in (
      rw c.select-found.ensures (cond_both _ (λ x. x < word_bits) _ _ (λ _. low) (λ _. c.loop-l.invariant.0)),
      rw c.select-found.ensures (rw c.in-Some.ensures.steps at c.loop-l.invariant.1),
    )

pub returns-in_err-found-clause-none : goal.returns-in_err-found-clause-none
returns-in_err-found-clause-none c =
    let met = rw c.members-members.ensures at c.in_err-found.ensures.steps.0 in
    (λ _. no_member c.args.set (omega arith) met, λ _. rw c.from_residual.ensures refl)

pub offset_bounds-delay-l : goal.offset_bounds-delay-l
offset_bounds-delay-l c = omega (arith, (next_in _ _ _ c.in-Some.ensures.steps).0)

pub bounds-delay-l : goal.bounds-delay-l
bounds-delay-l c = (next_in _ _ _ c.in-Some.ensures.steps).0

pub returns-clause-none : goal.returns-clause-none
returns-clause-none c =
    let some = some_member c.args.set _ _ (rw c.members-members.ensures at c.in_ok-found.ensures.steps) in
    (λ e. absurd (not_both refl e), λ z. absurd (omega (arith, some)))

pub returns-clause-member : goal.returns-clause-member
returns-clause-member c =
    let some = some_member c.args.set _ _ (rw c.members-members.ensures at c.in_ok-found.ensures.steps) in
    let is : c.loop-l.found ≡ earliest_of c.args.delay.now c.args.set = rw c.in-None.ensures.steps.0 at c.loop-l.invariant.1 in
    rw is (earliest_member c.args.delay.now c.args.set (omega arith) some)
