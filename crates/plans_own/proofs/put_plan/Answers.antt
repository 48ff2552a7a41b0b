-- `put_plan` meets its contract: the entries so far are those of the kinds before.
use mathlib.Core.Path.{sym, ap, ◌∙◌}
use Prim.Native.Nat.{ℕ, ◌+◌}
use native.Mathlib.Omega.{arith}
use Rattle.o32_step.proofs.Ahead.{ahead_placeable}
use Rattle.plans.specs.declared.Plan.{Plan}
use Rattle.plans_own.proofs.Planning.{planning_starts, planning_inside, planning_fits, planning_room, planning_argument, planning_marker, planning_ends}
use Rattle.plans_own.proofs.put_plan.Goals as goal
use Rattle.plans_own.proofs.put_plan.Goals.{then-not-is_class, else-not-is_class}

pub loop-at-init : goal.loop-at-init
loop-at-init c = planning_starts _ _ _ _ c.requires.admitted (ap (λ (p : Plan). p.entries) c.requires.zero) c.start-st.ensures

pub placement_of-place-requires : goal.placement_of-place-requires
placement_of-place-requires c = ahead_placeable c.args.device c.loop-at.invariant.ahead c.from-kind.ensures

pub entry_of-requires : goal.entry_of-requires
entry_of-requires c = planning_fits c.loop-at.invariant c.requires.admitted c.loop-at-test.true c.from-kind.ensures c.placement_of-place.ensures

pub bounds-plan-st : goal.bounds-plan-st
bounds-plan-st c = planning_room c.loop-at.invariant c.requires.admitted c.loop-at-test.true c.from-kind.ensures c.placement_of-place.ensures (sym c.is_class.ensures ∙ c.if-not-is_class.true)

pub overflow_add-at-in-loop-at : goal.overflow_add-at-in-loop-at
overflow_add-at-in-loop-at c = omega (arith, planning_inside c.loop-at.invariant c.requires.admitted c.loop-at-test.true c.from-kind.ensures c.placement_of-place.ensures, c.body_length.ensures)

pub advance-st-requires-clause-placeable : goal.advance-st-requires-clause-placeable
advance-st-requires-clause-placeable c = ahead_placeable c.args.device c.loop-at.invariant.ahead c.from-kind.ensures

pub loop-at-preserved : goal.loop-at-preserved
loop-at-preserved c = elim c.if-not-is_class.branch [
  | then-not-is_class w ↦ planning_argument c.loop-at.invariant c.requires.admitted c.loop-at-test.true c.from-kind.ensures c.placement_of-place.ensures c.advance-st.ensures
      (ap (λ (n : ℕ). c.loop-at.at + 1 + n) c.body_length.ensures) (sym c.is_class.ensures ∙ w.if-not-is_class.true) w.entry_of.ensures (ap (λ (p : Plan). p.entries) w.plan-is)
  | else-not-is_class w ↦ planning_marker c.loop-at.invariant c.requires.admitted c.loop-at-test.true c.from-kind.ensures c.placement_of-place.ensures c.advance-st.ensures
      (ap (λ (n : ℕ). c.loop-at.at + 1 + n) c.body_length.ensures) (sym c.is_class.ensures ∙ w.if-not-is_class.false) (ap (λ (p : Plan). p.entries) w.plan-is)
]

pub returns : goal.returns
returns c = planning_ends c.loop-at.invariant c.requires.admitted c.loop-at-test.false
