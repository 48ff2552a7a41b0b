-- `measure` meets its contract: what the walk has found so far is what the whole has.
use native.Mathlib.Omega.{arith}
use Rattle.o32_measure.proofs.Measures.{measure_starts, measure_bounds, measure_refused, measure_size, measure_inside, measure_turn}
use borrow.Author.Rules.{rules}
use Rattle.o32_measure.proofs.measure.Goals as goal

pub loop-at-init : goal.loop-at-init
loop-at-init c = search (measure_starts, rules)

pub take-answer-requires : goal.take-answer-requires
take-answer-requires c = ((measure_bounds _ _ _ _ _ c.loop-at.invariant).1, (measure_bounds _ _ _ _ _ c.loop-at.invariant).2)

pub returns-in_default : goal.returns-in_default
returns-in_default c = search (measure_refused, rules)

pub overflow_add-length : goal.overflow_add-length
overflow_add-length c = omega (arith, measure_bounds _ _ _ _ _ c.loop-at.invariant)

pub overflow_add-length-in-loop-at : goal.overflow_add-length-in-loop-at
overflow_add-length-in-loop-at c = omega (arith, measure_bounds _ _ _ _ _ c.loop-at.invariant, measure_size _ _ _ _ _ c.loop-at.invariant c.loop-at-test.true c.take-answer.result c.take-answer.ensures _ _ _ c.in-Taken.is)

pub overflow_add-at-in-loop-at : goal.overflow_add-at-in-loop-at
overflow_add-at-in-loop-at c =
    -- the record that was taken is inside the list
    omega (arith, measure_inside _ _ _ _ _ c.loop-at.invariant c.loop-at-test.true c.take-answer.result c.take-answer.ensures _ _ _ c.in-Taken.is _ c.body_length.ensures)

pub loop-at-preserved : goal.loop-at-preserved
loop-at-preserved c = search (measure_turn, rules)

pub image_length-requires : goal.image_length-requires
image_length-requires c = (measure_bounds _ _ _ _ _ c.loop-at.invariant).1
