-- `measure` meets its contract: what the walk has found so far is what the whole has.
use Prim.Native.Nat.{◌-◌}
use lib.ListN.{length}
use Rattle.o32_measure.proofs.Measures.{Measuring}
use Rattle.o32_measure.proofs.measure.Given as goal

abbrev pub invariant-loop-at : goal.invariant-loop-at
invariant-loop-at l = Measuring l.bodies l.list l.st l.length l.at

abbrev pub decreases-loop-at : goal.decreases-loop-at
decreases-loop-at l = length l.list - l.at
