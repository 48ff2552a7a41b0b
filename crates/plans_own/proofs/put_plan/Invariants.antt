-- `put_plan` meets its contract: the entries so far are those of the kinds before.
use Prim.Native.Nat.{◌-◌}
use lib.ListN.{length}
use Rattle.plans_own.proofs.Planning.{Planning}
use Rattle.plans_own.proofs.put_plan.Given as goal

abbrev pub invariant-loop-at : goal.invariant-loop-at
invariant-loop-at l = Planning l.device l.bodies l.bytes l.image l.plan.entries l.st l.at

abbrev pub decreases-loop-at : goal.decreases-loop-at
decreases-loop-at l = length l.bytes - l.at
