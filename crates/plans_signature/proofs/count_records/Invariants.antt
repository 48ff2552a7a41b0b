-- `count_records` meets its contract: what was counted, and the records still ahead, are the whole signature.
use mathlib.Core.List.{List}
use mathlib.Core.Bool.{true}
use Prim.Native.Nat.{ℕ, ◌-◌}
use lib.ListN.{length}
use Rattle.o32_laws.specs.Refusing.{Records}
use Rattle.plans_signature.proofs.Passing.{Passing}
use Rattle.plans_signature.proofs.count_records.Given as goal

abbrev pub invariant-loop-at : goal.invariant-loop-at
invariant-loop-at l = (sig : List ℕ) → Records true sig l.list → Passing l.list sig l.n l.at

abbrev pub decreases-loop-at : goal.decreases-loop-at
decreases-loop-at l = length l.list - l.at
