-- `copy_kinds` meets its contract: what was copied, and the kinds of the records still ahead, are the whole signature.
use mathlib.Core.Path.{◌≡◌}
use mathlib.Core.List.{List}
use mathlib.Core.Bool.{true}
use Prim.Native.Nat.{ℕ, ◌-◌}
use lib.ListN.{length}
use Rattle.o32_laws.specs.Refusing.{Records}
use Rattle.plans_signature.proofs.Passing.{Copying}
use Rattle.plans_signature.proofs.copy_kinds.Given as goal

abbrev pub invariant-loop-at : goal.invariant-loop-at
invariant-loop-at l = (length l.out ≡ length l.initial.out) × ((sig : List ℕ) → Records true sig l.list → Copying l.list sig l.initial.out l.n l.at l.out)

abbrev pub decreases-loop-at : goal.decreases-loop-at
decreases-loop-at l = length l.list - l.at
