-- `put_entries` meets its contract: the words before i are stored, those after are as they were.
use mathlib.Core.Path.{◌≡◌}
use mathlib.Core.List.{◌++◌}
use Prim.Native.Nat.{◌*◌}
use lib.ListN.{length, take, drop}
use Rattle.plans.specs.Plans.{entry_numbers}
use Rattle.plans_words.proofs.put_entries.Given as goal

abbrev pub invariant-loop-i : goal.invariant-loop-i
invariant-loop-i l = (length l.out ≡ length l.initial.out) × (l.out ≡ entry_numbers (take l.i l.entries) ++ drop (3 * l.i) l.initial.out)
