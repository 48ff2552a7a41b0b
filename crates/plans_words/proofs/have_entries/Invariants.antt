-- `have_entries` meets its contract: the entries still to be compared decide.
use Prim.Native.Nat.{◌*◌}
use lib.ListN.{length, take}
use Rattle.plans.specs.Plans.{entry_numbers}
use Rattle.plans_words.proofs.Comparing.{Agreeing}
use Rattle.plans_words.proofs.have_entries.Given as goal

abbrev pub invariant-loop-i : goal.invariant-loop-i
invariant-loop-i l = Agreeing (take (3 * length l.entries) l.words) (entry_numbers l.entries) l.i
