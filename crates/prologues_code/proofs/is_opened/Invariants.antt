-- `is_opened` meets its contract: its loop passes over 00000000 up to the first instruction.
use mathlib.Core.Path.{◌≡◌}
use Prim.Native.Nat.{◌*◌}
use lib.ListN.{drop}
use Rattle.frame.specs.Keeping.{words_in}
use Rattle.prologues.specs.Checking.{instructions}
use Rattle.prologues_code.proofs.is_opened.Given as goal

abbrev pub invariant-loop-i : goal.invariant-loop-i
invariant-loop-i l = instructions (words_in (drop (4 * l.i) l.code)) ≡ instructions (words_in l.code)
