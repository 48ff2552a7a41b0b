-- `first_wrong` meets its contract: a turn of the outer loop finds that register k is not wrong, a turn of the inner one counts a word.
use mathlib.Core.Path.{◌≡◌}
use mathlib.Core.Bool.{cond}
use Rattle.std.specs.Prelude.{None}
use Prim.Native.Nat.{◌+◌, ◌-◌, ◌*◌}
use lib.ListN.{drop}
use Rattle.frame.specs.Words.{saves_of}
use Rattle.frame.specs.Keeping.{words_in}
use Rattle.prologues.specs.Checking.{count, is_wrong, first_from}
use Rattle.prologues_code.proofs.first_wrong.Given as goal

-- what was found, and what is still to come
abbrev pub invariant-loop-i : goal.invariant-loop-i
invariant-loop-i l =
    (cond l.stored 1 0 + count l.store (words_in (drop (4 * l.i) l.code)) ≡ count l.store (words_in l.code)) × (l.wrong ≡ None)

abbrev pub invariant-registers : goal.invariant-registers
invariant-registers l =
    (l.wrong ≡ None)
    × (first_from (is_wrong (saves_of l.saves.request) (words_in l.code)) l.k (64 - l.k) ≡ first_from (is_wrong (saves_of l.saves.request) (words_in l.code)) 0 64)
