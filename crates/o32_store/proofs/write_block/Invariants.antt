-- `o32_store::write_block` meets its contract. The loop's invariant: the first i words lie at the front of the buffer.
use mathlib.Core.Path.{◌≡◌}
use mathlib.Core.List.{◌++◌}
use Prim.Native.Nat.{◌*◌}
use lib.ListN.{take, drop}
use Rattle.words.specs.Words.{bytes_of_words}
use Rattle.o32_store.proofs.write_block.Given as goal

abbrev pub invariant-loop-i : goal.invariant-loop-i
invariant-loop-i l = (l.out ≡ bytes_of_words (take l.i l.block) ++ drop (l.i * 4) l.initial.out)
