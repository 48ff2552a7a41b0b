-- `put_pairs` meets its contract: a turn of its loop adds what the mask names at k.
use mathlib.Core.Path.{◌≡◌}
use Prim.Native.Nat.{◌+◌}
use Rattle.frame.specs.Words.{pair_at}
use Rattle.frame_words.proofs.Emit.{Put}
use Rattle.frame_words.proofs.put_pairs.Given as goal

-- the next save word lies as far into the save area as the next instruction from the first one
abbrev pub invariant-loop-k : goal.invariant-loop-k
invariant-loop-k l = (l.offset + l.at ≡ l.start + l.n) × Put l.op 8 (pair_at l.start l.mask) l.mask l.at l.initial.out l.k l.n l.out
