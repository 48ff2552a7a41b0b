-- `put_registers` meets its contract: a turn of its loop adds what the mask names at k.
use Rattle.frame.specs.Words.{register_at}
use Rattle.frame_words.proofs.Emit.{Put}
use Rattle.frame_words.proofs.put_registers.Given as goal

abbrev pub invariant-loop-k : goal.invariant-loop-k
invariant-loop-k l = Put l.op 4 (register_at l.start l.mask) l.mask l.at l.initial.out l.k l.n l.out
