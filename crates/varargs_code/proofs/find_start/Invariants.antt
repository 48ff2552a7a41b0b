-- `find_start` meets its contract: what is found from each kind on is what is found in the whole signature.
use Rattle.varargs_code.proofs.Seeking.{Seeking}
use Rattle.varargs_code.proofs.find_start.Given as goal

abbrev pub invariant-loop-at : goal.invariant-loop-at
invariant-loop-at l = Seeking l.signature l.pointer l.at
