-- `put_field` meets its contract: after what is stored so far come the bytes of the rest of the field.
use Rattle.std.proofs.Common.{◌-◌, length}
use Rattle.case_input.proofs.Fields.{Taken}
use Rattle.case_input.proofs.put_field.Given as goal

abbrev pub invariant-loop-i : goal.invariant-loop-i
invariant-loop-i l = Taken l.text l.initial.out l.out l.n l.i

abbrev pub decreases-loop-i : goal.decreases-loop-i
decreases-loop-i l = length l.text - l.i
