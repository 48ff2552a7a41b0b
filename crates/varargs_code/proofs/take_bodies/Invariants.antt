-- `take_bodies` meets its contract: what was taken, and what is still asked for, are the whole walk.
use mathlib.Core.Path.{◌≡◌}
use lib.ListN.{length}
use Rattle.varargs.specs.Walking.{spilled, walk_from}
use Rattle.varargs_code.proofs.Taking.{Taking}
use Rattle.varargs_code.proofs.take_bodies.Given as goal

abbrev pub invariant-loop-byte : goal.invariant-loop-byte
invariant-loop-byte l =
    (length l.out ≡ length l.initial.out) × Taking l.kinds l.image l.initial.out (walk_from (spilled l.image) l.start l.kinds) l.pointer l.n l.byte-index l.out
