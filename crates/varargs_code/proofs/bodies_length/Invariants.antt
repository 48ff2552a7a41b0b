-- `bodies_length` meets its contract: what was counted, and the bodies still ahead, are the whole.
use mathlib.Core.Path.{◌≡◌}
use Prim.Native.Nat.{◌+◌}
use lib.ListN.{drop}
use Rattle.varargs.specs.Varargs.{body_bytes}
use Rattle.varargs_code.proofs.bodies_length.Given as goal

abbrev pub invariant-loop-byte : goal.invariant-loop-byte
invariant-loop-byte l = l.n + body_bytes (drop l.byte-index l.kinds) ≡ body_bytes l.kinds
