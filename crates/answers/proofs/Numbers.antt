-- No refusal has the number 0, so an answer in the papers' numbers says whether it is one.
-- Assumes nothing.
use Prim.Native.Nat.{◌≤◌}
use native.Mathlib.Omega.{arith}
use Rattle.answers.specs.declared.Cause.{Cause}
use Rattle.answers.specs.Numbers.{number}

pub number_positive : (c : Cause) → 1 ≤ number c
number_positive c = grind arith
