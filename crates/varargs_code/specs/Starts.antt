-- What the passes of the walker find, and what they need.
use Rattle.std.specs.Prelude.{List, [], ◌∷◌, cond, ℕ, ◌+◌, ◌≤◌, length, Option, Some, None}
use Rattle.kinds.specs.Kinds.{kind_of}
use Rattle.o32_offsets.specs.Offsets.{lay}
use Rattle.varargs.specs.Walking.{stepped, before, marked}
use Rattle.varargs_code.specs.declared.Start.{Start}

-- Where the walk over a signature starts, if it has a marker: at its first kind after the marker, and at the end of the last argument
-- before it.
abbrev pub start_of : List ℕ → Option Start
start_of sig = cond (marked sig) (Some (record { place = length (before sig) + 1; pointer = (lay 0 (before sig)).end })) None

-- From this pointer on no step over these kinds leaves an area of so many bytes.
abbrev pub Within : ℕ → ℕ → List ℕ → Type 0
Within limit pointer [] = pointer ≤ limit
Within limit pointer (k ∷ ks) = (pointer ≤ limit) × Within limit (stepped (kind_of k) pointer) ks
