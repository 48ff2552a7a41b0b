-- The rules on lists ("The list and its kinds") that every convention has: refusals 2 and 3, and the argument's number.
use Rattle.std.specs.Prelude.{Bool, true, false, cond, not, ◌&&◌, ◌||◌, ℕ, ◌+◌, eqb, leb}
use Rattle.kinds.specs.declared.Class.TheVariants.{Unknown, Marker, Pointer}
use Rattle.kinds.specs.declared.Kind.{Kind}
use Rattle.kinds.specs.Kinds.{is}
use Rattle.rules.specs.declared.Prefix.{Prefix}

-- Before the first record.
abbrev pub nothing : Prefix
nothing = record { count = 0; pointer = false; marked = false }

-- Refusal 2. "The marker stands at most once, and after at least one argument that is no return pointer. .. A return pointer
-- stands first or nowhere."
abbrev pub misplaced : Prefix → Kind → Bool
misplaced pre k = (is Marker k && (pre.marked || leb pre.count (cond pre.pointer 1 0))) || (is Pointer k && not (eqb pre.count 0))

-- Refusal 3. "At most 32 arguments, the return pointer counted, the marker not."
abbrev pub arguments_most : ℕ
arguments_most = 32

abbrev pub full : Prefix → Kind → Bool
full pre k = not (is Marker k) && leb arguments_most pre.count

-- The number of the argument that a record is or would be: the arguments before it and itself. A marker is none, and an unknown
-- kind neither. Request (iv) of document 02: "the argument's number, from 1, with 0 for a marker"; "At a record that would be
-- argument k it is k; at a misplaced marker or an unknown kind 0."
abbrev pub argument : Prefix → Kind → ℕ
argument pre k = cond (is Unknown k || is Marker k) 0 (pre.count + 1)

-- With one more record. A marker is no argument.
abbrev pub extend : Prefix → Kind → Prefix
extend pre k = cond (is Marker k)
    (record { count = pre.count; pointer = pre.pointer; marked = true })
    (record { count = pre.count + 1; pointer = pre.pointer || is Pointer k; marked = pre.marked })
