-- Reading an image the way a routine with an ellipsis does (request (v) of document 02).
use Rattle.std.specs.Prelude.{List, [], ◌∷◌, ◌++◌, Bool, false, cond, ◌||◌, ℕ, zero, suc, ◌+◌, take, drop}
use Rattle.words.specs.Words.{up, body}
use Rattle.device.specs.declared.Device.{Device}
use Rattle.answers.specs.Outcomes.{Outcome, refused, check_room, over}
use Rattle.kinds.specs.declared.Class.TheVariants.{Marker}
use Rattle.kinds.specs.declared.Kind.{Kind}
use Rattle.kinds.specs.Kinds.{kind_of, is}
use Rattle.o32_offsets.specs.Offsets.{width, lay}
use Rattle.carried.specs.Convention.{body_length, Scan, resolve, scan, check_image}
use Rattle.o32.specs.declared.State.{State}
use Rattle.o32.specs.O32.{O32}

-- ---- what the routine does

-- "Routines with an ellipsis store `$4` to `$7` in their homes": the argument area as the routine then has it. An image starts with
-- the 16 bytes of these registers; its area comes after 32 bytes of register words.
abbrev pub spilled : List ℕ → List ℕ
spilled img = over (take 16 img) (drop 32 img)

-- "then walk memory and ask for one kind at a time". The pointer, aligned to the kind that is asked for;
abbrev pub aligned : Kind → ℕ → ℕ
aligned k pointer = up k.alignment pointer

-- the bytes that are taken there, of a byte or halfword the last one or two of its word;
abbrev pub bytes_at : Kind → ℕ → List ℕ → List ℕ
bytes_at k pointer memory = body k.size (take (width k) (drop (aligned k pointer) memory))

-- and the pointer after the step, by whole words.
abbrev pub stepped : Kind → ℕ → ℕ
stepped k pointer = aligned k pointer + up 4 (width k)

-- What is taken for these kinds, end to end.
abbrev pub walk_from : List ℕ → ℕ → List ℕ → List ℕ
walk_from memory pointer [] = []
walk_from memory pointer (k ∷ ks) = bytes_at (kind_of k) pointer memory ++ walk_from memory (stepped (kind_of k) pointer) ks

-- ---- "take each argument behind the marker"

-- The kinds of a signature before its marker: all, where it has none.
abbrev pub before : List ℕ → List ℕ
before [] = []
before (k ∷ ks) = cond (is Marker (kind_of k)) [] (k ∷ before ks)

-- What comes after the marker of a list (true) or of a signature (false): nothing, where it has none. With so many bytes of a body
-- still to pass.
abbrev pub after_from : Bool → ℕ → List ℕ → List ℕ
after_from bodies n [] = []
after_from bodies zero (k ∷ l) = cond (is Marker (kind_of k)) l (after_from bodies (body_length bodies (kind_of k).size) l)
after_from bodies (suc n) (b ∷ l) = after_from bodies n l

abbrev pub after : Bool → List ℕ → List ℕ
after bodies l = after_from bodies 0 l

-- The walk starts at the end of the last argument before the marker. A float before it counts by its offset, whatever its register.
abbrev pub walked : List ℕ → List ℕ → List ℕ
walked sig img = walk_from (spilled img) (lay 0 (before sig)).end (after false sig)

-- ---- with its refusals

-- Whether a signature has a marker.
abbrev pub marked : List ℕ → Bool
marked [] = false
marked (k ∷ ks) = is Marker (kind_of k) || marked ks

-- The walker on a device, by the scan of the signature and with a check of the room for what it takes. "Refusals: 15, signature without
-- a marker, after all signature checks and before 6; then as the reader's, 7 by the walker's own length."
abbrev pub walk_scan : Device → (ℕ → Outcome → Outcome) → List ℕ → List ℕ → Scan State → Outcome
walk_scan d room sig img q = resolve q (λ L st. cond (marked sig) (check_image (O32 d) room img L st (walked sig img)) (refused 15 0 0))

-- Where there is room for anything,
abbrev pub walk : Device → List ℕ → List ℕ → Outcome
walk d sig img = walk_scan d (λ n x. x) sig img (scan (O32 d) false sig)

-- and with a lent buffer of so many bytes.
abbrev pub walk_into : Device → List ℕ → List ℕ → ℕ → Outcome
walk_into d sig img room = walk_scan d (check_room 7 room) sig img (scan (O32 d) false sig)
