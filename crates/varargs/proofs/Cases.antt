-- Cases of the walker, computed: the answers with a lent buffer.
-- Assumes nothing.
use mathlib.Core.List.{List, [], ◌∷◌, ◌++◌}
use mathlib.Core.Bool.{Bool, true, ◌&&◌}
use Prim.Native.Nat.{ℕ}
use lib.Dec.{T}
use lib.ListN.{length, replicate}
use Rattle.words.specs.Words.{bytes_of, bytes_of_words}
use Rattle.device.specs.declared.Device.{Device}
use Rattle.device.specs.declared.Device.TheVariants.{Fpu, NoFpu}
use Rattle.answers.proofs.Cases.{came}
use Rattle.carried.specs.Convention.{read_into}
use Rattle.o32.specs.O32.{O32}
use Rattle.varargs.specs.Walking.{walk_into}

-- A case: the device, the signature, the image and the bytes lent, and what is to come of it: refusal, place, argument, and the bytes
-- written.
pub data Case : Type 0 where
  case : Device → List ℕ → List ℕ → ℕ → ℕ → ℕ → ℕ → List ℕ → Case

abbrev pub holds : Case → Bool
holds (case d sig img room refusal place argument bytes) = came (walk_into d sig img room) room refusal place argument bytes

abbrev pub all : List Case → Bool
all [] = true
all (c ∷ cs) = holds c && all cs

-- ---- how the table is written

-- these bytes are written, into a buffer of exactly their length
abbrev gives : Device → List ℕ → List ℕ → List ℕ → Case
gives d sig img bytes = case d sig img (length bytes) 0 0 0 bytes

abbrev refuses : Device → List ℕ → List ℕ → ℕ → ℕ → ℕ → ℕ → Case
refuses d sig img room number place argument = case d sig img room number place argument []

-- an image by words: $4 to $7, $f12 to $f15, the homes, and the area after them
abbrev image : List ℕ → List ℕ → List ℕ → List ℕ
image general floating area = bytes_of_words (general ++ floating ++ replicate 4 0xE1E2E3E4 ++ area)

-- a word that the answer does not depend on, and four of them
abbrev x : ℕ
x = 0xD1D2D3D4

abbrev floats : List ℕ
floats = replicate 4 x

-- Where nothing is carried other bytes stand, in the homes too.
abbrev walks : List Case
walks =
    -- s, marker, d: the walk starts at 4 and aligns to 8
    gives Fpu (0x07 ∷ 0x0A ∷ 0x08 ∷ []) (image (x ∷ x ∷ 0x40000000 ∷ 1 ∷ []) (0x3F800000 ∷ x ∷ x ∷ x ∷ []) []) (bytes_of_words (0x40000000 ∷ 1 ∷ []))
    ∷ gives NoFpu (0x07 ∷ 0x0A ∷ 0x08 ∷ []) (image (0x3F800000 ∷ x ∷ 0x40000000 ∷ 1 ∷ []) floats []) (bytes_of_words (0x40000000 ∷ 1 ∷ []))
    -- d, n, marker, d: the walk starts at 12 and aligns to 16
    ∷ gives Fpu (0x08 ∷ 0x05 ∷ 0x0A ∷ 0x08 ∷ []) (image (x ∷ x ∷ 7 ∷ x ∷ []) (0 ∷ 0x3FF00000 ∷ x ∷ x ∷ []) (0x40000000 ∷ 1 ∷ [])) (bytes_of_words (0x40000000 ∷ 1 ∷ []))
    ∷ gives NoFpu (0x08 ∷ 0x05 ∷ 0x0A ∷ 0x08 ∷ []) (image (0x3FF00000 ∷ 0 ∷ 7 ∷ x ∷ []) floats (0x40000000 ∷ 1 ∷ [])) (bytes_of_words (0x40000000 ∷ 1 ∷ []))
    -- n, marker, a structure of 20 bytes, split at offset 16
    ∷ gives Fpu (0x05 ∷ 0x0A ∷ 0x53 ∷ []) (image (9 ∷ 1 ∷ 2 ∷ 3 ∷ []) floats (4 ∷ 5 ∷ [])) (bytes_of_words (1 ∷ 2 ∷ 3 ∷ 4 ∷ 5 ∷ []))
    -- n, marker, bytes and halfwords
    ∷ gives Fpu (0x05 ∷ 0x0A ∷ 0x01 ∷ 0x02 ∷ 0x03 ∷ 0x04 ∷ []) (image (9 ∷ 0xFFFFFF80 ∷ 0x81 ∷ 0xFFFF8283 ∷ []) floats (0x8485 ∷ x ∷ [])) (bytes_of 6 0x808182838485)
    -- 32 words and a marker: before the last one, and last of all
    ∷ gives Fpu (replicate 31 0x05 ++ (0x0A ∷ 0x05 ∷ [])) (image (replicate 4 9) floats (replicate 27 9 ++ (7 ∷ []))) (bytes_of 4 7)
    ∷ gives NoFpu (replicate 32 0x05 ++ (0x0A ∷ [])) (image (replicate 4 9) floats (replicate 28 9)) []
    -- a marker that comes last
    ∷ gives Fpu (0x07 ∷ 0x0A ∷ []) (image floats floats []) []
    ∷ []

pub walks_hold : T (all walks)
walks_hold = tt

-- The reader accepts such an image: d, n, marker, d, with room for the 24 bytes of its list.
pub read_too : T (
    came (read_into (O32 Fpu) (0x08 ∷ 0x05 ∷ 0x0A ∷ 0x08 ∷ []) (image (x ∷ x ∷ 7 ∷ x ∷ []) (0 ∷ 0x3FF00000 ∷ x ∷ x ∷ []) (0x40000000 ∷ 1 ∷ [])) 24) 24 0 0 0
    (0x08 ∷ (bytes_of_words (0x3FF00000 ∷ 0 ∷ []) ++ (0x05 ∷ (bytes_of 4 7 ++ (0x0A ∷ 0x08 ∷ bytes_of_words (0x40000000 ∷ 1 ∷ [])))))))
read_too = tt

abbrev refusals : List Case
refusals =
    -- 15: a signature without a marker, an empty one too
    refuses Fpu (0x05 ∷ []) (image floats floats []) 9 15 0 0
    ∷ refuses NoFpu [] (image floats floats []) 9 15 0 0
    -- 1, 2, 3 and 5 before it
    ∷ refuses Fpu (0x05 ∷ 0x09 ∷ []) [] 9 1 1 0
    ∷ refuses Fpu (0x05 ∷ 0x0B ∷ []) [] 9 2 1 2
    ∷ refuses Fpu (replicate 33 0x05) [] 9 3 32 33
    ∷ refuses Fpu (0xFF ∷ 0xFF ∷ 0x05 ∷ []) [] 9 5 2 3
    -- and it before 6, 7 and 8
    ∷ refuses Fpu (0x05 ∷ []) [] 9 15 0 0
    ∷ refuses Fpu (0x05 ∷ []) (image floats floats []) 0 15 0 0
    ∷ refuses Fpu (0x01 ∷ []) (image (0x80 ∷ x ∷ x ∷ x ∷ []) floats []) 9 15 0 0
    -- 6: one byte too many
    ∷ refuses Fpu (0x05 ∷ 0x0A ∷ 0x01 ∷ []) (image floats floats [] ++ (0 ∷ [])) 0 6 0 0
    -- 7 by the bodies alone, before 8
    ∷ refuses Fpu (0x07 ∷ 0x0A ∷ 0x08 ∷ []) (image floats floats []) 7 7 0 0
    ∷ refuses Fpu (0x05 ∷ 0x0A ∷ 0x01 ∷ []) (image floats floats []) 0 7 0 0
    -- 8 after the marker, and before it, also where nothing is asked for
    ∷ refuses Fpu (0x05 ∷ 0x0A ∷ 0x01 ∷ []) (image (9 ∷ 0x80 ∷ x ∷ x ∷ []) floats []) 9 8 2 2
    ∷ refuses Fpu (0x01 ∷ 0x0A ∷ 0x05 ∷ []) (image (0x100 ∷ 9 ∷ x ∷ x ∷ []) floats []) 9 8 0 1
    ∷ refuses NoFpu (0x03 ∷ 0x0A ∷ []) (image (0x8000 ∷ x ∷ x ∷ x ∷ []) floats []) 0 8 0 1
    ∷ []

pub refusals_hold : T (all refusals)
refusals_hold = tt
