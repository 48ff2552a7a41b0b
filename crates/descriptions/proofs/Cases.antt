-- Descriptions and what is answered to them, computed.
-- Assumes nothing.
use mathlib.Core.Path.{◌≡◌, refl}
use mathlib.Core.List.{List, [], ◌∷◌, ◌++◌}
use mathlib.Core.Bool.{Bool, true, ◌&&◌}
use Prim.Native.Nat.{ℕ, zero, suc}
use lib.Dec.{T, eqb}
use lib.ListN.{replicate}
use Rattle.descriptions.specs.Structures.{Structure}
use Rattle.descriptions.specs.Trees.{kind_among}
use Rattle.descriptions.specs.Describing.{judge, refused, describe_from, described}
use Rattle.descriptions.specs.Descriptions.{place_most}

-- A case: the bytes, and what is to come of them.
pub data Case : Type 0 where
  case : List ℕ → Structure → Case

abbrev pub same : Structure → Structure → Bool
same x y =
    eqb x.refusal y.refusal && eqb x.place y.place && eqb x.size y.size && eqb x.alignment y.alignment && eqb x.kind y.kind

abbrev pub all : List Case → Bool
all [] = true
all (case bytes x ∷ cs) = same (described bytes) x && all cs

-- ---- how the table is written

-- a size, an alignment and a kind
abbrev gives : List ℕ → ℕ → ℕ → ℕ → Case
gives bytes z a k = case bytes (record { refusal = 0; place = 0; size = z; alignment = a; kind = k })

-- a refusal and its place
abbrev refuses : List ℕ → ℕ → ℕ → Case
refuses bytes number place = case bytes (refused number place)

-- one structure around these bytes, and n of them in each other
abbrev enclosed : List ℕ → List ℕ
enclosed bytes = 0x10 ∷ bytes ++ (0x11 ∷ [])

abbrev nested : ℕ → List ℕ → List ℕ
nested n bytes = replicate n 0x10 ++ (bytes ++ replicate n 0x11)

abbrev layouts : List Case
layouts =
    -- each scalar alone; those aligned below 4 have the word-aligned kinds
    gives (enclosed (0x01 ∷ [])) 1 1 0x40
    ∷ gives (enclosed (0x02 ∷ [])) 1 1 0x40
    ∷ gives (enclosed (0x03 ∷ [])) 2 2 0x41
    ∷ gives (enclosed (0x04 ∷ [])) 2 2 0x41
    ∷ gives (enclosed (0x05 ∷ [])) 4 4 0x43
    ∷ gives (enclosed (0x06 ∷ [])) 8 8 0xC0
    ∷ gives (enclosed (0x07 ∷ [])) 4 4 0x43
    ∷ gives (enclosed (0x08 ∷ [])) 8 8 0xC0
    -- a hole before a member of each width, and fill at the end
    ∷ gives (enclosed (0x01 ∷ 0x04 ∷ 0x02 ∷ [])) 6 2 0x45
    ∷ gives (enclosed (0x01 ∷ 0x07 ∷ 0x01 ∷ [])) 12 4 0x4B
    ∷ gives (enclosed (0x01 ∷ 0x06 ∷ 0x01 ∷ [])) 24 8 0xC2
    -- repeats: 1 is once; 10, 11 and 12 are counts after a 12
    ∷ gives (enclosed (0x12 ∷ 1 ∷ 0x05 ∷ [])) 4 4 0x43
    ∷ gives (enclosed (0x12 ∷ 0x10 ∷ 0x05 ∷ [])) 64 4 0x7F
    ∷ gives (enclosed (0x12 ∷ 0x11 ∷ 0x05 ∷ [])) 68 4 0x80
    ∷ gives (enclosed (0x12 ∷ 0x12 ∷ 0x01 ∷ [])) 18 1 0x51
    -- a structure is rounded up before it is repeated
    ∷ gives (enclosed (0x12 ∷ 2 ∷ enclosed (0x05 ∷ 0x01 ∷ []))) 16 4 0x4F
    -- and it is aligned as its strictest member
    ∷ gives (enclosed (0x01 ∷ enclosed (0x08 ∷ []) ++ (0x01 ∷ []))) 24 8 0xC2
    -- depth 6
    ∷ gives (nested 6 (0x02 ∷ [])) 1 1 0x40
    ∷ gives (nested 5 (enclosed (0x02 ∷ []) ++ enclosed (0x03 ∷ []))) 4 2 0x43
    -- the largest of each kind
    ∷ gives (enclosed (0x12 ∷ 80 ∷ 0x05 ∷ [])) 320 4 0xBF
    ∷ gives (enclosed (0x12 ∷ 64 ∷ 0x08 ∷ [])) 512 8 0xFF
    ∷ []

pub layouts_hold : T (all layouts)
unfolding describe_from judge kind_among
layouts_hold = tt

abbrev refusals : List Case
refusals =
    -- 16: bytes missing
    refuses [] 16 0
    ∷ refuses (0x10 ∷ []) 16 1
    ∷ refuses (0x10 ∷ 0x05 ∷ []) 16 2
    ∷ refuses (0x10 ∷ 0x12 ∷ []) 16 2
    ∷ refuses (0x10 ∷ 0x12 ∷ 3 ∷ []) 16 3
    ∷ refuses (0x10 ∷ enclosed (0x05 ∷ [])) 16 4
    -- or left over, before the last 19
    ∷ refuses (enclosed (0x05 ∷ []) ++ (0x11 ∷ [])) 16 3
    ∷ refuses (enclosed (0x12 ∷ 65 ∷ 0x01 ∷ []) ++ (0 ∷ [])) 16 5
    -- unknown, or where they can't stand
    ∷ refuses (0x05 ∷ []) 16 0
    ∷ refuses (0x12 ∷ 1 ∷ enclosed (0x01 ∷ [])) 16 0
    ∷ refuses (enclosed (0x00 ∷ [])) 16 1
    ∷ refuses (enclosed (0x09 ∷ [])) 16 1
    ∷ refuses (enclosed (0x12 ∷ 2 ∷ 0x12 ∷ 2 ∷ 0x05 ∷ [])) 16 3
    ∷ refuses (enclosed (0x12 ∷ 2 ∷ [])) 16 3
    -- a repeat of 0
    ∷ refuses (enclosed (0x12 ∷ 0 ∷ 0x05 ∷ [])) 16 2
    -- 17
    ∷ refuses (nested 7 (0x02 ∷ [])) 17 6
    -- 18, at the member's last byte and not before it
    ∷ refuses (enclosed (0x12 ∷ 255 ∷ 0x05 ∷ [])) 18 3
    ∷ refuses (enclosed (0x12 ∷ 64 ∷ 0x08 ∷ 0x01 ∷ [])) 18 4
    ∷ refuses (enclosed (0x12 ∷ 255 ∷ enclosed (0x05 ∷ 0x09 ∷ []))) 16 5
    ∷ refuses (enclosed (0x12 ∷ 255 ∷ enclosed (0x05 ∷ 0x05 ∷ []))) 18 6
    -- by the structure's size, rounded up: 43 x 16, and not 43 x 9
    ∷ refuses (enclosed (0x12 ∷ 43 ∷ enclosed (0x08 ∷ 0x01 ∷ []))) 18 6
    -- 19: a structure closed empty
    ∷ refuses (enclosed []) 19 1
    ∷ refuses (enclosed (0x12 ∷ 255 ∷ enclosed [])) 19 4
    -- and no kind of that size
    ∷ refuses (enclosed (0x12 ∷ 65 ∷ 0x01 ∷ [])) 19 0
    ∷ refuses (enclosed (0x12 ∷ 33 ∷ 0x04 ∷ [])) 19 0
    ∷ refuses (enclosed (0x12 ∷ 67 ∷ 0x01 ∷ [])) 19 0
    ∷ refuses (enclosed (0x12 ∷ 69 ∷ 0x01 ∷ [])) 19 0
    ∷ refuses (enclosed (0x12 ∷ 81 ∷ 0x05 ∷ [])) 19 0
    ∷ refuses (enclosed (0x12 ∷ 128 ∷ 0x05 ∷ [])) 19 0
    ∷ []

pub refusals_hold : T (all refusals)
unfolding describe_from judge kind_among
refusals_hold = tt

-- ---- the largest place

-- One byte of a structure, spelled in the longest way: a byte that is repeated once, in n structures that are.
abbrev one_byte : ℕ → List ℕ
one_byte zero = 0x12 ∷ 1 ∷ 0x01 ∷ []
one_byte (suc n) = 0x12 ∷ 1 ∷ enclosed (one_byte n)

abbrev copies : ℕ → List ℕ → List ℕ
copies zero bytes = []
copies (suc n) bytes = bytes ++ copies n bytes

-- 512 bytes so in each of the structures that may still be opened in each other, and then a repeat whose member is refused.
abbrev longest : ℕ → List ℕ
longest zero = copies 512 (one_byte 0) ++ (0x12 ∷ 1 ∷ 0x00 ∷ [])
longest (suc n) = copies 512 (one_byte (suc n)) ++ (0x12 ∷ 1 ∷ 0x10 ∷ longest n)

pub largest_place : (bytes : List ℕ) × ((described bytes).place ≡ place_most)
unfolding describe_from judge kind_among
largest_place = (0x10 ∷ longest 5, refl)
