-- Cases of plans, computed: the numbers of a plan, what is filled by one, and the signature of a list.
-- Assumes nothing.
use mathlib.Core.List.{List, [], ◌∷◌, ◌++◌}
use mathlib.Core.Bool.{Bool, true, false, ◌&&◌}
use Prim.Native.Nat.{ℕ, zero, suc, ◌+◌, ◌-◌, ◌/◌}
use lib.Dec.{T}
use lib.ListN.{length, set, replicate}
use Rattle.words.specs.Words.{bytes_of, bytes_of_words}
use Rattle.device.specs.declared.Device.{Device}
use Rattle.device.specs.declared.Device.TheVariants.{Fpu, NoFpu}
use Rattle.answers.proofs.Cases.{came}
use Rattle.plans.specs.Plans.{make_plan, numbers, make_into, fill_into, signature_into}

-- A case: the device, a signature, or a plan's numbers and a list, or a list, and the room lent; and what is to come of it: refusal,
-- place, argument, and the numbers or bytes written.
pub data Case : Type 0 where
  make : Device → List ℕ → ℕ → ℕ → ℕ → ℕ → List ℕ → Case
  fill : Device → List ℕ → List ℕ → ℕ → ℕ → ℕ → ℕ → List ℕ → Case
  signature : Device → List ℕ → ℕ → ℕ → ℕ → ℕ → List ℕ → Case

abbrev pub holds : Case → Bool
holds (make d sig room refusal place argument out) = came (make_into d sig room) room refusal place argument out
holds (fill d given list room refusal place argument out) = came (fill_into d given list room) room refusal place argument out
holds (signature d list room refusal place argument out) = came (signature_into d list room) room refusal place argument out

abbrev pub all : List Case → Bool
all [] = true
all (c ∷ cs) = holds c && all cs

-- ---- how the tables are written

-- the numbers of a placement: kind, offset, floating register
abbrev at : ℕ → ℕ → ℕ → List ℕ
at kind offset register = kind ∷ offset ∷ register ∷ []

-- words from an offset on
abbrev words_at : ℕ → ℕ → List ℕ
words_at o zero = []
words_at o (suc n) = at 0x05 o 0 ++ words_at (o + 4) n

-- these placements, zero in every other entry, the count and this area
abbrev plan : List ℕ → ℕ → List ℕ
plan es area = es ++ (replicate (96 - length es) 0 ++ (length es / 3 ∷ area ∷ []))

abbrev gives : Device → List ℕ → List ℕ → ℕ → Case
gives d sig es area = make d sig 98 0 0 0 (plan es area)

-- the plan that a signature has on a device
abbrev plan_by : Device → List ℕ → List ℕ
plan_by d sig = numbers (make_plan d false sig).plan

-- the longest signature: 32 words, and a marker before the last
abbrev most : List ℕ
most = replicate 31 0x05 ++ (0x0A ∷ 0x05 ∷ [])

abbrev plans : List Case
plans =
    gives Fpu [] [] 16
    ∷ gives NoFpu [] [] 16
    -- a word and a structure of 6 bytes
    ∷ gives Fpu (0x05 ∷ 0x45 ∷ []) (at 0x05 0 0 ++ at 0x45 4 0) 16
    -- d, s, n: the floats in $f12 and $f14, or by their offsets
    ∷ gives Fpu (0x08 ∷ 0x07 ∷ 0x05 ∷ []) (at 0x08 0 12 ++ at 0x07 8 14 ++ at 0x05 12 0) 16
    ∷ gives NoFpu (0x08 ∷ 0x07 ∷ 0x05 ∷ []) (at 0x08 0 0 ++ at 0x07 8 0 ++ at 0x05 12 0) 16
    -- s, marker, d: the marker has no entry
    ∷ gives Fpu (0x07 ∷ 0x0A ∷ 0x08 ∷ []) (at 0x07 0 12 ++ at 0x08 8 0) 16
    ∷ gives NoFpu (0x07 ∷ 0x0A ∷ 0x08 ∷ []) (at 0x07 0 0 ++ at 0x08 8 0) 16
    -- a return pointer, which counts as first
    ∷ gives Fpu (0x0B ∷ 0x07 ∷ []) (at 0x0B 0 0 ++ at 0x07 4 0) 16
    -- two structures of 512 bytes, to the last offset
    ∷ gives Fpu (0xFF ∷ 0xFF ∷ []) (at 0xFF 0 0 ++ at 0xFF 512 0) 1024
    -- a word, and a structure of four bytes, which differ
    ∷ gives Fpu (0x05 ∷ []) (at 0x05 0 0) 16
    ∷ gives Fpu (0x43 ∷ []) (at 0x43 0 0) 16
    -- two words, alike with a marker between them
    ∷ gives NoFpu (0x05 ∷ 0x05 ∷ []) (words_at 0 2) 16
    ∷ gives NoFpu (0x05 ∷ 0x0A ∷ 0x05 ∷ []) (words_at 0 2) 16
    -- 32 words and a marker before the last
    ∷ gives Fpu most (words_at 0 32) 128
    -- 1, 2, 3 and 5, and 7 after them
    ∷ make Fpu (0x05 ∷ 0x09 ∷ []) 97 1 1 0 []
    ∷ make Fpu (0x05 ∷ 0x0B ∷ []) 97 2 1 2 []
    ∷ make Fpu (replicate 33 0x05) 97 3 32 33 []
    ∷ make Fpu (0xFF ∷ 0xFF ∷ 0x05 ∷ []) 97 5 2 3 []
    ∷ make Fpu (0x05 ∷ []) 97 7 0 0 []
    ∷ []

pub plans_hold : T (all plans)
plans_hold = tt

-- ---- filling an image

-- the record of a word, and so many of them
abbrev word : ℕ → List ℕ
word w = 0x05 ∷ bytes_of 4 w

abbrev words : ℕ → List ℕ
words zero = []
words (suc n) = word 9 ++ words n

-- n, marker, n
abbrev two : List ℕ
two = word 7 ++ (0x0A ∷ word 9)

-- the plan of a structure of four bytes
abbrev wrong : List ℕ
wrong = plan_by Fpu (0x43 ∷ [])

-- a plan with these numbers is not the list's
abbrev differs : Device → List ℕ → List ℕ → Case
differs d given list = fill d given list 48 20 0 0 []

-- the plan of two words, with another number in one place
abbrev altered : ℕ → ℕ → Case
altered i v = differs Fpu (set (plan_by Fpu (0x05 ∷ 0x05 ∷ [])) i v) two

abbrev fills : List Case
fills =
    -- the marker is in no plan
    fill Fpu (plan_by Fpu (0x05 ∷ 0x05 ∷ [])) two 48 0 0 0 (bytes_of_words (7 ∷ 9 ∷ replicate 10 0))
    -- the other device's plan is the same where no float is in a floating register,
    ∷ fill NoFpu (plan_by Fpu (0x05 ∷ 0x05 ∷ [])) two 48 0 0 0 (bytes_of_words (7 ∷ 9 ∷ replicate 10 0))
    ∷ fill Fpu (plan_by NoFpu (0x05 ∷ 0x07 ∷ [])) (word 7 ++ (0x07 ∷ bytes_of 4 0x3F800000)) 48 0 0 0 (bytes_of_words (7 ∷ 0x3F800000 ∷ replicate 10 0))
    -- and another where one is
    ∷ fill Fpu (plan_by Fpu (0x07 ∷ [])) (0x07 ∷ bytes_of 4 0x3F800000) 48 0 0 0 (bytes_of_words (replicate 4 0 ++ (0x3F800000 ∷ replicate 7 0)))
    ∷ differs Fpu (plan_by NoFpu (0x07 ∷ [])) (0x07 ∷ bytes_of 4 0x3F800000)
    ∷ differs NoFpu (plan_by Fpu (0x07 ∷ [])) (0x07 ∷ bytes_of 4 0x3F800000)
    -- a structure of four bytes is no word
    ∷ differs Fpu wrong (word 7)
    -- a kind, an offset, a register; an entry past the count, the first and the last; the count; the area
    ∷ altered 0 0x43
    ∷ altered 4 8
    ∷ altered 2 12
    ∷ altered 6 0x05
    ∷ altered 95 1
    ∷ altered 96 1
    ∷ altered 97 24
    -- numbers that fit no entry, with the right one in their low bits
    ∷ altered 0 0x105
    ∷ altered 4 0x10004
    -- fewer numbers, and more
    ∷ differs Fpu [] two
    ∷ differs Fpu (plan_by Fpu (0x05 ∷ 0x05 ∷ []) ++ (0 ∷ [])) two
    -- 1 to 5 before 20
    ∷ fill Fpu wrong (word 7 ++ (0x09 ∷ [])) 0 1 5 0 []
    ∷ fill Fpu [] (word 7 ++ (0x0B ∷ [])) 0 2 5 2 []
    ∷ fill Fpu wrong (words 33) 0 3 160 33 []
    ∷ fill Fpu wrong (0x05 ∷ 0x00 ∷ []) 0 4 0 1 []
    ∷ fill Fpu wrong (0xFF ∷ (replicate 512 0 ++ (0xFF ∷ (replicate 512 0 ++ word 7)))) 0 5 1026 3 []
    -- and 20 before 7
    ∷ fill Fpu wrong two 0 20 0 0 []
    ∷ fill Fpu (plan_by Fpu (0x05 ∷ 0x05 ∷ [])) two 47 7 0 0 []
    ∷ []

pub fills_hold : T (all fills)
fills_hold = tt

-- ---- the signature of a list

abbrev signatures : List Case
signatures =
    signature Fpu two 3 0 0 0 (0x05 ∷ 0x0A ∷ 0x05 ∷ [])
    ∷ signature Fpu [] 0 0 0 0 []
    -- the longest: 32 words and a marker
    ∷ signature NoFpu (words 31 ++ (0x0A ∷ word 7)) 33 0 0 0 most
    -- 1 and 4, and 7 after them
    ∷ signature Fpu (word 7 ++ (0x09 ∷ [])) 0 1 5 0 []
    ∷ signature Fpu (two ++ (0x05 ∷ 0x00 ∷ [])) 0 4 11 3 []
    ∷ signature Fpu two 2 7 0 0 []
    ∷ []

pub signatures_hold : T (all signatures)
signatures_hold = tt
