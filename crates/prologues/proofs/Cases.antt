-- Words and what is answered to them, computed.
-- Assumes nothing.
use mathlib.Core.List.{List, [], ◌∷◌}
use mathlib.Core.Bool.{Bool, true, false, ◌&&◌}
use Prim.Native.Nat.{ℕ, ◌+◌, ◌^◌}
use lib.Dec.{T, eqb}
use lib.ListN.{replicate}
use Rattle.device.specs.declared.Device.{Device}
use Rattle.device.specs.declared.Device.TheVariants.{Fpu, NoFpu}
use Rattle.words.specs.Words.{bytes_of_words}
use Rattle.frame.specs.declared.Request.{Request}
use Rattle.frame.specs.Masks.{count_below}
use Rattle.frame.specs.Frame.{refusal_of, general_at, locals_at, frame_of}
use Rattle.frame.specs.Words.{collect, saves_of}
use Rattle.prologues.specs.Verdict.{Verdict}
use Rattle.prologues.specs.Checking.{count, instructions, are_stores, is_opened, is_wrong, first_from, verdict_on, checked}
use Rattle.prologues.specs.Prologues.{answer}

-- A case: the device, the request, the bytes, and what is to be answered.
data Case : Type 0 where
  case : Device → Request → List ℕ → Verdict → Case

abbrev same : Verdict → Verdict → Bool
same x y = eqb x.refusal y.refusal && eqb x.place y.place && eqb x.verdict y.verdict

abbrev all : List Case → Bool
all [] = true
all (case d r code x ∷ cs) = same (checked d r code) x && all cs

-- "not a leaf, `$16` and `$31`, L = 4, outgoing 0: F = 32, prologue 27BDFFE0 AFB00010 AFBF0014"
abbrev example : List ℕ → ℕ → Case
example ws n = case NoFpu (record { leaf = false; locals = 4; outgoing = 0; general = 2 ^ 16 + 2 ^ 31; pairs = 0 }) (bytes_of_words ws) (answer 0 n)

-- a leaf with `$16`, `$f22` and `$f23`
abbrev paired : List ℕ → ℕ → Case
paired ws n = case Fpu (record { leaf = true; locals = 0; outgoing = 0; general = 2 ^ 16; pairs = 2 }) (bytes_of_words ws) (answer 0 n)

-- a leaf that saves nothing and has no locals: F = 0
abbrev empty : List ℕ → ℕ → Case
empty ws n = case Fpu (record { leaf = true; locals = 0; outgoing = 0; general = 0; pairs = 0 }) (bytes_of_words ws) (answer 0 n)

-- a leaf with the registers of a mask, where the mask or the code is refused
abbrev refuses : ℕ → List ℕ → ℕ → Case
refuses mask code n = case Fpu (record { leaf = true; locals = 0; outgoing = 0; general = mask; pairs = 0 }) code (answer n 0)

abbrev verdicts : List Case
verdicts =
    -- ours; "once each in any order, with 00000000 anywhere"
    example (0x27BDFFE0 ∷ 0xAFB00010 ∷ 0xAFBF0014 ∷ []) 0
    ∷ example (0x27BDFFE0 ∷ 0xAFBF0014 ∷ 0xAFB00010 ∷ []) 0
    ∷ example (0 ∷ 0x27BDFFE0 ∷ 0 ∷ 0xAFBF0014 ∷ 0 ∷ 0 ∷ 0xAFB00010 ∷ 0 ∷ []) 0
    -- "the first register whose store is missing or doubled": by number, and not in the order of the words
    ∷ example (0x27BDFFE0 ∷ 0xAFBF0014 ∷ []) 16
    ∷ example (0x27BDFFE0 ∷ 0xAFB00010 ∷ []) 31
    ∷ example (0x27BDFFE0 ∷ []) 16
    ∷ example (0x27BDFFE0 ∷ 0xAFBF0014 ∷ 0xAFBF0014 ∷ 0xAFB00010 ∷ []) 31
    ∷ example (0x27BDFFE0 ∷ 0xAFBF0014 ∷ 0xAFBF0014 ∷ 0xAFB00010 ∷ 0xAFB00010 ∷ 0xAFB00010 ∷ []) 16
    -- "255, in preference, where any other word stands (a store at another place or of another register too)"
    ∷ example (0x27BDFFE0 ∷ 0xAFB00010 ∷ 0xAFBF0014 ∷ 0x00000001 ∷ []) 255
    ∷ example (0x27BDFFE0 ∷ 0xAFB00010 ∷ 0xAFBF0018 ∷ []) 255
    ∷ example (0x27BDFFE0 ∷ 0xAFB10010 ∷ 0xAFBF0014 ∷ []) 255
    ∷ example (0x27BDFFE0 ∷ 0xAFB00014 ∷ 0xAFBF0010 ∷ []) 255
    -- "or where the `addiu` is missing, doubled or behind a store"
    ∷ example [] 255
    ∷ example (0xAFB00010 ∷ 0xAFBF0014 ∷ []) 255
    ∷ example (0x27BDFFE0 ∷ 0x27BDFFE0 ∷ 0xAFB00010 ∷ 0xAFBF0014 ∷ []) 255
    ∷ example (0xAFB00010 ∷ 0x27BDFFE0 ∷ 0xAFBF0014 ∷ []) 255
    ∷ example (0x27BDFFD8 ∷ 0xAFB00010 ∷ 0xAFBF0014 ∷ []) 255
    -- "general registers by number before floating ones as 32 plus number"; each register of a pair
    ∷ paired (0x27BDFFF0 ∷ 0xE7B70004 ∷ 0xAFB00008 ∷ 0xE7B60000 ∷ []) 0
    ∷ paired (0x27BDFFF0 ∷ 0xE7B60000 ∷ 0xE7B70004 ∷ []) 16
    ∷ paired (0x27BDFFF0 ∷ []) 16
    ∷ paired (0x27BDFFF0 ∷ 0xAFB00008 ∷ []) 54
    ∷ paired (0x27BDFFF0 ∷ 0xAFB00008 ∷ 0xE7B60000 ∷ []) 55
    ∷ paired (0x27BDFFF0 ∷ 0xAFB00008 ∷ 0xE7B60000 ∷ 0xE7B70000 ∷ []) 255
    -- "For F = 0 only 00000000 words, or none, are accepted."
    ∷ empty [] 0
    ∷ empty (replicate 64 0) 0
    ∷ empty (0x27BD0000 ∷ []) 255
    ∷ empty (0 ∷ 0x27BE0000 ∷ []) 255
    ∷ []

verdicts_hold : T (all verdicts)
unfolding checked verdict_on refusal_of frame_of locals_at general_at count_below saves_of collect instructions is_opened are_stores count is_wrong first_from
verdicts_hold = tt

-- "21, length no multiple of 4 or above 256 bytes, after the frame's 9 to 12"; the verdict is 0
abbrev lengths : List Case
lengths =
    refuses (2 ^ 16) (0x27 ∷ []) 21
    ∷ refuses (2 ^ 16) (0x27 ∷ 0xBD ∷ []) 21
    ∷ refuses (2 ^ 16) (0x27 ∷ 0xBD ∷ 0xFF ∷ []) 21
    ∷ refuses (2 ^ 16) (replicate 257 0) 21
    ∷ refuses (2 ^ 16) (replicate 260 0) 21
    ∷ refuses (2 ^ 15) (replicate 260 0) 9
    ∷ refuses (2 ^ 15) (replicate 3 0) 9
    ∷ []

lengths_hold : T (all lengths)
unfolding checked refusal_of
lengths_hold = tt
