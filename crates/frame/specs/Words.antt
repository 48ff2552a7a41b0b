-- The words of a prologue and of an epilogue ("Frames").
use Rattle.std.specs.Prelude.{List, [], ◌∷◌, ◌++◌, map, Bool, true, false, cond, ℕ, zero, suc, ◌+◌, ◌-◌, ◌*◌, eqb}
use Rattle.frame.specs.declared.Request.{Request}
use Rattle.frame.specs.Masks.{names, count_below}
use Rattle.frame.specs.Frame.{floating_at, general_at, frame_of}

-- A register to save: floating or general, its number, and the offset of its save word from `$sp`.
pub record Save : Type 0 where
  pub float : Bool
  pub number : ℕ
  pub offset : ℕ

-- The saves of what a mask names below k, upward; `saves j` are those of bit j. "Lower register numbers lie lower."
unfoldable pub collect : (ℕ → List Save) → ℕ → ℕ → List Save
collect saves m zero = []
collect saves m (suc k) = collect saves m k ++ cond (names m k) (saves k) []

-- Where pair k and register k lie in a save area that starts at `start`, above those that the mask names below them: "a pair
-- takes 8", "four bytes for each register named in the mask".
abbrev pub pair_offset : ℕ → ℕ → ℕ → ℕ
pair_offset start m k = start + 8 * count_below m k

abbrev pub register_offset : ℕ → ℕ → ℕ → ℕ
register_offset start m k = start + 4 * count_below m k

-- "bit k is `$f20`+2k and the next".
abbrev pub pair_at : ℕ → ℕ → ℕ → List Save
pair_at start m k =
    let at = pair_offset start m k in
    record { float = true; number = 20 + 2 * k; offset = at } ∷ record { float = true; number = 21 + 2 * k; offset = at + 4 } ∷ []

-- "bit k is `$k`".
abbrev pub register_at : ℕ → ℕ → ℕ → List Save
register_at start m k = record { float = false; number = k; offset = register_offset start m k } ∷ []

-- The pairs and the registers that a request saves.
abbrev pub pairs_of : Request → List Save
pairs_of r = collect (pair_at (floating_at r) r.pairs) r.pairs 6

abbrev pub registers_of : Request → List Save
registers_of r = collect (register_at (general_at r) r.general) r.general 32

-- All that it saves: the floating pairs "upward, then" the general registers "upward".
unfoldable pub saves_of : Request → List Save
saves_of r = pairs_of r ++ registers_of r

-- An instruction on a save word: "E7A00000 + 65,536 x register + offset" for `swc1`, and likewise.
abbrev pub word_of : ℕ → Save → ℕ
word_of op v = op + 65536 * v.number + v.offset

-- "`swc1` (E7A00000 ..)", "`sw` (AFA00000 likewise)".
abbrev pub store_word : Save → ℕ
store_word v = word_of (cond v.float 0xE7A00000 0xAFA00000) v

-- "`lwc1` (C7A00000), `lw` (8FA00000)".
abbrev pub load_word : Save → ℕ
load_word v = word_of (cond v.float 0xC7A00000 0x8FA00000) v

-- "`addiu $sp,$sp,-F` (27BD and the low 16 bits of -F)". (F is at most `frame_most`, so the low 16 bits of -F are 65,536 - F.)
abbrev pub lowering : ℕ → ℕ
lowering F = 0x27BD0000 + (65536 - F)

-- "If F is 0 the prologue has no words. Else" that one, "then" the stores.
unfoldable pub prologue_for : ℕ → List Save → List ℕ
prologue_for F saves = cond (eqb F 0) [] (lowering F ∷ map store_word saves)

-- "then `addiu $sp,$sp,F` in the delay slot; with F = 0, 00000000 there."
abbrev pub slot_for : ℕ → ℕ
slot_for F = cond (eqb F 0) 0 (0x27BD0000 + F)

-- "then 03E00008", which is `jr $31`, then the delay slot.
abbrev pub return_for : ℕ → List ℕ
return_for F = 0x03E00008 ∷ slot_for F ∷ []

-- The loads "in the same order", then the return.
unfoldable pub epilogue_for : ℕ → List Save → List ℕ
epilogue_for F saves = map load_word saves ++ return_for F

unfoldable pub prologue_words : Request → List ℕ
prologue_words r = prologue_for (frame_of r) (saves_of r)

unfoldable pub epilogue_words : Request → List ℕ
epilogue_words r = epilogue_for (frame_of r) (saves_of r)
