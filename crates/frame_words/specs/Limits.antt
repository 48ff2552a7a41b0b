-- Limits of what these functions are handed: far above every frame's, and low enough that each sum fits a word.
use Rattle.std.specs.Prelude.{ℕ}

-- An opcode: "`swc1` (E7A00000 ..)" has the largest.
abbrev pub op_most : ℕ
op_most = 0xE7A00000

-- Where a save area starts, and where a save word lies.
abbrev pub start_most : ℕ
start_most = 4096

abbrev pub offset_most : ℕ
offset_most = 8192
