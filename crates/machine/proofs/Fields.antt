-- What a word decodes to, by its fields.
-- Assumes nothing.
use mathlib.Core.Path.{◌≡◌}
use Prim.Native.Nat.{ℕ, ◌+◌, ◌*◌, ◌^◌, ◌<◌}
use native.Mathlib.Omega.{arith}
use Rattle.machine.specs.Machine.{opcode, rs, rt, immediate, special, instruction_of, decode}

-- a word of opcode o, with the registers s and t and the immediate i
abbrev pub word : ℕ → ℕ → ℕ → ℕ → ℕ
word o s t i = o * 2 ^ 26 + s * 2 ^ 21 + t * 2 ^ 16 + i

module _ (o s t i : ℕ) (ho : o < 2 ^ 6) (hs : s < 2 ^ 5) (ht : t < 2 ^ 5) (hi : i < 2 ^ 16) where
  opcode-word : opcode (word o s t i) ≡ o
  opcode-word = omega arith

  rs-word : rs (word o s t i) ≡ s
  rs-word = omega arith

  rt-word : rt (word o s t i) ≡ t
  rt-word = omega arith

  immediate-word : immediate (word o s t i) ≡ i
  immediate-word = omega arith

  pub decode-word : decode (word o s t i) ≡ instruction_of o s t i (special (word o s t i))
  unfolding decode
  decode-word = simp (opcode-word, rs-word, rt-word, immediate-word)
