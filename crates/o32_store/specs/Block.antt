-- The image as the writer holds it: the register block, and the buffer after its first 32 bytes.
use Rattle.std.specs.Prelude.{List, ◌++◌, cond, ℕ, ◌-◌, min, ltb, drop}
use Rattle.words.specs.Words.{bytes_of_words}

-- "It starts with eight register words .., big-endian, 32 bytes."
abbrev pub whole : List ℕ → List ℕ → List ℕ
whole block out = bytes_of_words block ++ drop 32 out

-- Rule 4 word by word: how many of n bytes at offset o are in the word at offset p, where o and p are multiples of 4.
abbrev pub bytes_in_word : ℕ → ℕ → ℕ → ℕ
bytes_in_word o n p = cond (ltb p o) 0 (min 4 (n - (p - o)))
