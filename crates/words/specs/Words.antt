-- Numbers rounded up, numbers as bytes, and placement rule 1: how bytes and halfwords become words.
use Rattle.std.specs.Prelude.{List, [], ◌∷◌, ◌++◌, Bool, true, false, cond, ◌&&◌, ℕ, zero, suc, ◌+◌, ◌-◌, ◌*◌, ◌/◌, ◌%◌, length, get_or, drop, replicate, eqb, ltb}

-- The next multiple of a, from n on: n "rounded up to" a. (0 where a is 0.)
abbrev pub up : ℕ → ℕ → ℕ
up a n = (n + (a - 1)) / a * a

-- "Numbers are big-endian": the n bytes of a number, the highest first.
abbrev pub bytes_of : ℕ → ℕ → List ℕ
bytes_of zero x = []
bytes_of (suc n) x = bytes_of n (x / 256) ++ (x % 256 ∷ [])

-- "Words are big-endian": the bytes of words, in order.
abbrev pub bytes_of_words : List ℕ → List ℕ
bytes_of_words [] = []
bytes_of_words (w ∷ ws) = bytes_of 4 w ++ bytes_of_words ws

-- Rule 1. What promotion puts in front of a body: so many zeros (unsigned), or so many copies of its sign (signed).
pub data Extension : Type 0 where
  zeros : ℕ → Extension
  signs : ℕ → Extension

-- A signed or unsigned body of so many bytes, extended to w bytes.
abbrev pub to_width : ℕ → Bool → ℕ → Extension
to_width w true size = signs (w - size)
to_width w false size = zeros (w - size)

-- Rule 1. "Bytes and halfwords become words".
abbrev pub to_word : Bool → ℕ → Extension
to_word = to_width 4

-- The sign of a body, as a byte: FF where its first bit is set, else 00.
abbrev pub sign : List ℕ → ℕ
sign body = cond (ltb (get_or body 0 0) 0x80) 0 0xFF

abbrev pub front : Extension → List ℕ → List ℕ
front (zeros n) body = replicate n 0
front (signs n) body = replicate n (sign body)

-- Rule 1. "a signed byte 0x80 becomes 0xFFFFFF80, an unsigned one 0x00000080."
abbrev pub promote : Extension → List ℕ → List ℕ
promote e body = front e body ++ body

-- The body in promoted bytes: the last `size` of them.
abbrev pub body : ℕ → List ℕ → List ℕ
body size bytes = drop (length bytes - size) bytes

-- Whether two lists have the same numbers.
abbrev pub same : List ℕ → List ℕ → Bool
same [] [] = true
same [] (y ∷ ys) = false
same (x ∷ xs) [] = false
same (x ∷ xs) (y ∷ ys) = eqb x y && same xs ys

-- Refusal 8 asks this: whether bytes are a proper promotion, that is, the promotion of the body in them.
abbrev pub proper : Extension → ℕ → List ℕ → Bool
proper e size bytes = same (promote e (body size bytes)) bytes
