-- What the program prints: an image as hex words, a refusal as a line.
use Rattle.std.specs.Prelude.{List, [], ◌∷◌, ◌++◌, cond, ℕ, zero, suc, ◌+◌, ◌*◌, ◌/◌, ◌%◌, length, get_or, ltb, Option, Some, None}
use Rattle.answers.specs.Outcomes.{over}

-- A digit below 16 as a character: 0 to 9, then A to F.
abbrev pub hex_digit : ℕ → ℕ
hex_digit d = cond (ltb d 10) (48 + d) (55 + d)

-- A byte as two hex digits, the higher first.
abbrev pub hex_text : ℕ → List ℕ
hex_text b = hex_digit (b / 16) ∷ hex_digit (b % 16) ∷ []

-- The line of the word that starts at a byte: "eight uppercase hex digits and a newline".
abbrev pub line_at : List ℕ → ℕ → List ℕ
line_at image at =
    hex_text (get_or image at 0) ++ hex_text (get_or image (at + 1) 0) ++ hex_text (get_or image (at + 2) 0) ++ hex_text (get_or image (at + 3) 0) ++ (10 ∷ [])

-- The lines of the first so many words.
abbrev pub lines : List ℕ → ℕ → List ℕ
lines image zero = []
lines image (suc n) = lines image n ++ line_at image (4 * n)

-- A line for each whole word.
abbrev pub image_text : List ℕ → List ℕ
image_text image = lines image (length image / 4)

-- A number in decimal, in at most so many digits: below ten its digit, else that of its tenth and then its last digit.
abbrev pub digits : ℕ → ℕ → List ℕ
digits zero n = []
digits (suc most) n = cond (ltb n 10) ((48 + n) ∷ []) (digits most (n / 10) ++ ((48 + n % 10) ∷ []))

-- A number in decimal without leading zeros. It has no more than n + 1 digits.
unfoldable pub decimal : ℕ → List ℕ
decimal n = digits (suc n) n

-- "refused "
abbrev refused_word : List ℕ
refused_word = 114 ∷ 101 ∷ 102 ∷ 117 ∷ 115 ∷ 101 ∷ 100 ∷ 32 ∷ []

-- " at "
abbrev at_word : List ℕ
at_word = 32 ∷ 97 ∷ 116 ∷ 32 ∷ []

-- " argument "
abbrev argument_word : List ℕ
argument_word = 32 ∷ 97 ∷ 114 ∷ 103 ∷ 117 ∷ 109 ∷ 101 ∷ 110 ∷ 116 ∷ 32 ∷ []

-- "refused N at P argument K" and a newline.
abbrev pub refusal_text : ℕ → ℕ → ℕ → List ℕ
refusal_text number place argument =
    refused_word ++ decimal number ++ at_word ++ decimal place ++ argument_word ++ decimal argument ++ (10 ∷ [])

-- What is answered for a text and a buffer of so many bytes: its length, or nothing where it does not fit.
abbrev pub stored_length : List ℕ → ℕ → Option ℕ
stored_length text room = cond (ltb room (length text)) None (Some (length text))

-- A buffer with a text at its start, and as it was where the text does not fit.
abbrev pub stored : List ℕ → List ℕ → List ℕ
stored text out = cond (ltb (length out) (length text)) out (over text out)
