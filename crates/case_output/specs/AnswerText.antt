-- The text of an answer, as it is printed below its case.
use Rattle.std.specs.Prelude.{List, [], ◌∷◌, ◌++◌, Bool, true, false, cond, ◌&&◌, ◌||◌, ℕ, zero, suc, ◌+◌, ◌%◌, length, get_or, take, drop, eqb, ◌==◌, unwrap_or}
use Rattle.std.specs.List.{list_all}
use Rattle.answers.specs.declared.Answer.{Answer}
use Rattle.case_input.specs.Lines.{place_of}
use Rattle.text.specs.Text.{hex_text, decimal, refusal_text}

-- A byte as hex digits: a space before a word, a newline after four words and at the end.
abbrev pub byte_text : List ℕ → ℕ → List ℕ
byte_text bytes i =
    cond (eqb (i % 4) 0) (32 ∷ []) [] ++ hex_text (get_or bytes i 0) ++ cond (eqb ((i + 1) % 16) 0 || eqb (i + 1) (length bytes)) (10 ∷ []) []

-- The first so many bytes.
abbrev pub bytes_text : List ℕ → ℕ → List ℕ
bytes_text bytes zero = []
bytes_text bytes (suc n) = bytes_text bytes n ++ byte_text bytes n

-- Whether an answer refuses nothing: all its parts are 0.
abbrev pub is_clear : ℕ → ℕ → ℕ → Bool
is_clear number place argument = eqb number 0 && (eqb place 0 && eqb argument 0)

-- The line of a refusal, if there is one.
abbrev pub refusal_part : ℕ → ℕ → ℕ → List ℕ
refusal_part number place argument = cond (is_clear number place argument) [] (refusal_text number place argument)

-- Whether every byte is still what the buffers of cases are filled with.
abbrev pub is_kept : List ℕ → Bool
is_kept out = list_all (λ b. b == 165) out

-- ", kept" or ", CHANGED", and a newline.
abbrev pub kept_text : Bool → List ℕ
kept_text true = 44 ∷ 32 ∷ 107 ∷ 101 ∷ 112 ∷ 116 ∷ 10 ∷ []
kept_text false = 44 ∷ 32 ∷ 67 ∷ 72 ∷ 65 ∷ 78 ∷ 71 ∷ 69 ∷ 68 ∷ 10 ∷ []

-- "length "
abbrev length_word : List ℕ
length_word = 108 ∷ 101 ∷ 110 ∷ 103 ∷ 116 ∷ 104 ∷ 32 ∷ []

-- The refusal, the answer's bytes, their number, and whether the bytes after them are kept.
abbrev pub answer_text : Answer → List ℕ → List ℕ
answer_text a out =
    refusal_part a.refusal a.place a.argument ++ bytes_text (take a.length out) (length (take a.length out)) ++ length_word ++ decimal a.length
    ++ kept_text (is_kept (drop a.length out))

-- Where the line at the start of a text ends: before its newline, or with the text.
abbrev pub line_length : List ℕ → ℕ
line_length text = unwrap_or (place_of 10 text) (length text)
