-- What is answered for code that is sent as a prologue. The comments quote request (x) of document 02.
use Rattle.std.specs.Prelude.{List, [], ◌∷◌, map, Bool, true, false, cond, not, ◌&&◌, ◌||◌, ℕ, zero, suc, ◌+◌, ◌%◌, eqb, ltb, length}
use Rattle.device.specs.declared.Device.{Device}
use Rattle.frame.specs.declared.Request.{Request}
use Rattle.frame.specs.Frame.{refusal_of, frame_of}
use Rattle.frame.specs.Words.{Save, saves_of, store_word, lowering}
use Rattle.frame.specs.Keeping.{words_in}
use Rattle.prologues.specs.Verdict.{Verdict}

-- How often a word stands among words.
unfoldable pub count : ℕ → List ℕ → ℕ
count w [] = 0
count w (x ∷ xs) = cond (eqb x w) 1 0 + count w xs

-- "with 00000000 anywhere": the words that are not 00000000, in order.
unfoldable pub instructions : List ℕ → List ℕ
instructions [] = []
instructions (w ∷ ws) = cond (eqb w 0) (instructions ws) (w ∷ instructions ws)

-- Whether each of these words is one of the stores.
unfoldable pub are_stores : List ℕ → List ℕ → Bool
are_stores stores [] = true
are_stores stores (w ∷ ws) = not (eqb (count w stores) 0) && are_stores stores ws

-- Whether they are "one `addiu $sp,$sp,-F` first, then" stores; "for F = 0" whether there are none.
unfoldable pub is_opened : ℕ → List ℕ → List ℕ → Bool
is_opened F stores [] = eqb F 0
is_opened F stores (w ∷ ws) = cond (eqb F 0) false (eqb w (lowering F) && are_stores stores ws)

-- The number of a register in an answer: "general registers by number .., floating ones as 32 plus number".
abbrev pub number_of : Save → ℕ
number_of v = cond v.float (32 + v.number) v.number

-- Whether register k is named, and its "store is missing or doubled".
unfoldable pub is_wrong : List Save → List ℕ → ℕ → Bool
is_wrong [] ws k = false
is_wrong (v ∷ saves) ws k = eqb (number_of v) k && not (eqb (count (store_word v) ws) 1) || is_wrong saves ws k

-- The first of n numbers, from k on, of which this is so; 0 where there is none.
unfoldable pub first_from : (ℕ → Bool) → ℕ → ℕ → ℕ
first_from so k zero = 0
first_from so k (suc n) = cond (so k) k (first_from so (suc k) n)

-- "the first register whose store is missing or doubled"; 0 where there is none.
abbrev pub first_wrong : List Save → List ℕ → ℕ
first_wrong saves ws = first_from (is_wrong saves ws) 0 64

-- "It is 0 on acceptance and 255, in preference, where any other word stands .., or where the `addiu` is missing, doubled or behind
-- a store."
unfoldable pub verdict_on : ℕ → List Save → List ℕ → ℕ
verdict_on F saves ws = cond (is_opened F (map store_word saves) (instructions ws)) (first_wrong saves ws) 255

-- "21, length no multiple of 4 or above 256 bytes".
abbrev pub code_most : ℕ
code_most = 256

abbrev pub has_wrong_length : List ℕ → Bool
has_wrong_length code = not (eqb (length code % 4) 0) || ltb code_most (length code)

-- The answers: a refusal, with 0 in every other part, and a verdict.
abbrev pub refused_with : ℕ → Verdict
refused_with n = record { refusal = n; place = 0; verdict = 0 }

abbrev pub judged : ℕ → Verdict
judged verdict = record { refusal = 0; place = 0; verdict = verdict }

-- Refusals 9, 14, 10, 11 and 12, then 21, then the verdict.
unfoldable pub checked : Device → Request → List ℕ → Verdict
checked d r code =
    cond (eqb (refusal_of d r) 0)
    (cond (has_wrong_length code) (refused_with 21) (judged (verdict_on (frame_of r) (saves_of r) (words_in code))))
    (refused_with (refusal_of d r))
