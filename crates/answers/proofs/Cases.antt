-- How a computed case is tried: the four numbers of an answer, and what stands in the lent buffer.
-- Assumes nothing.
use mathlib.Core.List.{List, [], ◌∷◌, ◌++◌}
use mathlib.Core.Bool.{Bool, ◌&&◌}
use Prim.Native.Nat.{ℕ, ◌-◌}
use lib.Dec.{T}
use lib.ListN.{length, replicate}
use Rattle.words.specs.Words.{same}
use Rattle.answers.specs.declared.Answer.{Answer}
use Rattle.answers.specs.Outcomes.{Outcome, done, refused, check_room, answer_of, buffer_of}

-- A lent buffer before the call. No case writes this byte.
abbrev pub lent : ℕ → List ℕ
lent n = replicate n 0xC5

abbrev pub numbers_of : Answer → List ℕ
numbers_of a = a.refusal ∷ a.place ∷ a.argument ∷ a.length ∷ []

-- The four numbers of the answer, and what stands in the buffer: the bytes written, and after them what was there.
abbrev pub came : Outcome → ℕ → ℕ → ℕ → ℕ → List ℕ → Bool
came x room refusal place argument bytes =
    same (numbers_of (answer_of x)) (refusal ∷ place ∷ argument ∷ length bytes ∷ [])
    && same (buffer_of x (lent room)) (bytes ++ lent (room - length bytes))

-- Two bytes into a buffer of three, of two and of one, and a refusal.
pub outcomes : T (
    came (check_room 7 3 2 (done (1 ∷ 2 ∷ []))) 3 0 0 0 (1 ∷ 2 ∷ [])
    && came (check_room 7 2 2 (done (1 ∷ 2 ∷ []))) 2 0 0 0 (1 ∷ 2 ∷ [])
    && came (check_room 7 1 2 (done (1 ∷ 2 ∷ []))) 1 7 0 0 []
    && came (check_room 13 1 1 (refused 5 6 7)) 1 5 6 7 []
    )
outcomes = tt
