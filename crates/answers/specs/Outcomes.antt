-- What a function with a lent buffer answers, and what it leaves in the buffer ("Refusal numbers").
use Rattle.std.specs.Prelude.{List, ◌++◌, cond, ℕ, length, drop, ltb, Result, Ok, Err}
use Rattle.answers.specs.declared.Refusal.{Refusal}
use Rattle.answers.specs.Numbers.{number}
use Rattle.answers.specs.declared.Answer.{Answer}

-- What comes of a request: bytes (of a plan, its words), or the refusal's number, its place and the argument's number.
pub data Outcome : Type 0 where
  done : List ℕ → Outcome
  refused : ℕ → ℕ → ℕ → Outcome

-- Refusal 7, "output buffer shorter than the result", or 13, "code buffer too short": this number, at place 0, of no argument, where
-- a result of so many bytes or words is longer than the room for it; or else this outcome.
abbrev pub check_room : ℕ → ℕ → ℕ → Outcome → Outcome
check_room number room n x = cond (ltb room n) (refused number 0 0) x

-- A function's answer in the papers' numbers.
abbrev pub in_numbers : Result ℕ Refusal → Answer
in_numbers (Err e) = record { refusal = number e.cause; place = e.place; argument = e.argument; length = 0 }
in_numbers (Ok n) = record { refusal = 0; place = 0; argument = 0; length = n }

-- "A refusal returns its number, its place .., length 0"; "Success returns 0, place 0 and the exact length." Of the argument's number:
-- "every refusal among 1 to 5 and 8 passes it up beside the place"; "Every other refusal reports 0, and so does success" (request
-- (iv) of document 02).
abbrev pub answer_of : Outcome → Answer
answer_of (refused r at n) = record { refusal = r; place = at; argument = n; length = 0 }
answer_of (done x) = record { refusal = 0; place = 0; argument = 0; length = length x }

-- A buffer with these bytes, or words, at its start: "output bytes beyond it keep their content".
abbrev pub over : List ℕ → List ℕ → List ℕ
over x out = x ++ drop (length x) out

-- On a refusal "the output buffer keeps its bytes".
abbrev pub buffer_of : Outcome → List ℕ → List ℕ
buffer_of (refused r at n) out = out
buffer_of (done x) out = over x out
