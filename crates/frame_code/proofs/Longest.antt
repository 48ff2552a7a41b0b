-- The longest prologue and the longest epilogue.
-- Assumes nothing.
use mathlib.Core.Path.{◌≡◌, refl}
use mathlib.Core.List.{List}
use Prim.Native.Nat.{ℕ, ◌+◌, ◌*◌, ◌≤◌}
use native.Mathlib.Omega.{arith}
use native.Mathlib.Decide.{ℕ_discrete}
use lib.ListN.{length}
use Rattle.device.specs.declared.Device.{Device}
use Rattle.answers.specs.Outcomes.{Outcome, answer_of}
use Rattle.frame.specs.declared.Request.{Request}
use Rattle.frame.specs.Masks.{count_below}
use Rattle.frame.specs.Frame.{refusal_of, general_at, locals_at, frame_of}
use Rattle.frame.specs.Words.{collect, saves_of, prologue_for, epilogue_for, prologue_words, epilogue_words}
use Rattle.words.specs.Words.{bytes_of_words}
use Rattle.frame.proofs.Accepted.{accepted}
use Rattle.frame_code.specs.Code.{code_into}
use Rattle.frame_code.specs.Longest.{saves_most, Longest}
use Rattle.frame_code.proofs.Answers.{code_cases}
use Rattle.frame.proofs.Collect.{length_saves}
use Rattle.frame_code.proofs.Bytes.{prologue-none, prologue-length, epilogue-length}

-- an answer is no longer than the words of an accepted request
code-length-le : (d : Device) (r : Request) (ws : List ℕ) (room n : ℕ) → (refusal_of d r ≡ 0 → length (bytes_of_words ws) ≤ n)
    → (answer_of (code_into d r ws room)).length ≤ n
code-length-le d r ws room n h = code_cases d r ws room (λ (a : Outcome). (answer_of a).length ≤ n) h (omega arith) (λ e. omega arith)

-- "Place is 0", and there is no argument
pub code_place_zero : (d : Device) (r : Request) (ws : List ℕ) (room : ℕ)
    → ((answer_of (code_into d r ws room)).place ≡ 0) × ((answer_of (code_into d r ws room)).argument ≡ 0)
code_place_zero d r ws room =
    code_cases d r ws room (λ (a : Outcome). ((answer_of a).place ≡ 0) × ((answer_of a).argument ≡ 0)) (λ e. (refl, refl)) (refl, refl) (λ e. (refl, refl))

-- a prologue without a frame has no words
prologue-most : (r : Request) → length (bytes_of_words (prologue_words r)) ≤ 4 + 4 * length (saves_of r)
prologue-most r = go (ℕ_discrete (frame_of r) 0)
  where
    go : Dec (frame_of r ≡ 0) → length (bytes_of_words (prologue_words r)) ≤ 4 + 4 * length (saves_of r)
    go (yes z) = rw (prologue-none r z) (omega arith)
    go (no n) = omega (arith, prologue-length r n)

saves_most_lem : (d : Device) (r : Request) → refusal_of d r ≡ 0 → 4 * length (saves_of r) ≤ saves_most
saves_most_lem d r e = let a = accepted d r e in omega (arith, length_saves r)

pub longest : Longest
unfolding refusal_of frame_of locals_at general_at count_below prologue_words epilogue_words prologue_for epilogue_for saves_of collect code_into
longest = record {
  prologue = record { bound = λ d r room. code-length-le d r (prologue_words r) room _ (λ e. omega (arith, prologue-most r, saves_most_lem d r e)); reached = refl };
  epilogue = record { bound = λ d r room. code-length-le d r (epilogue_words r) room _ (λ e. omega (arith, epilogue-length r, saves_most_lem d r e)); reached = refl };
}
