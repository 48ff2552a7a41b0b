-- What a check answers, in the papers' numbers.
use Rattle.std.specs.Prelude.{ℕ, ◌<◌, ◌≤◌, Result, Ok, Err}
use Rattle.answers.specs.declared.Cause.{Cause}
use Rattle.answers.specs.Numbers.{number}
use Rattle.prologues.specs.declared.Finding.{Finding}
use Rattle.prologues.specs.declared.Finding.TheVariants.{Accepted, OtherWord, Register}

-- A refusal and its place, then 0; or 0, 0 and the verdict.
pub record Verdict : Type 0 where
  pub refusal : ℕ
  pub place : ℕ
  -- 0: accepted; 255: another word, or the `addiu` not once and first; else the first register whose store is missing or doubled,
  -- a floating one as 32 plus its number
  pub verdict : ℕ

-- The code's answer in these numbers.
abbrev pub finding_number : Finding → ℕ
finding_number Accepted = 0
finding_number OtherWord = 255
finding_number (Register k) = k

abbrev pub verdict_in_numbers : Result Finding Cause → Verdict
verdict_in_numbers (Err c) = record { refusal = number c; place = 0; verdict = 0 }
verdict_in_numbers (Ok f) = record { refusal = 0; place = 0; verdict = finding_number f }

-- A register in an answer has a number from 16 to 63, so that no two answers have the same numbers.
abbrev pub RegisterInRange : Finding → Type 0
RegisterInRange Accepted = Unit {0}
RegisterInRange OtherWord = Unit {0}
RegisterInRange (Register k) = (16 ≤ k) × (k < 64)
