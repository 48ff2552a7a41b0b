-- What is answered to a description, in the papers' numbers.
use Rattle.std.specs.Prelude.{ℕ, Result, Ok, Err}
use Rattle.answers.specs.declared.Refusal.{Refusal}
use Rattle.answers.specs.Numbers.{number}
use Rattle.descriptions.specs.declared.Structure.{Structure as Described}

-- A structure that was described: a refusal's number, its place and all other numbers 0, or 0, 0 and the structure's numbers.
pub record Structure : Type 0 where
  pub refusal : ℕ
  pub place : ℕ
  pub size : ℕ
  pub alignment : ℕ
  pub kind : ℕ

-- A function's answer in these numbers.
abbrev pub structure_in_numbers : Result Described Refusal → Structure
structure_in_numbers (Err e) = record { refusal = number e.cause; place = e.place; size = 0; alignment = 0; kind = 0 }
structure_in_numbers (Ok x) = record { refusal = 0; place = 0; size = x.size; alignment = x.alignment; kind = x.kind }
