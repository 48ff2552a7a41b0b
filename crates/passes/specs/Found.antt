-- What the first pass finds, in the papers' numbers.
use Rattle.std.specs.Prelude.{ℕ, Result, Ok, Err}
use Rattle.answers.specs.declared.Refusal.{Refusal}
use Rattle.answers.specs.Numbers.{number}
use Rattle.passes.specs.declared.Measured.{Measured}

-- The first refusal's number, its place and its argument's number; or the length of the list and of its image.
pub data Found : Type 0 where
  refused : ℕ → ℕ → ℕ → Found
  accepted : ℕ → ℕ → Found

abbrev pub found : Result Measured Refusal → Found
found (Err e) = refused (number e.cause) e.place e.argument
found (Ok m) = accepted m.length m.image
