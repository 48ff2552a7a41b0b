-- The answer of one record, in the papers' numbers.
use Rattle.std.specs.Prelude.{ℕ}
use Rattle.answers.specs.Numbers.{number}
use Rattle.kinds.specs.declared.Kind.{Kind}
use Rattle.o32.specs.declared.State.{State}
use Rattle.o32_step.specs.declared.Record.{Record}
use Rattle.o32_step.specs.declared.Record.TheVariants as R

-- A refusal's number, or the record's kind and the state after it; and its argument's number.
pub data Recorded : Type 0 where
  refused : ℕ → ℕ → Recorded
  taken : ℕ → Kind → State → Recorded

abbrev pub recorded : Record → Recorded
recorded (R.Refused cause n) = refused (number cause) n
recorded (R.Taken n kind st) = taken n kind st
