-- What the contracts of the first walk cite beside the definitions.
use Rattle.std.specs.Prelude.{ℕ, Result, Ok, Err}
use Rattle.answers.specs.declared.Refusal.{Refusal}
use Rattle.passes.specs.declared.Measured.{Measured}
use Rattle.o32_step.specs.declared.Record.{Record}
use Rattle.o32_step.specs.declared.Record.TheVariants as R

-- A record's answer as that of the whole: its refusal, at this place. (One that is taken says nothing of the whole.)
abbrev pub refused_at : ℕ → Record → Result Measured Refusal
refused_at place (R.Refused r n) = Err (record { cause = r; place = place; argument = n })
refused_at place (R.Taken n kind st) = Ok (record { length = 0; image = 0 })
