-- What the contract of the code that fills an image cites beside the definitions.
use Rattle.std.specs.Prelude.{List, Bool, true, cond, ℕ}
use Rattle.device.specs.declared.Device.{Device}
use Rattle.answers.specs.Outcomes.{Outcome, refused}
use Rattle.carried.specs.Convention.{resolve, scan, write_into}
use Rattle.o32.specs.O32.{O32}

-- What comes of a list whose plan was compared: its own refusal, then 20 where the plan differs, then what the writer gives.
abbrev pub filled : Device → Bool → List ℕ → ℕ → Outcome
filled d agrees list room = resolve (scan (O32 d) true list) (λ L st. cond agrees (write_into (O32 d) list room) (refused 20 0 0))
