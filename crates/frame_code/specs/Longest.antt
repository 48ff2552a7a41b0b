-- How long prologues and epilogues are, as a statement about what their writers answer.
use Rattle.std.specs.Prelude.{◌≡◌, ℕ, ◌+◌, ◌*◌, ◌≤◌, length}
use Rattle.device.specs.declared.Device.{Device}
use Rattle.device.specs.declared.Device.TheVariants.{Fpu}
use Rattle.answers.specs.Outcomes.{Outcome, answer_of}
use Rattle.frame.specs.declared.Request.{Request}
use Rattle.frame.specs.Frame.{savable_registers}
use Rattle.frame.specs.Largest.{all_requested}
use Rattle.frame_code.specs.Code.{prologue_into, epilogue_into}

-- The bytes of one instruction for each word that can be saved: two for each of the six pairs, one for each register.
abbrev pub saves_most : ℕ
saves_most = 8 * 6 + 4 * length savable_registers

-- No answer has more than n bytes, whatever the device, the request and the room; and one has n.
pub record Most (n : ℕ) (into : Device → Request → ℕ → Outcome) : Type 0 where
  pub bound : (d : Device) (r : Request) (room : ℕ) → (answer_of (into d r room)).length ≤ n
  pub reached : answer_of (into Fpu all_requested n) ≡ record { refusal = 0; place = 0; argument = 0; length = n }

-- The longest prologue has `addiu` and a store for each word that can be saved; the longest epilogue as many loads, `jr` and its delay slot.
pub record Longest : Type 0 where
  pub prologue : Most 96 prologue_into
  pub epilogue : Most 100 epilogue_into
