-- What the writers of prologue and epilogue answer ("Frames").
use Rattle.std.specs.Prelude.{List, cond, ℕ, length, eqb}
use Rattle.device.specs.declared.Device.{Device}
use Rattle.answers.specs.Outcomes.{Outcome, done, refused, check_room}
use Rattle.frame.specs.declared.Request.{Request}
use Rattle.frame.specs.Frame.{refusal_of}
use Rattle.frame.specs.Words.{prologue_words, epilogue_words}
use Rattle.words.specs.Words.{bytes_of_words}

-- Refusals 9, 14, 10, 11 and 12, then "13: code buffer too short", then the words, into a code buffer with so many bytes.
unfoldable pub code_into : Device → Request → List ℕ → ℕ → Outcome
code_into d r ws room = cond (eqb (refusal_of d r) 0) (check_room 13 room (length (bytes_of_words ws)) (done (bytes_of_words ws))) (refused (refusal_of d r) 0 0)

abbrev pub prologue_into : Device → Request → ℕ → Outcome
prologue_into d r room = code_into d r (prologue_words r) room

abbrev pub epilogue_into : Device → Request → ℕ → Outcome
epilogue_into d r room = code_into d r (epilogue_words r) room
