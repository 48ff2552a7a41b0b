-- What is proved of the check, said of the bytes that `prologue` and `epilogue` leave in their buffers.
-- Assumes nothing.
use mathlib.Core.Path.{◌≡◌, sym, ap, ◌∙◌, subst}
use mathlib.Core.List.{List}
use Prim.Native.Nat.{ℕ}
use lib.ListN.{length}
use Rattle.device.specs.declared.Device.{Device}
use Rattle.answers.specs.Outcomes.{answer_of}
use Rattle.frame.specs.declared.Request.{Request}
use Rattle.frame.specs.Words.{prologue_words, epilogue_words}
use Rattle.frame.specs.Keeping.{Keeps}
use Rattle.frame_code.specs.Code.{prologue_into, epilogue_into}
use Rattle.frame_code.proofs.Link.{bytes_written, wrote}
use Rattle.prologues.specs.Checking.{checked}
use Rattle.prologues.specs.Prologues.{LeavesAsOurs, answer}
use Rattle.prologues.proofs.Theorem.{checks}

-- a buffer after a call of `prologue` that was not refused
module _ (d : Device) (r : Request) (out : List ℕ) (p : (answer_of (prologue_into d r (length out))).refusal ≡ 0) where
  abbrev prologue_in : List ℕ
  prologue_in = bytes_written (prologue_into d r (length out)) out

  -- "ours is accepted"
  pub written_accepted : checked d r prologue_in ≡ answer 0 0
  written_accepted = let w = wrote d r (prologue_words r) out p in ap (checked d r) w.1 ∙ checks.ours d r w.0

  -- whatever is accepted leaves what it leaves
  pub accepted_leaves : (code : List ℕ) → checked d r code ≡ answer 0 0 → LeavesAsOurs r code prologue_in
  accepted_leaves code e = subst (LeavesAsOurs r code) (sym (wrote d r (prologue_words r) out p).1) (checks.leaves d r code e)

-- a buffer after a call of `epilogue` that was not refused: whatever is accepted keeps what is demanded, with it
module _ (d : Device) (r : Request) (out : List ℕ) (p : (answer_of (epilogue_into d r (length out))).refusal ≡ 0) where
  pub accepted_keeps : (code : List ℕ) → checked d r code ≡ answer 0 0 → Keeps r code (bytes_written (epilogue_into d r (length out)) out)
  accepted_keeps code e = subst (Keeps r code) (sym (wrote d r (epilogue_words r) out p).1) (checks.keeps d r code e)
