-- The bytes that the writers of prologue and epilogue answer are the words' own, of an accepted request, where they fit; so the
-- machine's theorem speaks of the bytes that the two functions write.
-- Assumes nothing.
use mathlib.Core.Path.{◌≡◌, refl, sym, subst₂}
use mathlib.Core.List.{List}
use mathlib.Core.Bool.{true}
use Prim.Native.Nat.{ℕ}
use native.Mathlib.Omega.{arith}
use lib.ListN.{length, take}
use lib.Seq.{take_at}
use Rattle.device.specs.declared.Device.{Device}
use Rattle.answers.specs.Outcomes.{Outcome, answer_of, buffer_of}
use Rattle.frame.specs.declared.Request.{Request}
use Rattle.frame.specs.Frame.{refusal_of, layout_of}
use Rattle.frame.specs.Words.{prologue_words, epilogue_words}
use Rattle.words.specs.Words.{bytes_of_words}
use Rattle.frame.specs.Keeping.{Keeps}
use Rattle.frame.specs.GlobalPointer.{KeepsGp}
use Rattle.frame.proofs.Theorem.{frames}
use Rattle.frame.proofs.GlobalPointer.{keeps_gp}
use Rattle.frame_code.specs.Code.{code_into, prologue_into, epilogue_into}
use Rattle.frame_code.proofs.Answers.{code_cases}

-- the bytes that are written to a buffer, by the length that is answered
abbrev pub bytes_written : Outcome → List ℕ → List ℕ
bytes_written a buf = take (answer_of a).length (buffer_of a buf)

-- what was written where the answer is no refusal
abbrev pub Wrote : Device → Request → List ℕ → List ℕ → Outcome → Type 0
Wrote d r ws buf a = (refusal_of d r ≡ 0) × (bytes_written a buf ≡ bytes_of_words ws)

pub wrote : (d : Device) (r : Request) (ws buf : List ℕ) → (answer_of (code_into d r ws (length buf))).refusal ≡ 0 → Wrote d r ws buf (code_into d r ws (length buf))
wrote d r ws buf =
    code_cases d r ws (length buf) (λ (a : Outcome). (answer_of a).refusal ≡ 0 → Wrote d r ws buf a)
    (λ e h. (e, take_at (bytes_of_words ws) _ _ refl)) (λ h. absurd (omega arith)) (λ n h. absurd (n h))

-- The bytes that stand in the two buffers after calls that were not refused keep what is demanded of them; `$28` at the offset that
-- `layout_of` answers.
module _ (d : Device) (r : Request) (out out' : List ℕ) where
  abbrev prologue_in : List ℕ
  prologue_in = bytes_written (prologue_into d r (length out)) out

  abbrev epilogue_in : List ℕ
  epilogue_in = bytes_written (epilogue_into d r (length out')) out'

  module _ (p : (answer_of (prologue_into d r (length out))).refusal ≡ 0) (q : (answer_of (epilogue_into d r (length out'))).refusal ≡ 0) where
    pub written_keeps : Keeps r prologue_in epilogue_in
    written_keeps =
        let a = wrote d r (prologue_words r) out p in
        let b = wrote d r (epilogue_words r) out' q in
        subst₂ (Keeps r) (sym a.1) (sym b.1) (frames d r a.0)

    pub written_gp : (layout_of d r).gp_saved ≡ true → KeepsGp r (layout_of d r) prologue_in epilogue_in
    written_gp = keeps_gp d r prologue_in epilogue_in (wrote d r (prologue_words r) out p).0 written_keeps
