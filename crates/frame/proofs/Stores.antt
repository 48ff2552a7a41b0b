-- The stores of a prologue, and what they leave in memory.
-- Assumes nothing.
use mathlib.Core.Path.{◌≡◌, refl, ◌∙◌}
use mathlib.Core.Bool.{Bool, true, false, cond}
use mathlib.Core.List.{List, [], ◌∷◌}
use mathlib.Core.Option.{some}
use Prim.Native.Nat.{ℕ, ◌+◌, ◌≤◌}
use native.Mathlib.Omega.{arith}
use Rattle.machine.specs.Machine.{State, upd, proceed, step}
use Rattle.machine.proofs.Steps.{upd_same, upd_other, step_sw, step_swc1}
use Rattle.frame.specs.Words.{Save, word_of, store_word}
use Rattle.frame.proofs.Saves.{All, Span, span_apart, Fit, contents}
use Rattle.frame.proofs.Each.{Line, follows_next, proceed_line, Area, access, do_each, Goes}

-- The state after a store, `$sp` being p.
abbrev pub store : ℕ → Save → State → State
store p v s = proceed s s.reg s.freg (upd s.mem (p + v.offset) (contents s v))

pub store_goes : {p F : ℕ} (code : ℕ → ℕ) → Area p F
    → (v : Save) (s : State) → Fit v → v.offset + 4 ≤ F → Line p s → code s.pc ≡ store_word v → Goes code p s (store p v s)
store_goes {p} code a v s f i l c = record { steps = by v.float c; line = proceed_line s l.whole l.slot l.sp; at = follows_next s l.slot }
  where
    by : (b : Bool) → code s.pc ≡ word_of (cond b 0xE7A00000 0xAFA00000) v
        → step code s ≡ some (proceed s s.reg s.freg (upd s.mem (p + v.offset) (cond b s.freg s.reg v.number)))
    by true e = step_swc1 code (access a f i l) (omega arith)
    by false e = step_sw code (access a f i l) f.real (omega arith)

-- The registers are as they were, and so is what is no save word; each save word holds its register.
pub record Stored (p : ℕ) (saves : List Save) (s t : State) : Type 0 where
  pub reg : t.reg ≡ s.reg
  pub freg : t.freg ≡ s.freg
  pub elsewhere : (a : ℕ) → All (λ v. a ≡ p + v.offset → ⊥) saves → t.mem a ≡ s.mem a
  pub saved : All (λ v. t.mem (p + v.offset) ≡ contents s v) saves

pub stored : (p lo : ℕ) (vs : List Save) (hi : ℕ) (s : State) → Span lo vs hi → Stored p vs s (do_each (store p) vs s)
stored p lo [] hi s d = record { reg = refl; freg = refl; elsewhere = λ a h. refl; saved = tt }
stored p lo (v ∷ vs) hi s d =
    let r = stored p (v.offset + 4) vs hi (store p v s) d.1 in
    record {
      reg = r.reg;
      freg = r.freg;
      elsewhere = λ a h. r.elsewhere a h.1 ∙ upd_other s.mem (p + v.offset) (contents s v) a h.0;
      saved = (
        r.elsewhere (p + v.offset) (span_apart p v.offset (v.offset + 4) vs hi (omega arith) d.1) ∙ upd_same s.mem (p + v.offset) (contents s v),
        r.saved,
      );
    }
