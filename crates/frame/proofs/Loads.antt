-- The loads of an epilogue, and what they leave in the registers.
-- Assumes nothing.
use mathlib.Core.Path.{◌≡◌, refl, sym, ◌∙◌}
use mathlib.Core.Bool.{Bool, true, false, cond}
use mathlib.Core.List.{List, [], ◌∷◌}
use Prim.Native.Nat.{ℕ, ◌+◌, ◌≤◌}
use native.Mathlib.Omega.{arith}
use Rattle.machine.specs.Machine.{State, upd, proceed}
use Rattle.machine.proofs.Steps.{upd_same, upd_other, upd_like, step_lw, step_lwc1}
use Rattle.frame.specs.Words.{Save, word_of, load_word}
use Rattle.frame.proofs.Saves.{All, Fit, contents}
use Rattle.frame.proofs.Each.{Line, follows_next, proceed_line, Area, access, do_each, Goes}

-- The state after a load of x, to a floating register or to a general one.
abbrev put : Bool → ℕ → ℕ → State → State
put float k x s = proceed s (cond float s.reg (upd s.reg k x)) (cond float (upd s.freg k x) s.freg) s.mem

-- The state after a load, `$sp` being p.
abbrev pub load : ℕ → Save → State → State
load p v s = put v.float v.number (s.mem (p + v.offset)) s

pub load_goes : {p F : ℕ} (code : ℕ → ℕ) → Area p F
    → (v : Save) (s : State) → Fit v → v.offset + 4 ≤ F → Line p s → code s.pc ≡ load_word v → Goes code p s (load p v s)
load_goes {p} code a v s f i l c = by v.float f.keeps c
  where
    by : (b : Bool) → (b ≡ false → v.number ≡ 29 → ⊥) → code s.pc ≡ word_of (cond b 0xC7A00000 0x8FA00000) v
        → Goes code p s (put b v.number (s.mem (p + v.offset)) s)
    by true k e =
        record { steps = step_lwc1 code (access a f i l) (omega arith); line = proceed_line s l.whole l.slot l.sp; at = follows_next s l.slot }
    by false k e = record {
      steps = step_lw code (access a f i l) f.real (omega arith);
      line = proceed_line s l.whole l.slot (upd_other s.reg v.number _ 29 (λ x. k refl (sym x)) ∙ l.sp);
      at = follows_next s l.slot;
    }

-- loads of the values that the registers of s have
module _ (p : ℕ) (s : State) where
  -- a register that has its value keeps it
  load_keeps : (v w : Save) (t : State) → t.mem (p + v.offset) ≡ contents s v → contents t w ≡ contents s w → contents (load p v t) w ≡ contents s w
  load_keeps v w t e h = by v.float w.float e h
    where
      by : (b c : Bool) → t.mem (p + v.offset) ≡ cond b s.freg s.reg v.number
          → cond c t.freg t.reg w.number ≡ cond c s.freg s.reg w.number
          → (let q = put b v.number (t.mem (p + v.offset)) t in cond c q.freg q.reg w.number ≡ cond c s.freg s.reg w.number)
      by true true e h = upd_like t.freg s.freg v.number _ w.number e h
      by true false e h = h
      by false true e h = h
      by false false e h = upd_like t.reg s.reg v.number _ w.number e h

  -- and the one that is loaded has it
  load_sets : (v : Save) (t : State) → t.mem (p + v.offset) ≡ contents s v → contents (load p v t) v ≡ contents s v
  load_sets v t e = by v.float e
    where
      by : (b : Bool) → t.mem (p + v.offset) ≡ cond b s.freg s.reg v.number
          → (let q = put b v.number (t.mem (p + v.offset)) t in cond b q.freg q.reg v.number ≡ cond b s.freg s.reg v.number)
      by true e = upd_same t.freg v.number _ ∙ e
      by false e = upd_same t.reg v.number _ ∙ e

  pub loads_keep : (vs : List Save) (w : Save) (t : State) → All (λ v. t.mem (p + v.offset) ≡ contents s v) vs → contents t w ≡ contents s w
      → contents (do_each (load p) vs t) w ≡ contents s w
  loads_keep [] w t a h = h
  loads_keep (v ∷ vs) w t a h = loads_keep vs w (load p v t) a.1 (load_keeps v w t a.0 h)

  pub loaded : (vs : List Save) (t : State) → All (λ v. t.mem (p + v.offset) ≡ contents s v) vs → All (λ v. contents (do_each (load p) vs t) v ≡ contents s v) vs
  loaded [] t a = tt
  loaded (v ∷ vs) t a = (loads_keep vs v (load p v t) a.1 (load_sets v t a.0), loaded vs (load p v t) a.1)
