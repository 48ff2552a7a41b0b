-- The whole epilogue of any sound list of saves.
-- Assumes nothing.
use mathlib.Core.Path.{◌≡◌, refl, ◌∙◌}
use mathlib.Core.Bool.{Bool, true, false, cond}
use mathlib.Core.Logic.{◌⊎◌, inl, inr}
use mathlib.Core.List.{List}
use mathlib.Core.Option.{some, none}
use Prim.Native.Nat.{ℕ, ◌+◌, ◌-◌, ◌%◌, ◌^◌, ◌<◌}
use native.Mathlib.Omega.{arith}
use lib.Dec.{eqb}
use borrow.Author.Tests.{eqb-true}
use Rattle.machine.specs.Machine.{State, upd, next_address, proceed, step, Holds, Runs}
use Rattle.machine.proofs.Steps.{upd_same, upd_other, next_address_whole, sum-up, step_jr, step_nop}
use Rattle.machine.proofs.Runs.{runs_end, runs_step}
use Rattle.frame.specs.Words.{Save, load_word, slot_for, return_for, epilogue_for}
use Rattle.frame.specs.Keeping.{Entry}
use Rattle.frame.proofs.Saves.{All, all_both, contents, contents-same, Sound}
use Rattle.frame.proofs.Each.{Line, do_each, runs_each}
use Rattle.frame.proofs.Loads.{load, load_goes, loads_keep, loaded}
use Rattle.frame.proofs.Prologue.{area, add_sp}

-- `$sp` and the saved registers are as they were, and control is back.
pub record Left (saves : List Save) (s w : State) : Type 0 where
  pub sp : w.reg 29 ≡ s.reg 29
  pub registers : All (λ v. contents w v ≡ contents s v) saves
  pub at : w.pc ≡ s.reg 31
  pub slot : w.target ≡ none

-- What the word in the delay slot does: F is added to `$sp`.
record Raised (code : ℕ → ℕ) (F : ℕ) (s : State) : Type 0 where
  reg : ℕ → ℕ
  steps : step code s ≡ some (proceed s reg s.freg s.mem)
  sp : reg 29 ≡ s.reg 29 + F
  other : (k : ℕ) → (k ≡ 29 → ⊥) → reg k ≡ s.reg k

raised : (code : ℕ → ℕ) (F : ℕ) (s : State) → F < 2 ^ 15 → s.reg 29 + F < 2 ^ 32 → s.pc % 4 ≡ 0 → code s.pc ≡ slot_for F → Raised code F s
raised code F s small top whole c = by (eqb F 0) refl c
  where
    by : (b : Bool) → eqb F 0 ≡ b → code s.pc ≡ cond b 0 (0x27BD0000 + F) → Raised code F s
    by true z e = record { reg = s.reg; steps = step_nop code s whole e; sp = omega (arith, eqb-true F 0 z); other = λ k q. refl }
    by false z e = record {
      reg = upd s.reg 29 _;
      steps = add_sp code s F whole (omega arith) e;
      sp = upd_same s.reg 29 _ ∙ sum-up s.reg 29 F (omega arith) small top;
      other = upd_other s.reg 29 _;
    }

-- `$31` is as it was, or is saved.
abbrev pub Returns : List Save → State → State → Type 0
Returns saves s u = (u.reg 31 ≡ s.reg 31) ⊎ ((t : State) → All (λ v. contents t v ≡ contents s v) saves → t.reg 31 ≡ s.reg 31)

-- s is the state at the entry, u the one where the epilogue starts, with `$sp` p
module _ (code : ℕ → ℕ) (p F : ℕ) (vs : List Save) (s u : State) (d : Sound F vs) (e : Entry F s) (down : p ≡ s.reg 29 - F) (l : Line p u)
    (kept : All (λ v. u.mem (p + v.offset) ≡ contents s v) vs)
    (return : Returns vs s u) where
  returns : (do_each (load p) vs u).reg 31 ≡ s.reg 31
  returns = by return
    where
      by : Returns vs s u → (do_each (load p) vs u).reg 31 ≡ s.reg 31
      by (inl h) = loads_keep p s vs (record { float = false; number = 31; offset = 0 }) u kept h
      by (inr h) = h (do_each (load p) vs u) (loaded p s vs u kept)

  -- `jr $31` and its delay slot
  leaves : (t : State) → Line p t → All (λ v. contents t v ≡ contents s v) vs → t.reg 31 ≡ s.reg 31
      → Holds code t.pc (return_for F) → Runs code (return_for F) t (Left vs s)
  leaves t l a r h =
      let j : State = record { reg = t.reg; freg = t.freg; mem = t.mem; pc = next_address t.pc; target = some (t.reg 31) } in
      let q = raised code F j d.small (omega arith) (next_address_whole t.pc l.whole) h.1.0 in
      runs_step (step_jr code t l.whole l.slot h.0)
      (runs_step q.steps
      (runs_end
      (record {
        sp = omega (arith, q.sp);
        registers = all_both vs (λ v f x. contents-same t (proceed j q.reg j.freg j.mem) v q.other (λ k. refl) f ∙ x) d.fit a;
        at = r;
        slot = refl;
      })))

  pub epilogue : Holds code u.pc (epilogue_for F vs) → Runs code (epilogue_for F vs) u (Left vs s)
  unfolding epilogue_for
  epilogue h =
      runs_each code p F load_word (load p) (load_goes code (area d e down)) 0 vs (return_for F) u d.fit d.span l h
      (λ m x q. leaves (do_each (load p) vs u) m (loaded p s vs u kept) returns q)
