-- The whole prologue of any sound list of saves.
-- Assumes nothing.
use mathlib.Core.Path.{◌≡◌, refl, sym, ap, ap₂, ◌∙◌}
use mathlib.Core.Bool.{Bool, true, false, cond}
use mathlib.Core.List.{List, [], ◌∷◌, ◌++◌, map, append-nil}
use mathlib.Core.Option.{some, none}
use Prim.Native.Nat.{ℕ, suc, ◌+◌, ◌-◌, ◌%◌, ◌^◌, ◌<◌}
use native.Mathlib.Omega.{arith}
use lib.Dec.{eqb}
use lib.ListN.{length, length-map}
use borrow.Author.Tests.{eqb-true, eqb-false}
use Rattle.machine.specs.Machine.{State, upd, next_address, later_address, sum, proceed, step, Holds, Runs}
use Rattle.machine.proofs.Steps.{upd_same, upd_other, sum_down, step_addiu}
use Rattle.machine.proofs.Runs.{runs_end, runs_step}
use Rattle.frame.specs.Words.{Save, store_word, lowering, prologue_for}
use Rattle.frame.specs.Keeping.{Entry}
use Rattle.frame.proofs.Saves.{All, Span, span-le, all_both, contents, contents-same, Sound}
use Rattle.frame.proofs.Each.{follows_next, proceed_line, Area, runs_each}
use Rattle.frame.proofs.Stores.{store, store_goes, Stored, stored}

-- Only `$sp`, the program counter and the save words differ, and these hold the registers; there were n words.
pub record Entered (F : ℕ) (saves : List Save) (n : ℕ) (s t : State) : Type 0 where
  pub at : t.pc ≡ later_address n s.pc
  pub slot : t.target ≡ none
  pub sp : t.reg 29 ≡ s.reg 29 - F
  pub general : (k : ℕ) → (k ≡ 29 → ⊥) → t.reg k ≡ s.reg k
  pub floating : (k : ℕ) → t.freg k ≡ s.freg k
  pub elsewhere : (a : ℕ) → All (λ v. a ≡ t.reg 29 + v.offset → ⊥) saves → t.mem a ≡ s.mem a
  pub saved : All (λ v. t.mem (t.reg 29 + v.offset) ≡ contents s v) saves

-- where the frame lies
pub area : {p F : ℕ} {vs : List Save} {s : State} → Sound F vs → Entry F s → p ≡ s.reg 29 - F → Area p F
area d e q = record { whole = omega arith; top = omega arith; small = d.small }

-- `addiu $sp,$sp,i`
pub add_sp : (code : ℕ → ℕ) (s : State) (i : ℕ) → s.pc % 4 ≡ 0 → i < 2 ^ 16 → code s.pc ≡ 0x27BD0000 + i
    → step code s ≡ some (proceed s (upd s.reg 29 (sum s.reg 29 i)) s.freg s.mem)
add_sp code s i w h c = step_addiu code (record { whole = w; base = omega arith; register = omega arith; immediate = h }) (omega arith) (omega arith)

-- a frame of no bytes has no saves
pub no_saves : (P : Save → Type 0) (lo : ℕ) (vs : List Save) (hi : ℕ) → hi ≡ 0 → Span lo vs hi → All P vs
no_saves P lo [] hi z d = tt
no_saves P lo (v ∷ vs) hi z d = absurd (omega (arith, span-le (v.offset + 4) vs hi d.1))

-- the state after `addiu $sp,$sp,-F`
abbrev pub lower : ℕ → State → State
lower F s = proceed s (upd s.reg 29 (s.reg 29 - F)) s.freg s.mem

-- the state after all saves were stored after it, in whatever order
pub entered : {F : ℕ} {vs : List Save} {n : ℕ} {s t : State} → Sound F vs → Stored (s.reg 29 - F) vs (lower F s) t
    → t.pc ≡ later_address n s.pc → t.target ≡ none → Entered F vs n s t
entered {F} {vs} {n} {s} {t} d o at slot =
    let p : ℕ = s.reg 29 - F in
    let sp : t.reg 29 ≡ p = ap (λ (g : ℕ → ℕ). g 29) o.reg ∙ upd_same s.reg 29 p in
    let other : (k : ℕ) → (k ≡ 29 → ⊥) → upd s.reg 29 p k ≡ s.reg k = upd_other s.reg 29 p in
    record {
      at = at;
      slot = slot;
      sp = sp;
      general = λ k h. ap (λ (g : ℕ → ℕ). g k) o.reg ∙ other k h;
      floating = λ k. ap (λ (f : ℕ → ℕ). f k) o.freg;
      elsewhere = rw sp o.elsewhere;
      saved = rw sp (all_both vs (λ v f h. h ∙ contents-same s (lower F s) v other (λ k. refl) f) d.fit o.saved);
    }

module _ (code : ℕ → ℕ) (F : ℕ) (vs : List Save) (s : State) (d : Sound F vs) (e : Entry F s) (whole : s.pc % 4 ≡ 0) (slot : s.target ≡ none) where
  pub step_lowers : (F ≡ 0 → ⊥) → code s.pc ≡ lowering F → step code s ≡ some (lower F s)
  step_lowers z c =
      add_sp code s (65536 - F) whole (omega arith) c
      ∙ ap (λ (x : ℕ). some (proceed s (upd s.reg 29 x) s.freg s.mem))
      (sum_down s.reg 29 F (omega arith) (omega arith) (omega arith) e.room e.word)

  abbrev Done : List ℕ → Type 0
  Done ws = Runs code ws s (Entered F vs (length ws) s)

  pub prologue : Holds code s.pc (prologue_for F vs) → Runs code (prologue_for F vs) s (Entered F vs (length (prologue_for F vs)) s)
  unfolding prologue_for
  prologue h = by (eqb F 0) refl h
    where
      by : (b : Bool) → eqb F 0 ≡ b → Holds code s.pc (cond b [] (lowering F ∷ map store_word vs))
          → Done (cond b [] (lowering F ∷ map store_word vs))
      by true z h =
          let z : F ≡ 0 = eqb-true F 0 z in
          runs_end (record {
            at = refl;
            slot = slot;
            sp = omega arith;
            general = λ k q. refl;
            floating = λ k. refl;
            elsewhere = λ a q. refl;
            saved = no_saves _ 0 vs F z d.span;
          })
      by false z h =
          let p : ℕ = s.reg 29 - F in
          let next : (lower F s).pc ≡ next_address s.pc = follows_next s slot in
          let q : Holds code (lower F s).pc (map store_word vs ++ []) = rw (append-nil, next) h.1 in
          let n : ℕ = suc (length (map store_word vs)) in
          let back : (a : ℕ) → a ≡ later_address (length vs) (lower F s).pc → a ≡ later_address n s.pc = λ a x. x ∙ ap₂ later_address (sym (length-map vs store_word)) next in
          runs_step (step_lowers (eqb-false F 0 z) h.0)
          (rw append-nil at
          (runs_each code p F store_word (store p) (store_goes code (area d e refl)) {Then = Entered F vs n s} 0 vs [] (lower F s) d.fit d.span
          (proceed_line s whole slot (upd_same s.reg 29 p)) q (λ l x t. runs_end (entered d (stored p 0 vs F (lower F s) d.span) (back _ x) l.slot))))
