-- Code that has one instruction for each save, on its word.
-- Assumes nothing.
use mathlib.Core.Path.{◌≡◌, refl, sym, ap, ◌∙◌, subst}
use mathlib.Core.List.{List, [], ◌∷◌, ◌++◌, map}
use mathlib.Core.Option.{some, none}
use Prim.Native.Nat.{ℕ, ◌+◌, ◌%◌, ◌^◌, ◌<◌, ◌≤◌}
use native.Mathlib.Omega.{arith}
use lib.ListN.{length}
use Rattle.machine.specs.Machine.{State, next_address, later_address, follows, proceed, step, Holds, Runs}
use Rattle.machine.proofs.Steps.{next_address_whole, sum-up, Access}
use Rattle.machine.proofs.Runs.{runs_step}
use Rattle.frame.specs.Words.{Save}
use Rattle.frame.proofs.Saves.{All, Span, span-le, Fit}

-- Control is in straight-line code, and `$sp` is p.
pub record Line (p : ℕ) (s : State) : Type 0 where
  pub whole : s.pc % 4 ≡ 0
  pub slot : s.target ≡ none
  pub sp : s.reg 29 ≡ p

-- control goes to the next word
pub follows_next : (s : State) → s.target ≡ none → follows s.pc s.target ≡ next_address s.pc
follows_next s n = ap (follows s.pc) n

pub proceed_line : {p : ℕ} (s : State) {g f m : ℕ → ℕ} → s.pc % 4 ≡ 0 → s.target ≡ none → g 29 ≡ p → Line p (proceed s g f m)
proceed_line s w n e = record { whole = omega (arith, follows_next s n, next_address_whole s.pc w); slot = refl; sp = e }

-- A frame of F bytes from p up.
pub record Area (p F : ℕ) : Type 0 where
  pub whole : p % 4 ≡ 0
  pub top : p + F < 2 ^ 32
  pub small : F < 2 ^ 15

-- an instruction on a save word
pub access : {p F : ℕ} {s : State} {v : Save} → Area p F → Fit v → v.offset + 4 ≤ F → Line p s → Access s 29 v.number v.offset (p + v.offset)
access {s = s} {v = v} a f i l = record {
  fetched = record { whole = l.whole; base = omega arith; register = f.number; immediate = omega arith };
  at = sum-up s.reg 29 v.offset (omega arith) (omega arith) (omega arith) ∙ ap (λ (x : ℕ). x + v.offset) l.sp;
  word = omega arith;
}

-- The state after all of them, where `go` is what one of them does.
abbrev pub do_each : (Save → State → State) → List Save → State → State
do_each go [] s = s
do_each go (v ∷ saves) s = do_each go saves (go v s)

-- What one of them does, and that straight-line code goes on.
pub record Goes (code : ℕ → ℕ) (p : ℕ) (s t : State) : Type 0 where
  pub steps : step code s ≡ some t
  pub line : Line p t
  pub at : t.pc ≡ next_address s.pc

module _ (code : ℕ → ℕ) (p F : ℕ) (word : Save → ℕ) (go : Save → State → State)
    (goes : (v : Save) (s : State) → Fit v → v.offset + 4 ≤ F → Line p s → code s.pc ≡ word v → Goes code p s (go v s)) where
  -- then come the words ws
  pub runs_each : {Then : State → Type 0} (lo : ℕ) (vs : List Save) (ws : List ℕ) (s : State)
      → All Fit vs → Span lo vs F → Line p s → Holds code s.pc (map word vs ++ ws)
      → (Line p (do_each go vs s) → (do_each go vs s).pc ≡ later_address (length vs) s.pc → Holds code (do_each go vs s).pc ws → Runs code ws (do_each go vs s) Then)
      → Runs code (map word vs ++ ws) s Then
  runs_each lo [] ws s f d l h k = k l refl h
  runs_each lo (v ∷ vs) ws s f d l h k =
      let g = goes v s f.0 (span-le (v.offset + 4) vs F d.1) l h.0 in
      runs_step g.steps
      (runs_each (v.offset + 4) vs ws (go v s) f.1 d.1 g.line (subst (λ (a : ℕ). Holds code a (map word vs ++ ws)) (sym g.at) h.1)
      (λ m q t. k m (q ∙ ap (later_address (length vs)) g.at) t))
