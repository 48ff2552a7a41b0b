-- Lists of saves: what holds of all of them, where their words lie, and what their registers hold.
-- Assumes nothing.
use mathlib.Core.Path.{◌≡◌}
use mathlib.Core.Bool.{false, cond}
use mathlib.Core.List.{List, [], ◌∷◌, ◌++◌}
use Prim.Native.Nat.{ℕ, ◌+◌, ◌%◌, ◌^◌, ◌<◌, ◌≤◌}
use native.Mathlib.Omega.{arith}
use Rattle.machine.specs.Machine.{State}
use Rattle.frame.specs.Words.{Save}

-- This holds of each.
abbrev pub All : {A : Type 0} → (A → Type 0) → List A → Type 0
All P [] = Unit {0}
All P (x ∷ xs) = P x × All P xs

pub all_both : {P Q R : Save → Type 0} (vs : List Save) → ((v : Save) → P v → Q v → R v) → All P vs → All Q vs → All R vs
all_both [] h a b = tt
all_both (v ∷ vs) h a b = (h v a.0 b.0, all_both vs h a.1 b.1)

pub all_append : (P : Save → Type 0) (vs ws : List Save) → All P vs → All P ws → All P (vs ++ ws)
all_append P [] ws a b = b
all_append P (v ∷ vs) ws a b = (a.0, all_append P vs ws a.1 b)

pub all_split : (P : Save → Type 0) (vs ws : List Save) → All P (vs ++ ws) → All P vs × All P ws
all_split P [] ws a = (tt, a)
all_split P (v ∷ vs) ws a = let b = all_split P vs ws a.1 in ((a.0, b.0), b.1)

-- The save words lie from lo on, each past the one before it, up to hi.
abbrev pub Span : ℕ → List Save → ℕ → Type 0
Span lo [] hi = lo ≤ hi
Span lo (v ∷ vs) hi = (lo ≤ v.offset) × Span (v.offset + 4) vs hi

pub span-le : (lo : ℕ) (vs : List Save) (hi : ℕ) → Span lo vs hi → lo ≤ hi
span-le lo [] hi d = d
span-le lo (v ∷ vs) hi d = omega (arith, d.0, span-le (v.offset + 4) vs hi d.1)

pub span_within : (lo a : ℕ) (vs : List Save) (b hi : ℕ) → lo ≤ a → b ≤ hi → Span a vs b → Span lo vs hi
span_within lo a [] b hi h k d = omega arith
span_within lo a (v ∷ vs) b hi h k d = (omega (arith, d.0), span_within (v.offset + 4) (v.offset + 4) vs b hi (omega arith) k d.1)

pub span-append : (lo : ℕ) (vs : List Save) (mid : ℕ) (ws : List Save) (hi : ℕ) → Span lo vs mid → Span mid ws hi → Span lo (vs ++ ws) hi
span-append lo [] mid ws hi d e = span_within lo mid ws hi hi d (omega arith) e
span-append lo (v ∷ vs) mid ws hi d e = (d.0, span-append (v.offset + 4) vs mid ws hi d.1 e)

-- what lies below them is none of them, wherever the frame lies
pub span_apart : (p a lo : ℕ) (vs : List Save) (hi : ℕ) → a < lo → Span lo vs hi → All (λ v. p + a ≡ p + v.offset → ⊥) vs
span_apart p a lo [] hi h d = tt
span_apart p a lo (v ∷ vs) hi h d = (λ e. omega (arith, d.0), span_apart p a (v.offset + 4) vs hi (omega (arith, d.0)) d.1)

-- What the code asks of a save, wherever the frame ends: a register, other than `$0` and `$sp`, and the offset of a word.
pub record Fit (v : Save) : Type 0 where
  pub number : v.number < 32
  pub real : 0 < v.number
  pub keeps : v.float ≡ false → v.number ≡ 29 → ⊥
  pub whole : v.offset % 4 ≡ 0

-- What is asked of a frame of F bytes and its saves.
pub record Sound (F : ℕ) (saves : List Save) : Type 0 where
  pub eight : F % 8 ≡ 0
  pub small : F < 2 ^ 15
  pub fit : All Fit saves
  pub span : Span 0 saves F

-- What the register of a save holds.
abbrev pub contents : State → Save → ℕ
contents s v = cond v.float s.freg s.reg v.number

-- a change of `$sp` alone does not change it
pub contents-same : (s t : State) (v : Save) → ((k : ℕ) → (k ≡ 29 → ⊥) → t.reg k ≡ s.reg k) → ((k : ℕ) → t.freg k ≡ s.freg k) → Fit v
    → contents t v ≡ contents s v
contents-same s t v g f h = grind (arith, f v.number, g v.number, h.keeps)
