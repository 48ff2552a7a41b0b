-- A placement that fits an image: what its kind's class says of its bytes, and where they fit.
-- Assumes nothing.
use mathlib.Core.Path.{◌≡◌, sym, ◌∙◌}
use mathlib.Core.Logic.{inl, inr}
use mathlib.Core.Bool.{Bool, true, false, ◌||◌}
use Prim.Native.Nat.{ℕ, ◌+◌, ◌%◌, ◌≤◌}
use native.Mathlib.Omega.{arith}
use borrow.Author.Tests.{eqb-true}
use Rattle.words.specs.Words.{zeros, to_word}
use Rattle.kinds.specs.declared.Class.TheVariants.{Signed, Unsigned, Float}
use Rattle.kinds.specs.declared.Kind.{Kind}
use Rattle.kinds.specs.Kinds.{is, class_number}
use Rattle.o32_offsets.specs.Offsets.{extension, width}
use Rattle.o32.specs.declared.Placement.{Placement}
use Rattle.o32_laws.specs.Fitting.{Fit, Floating}

-- ---- what a kind's class says of its bytes

-- a byte or halfword that becomes a word, signed or not
pub record Worded (k : Kind) (signed : Bool) : Type 0 where
  pub some : is Signed k || is Unsigned k ≡ true
  pub extended : extension k ≡ to_word signed k.size
  pub wide : width k ≡ 4

-- a body that stays as it is
pub record Plain (k : Kind) : Type 0 where
  pub extended : extension k ≡ zeros 0
  pub wide : width k ≡ k.size

-- nor does that of a float change
pub float_extended : (k : Kind) → is Float k ≡ true → extension k ≡ zeros 0
float_extended k f = let e : class_number k.class ≡ 5 = eqb-true (class_number k.class) 5 f in rw e

-- ---- where they fit

module _ {p : Placement} {m : ℕ} (fit : Fit p m) where
  pub body_fits : {signed : Bool} → Worded p.kind signed → (1 ≤ p.kind.size) × (p.kind.size ≤ 2)
  body_fits w = fit.promoted w.some

-- the registers and sizes of floats
pub float_bounds : {f size : ℕ} → Floating f size → ((12 ≤ f) × (f ≤ 14)) × ((4 ≤ size) × (size ≤ 8))
float_bounds h = (elim h.named [ inl e ↦ omega arith | inr e ↦ omega arith ], elim h.sized [ inl e ↦ omega arith | inr e ↦ omega arith ])

pub single_size : {f size : ℕ} → Floating f size → (size ≡ 8 → ⊥) → size ≡ 4
single_size h n = elim h.sized [ inl e ↦ e | inr e ↦ absurd (n e) ]
