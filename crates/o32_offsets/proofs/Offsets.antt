-- Numbers rounded up, and the bytes of an argument after promotion.
-- Assumes nothing.
use mathlib.Core.Path.{◌≡◌, refl}
use mathlib.Core.Logic.{inl, inr}
use mathlib.Core.Bool.{Bool, true, false, cond, ◌||◌}
use Prim.Native.Nat.{ℕ, ◌+◌, ◌-◌, ◌≤◌, ◌<◌, ◌^◌}
use native.Mathlib.Omega.{arith}
use native.Mathlib.Nat.{div-add-mod', div-mul-le_self, mod-lt, mul-zero}
use borrow.Author.Tests.{eqb-true}
use lib.Bits.{bit_and}
use Rattle.std.proofs.lemmas.Nat.Bits.{and_high_mask}
use Rattle.words.specs.Words.{up}
use Rattle.kinds.specs.declared.Class.TheVariants.{Marker, Signed, Unsigned, Float}
use Rattle.kinds.specs.declared.Kind.{Kind}
use Rattle.kinds.specs.Kinds.{class_number, is}
use Rattle.kinds.proofs.KindFacts.{Facts}
use Rattle.o32_offsets.specs.Offsets.{width, Alignment}

-- ---- the next multiple

pub up-ge : (a n : ℕ) → 1 ≤ a → n ≤ up a n
up-ge a n h = omega (arith, div-add-mod' (n + (a - 1)) a, mod-lt (n + (a - 1)) {m = a} h)

pub up_le : (a n : ℕ) → up a n ≤ n + (a - 1)
up_le a n = div-mul-le_self (n + (a - 1)) a

pub none-up : (n : ℕ) → up 0 n ≡ 0
none-up n = mul-zero _

pub up_small : (a n : ℕ) → Alignment a → up a n ≤ n + 7
up_small a n (inl e) = omega (arith, up_le a n)
up_small a n (inr (inl e)) = omega (arith, up_le a n)
up_small a n (inr (inr e)) = omega (arith, up_le a n)

-- a mask that clears the low bits of n + 7 or n + 3 leaves it
pub masked_8 : (n : ℕ) → n + 7 < 2 ^ 64 → bit_and (n + 7) 18446744073709551608 ≡ up 8 n
masked_8 n h = and_high_mask 64 3 (omega arith) (n + 7) h

pub masked_4 : (n : ℕ) → n + 3 < 2 ^ 64 → bit_and (n + 3) 18446744073709551612 ≡ up 4 n
masked_4 n h = and_high_mask 64 2 (omega arith) (n + 3) h

-- ---- bytes after promotion

-- a marker's width is 0
pub marker-width : (k : Kind) → is Marker k ≡ true → k.size ≡ 0 → width k ≡ 0
marker-width k e z = rw (eqb-true (class_number k.class) 1 e, z)

pub unpromoted_width : (k : Kind) → is Signed k || is Unsigned k ≡ false → width k ≡ k.size
unpromoted_width k e = rw e

pub float_width : (k : Kind) → is Float k ≡ true → width k ≡ k.size
float_width k e = unpromoted_width k (rw (eqb-true (class_number k.class) 5 e))

pub width-le : (k : Kind) → k.size ≤ 512 → width k ≤ 512
width-le k h = go (is Signed k || is Unsigned k)
  where
    go : (t : Bool) → cond t 4 k.size ≤ 512
    go true = omega arith
    go false = h

-- a body is among them
pub body_within : (k : Kind) → Facts k → k.size ≤ width k
body_within k s = go (is Signed k || is Unsigned k) refl
  where
    go : (t : Bool) → is Signed k || is Unsigned k ≡ t → k.size ≤ cond t 4 k.size
    go true e = omega (arith, s.promoted e)
    go false e = omega arith
