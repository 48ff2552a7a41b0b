-- The words of stores and of the `addiu`: which they are not, and the offset in them.
-- Assumes nothing.
use mathlib.Core.Path.{◌≡◌}
use Prim.Native.Nat.{ℕ, ◌%◌, ◌^◌, ◌<◌, ◌≤◌}
use native.Mathlib.Omega.{arith}
use Rattle.frame.specs.Words.{Save, store_word, lowering}

-- `addiu` lies below all stores, and 00000000 below both
pub addiu_nonzero : (F : ℕ) → lowering F ≡ 0 → ⊥
addiu_nonzero F e = omega arith

module _ (v : Save) where
  store_high : 0xAFA00000 ≤ store_word v
  store_high = grind arith

  pub store_nonzero : store_word v ≡ 0 → ⊥
  store_nonzero e = omega (arith, store_high)

  pub store_no_addiu : (F : ℕ) → lowering F ≡ store_word v → ⊥
  store_no_addiu F e = omega (arith, store_high)

  -- the low half of a store's word is its offset
  pub store-offset : v.offset < 2 ^ 16 → store_word v % 65536 ≡ v.offset
  store-offset h = grind arith
