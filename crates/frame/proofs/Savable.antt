-- The law of the savable registers: a mask within theirs names only those that are listed, and no more than there are.
-- Assumes nothing.
use mathlib.Core.Path.{◌≡◌, refl, sym, ap, ◌∙◌}
use mathlib.Core.Bool.{Bool, true, false, ◌||◌, cond}
use mathlib.Core.List.{List, [], ◌∷◌}
use Prim.Native.Nat.{ℕ, zero, suc, ◌%◌, ◌^◌, ◌<◌, ◌≤◌}
use native.Mathlib.Omega.{arith}
use native.Mathlib.Decide.{ℕ_discrete}
use lib.Dec.{T, eqb}
use lib.ListN.{length}
use lib.Bits.{bit_and, and_le_r, and_mod, and_zero_r}
use borrow.Author.Tests.{eqb-true}
use Rattle.frame.specs.Masks.{bit, names, count_below}
use Rattle.frame.specs.Frame.{savable_registers, savable}
use Rattle.frame.proofs.Masks.{bit_within, count_within}

-- whether k is listed
abbrev pub lists : List ℕ → ℕ → Bool
lists [] k = false
lists (j ∷ js) k = eqb k j || lists js k

-- bit k of the mask is set just where k is listed
abbrev agrees : ℕ → Bool
agrees k = eqb (bit savable k) (cond (lists savable_registers k) 1 0)

abbrev agrees_below : ℕ → Bool
agrees_below zero = true
agrees_below (suc n) = cond (agrees n) (agrees_below n) false

agrees_at : (n k : ℕ) → T (agrees_below n) → k < n → agrees k ≡ true
agrees_at zero k t h = absurd (omega arith)
agrees_at (suc n) k t h = by (agrees n) refl t (λ t q. agrees_at n k t q) (ℕ_discrete k n)
  where
    by : (b : Bool) → agrees n ≡ b → T (cond b (agrees_below n) false) → (T (agrees_below n) → k < n → agrees k ≡ true) → Dec (k ≡ n) → agrees k ≡ true
    by false e t earlier d = absurd t
    by true e t earlier (yes q) = ap agrees q ∙ e
    by true e t earlier (no q) = earlier t (omega arith)

-- computed for all 32 bits
savable-bit : (k : ℕ) → k < 32 → bit savable k ≡ cond (lists savable_registers k) 1 0
savable-bit k h = eqb-true (bit savable k) _ (agrees_at 32 k tt h)

bit-set : (b : Bool) → 1 ≤ cond b 1 0 → T b
bit-set b h = grind arith

savable-count : count_below savable 32 ≡ length savable_registers
unfolding count_below
savable-count = refl

module _ (m : ℕ) (within : bit_and m savable ≡ m) where
  pub names_listed : (k : ℕ) → k < 32 → names m k ≡ true → T (lists savable_registers k)
  names_listed k h e =
      bit-set (lists savable_registers k) (omega (arith, bit_within m savable within k, eqb-true (bit m k) 1 e, savable-bit k h))

  pub names_few : count_below m 32 ≤ length savable_registers
  names_few = omega (arith, count_within m savable within 32, savable-count)

  -- it has 32 bits, and none below `$16`
  pub savable-word : m < 2 ^ 32
  savable-word = omega (arith, and_le_r m savable)

  pub savable_low : m % 2 ^ 16 ≡ 0
  savable_low = ap (λ (x : ℕ). x % 2 ^ 16) (sym within) ∙ and_mod m savable 16 ∙ and_zero_r (m % 2 ^ 16)
