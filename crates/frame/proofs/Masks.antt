-- Masks: what they count and name, and masks within other masks.
-- Assumes nothing.
use mathlib.Core.Path.{◌≡◌, refl, sym, ap, ap₂, ◌∙◌}
use mathlib.Core.Bool.{true, false}
use Prim.Native.Nat.{ℕ, zero, suc, ◌+◌, ◌/◌, ◌%◌, ◌^◌, ◌<◌, ◌≤◌}
use native.Mathlib.Omega.{arith}
use native.Mathlib.Nat.{mod-lt, mod-eq_of_lt, add_comm}
use lib.Pow.{mod-pow-add, pow_pos}
use lib.Bits.{bit_and, and_le_r, and_shr, and_mod}
use lib.Count.{ones, ones_cat}
use borrow.Author.Tests.{eqb-true, eqb-false}
use Rattle.frame.specs.Masks.{bit, names, count_below}

ones_bit : (b : ℕ) → b < 2 → ones b ≡ b
unfolding ones
ones_bit zero h = refl
ones_bit (suc zero) h = refl
ones_bit (suc (suc n)) h = absurd (omega arith)

-- the count of ones below a bit is the number of names below it
pub ones_count_below : (m k : ℕ) → ones (m % 2 ^ k) ≡ count_below m k
unfolding count_below
ones_count_below m zero = let h : m % 2 ^ 0 ≡ 0 = omega arith in ap ones h ∙ ones_bit 0 (omega arith)
ones_count_below m (suc k) =
    let h : suc k ≡ 1 + k = omega arith in
    ap (λ (x : ℕ). ones (m % 2 ^ x)) h
    ∙ ap ones (mod-pow-add m 1 k)
    ∙ ones_cat k (bit m k) (m % 2 ^ k) (mod-lt m (pow_pos k))
    ∙ ap₂ (λ (x y : ℕ). x + y) (ones_bit (bit m k) (mod-lt (m / 2 ^ k) (pow_pos 1))) (ones_count_below m k)
    ∙ add_comm (bit m k) (count_below m k)

bit-lt : (m k : ℕ) → bit m k < 2
bit-lt m k = mod-lt (m / 2 ^ k) (pow_pos 1)

pub bit_unnamed : (m k : ℕ) → names m k ≡ false → bit m k ≡ 0
bit_unnamed m k e = omega (arith, bit-lt m k, eqb-false (bit m k) 1 e)

pub count_below_le : (m k : ℕ) → count_below m k ≤ k
unfolding count_below
count_below_le m zero = omega arith
count_below_le m (suc k) = omega (arith, count_below_le m k, bit-lt m k)

-- a named register is counted below every higher one
pub count_below_named : (m j k : ℕ) → names m j ≡ true → j < k → count_below m j + 1 ≤ count_below m k
unfolding count_below
count_below_named m j zero e h = absurd (omega arith)
count_below_named m j (suc k) e h = grind (arith, eqb-true (bit m j) 1 e, count_below_named m j k e)

-- a mask with no bit below k names none there
pub count_below_none : (m k : ℕ) → m % 2 ^ k ≡ 0 → count_below m k ≡ 0
count_below_none m k e = sym (ones_count_below m k) ∙ ap ones e ∙ ones_bit 0 (omega arith)

-- all ones of a mask, where it has no bit from k on
pub ones_all : (m k : ℕ) → m < 2 ^ k → ones m ≡ count_below m k
ones_all m k h = ap ones (sym (mod-eq_of_lt h)) ∙ ones_count_below m k

-- a mask has no bit that a mask M around it lacks, and so names no more than M does
module _ (m M : ℕ) (within : bit_and m M ≡ m) where
  pub bit_within : (k : ℕ) → bit m k ≤ bit M k
  bit_within k =
      let e : bit m k ≡ bit_and (bit m k) (bit M k) =
      ap (λ (x : ℕ). bit x k) (sym within) ∙ ap (λ (x : ℕ). x % 2) (and_shr m M k) ∙ and_mod (m / 2 ^ k) (M / 2 ^ k) 1 in
      omega (arith, and_le_r (bit m k) (bit M k))

  pub count_within : (k : ℕ) → count_below m k ≤ count_below M k
  unfolding count_below
  count_within zero = omega arith
  count_within (suc k) = omega (arith, count_within k, bit_within k)
