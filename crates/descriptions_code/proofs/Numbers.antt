-- Numbers that are rounded up.
-- Assumes nothing.
use mathlib.Core.Path.{◌≡◌, refl, sym, ap, ◌∙◌}
use mathlib.Core.Bool.{Bool, true, false, cond}
use Prim.Native.Nat.{ℕ, ◌+◌, ◌-◌, ◌*◌, ◌/◌, ◌%◌, ◌≤◌, ◌<◌}
use native.Mathlib.Omega.{arith}
use lib.Dec.{eqb}
use borrow.Author.Tests.{eqb-true, eqb-false}
use Rattle.std.specs.Prelude.{Some, None}
use Rattle.std.proofs.lemmas.Nat.{div-add-mod', div-mul-add}
use Rattle.words.specs.Words.{up}
use Rattle.o32_offsets.proofs.Offsets.{up_le}
use Rattle.descriptions.specs.Describing.{end_most}
use Rattle.descriptions_code.specs.Reading.{alignment_most, size_most, nonzero}

pub up-most : {a n : ℕ} → a ≤ alignment_most → n ≤ end_most → up a n ≤ size_most
up-most {a} {n} h k = omega (arith, up_le a n)

-- the only multiple of a from n on that is below n + a
pub up_only : {a n m : ℕ} → 1 ≤ a → n ≤ m → m < n + a → m % a ≡ 0 → m ≡ up a n
up_only {a} {n} {m} p h k z =
    let q = m / a in
    let e : q * a ≡ m = omega (arith, div-add-mod' m a) in
    let f : n + (a - 1) ≡ q * a + (n + (a - 1) - m) = omega arith in
    let g : (n + (a - 1)) / a ≡ q = ap (λ (x : ℕ). x / a) f ∙ div-mul-add q a (n + (a - 1) - m) (omega arith) in
    sym e ∙ ap (λ (x : ℕ). x * a) (sym g)

-- ---- a number that is there unless it is 0

pub nonzero_some : {n x : ℕ} → Some x ≡ nonzero n → (x ≡ n) × (n ≡ 0 → ⊥)
nonzero_some {n} e = go (eqb n 0) refl e
  where
    go : (t : Bool) → eqb n 0 ≡ t → {x : ℕ} → Some x ≡ cond t None (Some n) → (x ≡ n) × (n ≡ 0 → ⊥)
    go true f g = absurd (cc)
    go false f g = ((cc), eqb-false n 0 f)

pub nonzero_none : {n : ℕ} → None ≡ nonzero n → n ≡ 0
nonzero_none {n} e = go (eqb n 0) refl e
  where
    go : (t : Bool) → eqb n 0 ≡ t → None ≡ cond t None (Some n) → n ≡ 0
    go true f g = eqb-true n 0 f
    go false f g = absurd (cc)
