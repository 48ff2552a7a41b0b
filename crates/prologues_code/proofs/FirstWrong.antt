-- The first register whose store is missing or doubled, by the stores of the registers' numbers.
-- Assumes nothing.
use mathlib.Core.Path.{◌≡◌, refl, sym, ap, ◌∙◌}
use mathlib.Core.Logic.{inl, inr}
use mathlib.Core.Bool.{Bool, true, false, cond}
use mathlib.Core.List.{List}
use Rattle.std.specs.Prelude.{Some, None}
use Prim.Native.Nat.{ℕ, zero, suc, ◌+◌, ◌-◌, ◌<◌, ◌≤◌}
use native.Mathlib.Omega.{arith}
use native.Mathlib.Numerals.{add-one}
use Rattle.frame.specs.declared.Request.{Request}
use Rattle.frame.specs.declared.Frame.{Frame}
use Rattle.frame.specs.Words.{saves_of}
use Rattle.frame_code.specs.Areas.{Areas}
use Rattle.prologues.specs.Checking.{count, is_wrong, first_from}
use Rattle.prologues_code.specs.Stores.{store_of}
use Rattle.prologues.proofs.Tests.{Says, Wrong, Right, is-wrong}
use Rattle.prologues_code.proofs.Stores.{saves_listed, some_save, same_store, no_store}

-- the first of 64 numbers, from k on
module _ (so : ℕ → Bool) (k : ℕ) where
  pub first_end : 64 ≤ k → first_from so k (64 - k) ≡ 0
  unfolding first_from
  first_end h = let e : 64 - k ≡ 0 = omega arith in ap (first_from so k) e

  first_next : k < 64 → first_from so k (64 - k) ≡ cond (so k) k (first_from so (k + 1) (64 - (k + 1)))
  unfolding first_from
  first_next h =
      let e : 64 - k ≡ suc (64 - (k + 1)) = omega arith in
      ap (first_from so k) e ∙ ap (λ (j : ℕ). cond (so k) k (first_from so j (64 - (k + 1)))) (sym (add-one k))

  pub first_yes : k < 64 → so k ≡ true → first_from so k (64 - k) ≡ k
  first_yes h e = first_next h ∙ simp e

  pub first_no : k < 64 → so k ≡ false → first_from so k (64 - k) ≡ first_from so (k + 1) (64 - (k + 1))
  first_no h e = first_next h ∙ simp e

first_from_lem : (so : ℕ → Bool) (k : ℕ) → k ≤ 64 → ((j : ℕ) → j < k → so j ≡ false) → first_from so k (64 - k) ≡ first_from so 0 64
first_from_lem so zero h none = refl
first_from_lem so (suc k) h none =
    sym (rw add-one at (first_no so k (omega arith) (none k (omega arith)))) ∙ first_from_lem so k (omega arith) (λ j q. none j (omega arith))

module _ (r : Request) (ws : List ℕ) (k : ℕ) where
  -- where every save with number k stands once, k is not wrong
  once_right : Right (saves_of r) ws k → is_wrong (saves_of r) ws k ≡ false
  once_right h = by (is-wrong (saves_of r) ws k)
    where
      by : Says (is_wrong (saves_of r) ws k) (Wrong (saves_of r) ws k) (Right (saves_of r) ws k) → is_wrong (saves_of r) ws k ≡ false
      by (inl w) = absurd (w.1.not_once (h w.1.save w.1.named w.1.number))
      by (inr w) = w.0

  low_right : {f : Frame} → Areas r f → k < 16 → is_wrong (saves_of r) ws k ≡ false
  low_right a h = once_right (λ v i q. absurd (omega (arith, (saves_listed a v i).high, q, h)))

  pub unnamed_right : {f : Frame} → Areas r f → store_of r k ≡ None → is_wrong (saves_of r) ws k ≡ false
  unnamed_right a z = once_right (λ v i q. no_store z (sym (ap (store_of r) q) ∙ (saves_listed a v i).store))

  -- by the store w of number k
  module _ {w : ℕ} (e : store_of r k ≡ Some w) where
    pub stored_right : {f : Frame} → Areas r f → count w ws ≡ 1 → is_wrong (saves_of r) ws k ≡ false
    stored_right a o = once_right (λ v i q. ap (λ (x : ℕ). count x ws) (same_store (sym (ap (store_of r) q) ∙ (saves_listed a v i).store) e) ∙ o)

    pub stored_wrong : k < 64 → (count w ws ≡ 1 → ⊥) → is_wrong (saves_of r) ws k ≡ true
    stored_wrong h n = by (is-wrong (saves_of r) ws k)
      where
        by : Says (is_wrong (saves_of r) ws k) (Wrong (saves_of r) ws k) (Right (saves_of r) ws k) → is_wrong (saves_of r) ws k ≡ true
        by (inl w) = w.0
        by (inr w) = absurd (some_save r k _ h e (λ v i q p. n (ap (λ (x : ℕ). count x ws) (sym p) ∙ w.1 v i q)))

-- no register below `$16` is wrong
pub first_low : {r : Request} {f : Frame} → Areas r f → (ws : List ℕ) → first_from (is_wrong (saves_of r) ws) 16 (64 - 16) ≡ first_from (is_wrong (saves_of r) ws) 0 64
first_low {r} a ws = first_from_lem (is_wrong (saves_of r) ws) 16 (omega arith) (λ j h. low_right r ws j a h)
