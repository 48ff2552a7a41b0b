-- The saves that a mask collects: what holds of all of them holds of each named register's, and their words lie without gaps.
-- Assumes nothing.
use mathlib.Core.Path.{◌≡◌, refl, sym, ap, ◌∙◌, subst}
use mathlib.Core.Bool.{Bool, true, false, cond}
use mathlib.Core.List.{List, []}
use Prim.Native.Nat.{ℕ, zero, suc, ◌+◌, ◌*◌, ◌<◌}
use native.Mathlib.Omega.{arith}
use native.Mathlib.Decide.{ℕ_discrete}
use native.Mathlib.Nat.{mul-zero, mul-one, mul-add}
use lib.ListN.{length, length-append}
use borrow.Author.Tests.{eqb-true}
use Rattle.frame.specs.Masks.{bit, names, count_below}
use Rattle.frame.specs.Frame.{floating_at, general_at}
use Rattle.frame.specs.Words.{Save, collect, pair_at, register_at, pairs_of, registers_of, saves_of}
use Rattle.frame.specs.declared.Request.{Request}
use Rattle.frame.proofs.Masks.{bit_unnamed}
use Rattle.frame.proofs.Saves.{All, all_append, all_split, Span, span-append}

module _ (P : Save → Type 0) (f : ℕ → List Save) (m : ℕ) where
  pub collect-all : (k : ℕ) → ((j : ℕ) → j < k → names m j ≡ true → All P (f j)) → All P (collect f m k)
  unfolding collect
  collect-all zero h = tt
  collect-all (suc k) h = all_append P (collect f m k) _ (collect-all k (λ j q e. h j (omega arith) e)) (by (names m k) refl)
    where
      by : (b : Bool) → names m k ≡ b → All P (cond b (f k) [])
      by false e = tt
      by true e = h k (omega arith) e

  pub collect-at : (k j : ℕ) → All P (collect f m k) → j < k → names m j ≡ true → All P (f j)
  unfolding collect
  collect-at zero j a h e = absurd (omega arith)
  collect-at (suc k) j a h e = let b = all_split P (collect f m k) (cond (names m k) (f k) []) a in by (ℕ_discrete j k) b.1 (λ q. collect-at k j b.0 q e)
    where
      by : Dec (j ≡ k) → All P (cond (names m k) (f k) []) → (j < k → All P (f j)) → All P (f j)
      by (no n) b earlier = earlier (omega arith)
      by (yes q) b earlier =
          subst (λ (i : ℕ). All P (f i)) (sym q) (subst (λ (x : Bool). All P (cond x (f k) [])) (ap (names m) (sym q) ∙ e) b)

-- s for each register below k that is named
pub length-collect : (f : ℕ → List Save) (s m k : ℕ) → ((j : ℕ) → length (f j) ≡ s) → length (collect f m k) ≡ s * count_below m k
unfolding collect count_below
length-collect f s m zero h = sym (mul-zero s)
length-collect f s m (suc k) h = length-append (collect f m k) _ ∙ by (names m k) refl (length-collect f s m k h)
  where
    by : (b : Bool) → names m k ≡ b → length (collect f m k) ≡ s * count_below m k → length (collect f m k) + length (cond b (f k) []) ≡ s * (count_below m k + bit m k)
    by true e q = omega (arith, q, h k, mul-add s (count_below m k) (bit m k), ap (λ (x : ℕ). s * x) (eqb-true (bit m k) 1 e), mul-one s)
    by false e q = omega (arith, q, mul-add s (count_below m k) (bit m k), ap (λ (x : ℕ). s * x) (bit_unnamed m k e), mul-zero s)

-- two for each pair, one for each general register
pub length_saves : (r : Request) → length (saves_of r) ≡ 2 * count_below r.pairs 6 + count_below r.general 32
unfolding saves_of
length_saves r =
    omega (
      arith,
      length-append (pairs_of r) (registers_of r),
      length-collect (pair_at (floating_at r) r.pairs) 2 r.pairs 6 (λ j. refl),
      length-collect (register_at (general_at r) r.general) 1 r.general 32 (λ j. refl),
    )

-- where none is named, none is collected
pub collect-none : (f : ℕ → List Save) (m k : ℕ) → count_below m k ≡ 0 → collect f m k ≡ []
unfolding collect count_below
collect-none f m zero e = refl
collect-none f m (suc k) e =
    let b : bit m k ≡ 0 = omega arith in
    let p : count_below m k ≡ 0 = omega arith in
    simp (collect-none f m k p, b)

-- s bytes for each register below k
pub collect-span : (f : ℕ → List Save) (s m start k : ℕ) → ((j : ℕ) → Span (start + s * count_below m j) (f j) (start + s * count_below m j + s))
    → Span start (collect f m k) (start + s * count_below m k)
unfolding collect count_below
collect-span f s m start zero h = omega (arith, mul-zero s)
collect-span f s m start (suc k) h =
    span-append start (collect f m k) (start + s * count_below m k) _ (start + s * (count_below m k + bit m k)) (collect-span f s m start k h) (by (names m k) refl)
  where
    by : (b : Bool) → names m k ≡ b → Span (start + s * count_below m k) (cond b (f k) []) (start + s * (count_below m k + bit m k))
    by true e =
        let q : start + s * (count_below m k + bit m k) ≡ start + s * count_below m k + s =
        omega (arith, mul-add s (count_below m k) (bit m k), ap (λ (x : ℕ). s * x) (eqb-true (bit m k) 1 e), mul-one s) in
        subst (Span (start + s * count_below m k) (f k)) (sym q) (h k)
    by false e = omega (arith, mul-add s (count_below m k) (bit m k))
