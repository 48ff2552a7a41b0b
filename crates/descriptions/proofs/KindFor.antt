-- The kind byte for a size and an alignment: what is found is a kind for them, there is none where nothing is found, and there are
-- never two.
-- Assumes nothing.
use mathlib.Core.Path.{◌≡◌, refl, sym, ap, ◌∙◌}
use mathlib.Core.Logic.{inl, inr}
use mathlib.Core.Bool.{Bool, true, false, cond, ◌&&◌, and-eq-true_iff, false≢true}
use Prim.Native.Nat.{ℕ, zero, suc, ◌+◌, ◌-◌, ◌≤◌, ◌<◌, max}
use native.Mathlib.Omega.{arith}
use lib.Dec.{eqb}
use borrow.Author.Tests.{eqb-true, eq-eqb}
use Rattle.kinds.specs.declared.Class.TheVariants as Class
use Rattle.kinds.specs.Kinds.{kind_of, is}
use Rattle.kinds.proofs.Structures.{structure_row}
use Rattle.descriptions.specs.Trees.{suits, kind_among, kind_for}
use Rattle.descriptions.specs.Descriptions.{IsKind, OneKind, Natural}

-- ---- a kind of structures

pub one_kind : OneKind
one_kind z a j k x y =
    structure_row j x.class
    (λ f g s t. structure_row k y.class (λ h i u v. omega (arith, x.same_size, y.same_size)) (λ h i u v. omega (arith, x.same_size, y.same_size)) (λ h i u v. absurd (omega (arith, there v))))
    (λ f g s t. structure_row k y.class (λ h i u v. omega (arith, x.same_size, y.same_size)) (λ h i u v. omega (arith, x.same_size, y.same_size)) (λ h i u v. absurd (omega (arith, there v))))
    (λ f g s t. structure_row k y.class (λ h i u v. absurd (omega (arith, here t))) (λ h i u v. absurd (omega (arith, here t))) (λ h i u v. omega (arith, x.same_size, y.same_size)))
  where
    here : (kind_of j).alignment ≡ 8 → (kind_of k).alignment ≡ 8
    here e = y.eight.1 (x.eight.0 e)

    there : (kind_of k).alignment ≡ 8 → (kind_of j).alignment ≡ 8
    there e = x.eight.1 (y.eight.0 e)

-- a byte, but not 0
pub kind_byte_lem : (k : ℕ) → is Class.Structure (kind_of k) ≡ true → (0 < k) × (k < 256)
kind_byte_lem k e = structure_row k e (λ f g s t. omega arith) (λ f g s t. omega arith) (λ f g s t. omega arith)

-- ---- the test

pub record Suited (z a k : ℕ) : Type 0 where
  pub class : is Class.Structure (kind_of k) ≡ true
  pub same_size : (kind_of k).size ≡ z
  pub same_alignment : (kind_of k).alignment ≡ max 4 a

pub suited : {z a k : ℕ} → suits z a k ≡ true → Suited z a k
suited {z} {a} {k} e =
    let t = (and-eq-true_iff (is Class.Structure (kind_of k) && eqb (kind_of k).size z) (eqb (kind_of k).alignment (max 4 a))).0 e in
    let u = (and-eq-true_iff (is Class.Structure (kind_of k)) (eqb (kind_of k).size z)).0 t.0 in
    record { class = u.0; same_size = eqb-true (kind_of k).size z u.1; same_alignment = eqb-true (kind_of k).alignment (max 4 a) t.1 }

-- a kind that suits is a kind for a structure of this size and alignment,
pub suited_kind : {z a k : ℕ} → Suited z a k → IsKind z a k
suited_kind s = record { class = s.class; same_size = s.same_size; eight = ((λ e. omega (arith, s.same_alignment)), (λ e. omega (arith, s.same_alignment))) }

-- which has small numbers;
pub suited_small : {z a k : ℕ} → Suited z a k → (z ≤ 512) × (a ≤ 8)
suited_small {z} {a} {k} x = structure_row k x.class
    (λ f g s t. omega (arith, x.same_size, x.same_alignment)) (λ f g s t. omega (arith, x.same_size, x.same_alignment)) (λ f g s t. omega (arith, x.same_size, x.same_alignment))

-- and the other way round
suits_kind : {z a k : ℕ} → Natural a → IsKind z a k → suits z a k ≡ true
suits_kind {z} {a} {k} p x = rw (x.class, eq-eqb (kind_of k).size z x.same_size, eq-eqb (kind_of k).alignment (max 4 a) (same p))
  where
    four : (a ≡ 8 → ⊥) → (kind_of k).alignment ≡ 4
    four f = structure_row k x.class (λ g h s t. t) (λ g h s t. t) (λ g h s t. absurd (f (x.eight.0 t)))

    same : Natural a → (kind_of k).alignment ≡ max 4 a
    same (inl e) = omega (arith, four (λ f. omega arith))
    same (inr (inl e)) = omega (arith, four (λ f. omega arith))
    same (inr (inr (inl e))) = omega (arith, four (λ f. omega arith))
    same (inr (inr (inr e))) = omega (arith, x.eight.1 e)

-- ---- the search

pub kind_suits : (z a n : ℕ) → (kind_among z a n ≡ 0 → ⊥) → suits z a (kind_among z a n) ≡ true
unfolding kind_among
kind_suits z a zero f = absurd (f refl)
kind_suits z a (suc n) f = go (suits z a (255 - n)) refl f (kind_suits z a n)
  where
    go : (t : Bool) → suits z a (255 - n) ≡ t → (cond t (255 - n) (kind_among z a n) ≡ 0 → ⊥) → ((kind_among z a n ≡ 0 → ⊥) → suits z a (kind_among z a n) ≡ true)
        → suits z a (cond t (255 - n) (kind_among z a n)) ≡ true
    go true e f rest = e
    go false e f rest = rest f

pub kind_found : (z a : ℕ) → (kind_for z a ≡ 0 → ⊥) → Suited z a (kind_for z a)
kind_found z a f = suited (kind_suits z a 256 f)

not_missed : (z a k n : ℕ) → suits z a k ≡ true → (0 < k) × (k < 256) → n ≤ 256 → 256 ≤ k + n → kind_among z a n ≡ 0 → ⊥
unfolding kind_among
not_missed z a k zero s b l h e = omega arith
not_missed z a k (suc n) s b l h e = go (suits z a (255 - n)) refl e (not_missed z a k n s b (omega arith))
  where
    go : (t : Bool) → suits z a (255 - n) ≡ t → cond t (255 - n) (kind_among z a n) ≡ 0 → (256 ≤ k + n → kind_among z a n ≡ 0 → ⊥) → ⊥
    go true u e rest = omega (arith, kind_byte_lem (255 - n) (suited {k = 255 - n} u).class)
    go false u e rest =
        let other : (255 - n ≡ k → ⊥) = λ q. false≢true (sym u ∙ ap (suits z a) q ∙ s) in
        rest (omega arith) e

-- where one suits the search finds one,
pub some_found : (z a k : ℕ) → suits z a k ≡ true → kind_for z a ≡ 0 → ⊥
some_found z a k s = not_missed z a k 256 s (kind_byte_lem k (suited {k = k} s).class) (omega arith) (omega arith)

-- and where it finds nothing there is no kind
pub no_kind_for : {z a : ℕ} → Natural a → kind_for z a ≡ 0 → (k : ℕ) → IsKind z a k → ⊥
no_kind_for {z} {a} p e k x = some_found z a k (suits_kind p x) e
