-- What stands among words, how often, and the words that are not 00000000.
-- Assumes nothing.
use mathlib.Core.Path.{◌≡◌, refl, sym, ap, ◌∙◌, subst}
use mathlib.Core.Logic.{◌⊎◌, inl, inr}
use mathlib.Core.List.{List, [], ◌∷◌, ◌++◌, map, nil≢cons, head-eq_of_cons-eq, tail-eq_of_cons-eq}
use Prim.Native.Nat.{ℕ, suc, ◌<◌}
use native.Mathlib.Omega.{arith}
use native.Mathlib.Decide.{ℕ_discrete}
use borrow.Author.Tests.{eq-eqb, ne_eqb}
use Rattle.frame.proofs.Saves.{All}
use Rattle.prologues.specs.Checking.{count, instructions}
use Rattle.prologues.specs.Prologues.{Among}

-- ---- what holds of all, and of each

module _ {A : Type 0} where
  pub all_among : (P : A → Type 0) (xs : List A) → All P xs → (x : A) → Among x xs → P x
  all_among P [] a x i = absurd i
  all_among P (y ∷ ys) a x (inl e) = subst P (sym e) a.0
  all_among P (y ∷ ys) a x (inr i) = all_among P ys a.1 x i

  pub among_all : (P : A → Type 0) (xs : List A) → ((x : A) → Among x xs → P x) → All P xs
  among_all P [] h = tt
  among_all P (y ∷ ys) h = (h y (inl refl), among_all P ys (λ x i. h x (inr i)))

  -- none is where there are none
  pub among_none : (xs : List A) → ((x : A) → Among x xs → ⊥) → xs ≡ []
  among_none [] h = refl
  among_none (x ∷ xs) h = absurd (h x (inl refl))

  pub among_right : (x : A) (xs ys : List A) → Among x ys → Among x (xs ++ ys)
  among_right x [] ys i = i
  among_right x (z ∷ zs) ys i = inr (among_right x zs ys i)

module _ {A B : Type 0} (f : A → B) where
  pub among_map : (x : A) (xs : List A) → Among x xs → Among (f x) (map f xs)
  among_map x [] i = absurd i
  among_map x (y ∷ ys) (inl e) = inl (ap f e)
  among_map x (y ∷ ys) (inr i) = inr (among_map x ys i)

  pub map_among : (y : B) (xs : List A) → Among y (map f xs) → (x : A) × Among x xs × (y ≡ f x)
  map_among y [] i = absurd i
  map_among y (x ∷ xs) (inl e) = (x, inl refl, e)
  map_among y (x ∷ xs) (inr i) = let z = map_among y xs i in (z.0, inr z.1, z.2)

-- ---- how often

module _ (w x : ℕ) (ws : List ℕ) where
  pub count_one_more : x ≡ w → count w (x ∷ ws) ≡ suc (count w ws)
  unfolding count
  count_one_more e = simp (eq-eqb x w e) (omega arith)

  pub count_other : (x ≡ w → ⊥) → count w (x ∷ ws) ≡ count w ws
  unfolding count
  count_other n = simp (ne_eqb x w n) (omega arith)

pub count_none : (w : ℕ) → count w [] ≡ 0
unfolding count
count_none w = refl

pub among_counted : (w : ℕ) (ws : List ℕ) → Among w ws → 0 < count w ws
among_counted w [] i = absurd i
among_counted w (x ∷ ws) i = by (ℕ_discrete x w) i (λ j. among_counted w ws j)
  where
    by : Dec (x ≡ w) → Among w (x ∷ ws) → (Among w ws → 0 < count w ws) → 0 < count w (x ∷ ws)
    by (yes e) i h = omega (arith, count_one_more w x ws e)
    by (no n) (inl e) h = absurd (n (sym e))
    by (no n) (inr j) h = omega (arith, count_other w x ws n, h j)

pub counted_among : (w : ℕ) (ws : List ℕ) → 0 < count w ws → Among w ws
counted_among w [] h = absurd (omega (arith, count_none w))
counted_among w (x ∷ ws) h = by (ℕ_discrete x w) (λ k. counted_among w ws k)
  where
    by : Dec (x ≡ w) → (0 < count w ws → Among w ws) → Among w (x ∷ ws)
    by (yes e) f = inl (sym e)
    by (no n) f = inr (f (omega (arith, count_other w x ws n)))

-- ---- the words that are not 00000000

module _ (w : ℕ) (ws : List ℕ) where
  pub instructions-zero : w ≡ 0 → instructions (w ∷ ws) ≡ instructions ws
  unfolding instructions
  instructions-zero e = simp (eq-eqb w 0 e)

  pub instructions_more : (w ≡ 0 → ⊥) → instructions (w ∷ ws) ≡ w ∷ instructions ws
  unfolding instructions
  instructions_more n = simp (ne_eqb w 0 n)

pub instructions-none : instructions [] ≡ []
unfolding instructions
instructions-none = refl

pub count-instructions : (w : ℕ) (ws : List ℕ) → (w ≡ 0 → ⊥) → count w (instructions ws) ≡ count w ws
count-instructions w [] n = ap (count w) instructions-none
count-instructions w (x ∷ ws) n = by (ℕ_discrete x 0) (ℕ_discrete x w) (count-instructions w ws n)
  where
    by : Dec (x ≡ 0) → Dec (x ≡ w) → count w (instructions ws) ≡ count w ws → count w (instructions (x ∷ ws)) ≡ count w (x ∷ ws)
    by (yes z) d h = ap (count w) (instructions-zero x ws z) ∙ h ∙ sym (count_other w x ws (λ e. n (sym e ∙ z)))
    by (no z) (yes e) h = ap (count w) (instructions_more x ws z) ∙ count_one_more w x (instructions ws) e ∙ ap suc h ∙ sym (count_one_more w x ws e)
    by (no z) (no e) h = ap (count w) (instructions_more x ws z) ∙ count_other w x (instructions ws) e ∙ h ∙ sym (count_other w x ws e)

pub among_instructions : (w : ℕ) (ws : List ℕ) → (w ≡ 0 → ⊥) → Among w ws → Among w (instructions ws)
among_instructions w ws n i = counted_among w (instructions ws) (omega (arith, count-instructions w ws n, among_counted w ws i))

pub instructions_among : (w : ℕ) (ws : List ℕ) → Among w (instructions ws) → (w ≡ 0 → ⊥) × Among w ws
instructions_among w [] i = absurd (subst (Among w) instructions-none i)
instructions_among w (x ∷ ws) i = by (ℕ_discrete x 0) (λ j. instructions_among w ws j)
  where
    by : Dec (x ≡ 0) → (Among w (instructions ws) → (w ≡ 0 → ⊥) × Among w ws) → (w ≡ 0 → ⊥) × Among w (x ∷ ws)
    by (yes z) h = let k = h (subst (Among w) (instructions-zero x ws z) i) in (k.0, inr k.1)
    by (no z) h = either (subst (Among w) (instructions_more x ws z) i)
      where
        either : (w ≡ x) ⊎ Among w (instructions ws) → (w ≡ 0 → ⊥) × Among w (x ∷ ws)
        either (inl e) = (λ q. z (sym e ∙ q), inl e)
        either (inr j) = let k = h j in (k.0, inr k.1)

pub instructions-append : (us vs : List ℕ) → instructions (us ++ vs) ≡ instructions us ++ instructions vs
instructions-append [] vs = ap (λ (l : List ℕ). l ++ instructions vs) (sym instructions-none)
instructions-append (u ∷ us) vs = by (ℕ_discrete u 0) (instructions-append us vs)
  where
    by : Dec (u ≡ 0) → instructions (us ++ vs) ≡ instructions us ++ instructions vs → instructions ((u ∷ us) ++ vs) ≡ instructions (u ∷ us) ++ instructions vs
    by (yes z) h = instructions-zero u (us ++ vs) z ∙ h ∙ ap (λ (l : List ℕ). l ++ instructions vs) (sym (instructions-zero u us z))
    by (no z) h = instructions_more u (us ++ vs) z ∙ ap (λ (l : List ℕ). u ∷ l) h ∙ ap (λ (l : List ℕ). l ++ instructions vs) (sym (instructions_more u us z))

-- words of which none is 00000000
pub instructions-all : (ws : List ℕ) → ((w : ℕ) → Among w ws → w ≡ 0 → ⊥) → instructions ws ≡ ws
instructions-all [] h = instructions-none
instructions-all (w ∷ ws) h =
    instructions_more w ws (h w (inl refl)) ∙ ap (λ (l : List ℕ). w ∷ l) (instructions-all ws (λ x i. h x (inr i)))

-- the first of them, where it stands
pub first_instruction : (ws : List ℕ) (w : ℕ) (rest : List ℕ) → instructions ws ≡ w ∷ rest
    → (before : List ℕ) × (after : List ℕ) × (ws ≡ before ++ (w ∷ after)) × (instructions after ≡ rest)
first_instruction [] w rest e = absurd (nil≢cons (sym instructions-none ∙ e))
first_instruction (x ∷ ws) w rest e = by (ℕ_discrete x 0) (λ q. first_instruction ws w rest q)
  where
    Found : List ℕ → Type 0
    Found ws = (before : List ℕ) × (after : List ℕ) × (ws ≡ before ++ (w ∷ after)) × (instructions after ≡ rest)

    by : Dec (x ≡ 0) → (instructions ws ≡ w ∷ rest → Found ws) → Found (x ∷ ws)
    by (yes z) h = let f = h (sym (instructions-zero x ws z) ∙ e) in (x ∷ f.0, f.1, ap (λ (l : List ℕ). x ∷ l) f.2, f.3)
    by (no z) h = let q = sym (instructions_more x ws z) ∙ e in ([], ws, ap (λ (y : ℕ). y ∷ ws) (head-eq_of_cons-eq q), tail-eq_of_cons-eq q)
