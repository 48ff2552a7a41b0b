-- Laws of lists of image bytes: what is stored at them is read back, and bytes that are not among them stay.
-- Assumes nothing.
use mathlib.Core.Path.{◌≡◌, refl, ap, ap₂, ◌∙◌}
use mathlib.Core.Logic.{◌⊎◌, inl, inr}
use mathlib.Core.Bool.{Bool, true, false}
use mathlib.Core.List.{List, [], ◌∷◌, ◌++◌}
use Prim.Native.Nat.{ℕ, suc, ◌<◌}
use native.Mathlib.Omega.{arith}
use lib.ListN.{length, get_or, set, drop, length-set}
use lib.Seq.{get_or-set_same, get_or-set_other, set-append_left}
use lib.Dec.{eqb}
use borrow.Author.Tests.{eqb-true, eqb-false}
use Rattle.places.specs.Places.{gather, put, In, Distinct}

pub length-gather : (img ps : List ℕ) → length (gather img ps) ≡ length ps
length-gather img [] = refl
length-gather img (p ∷ ps) = ap suc (length-gather img ps)

pub gather_append : (img ps qs : List ℕ) → gather img (ps ++ qs) ≡ gather img ps ++ gather img qs
gather_append img [] qs = refl
gather_append img (p ∷ ps) qs = ap (λ (r : List ℕ). get_or img p 0 ∷ r) (gather_append img ps qs)

pub length-put : (img ps vs : List ℕ) → length (put img ps vs) ≡ length img
length-put img [] vs = refl
length-put img (p ∷ ps) [] = refl
length-put img (p ∷ ps) (v ∷ vs) = length-put (set img p v) ps vs ∙ length-set img p v

pub get_or-put_other : (img ps vs : List ℕ) (p : ℕ) → (In p ps → ⊥) → get_or (put img ps vs) p 0 ≡ get_or img p 0
get_or-put_other img [] vs p h = refl
get_or-put_other img (q ∷ ps) [] p h = refl
get_or-put_other img (q ∷ ps) (v ∷ vs) p h =
    get_or-put_other (set img q v) ps vs p (λ m. h (inr m)) ∙ get_or-set_other img q p v 0 (λ e. h (inl e))

-- what was stored is read back
pub gather-put : (img ps vs : List ℕ) → Distinct ps → ((p : ℕ) → In p ps → p < length img) → length vs ≡ length ps → gather (put img ps vs) ps ≡ vs
gather-put img [] [] d b e = refl
gather-put img [] (v ∷ vs) d b e = absurd (omega arith)
gather-put img (p ∷ ps) [] d b e = absurd (omega arith)
gather-put img (p ∷ ps) (v ∷ vs) d b e =
    ap₂ (λ (a : ℕ) (r : List ℕ). a ∷ r)
    (get_or-put_other (set img p v) ps vs p d.0 ∙ get_or-set_same img p v 0 (b p (inl refl)))
    (gather-put (set img p v) ps vs d.1 (λ q m. rw length-set (b q (inr m))) (omega arith))

-- stores one after the other
pub put-append : (img ps qs us vs : List ℕ) → length us ≡ length ps → put img (ps ++ qs) (us ++ vs) ≡ put (put img ps us) qs vs
put-append img [] qs [] vs e = refl
put-append img [] qs (u ∷ us) vs e = absurd (omega arith)
put-append img (p ∷ ps) qs [] vs e = absurd (omega arith)
put-append img (p ∷ ps) qs (u ∷ us) vs e = put-append (set img p u) ps qs us vs (omega arith)

-- stores into the first of two parts
pub put_left : (a x ps vs : List ℕ) → ((p : ℕ) → In p ps → p < length a) → put (a ++ x) ps vs ≡ put a ps vs ++ x
put_left a x [] vs h = refl
put_left a x (p ∷ ps) [] h = refl
put_left a x (p ∷ ps) (v ∷ vs) h =
    rw (set-append_left a x p v (h p (inl refl))) (put_left (set a p v) x ps vs (λ q m. rw length-set (h q (inr m))))

-- two images agree on these bytes exactly when the same is gathered from both
pub gather_agree : (a b ps : List ℕ) → ((p : ℕ) → In p ps → get_or a p 0 ≡ get_or b p 0) → gather a ps ≡ gather b ps
gather_agree a b [] h = refl
gather_agree a b (p ∷ ps) h = ap₂ (λ (x : ℕ) (r : List ℕ). x ∷ r) (h p (inl refl)) (gather_agree a b ps (λ q m. h q (inr m)))

pub agree_gather : (a b ps : List ℕ) → gather a ps ≡ gather b ps → (p : ℕ) → In p ps → get_or a p 0 ≡ get_or b p 0
agree_gather a b [] e p m = absurd m
agree_gather a b (q ∷ ps) e p (inl x) = rw x (ap (λ (l : List ℕ). get_or l 0 0) e)
agree_gather a b (q ∷ ps) e p (inr m) = agree_gather a b ps (ap (λ (l : List ℕ). drop 1 l) e) p m

pub in_left : (ps qs : List ℕ) (p : ℕ) → In p ps → In p (ps ++ qs)
in_left [] qs p m = absurd m
in_left (q ∷ ps) qs p (inl e) = inl e
in_left (q ∷ ps) qs p (inr m) = inr (in_left ps qs p m)

pub in_right : (ps qs : List ℕ) (p : ℕ) → In p qs → In p (ps ++ qs)
in_right [] qs p m = m
in_right (q ∷ ps) qs p m = inr (in_right ps qs p m)

pub in_cases : {A : Type 0} (ps qs : List ℕ) (p : ℕ) → In p (ps ++ qs) → (In p ps → A) → (In p qs → A) → A
in_cases [] qs p m f g = g m
in_cases (q ∷ ps) qs p (inl e) f g = f (inl e)
in_cases (q ∷ ps) qs p (inr m) f g = in_cases ps qs p m (λ m'. f (inr m')) g

pub in_or-not : (p : ℕ) (ps : List ℕ) → In p ps ⊎ (In p ps → ⊥)
in_or-not p [] = inr (λ m. m)
in_or-not p (q ∷ ps) = go (eqb p q) refl (in_or-not p ps)
  where
    go : (t : Bool) → eqb p q ≡ t → In p ps ⊎ (In p ps → ⊥) → In p (q ∷ ps) ⊎ (In p (q ∷ ps) → ⊥)
    go true e rest = inl (inl (eqb-true p q e))
    go false e (inl m) = inl (inr m)
    go false e (inr n) = inr (λ m. elim m [ inl x ↦ eqb-false p q e x | inr x ↦ n x ])

pub distinct_append : (ps qs : List ℕ) → Distinct ps → Distinct qs → ((p : ℕ) → In p ps → In p qs → ⊥) → Distinct (ps ++ qs)
distinct_append [] qs d e h = e
distinct_append (p ∷ ps) qs d e h = (
  (λ m. in_cases ps qs p m d.0 (h p (inl refl))),
  distinct_append ps qs d.1 e (λ q m. h q (inr m)),
)
