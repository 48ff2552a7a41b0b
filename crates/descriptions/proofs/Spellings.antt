-- No bytes spell two trees.
-- Assumes nothing.
use mathlib.Core.Path.{◌≡◌, refl, sym, ap, ap₂, ◌∙◌}
use mathlib.Core.List.{List, [], ◌∷◌, ◌++◌, append_assoc, head-eq_of_cons-eq, tail-eq_of_cons-eq}
use Prim.Native.Nat.{ℕ, zero, suc}
use native.Mathlib.Omega.{arith}
use Rattle.descriptions.specs.Trees.{Scalar, signed_byte, unsigned_byte, signed_halfword, unsigned_halfword, word, doubleword, single, double, kind_byte, Member, Members, scalar, repeat, structure, none, ◌then◌}
use Rattle.descriptions.specs.Spelling.{spelling, spellings}
use Rattle.descriptions.specs.Descriptions.{Unambiguous}
use Rattle.descriptions.proofs.Leading.{scalar_low}

-- the scalar of a byte
scalar_at : ℕ → Scalar
scalar_at zero = signed_byte
scalar_at (suc zero) = signed_byte
scalar_at (suc (suc zero)) = unsigned_byte
scalar_at (suc (suc (suc zero))) = signed_halfword
scalar_at (suc (suc (suc (suc zero)))) = unsigned_halfword
scalar_at (suc (suc (suc (suc (suc zero))))) = word
scalar_at (suc (suc (suc (suc (suc (suc zero)))))) = doubleword
scalar_at (suc (suc (suc (suc (suc (suc (suc zero))))))) = single
scalar_at (suc (suc (suc (suc (suc (suc (suc (suc b)))))))) = double

scalar_at_lem : (s : Scalar) → scalar_at (kind_byte s) ≡ s
unfolding scalar_at
scalar_at_lem signed_byte = refl
scalar_at_lem unsigned_byte = refl
scalar_at_lem signed_halfword = refl
scalar_at_lem unsigned_halfword = refl
scalar_at_lem word = refl
scalar_at_lem doubleword = refl
scalar_at_lem single = refl
scalar_at_lem double = refl

scalar_same : (s t : Scalar) → kind_byte s ≡ kind_byte t → s ≡ t
scalar_same s t e = sym (scalar_at_lem s) ∙ ap scalar_at e ∙ scalar_at_lem t

-- a member does not begin with 11
begins : (m : Member) (k l : List ℕ) → spelling m ++ k ≡ 0x11 ∷ l → ⊥
begins (scalar s) k l e = omega (arith, scalar_low s, head-eq_of_cons-eq e)
begins (repeat n m) k l e = omega (arith, head-eq_of_cons-eq e)
begins (structure ms) k l e = omega (arith, head-eq_of_cons-eq e)

mutual
  member_same : (m n : Member) (k l : List ℕ) → spelling m ++ k ≡ spelling n ++ l → (m ≡ n) × (k ≡ l)
  member_same (scalar s) (scalar t) k l e = (ap scalar (scalar_same s t (head-eq_of_cons-eq e)), tail-eq_of_cons-eq e)
  member_same (scalar s) (repeat j n) k l e = absurd (omega (arith, scalar_low s, head-eq_of_cons-eq e))
  member_same (scalar s) (structure ns) k l e = absurd (omega (arith, scalar_low s, head-eq_of_cons-eq e))
  member_same (repeat i m) (scalar t) k l e = absurd (omega (arith, scalar_low t, head-eq_of_cons-eq e))
  member_same (repeat i m) (repeat j n) k l e =
      let f = member_same m n k l (tail-eq_of_cons-eq (tail-eq_of_cons-eq e)) in
      (ap₂ repeat (head-eq_of_cons-eq (tail-eq_of_cons-eq e)) f.0, f.1)
  member_same (repeat i m) (structure ns) k l e = absurd (omega (arith, head-eq_of_cons-eq e))
  member_same (structure ms) (scalar t) k l e = absurd (omega (arith, scalar_low t, head-eq_of_cons-eq e))
  member_same (structure ms) (repeat j n) k l e = absurd (omega (arith, head-eq_of_cons-eq e))
  member_same (structure ms) (structure ns) k l e =
      let f = members_same ms ns k l (sym (append_assoc (spellings ms) (0x11 ∷ []) k) ∙ tail-eq_of_cons-eq e ∙ append_assoc (spellings ns) (0x11 ∷ []) l) in
      (ap structure f.0, f.1)

  members_same : (ms ns : Members) (k l : List ℕ) → spellings ms ++ (0x11 ∷ k) ≡ spellings ns ++ (0x11 ∷ l) → (ms ≡ ns) × (k ≡ l)
  members_same none none k l e = (refl, tail-eq_of_cons-eq e)
  members_same none (n then ns) k l e = absurd (begins n (spellings ns ++ (0x11 ∷ l)) k (sym (e ∙ append_assoc (spelling n) (spellings ns) (0x11 ∷ l))))
  members_same (m then ms) none k l e = absurd (begins m (spellings ms ++ (0x11 ∷ k)) l (sym (append_assoc (spelling m) (spellings ms) (0x11 ∷ k)) ∙ e))
  members_same (m then ms) (n then ns) k l e =
      let f = member_same m n (spellings ms ++ (0x11 ∷ k)) (spellings ns ++ (0x11 ∷ l))
      (sym (append_assoc (spelling m) (spellings ms) (0x11 ∷ k)) ∙ e ∙ append_assoc (spelling n) (spellings ns) (0x11 ∷ l)) in
      let g = members_same ms ns k l f.1 in
      (ap₂ ◌then◌ f.0 g.0, g.1)

pub unambiguous : Unambiguous
unambiguous bytes ms ns e f = (members_same ms ns [] [] (tail-eq_of_cons-eq (sym e ∙ f))).0
