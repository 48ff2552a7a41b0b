-- Sizes and alignments of trees: none is 0, alignments are 1, 2, 4 and 8; and what one member more changes.
-- Assumes nothing.
use mathlib.Core.Path.{◌≡◌, refl, sym, ap, ◌∙◌, subst}
use mathlib.Core.Logic.{inl, inr}
use mathlib.Core.List.{List, ◌++◌, append_assoc, append-nil}
use Prim.Native.Nat.{ℕ, ◌+◌, ◌≤◌, max}
use native.Mathlib.Omega.{arith, max_cases}
use native.Mathlib.Nat.{mul-le-mul}
use Rattle.words.specs.Words.{up}
use Rattle.o32_offsets.proofs.Offsets.{up-ge}
use Rattle.descriptions.specs.Trees.{Scalar, signed_byte, unsigned_byte, signed_halfword, unsigned_halfword, word, doubleword, single, double, width, Member, Members, scalar, repeat, structure, none, ◌then◌, alignment, strictest, size, end_from, depth, deepest, Proper, Within, NonEmpty}
use Rattle.descriptions.specs.Spelling.{spelling, spellings}
use Rattle.descriptions.specs.Descriptions.{Natural}

infixl 5 ◌▹◌
-- ---- alignments

pub width_natural : (s : Scalar) → Natural (width s)
width_natural signed_byte = inl refl
width_natural unsigned_byte = inl refl
width_natural signed_halfword = inr (inl refl)
width_natural unsigned_halfword = inr (inl refl)
width_natural word = inr (inr (inl refl))
width_natural doubleword = inr (inr (inr refl))
width_natural single = inr (inr (inl refl))
width_natural double = inr (inr (inr refl))

max_natural : {a b : ℕ} → Natural a → Natural b → Natural (max a b)
max_natural {a} {b} p q = max_cases a b (Natural (max a b)) (λ h e. subst Natural (sym e) q) (λ h e. subst Natural (sym e) p)

mutual
  pub alignment_natural : (m : Member) → Natural (alignment m)
  alignment_natural (scalar s) = width_natural s
  alignment_natural (repeat n m) = alignment_natural m
  alignment_natural (structure ms) = strictest_natural ms

  pub strictest_natural : (ms : Members) → Natural (strictest ms)
  strictest_natural none = inl refl
  strictest_natural (m then ms) = max_natural (alignment_natural m) (strictest_natural ms)

pub natural_positive : {a : ℕ} → Natural a → 1 ≤ a
natural_positive (inl e) = omega arith
natural_positive (inr (inl e)) = omega arith
natural_positive (inr (inr (inl e))) = omega arith
natural_positive (inr (inr (inr e))) = omega arith

-- ---- every member has bytes

up_alignment : (m : Member) (end : ℕ) → end ≤ up (alignment m) end
up_alignment m end = up-ge (alignment m) end (natural_positive (alignment_natural m))

pub end_grows : (ms : Members) (end : ℕ) → end ≤ end_from end ms
end_grows none end = omega arith
end_grows (m then ms) end = omega (arith, up_alignment m end, end_grows ms (up (alignment m) end + size m))

mutual
  pub size_positive : (m : Member) → Proper m → 1 ≤ size m
  size_positive (scalar s) p = natural_positive (width_natural s)
  size_positive (repeat n m) p = mul-le-mul p.0 (size_positive m p.3)
  size_positive (structure ms) p = omega (arith, filled_end ms p.0 0 p.1, up-ge (strictest ms) (end_from 0 ms) (natural_positive (strictest_natural ms)))

  pub filled_end : (ms : Members) → NonEmpty ms → (end : ℕ) → Within end ms → 1 ≤ end_from end ms
  filled_end none f end w = absurd f
  filled_end (m then ms) f end w = omega (arith, size_positive m w.0, end_grows ms (up (alignment m) end + size m))

-- ---- one member more

pub ◌▹◌ : Members → Member → Members
none ▹ m = m then none
(k then ms) ▹ m = k then (ms ▹ m)

pub spellings_last : (ms : Members) (m : Member) → spellings (ms ▹ m) ≡ spellings ms ++ spelling m
unfolding ◌▹◌
spellings_last none m = append-nil (spelling m)
spellings_last (k then ms) m = ap (λ (l : List ℕ). spelling k ++ l) (spellings_last ms m) ∙ sym (append_assoc (spelling k) (spellings ms) (spelling m))

pub end_last : (ms : Members) (m : Member) (end : ℕ) → end_from end (ms ▹ m) ≡ up (alignment m) (end_from end ms) + size m
unfolding ◌▹◌
end_last none m end = refl
end_last (k then ms) m end = end_last ms m (up (alignment k) end + size k)

pub strictest_last : (ms : Members) (m : Member) → strictest (ms ▹ m) ≡ max (alignment m) (strictest ms)
unfolding ◌▹◌
strictest_last none m = refl
strictest_last (k then ms) m = omega (arith, strictest_last ms m)

pub deepest_last : (ms : Members) (m : Member) → deepest (ms ▹ m) ≡ max (depth m) (deepest ms)
unfolding ◌▹◌
deepest_last none m = refl
deepest_last (k then ms) m = omega (arith, deepest_last ms m)

pub within_last : (ms : Members) (m : Member) (end : ℕ) → Within end ms → Proper m → up (alignment m) (end_from end ms) + size m ≤ 512 → Within end (ms ▹ m)
unfolding ◌▹◌
within_last none m end w p h = (p, h, tt)
within_last (k then ms) m end w p h = (w.0, w.1, within_last ms m (up (alignment k) end + size k) w.2 p h)
