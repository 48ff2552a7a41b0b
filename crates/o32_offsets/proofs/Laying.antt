-- The laws for laying lists end to end, and that ends never fall.
-- Assumes nothing.
use mathlib.Core.Path.{◌≡◌, refl, sym, ap, ◌∙◌, fun_ext}
use mathlib.Core.Logic.{inl, inr}
use mathlib.Core.List.{List, [], ◌∷◌, ◌++◌, append_assoc, append-nil, map-append}
use mathlib.Core.Bool.{Bool, true, false}
use Prim.Native.Nat.{ℕ, ◌+◌, ◌%◌, ◌≤◌}
use native.Mathlib.Omega.{arith}
use lib.ListN.{length, drop}
use lib.Seq.{drop-append_seam}
use Rattle.words.specs.Words.{up}
use Rattle.kinds.specs.declared.Class.TheVariants.{Unknown, Marker}
use Rattle.kinds.specs.Kinds.{kind_of, is}
use Rattle.kinds.proofs.KindFacts.{kind_facts}
use Rattle.o32_offsets.specs.Offsets.{ArgumentLayout, lay_one, followed_by, lay, offset, ending, width, Alignment}
use Rattle.o32_offsets.specs.Laying.{Laying, laying, ◌then◌, moved, Known, MonoidAction, layout_after, Joining}
use Rattle.o32_offsets.proofs.Offsets.{up-ge, none-up, marker-width}

-- ---- the monoid, and the groups' action

followed_assoc : (x y z : ArgumentLayout) → followed_by (followed_by x y) z ≡ followed_by x (followed_by y z)
followed_assoc x y z i = record { offsets = append_assoc x.offsets y.offsets z.offsets i; end = z.end }

pub lay_joined : (start : ℕ) (a b : List ℕ) → lay start (a ++ b) ≡ followed_by (lay start a) (lay (lay start a).end b)
lay_joined start [] b = refl
lay_joined start (k ∷ a) b =
    let x : ArgumentLayout = lay_one start (kind_of k) in
    ap (followed_by x) (lay_joined x.end a b) ∙ sym (followed_assoc x (lay x.end a) (lay (lay x.end a).end b))

pub end_joined : (start : ℕ) (a b : List ℕ) → (lay start (a ++ b)).end ≡ (lay (lay start a).end b).end
end_joined start a b = ap (λ (x : ArgumentLayout). x.end) (lay_joined start a b)

homomorphism : (a b : List ℕ) → laying a then laying b ≡ laying (a ++ b)
homomorphism a b i start = sym (lay_joined start a b) i

associativity : (f g h : Laying) → (f then g) then h ≡ f then (g then h)
associativity f g h i start = followed_assoc (f start) (g (f start).end) (h (g (f start).end).end) i

right_identity : (f : Laying) → f then laying [] ≡ f
right_identity f i start = record { offsets = append-nil (f start).offsets i; end = (f start).end }

marker-lays : (k : ℕ) → is Marker (kind_of k) ≡ true → laying (k ∷ []) ≡ laying []
marker-lays k e = fun_ext (λ start. rw e refl)

-- ---- starting later by a multiple of 8

up_later : (a m start : ℕ) → m % 8 ≡ 0 → Alignment a → 1 ≤ a → up a (m + start) ≡ m + up a start
up_later a m start h (inl e) g = absurd (omega arith)
up_later a m start h (inr (inl e)) g = rw e (omega arith)
up_later a m start h (inr (inr e)) g = rw e (omega arith)

-- two are moved by moving each
moved_both : (m : ℕ) (x y : ArgumentLayout) → followed_by (moved m x) (moved m y) ≡ moved m (followed_by x y)
moved_both m x y i = record { offsets = sym (map-append (λ (o : ℕ). m + o) x.offsets y.offsets) i; end = m + y.end }

module _ (m : ℕ) (multiple : m % 8 ≡ 0) where
  pub offset_later : (start k : ℕ) → is Unknown (kind_of k) ≡ false → is Marker (kind_of k) ≡ false → offset (kind_of k) (m + start) ≡ m + offset (kind_of k) start
  offset_later start k h e = up_later (kind_of k).alignment m start multiple (kind_facts k).alignments ((kind_facts k).aligned (rw (h, e) refl))

  one_later : (start k : ℕ) → is Unknown (kind_of k) ≡ false → lay_one (m + start) (kind_of k) ≡ moved m (lay_one start (kind_of k))
  one_later start k h = go (is Marker (kind_of k)) refl
    where
      go : (t : Bool) → is Marker (kind_of k) ≡ t → lay_one (m + start) (kind_of k) ≡ moved m (lay_one start (kind_of k))
      go true e = rw e refl
      go false e =
          let o : offset (kind_of k) (m + start) ≡ m + offset (kind_of k) start = offset_later start k h e in
          let n : ending (kind_of k) (m + start) ≡ m + ending (kind_of k) start = omega arith in
          rw e (λ i. record { offsets = o i ∷ []; end = n i })

  lay_later : (start : ℕ) (ks : List ℕ) → Known ks → lay (m + start) ks ≡ moved m (lay start ks)
  lay_later start [] h = refl
  lay_later start (k ∷ ks) h =
      let x : ArgumentLayout = lay_one start (kind_of k) in
      ap (λ (y : ArgumentLayout). followed_by y (lay y.end ks)) (one_later start k h.0)
      ∙ ap (followed_by (moved m x)) (lay_later x.end ks h.1)
      ∙ moved_both m x (lay x.end ks)

-- Layings are a monoid, and groups act by it on ends.
pub monoid_action : MonoidAction
monoid_action = record {
  homomorphism = homomorphism;
  associativity = associativity;
  left_identity = λ f. refl;
  right_identity = right_identity;
  marker = marker-lays;
  translation = λ m start ks h g. lay_later m (omega arith) start ks g;
}

-- ---- joining

-- from 0, and from a multiple of 8
from_zero : (m : ℕ) → m % 8 ≡ 0 → (ks : List ℕ) → Known ks → lay m ks ≡ moved m (lay 0 ks)
from_zero m e ks h = ap (λ (s : ℕ). lay s ks) (omega arith) ∙ monoid_action.translation m 0 ks e h

layout_after_lem : (start : ℕ) (a b : List ℕ) → layout_after start a b ≡ lay (lay start a).end b
layout_after_lem start a b i = record {
  offsets = (ap (λ (x : ArgumentLayout). drop (length (lay start a).offsets) x.offsets) (lay_joined start a b) ∙ drop-append_seam (lay start a).offsets _) i;
  end = end_joined start a b i;
}

second_moved : (start : ℕ) (a b : List ℕ) → (lay start a).end % 8 ≡ 0 → Known b → layout_after start a b ≡ moved (lay start a).end (lay 0 b)
second_moved start a b e h = layout_after_lem start a b ∙ from_zero (lay start a).end e b h

ends_add : (start : ℕ) (a b : List ℕ) → (lay start a).end % 8 ≡ 0 → Known b → (lay start (a ++ b)).end ≡ (lay start a).end + (lay 0 b).end
ends_add start a b e h = ap (λ (x : ArgumentLayout). x.end) (second_moved start a b e h)

exchange : (start : ℕ) (a b c : List ℕ) → (lay start (a ++ b)).end ≡ (lay start (b ++ a)).end → layout_after start (a ++ b) c ≡ layout_after start (b ++ a) c
exchange start a b c e = layout_after_lem start (a ++ b) c ∙ ap (λ (s : ℕ). lay s c) e ∙ sym (layout_after_lem start (b ++ a) c)

same_end : (start : ℕ) (a b : List ℕ) → start % 8 ≡ 0 → (lay 0 a).end % 8 ≡ 0 → (lay 0 b).end % 8 ≡ 0 → Known a → Known b
    → (lay start (a ++ b)).end ≡ (lay start (b ++ a)).end
same_end start a b s e f g h = sum a b e g h ∙ omega arith ∙ sym (sum b a f h g)
  where
    sum : (a b : List ℕ) → (lay 0 a).end % 8 ≡ 0 → Known a → Known b → (lay start (a ++ b)).end ≡ start + ((lay 0 a).end + (lay 0 b).end)
    sum a b e g h =
        let first : (lay start a).end ≡ start + (lay 0 a).end = ap (λ (x : ArgumentLayout). x.end) (from_zero start s a g) in
        ends_add start a b (omega arith) h ∙ omega arith

-- What follows for an editor that joins groups.
pub joining : Joining
joining = record { second_moved = second_moved; ends_add = ends_add; exchange = exchange; same_end = same_end }

-- ---- of known kinds ends never fall

pub known_right : (a b : List ℕ) → Known (a ++ b) → Known b
known_right [] b h = h
known_right (k ∷ a) b h = known_right a b h.1

pub known_left : (a b : List ℕ) → Known (a ++ b) → Known a
known_left [] b h = tt
known_left (k ∷ a) b h = (h.0, known_left a b h.1)

-- a marker has no bytes, and an argument begins where those before end, or later
pub data Lies (start k : ℕ) : Type 0 where
  marker : width (kind_of k) ≡ 0 → offset (kind_of k) start ≡ 0 → (lay_one start (kind_of k)).end ≡ start → Lies start k
  laid : start ≤ offset (kind_of k) start → (lay_one start (kind_of k)).end ≡ offset (kind_of k) start + up 4 (width (kind_of k)) → Lies start k

pub lies : (start k : ℕ) → is Unknown (kind_of k) ≡ false → Lies start k
lies start k h = go (is Marker (kind_of k)) refl
  where
    go : (t : Bool) → is Marker (kind_of k) ≡ t → Lies start k
    go true e =
        let z : ((kind_of k).size ≡ 0) × ((kind_of k).alignment ≡ 0) = (kind_facts k).markers e in
        marker (marker-width (kind_of k) e z.0) (ap (λ (a : ℕ). up a start) z.1 ∙ none-up start) (rw e refl)
    go false e = laid (up-ge (kind_of k).alignment start ((kind_facts k).aligned (rw (h, e) refl))) (rw e refl)

pub ends_grow : (ks : List ℕ) (start : ℕ) → Known ks → start ≤ (lay start ks).end
ends_grow [] start h = omega arith
ends_grow (k ∷ ks) start h = elim (lies start k h.0) [
  | marker w o n ↦ omega (arith, n, ends_grow ks (lay_one start (kind_of k)).end h.1)
  | laid b n ↦ omega (arith, b, n, ends_grow ks (lay_one start (kind_of k)).end h.1)
]
