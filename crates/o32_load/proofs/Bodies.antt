-- The bytes that an image holds for an argument that fits it: their body, and whether they are proper, by its register and class.
-- Assumes nothing.
use mathlib.Core.Path.{◌≡◌, refl, sym, ◌∙◌}
use mathlib.Core.Logic.{◌⊎◌, inl, inr}
use mathlib.Core.List.{List, map}
use mathlib.Core.Bool.{Bool, true, false, ◌||◌}
use Prim.Native.Nat.{ℕ, ◌+◌, ◌-◌, ◌≤◌, ◌<◌}
use native.Mathlib.Omega.{arith}
use lib.Dec.{eqb, ltb}
use lib.ListN.{length, take, drop}
use borrow.Author.Tests.{eqb-true, eqb-false, eq-eqb}
use Rattle.words.specs.Words.{to_word, body, proper}
use Rattle.words.proofs.Bytes.{body-whole, proper-whole}
use Rattle.places.specs.Places.{gather, run}
use Rattle.places.proofs.Places.{length-gather}
use Rattle.kinds.specs.declared.Class.{Class}
use Rattle.kinds.specs.declared.Class.TheVariants as V
use Rattle.kinds.specs.declared.Class.TheVariants.{Unknown, Marker, Pointer, Signed, Unsigned, Float, Structure}
use Rattle.kinds.specs.declared.Kind.{Kind}
use Rattle.o32.specs.declared.Placement.{Placement}
use Rattle.kinds.specs.Kinds.{is}
use Rattle.o32_offsets.specs.Offsets.{extension, width}
use Rattle.o32.specs.O32.{carrier, carriers}
use Rattle.o32_laws.proofs.Laws.{length-span, length_float}
use Rattle.o32_offsets.proofs.Offsets.{float_width}
use Rattle.o32_laws.specs.Fitting.{Fit}
use Rattle.o32_laws.proofs.Fitting.{float_bounds, Worded, Plain, body_fits}
use Rattle.o32_load.proofs.Parts.{gather-word, body_part}

-- ---- bytes and halfwords, and bodies that stay as they are

pub signed_class : {k : Kind} → k.class ≡ Signed → Worded k true
signed_class e = record { some = rw e; extended = rw e; wide = rw e }

pub unsigned_class : {k : Kind} → k.class ≡ Unsigned → Worded k false
unsigned_class e = record { some = rw e; extended = rw e; wide = rw e }

pub other_class : (k : Kind) → (k.class ≡ Signed → ⊥) → (k.class ≡ Unsigned → ⊥) → Plain k
other_class k f g = go k.class refl
  where
    go : (c : Class) → k.class ≡ c → Plain k
    go Unknown e = record { extended = rw e; wide = rw e }
    go Marker e = record { extended = rw e; wide = rw e }
    go Pointer e = record { extended = rw e; wide = rw e }
    go Signed e = absurd (f e)
    go Unsigned e = absurd (g e)
    go Float e = record { extended = rw e; wide = rw e }
    go V.Plain e = record { extended = rw e; wide = rw e }
    go Structure e = record { extended = rw e; wide = rw e }

carrier-le : (o : ℕ) → carrier o ≤ 32 + o
carrier-le o = go (ltb o 16) refl
  where
    go : (t : Bool) → ltb o 16 ≡ t → carrier o ≤ 32 + o
    go true e = rw e (omega arith)
    go false e = rw e (omega arith)

module _ (p : Placement) (img : List ℕ) (fit : Fit p (length img)) where
  -- ---- the bytes of all but bytes and halfwords stay as they are; those become words, in no floating register

  widths : ((width p.kind ≡ 4) × (p.kind.size ≤ 2)) ⊎ (width p.kind ≡ p.kind.size)
  widths = go (is Signed p.kind || is Unsigned p.kind) refl
    where
      go : (t : Bool) → is Signed p.kind || is Unsigned p.kind ≡ t → ((width p.kind ≡ 4) × (p.kind.size ≤ 2)) ⊎ (width p.kind ≡ p.kind.size)
      go true e = inl (rw e, (fit.promoted e).1)
      go false e = inr (rw e)

  pub plain_wide : width p.kind ≤ p.kind.size → width p.kind ≡ p.kind.size
  plain_wide h = elim widths [ inl e ↦ absurd (omega arith) | inr e ↦ e ]

  pub word_inside : width p.kind ≡ 4 → carrier p.offset + 4 ≤ length img
  word_inside w = omega (arith, carrier-le p.offset, fit.inside)

  word-register : {signed : Bool} → Worded p.kind signed → p.register ≡ 0
  word-register w = go (eqb p.register 0) refl
    where
      go : (t : Bool) → eqb p.register 0 ≡ t → p.register ≡ 0
      go true e = eqb-true p.register 0 e
      go false e = absurd (omega (arith, body_fits fit w, float_bounds (fit.floating (omega (arith, eqb-false p.register 0 e))).1))

  -- ---- how many they are, and where a word is

  long : length (gather img (carriers p)) ≡ width p.kind
  long = length-gather img (carriers p) ∙ go (eqb p.register 0) refl
    where
      go : (t : Bool) → eqb p.register 0 ≡ t → length (carriers p) ≡ width p.kind
      go true e = rw e (length-span (width p.kind) p.offset)
      go false e =
          let f = fit.floating (omega (arith, eqb-false p.register 0 e)) in
          rw e (length_float p.register p.kind.size f.1.sized ∙ sym (float_width p.kind f.0))

  word_part : p.register ≡ 0 → width p.kind ≡ 4 → gather img (carriers p) ≡ take 4 (drop (carrier p.offset) img)
  word_part z w = rw (eq-eqb p.register 0 z, w) (gather-word img p.offset fit.aligned (omega (arith, fit.inside)))

  -- ---- their body

  whole : width p.kind ≡ p.kind.size → body p.kind.size (gather img (carriers p)) ≡ gather img (carriers p)
  whole w = body-whole p.kind.size (gather img (carriers p)) (long ∙ w)

  module _ (q v : ℕ) (at : q ≡ carrier p.offset) (e : v ≡ width p.kind) (h : p.kind.size < v) where
    wide : width p.kind ≡ 4
    wide = elim widths [ inl w ↦ w.0 | inr w ↦ absurd (omega arith) ]

    pub word-body : p.register ≡ 0 → body p.kind.size (gather img (carriers p)) ≡ take p.kind.size (drop (q + (v - p.kind.size)) img)
    word-body z = rw (at, e, word_part z wide, wide) (body_part img 4 p.kind.size (carrier p.offset) (omega (arith, wide)) (word_inside wide))

  pub plain_body : p.register ≡ 0 → width p.kind ≤ p.kind.size → body p.kind.size (gather img (carriers p)) ≡ gather img (map carrier (run p.offset p.kind.size))
  plain_body z h = let w = plain_wide h in whole w ∙ rw (eq-eqb p.register 0 z, w)

  -- ---- whether they are proper

  pub plain_proper : Plain p.kind → proper (extension p.kind) p.kind.size (gather img (carriers p)) ≡ true
  plain_proper w = rw w.extended (proper-whole p.kind.size (gather img (carriers p)) (long ∙ w.wide))

  pub word-proper : {signed : Bool} → Worded p.kind signed → (q n : ℕ) (ws : List ℕ) (r : Bool) → q ≡ carrier p.offset → ws ≡ take 4 (drop q img) → p.kind.size ≡ n
      → r ≡ proper (to_word signed n) n ws → r ≡ proper (extension p.kind) p.kind.size (gather img (carriers p))
  word-proper k q n ws r at e s h = h ∙ rw (k.extended, word_part (word-register k) k.wide, s, e, at)
