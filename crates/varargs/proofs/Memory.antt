-- The memory that a routine walks: byte o of it is the image byte that carries offset o.
-- Assumes nothing.
use mathlib.Core.Path.{◌≡◌, refl, sym, ap, ap₂, ◌∙◌}
use mathlib.Core.List.{List, ◌∷◌, map}
use mathlib.Core.Bool.{Bool, true, false}
use Prim.Native.Nat.{ℕ, zero, suc, ◌+◌, ◌-◌, ◌≤◌, ◌<◌}
use native.Mathlib.Omega.{arith}
use lib.Dec.{ltb}
use lib.ListN.{length, get_or, take, drop, length-append, length-drop, get_or-append}
use lib.Seq.{length-take-le, get_or-append-add, get_or-drop, drop-cons, get_or-take}
use borrow.Author.Tests.{ltb-true, ltb-false}
use Rattle.places.specs.Places.{gather, run}
use Rattle.o32.specs.O32.{carrier}
use Rattle.varargs.specs.Walking.{spilled}

module _ (img : List ℕ) (h : 48 ≤ length img) where
  registers_long : length (take 16 img) ≡ 16
  registers_long = length-take-le 16 img (omega arith)

  pub spilled_long : length (spilled img) ≡ length img - 32
  spilled_long =
      length-append (take 16 img) (drop (length (take 16 img)) (drop 32 img))
      ∙ rw (registers_long, length-drop) (omega (arith, length-drop 32 img))

  spilled_byte : (o : ℕ) → 32 + o < length img → get_or (spilled img) o 0 ≡ get_or img (carrier o) 0
  spilled_byte o l = go (ltb o 16) refl
    where
      go : (t : Bool) → ltb o 16 ≡ t → get_or (spilled img) o 0 ≡ get_or img (carrier o) 0
      go true e =
          let g : o < 16 = ltb-true o 16 e in
          rw e (get_or-append (take 16 img) (drop (length (take 16 img)) (drop 32 img)) 0 o (omega (arith, registers_long)) ∙ get_or-take 16 img o 0 g)
      go false e =
          let g : 16 ≤ o = ltb-false o 16 e in
          let i : o ≡ length (take 16 img) + (o - 16) = omega (arith, registers_long) in
          let j : 32 + (16 + (o - 16)) ≡ 32 + o = omega arith in
          rw e (ap (λ (x : ℕ). get_or (spilled img) x 0) i
          ∙ get_or-append-add (take 16 img) (drop (length (take 16 img)) (drop 32 img)) (o - 16) 0
          ∙ rw (registers_long, get_or-drop, get_or-drop, j) refl)

  -- n bytes from o on
  pub spilled_part : (n o : ℕ) → 32 + (o + n) ≤ length img → gather img (map carrier (run o n)) ≡ take n (drop o (spilled img))
  spilled_part zero o l = refl
  spilled_part (suc n) o l =
      rw (drop-cons (spilled img) o 0 (omega (arith, spilled_long)))
      (ap₂ (λ (x : ℕ) (y : List ℕ). x ∷ y) (sym (spilled_byte o (omega arith))) (spilled_part n (suc o) (omega arith)))
