-- The three passes together: an image, and the buffer after it as it was.
-- Assumes nothing.
use mathlib.Core.Path.{◌≡◌, sym, ap, ◌∙◌}
use mathlib.Core.List.{List, ◌++◌, append_assoc}
use mathlib.Core.Bool.{true}
use Prim.Native.Nat.{ℕ, ◌+◌, ◌-◌, ◌≤◌}
use native.Mathlib.Omega.{arith}
use lib.ListN.{length, take, drop, replicate, length-drop, replicate-append-replicate}
use lib.Seq.{length-take-le, drop_at, drop-drop}
use borrow.Rule.Slice.PartMut.{put_mid}
use Rattle.words.specs.Words.{bytes_of_words}
use Rattle.places.specs.Places.{put}
use Rattle.device.specs.declared.Device.{Device}
use Rattle.carried.specs.Image.{Placed, carried, promoted_bytes, image}
use Rattle.carried.specs.Convention.{scan}
use Rattle.passes.specs.Passes.{Admitted, placed_in}
use Rattle.passes.proofs.Filling.{filled-image}
use Rattle.o32.specs.O32.{O32}
use Rattle.o32_laws.proofs.Premises.{O32-premises}

module _ (d : Device) (list out : List ℕ) (n : ℕ) (a : Admitted (O32 d) true list n) where
  pub area_there : 32 ≤ n
  area_there = omega (arith, a.whole)

  -- the buffer after its first 32 bytes, with zeros from there on in the image's area
  pub cleared : n ≤ length out → {part : List ℕ} → part ≡ replicate (length (take (n - 32) (drop 32 out))) 0 → drop 32 (put_mid 32 (n - 32) out part) ≡ replicate (n - 32) 0 ++ drop n out
  cleared h e =
      let long : length (take (n - 32) (drop 32 out)) ≡ n - 32 = length-take-le (n - 32) (drop 32 out) (rw length-drop (omega arith)) in
      let end : 32 + (n - 32) ≡ n = omega (arith, area_there) in
      drop_at (take 32 out) _ 32 (length-take-le 32 out (omega (arith, area_there))) ∙ rw (e, long, drop-drop, end)

  zeros : (rest : List ℕ) → rest ≡ replicate (n - 32) 0 ++ drop n out → bytes_of_words (replicate 8 0) ++ rest ≡ replicate n 0 ++ drop n out
  zeros rest e =
      let z : ℕ = 0 in
      let k : 32 + (n - 32) ≡ n = omega (arith, area_there) in
      ap (λ (x : List ℕ). replicate 32 z ++ x) e
      ∙ sym (append_assoc (replicate 32 z) (replicate (n - 32) z) (drop n out))
      ∙ ap (λ (x : List ℕ). x ++ drop n out) (replicate-append-replicate 32 (n - 32) z ∙ ap (λ (m : ℕ). replicate m z) k)

  abbrev P : List Placed
  P = placed_in (scan (O32 d) true list)

  -- rest: the buffer after its first 32 bytes, once the area was cleared; img: the image with all arguments stored
  pub laid : (rest img o : List ℕ) → rest ≡ replicate (n - 32) 0 ++ drop n out → img ≡ put (bytes_of_words (replicate 8 0) ++ rest) (carried P) (promoted_bytes P list) → o ≡ img
      → o ≡ image n (placed_in (scan (O32 d) true list)) list ++ drop n out
  laid rest img o e₁ e₂ e₃ = e₃ ∙ e₂ ∙ ap (λ (x : List ℕ). put x (carried P) (promoted_bytes P list)) (zeros rest e₁) ∙ filled-image (O32-premises d) out a
