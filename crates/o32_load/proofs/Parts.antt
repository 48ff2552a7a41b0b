-- What an image holds at bytes that lie together is a part of it. The body in a part is its end.
-- Assumes nothing.
use mathlib.Core.Path.{◌≡◌, refl, sym, ap, ap₂, ◌∙◌}
use mathlib.Core.List.{List, [], ◌∷◌, ◌++◌, map}
use mathlib.Core.Bool.{Bool, true, false}
use Prim.Native.Nat.{ℕ, ◌+◌, ◌-◌, ◌*◌, ◌%◌, ◌≤◌}
use native.Mathlib.Omega.{arith}
use native.Mathlib.Nat.{sub-add_cancel}
use lib.Dec.{ltb}
use lib.ListN.{length, take, drop, length-drop}
use lib.Seq.{length-take-le, drop_at, drop-drop, take-add}
use borrow.Author.Tests.{ltb-true, ltb-false}
use Rattle.words.specs.Words.{body}
use Rattle.places.specs.Places.{gather, run}
use Rattle.places.proofs.Places.{gather_append}
use Rattle.o32.specs.O32.{register_bytes, carrier}
use Rattle.places.proofs.Runs.{gather-run}
use Rattle.o32_laws.proofs.Runs.{span_low, span_high, span_split}

-- ---- read at bytes that lie together

module _ (img : List ℕ) where
  -- n bytes from offset o on, which all lie in the register words, or all in the area
  pub gather_low : (n o : ℕ) → o + n ≤ 16 → o + n ≤ length img → gather img (map carrier (run o n)) ≡ take n (drop o img)
  gather_low n o h l = rw (span_low n o h) (gather-run img n o l)

  pub gather_high : (n o : ℕ) → 16 ≤ o → 32 + (o + n) ≤ length img → gather img (map carrier (run o n)) ≡ take n (drop (32 + o) img)
  gather_high n o h l = rw (span_high n o h) (gather-run img n (32 + o) (omega arith))

  -- a word always lies in one of them
  pub gather-word : (o : ℕ) → o % 4 ≡ 0 → 36 + o ≤ length img → gather img (map carrier (run o 4)) ≡ take 4 (drop (carrier o) img)
  gather-word o a l = go (ltb o 16) refl
    where
      go : (t : Bool) → ltb o 16 ≡ t → gather img (map carrier (run o 4)) ≡ take 4 (drop (carrier o) img)
      go true e = gather_low 4 o (omega (arith, ltb-true o 16 e)) (omega arith) ∙ rw e
      go false e = gather_high 4 o (ltb-false o 16 e) (omega arith) ∙ rw e

  -- bytes of two runs, one after the other
  gather_two : (m n p q : ℕ) {a b : List ℕ} → p + m ≤ length img → q + n ≤ length img → a ≡ take m (drop p img) → b ≡ take n (drop q img) → a ++ b ≡ gather img (run p m ++ run q n)
  gather_two m n p q h g d e = rw (d, e, gather_append, gather-run img m p h, gather-run img n q g) refl

  -- n bytes from offset o on that lie in the register words and in the area
  pub gather_split : (n o : ℕ) {a b : List ℕ} → o ≤ 16 → 16 ≤ o + n → 32 + (o + n) ≤ length img
      → a ≡ take (16 - o) (drop o img) → b ≡ take (n - (16 - o)) (drop 48 img) → a ++ b ≡ gather img (map carrier (run o n))
  gather_split n o h g l d e = rw (span_split n o h g) (gather_two (16 - o) (n - (16 - o)) o 48 (omega arith) (omega arith) d e)

  -- the words of two registers
  pub gather_registers : (f g : ℕ) {p q : ℕ} {a b : List ℕ} → p ≡ 16 + 4 * (f - 12) → q ≡ 16 + 4 * (g - 12) → p + 4 ≤ length img → q + 4 ≤ length img
      → a ≡ take 4 (drop p img) → b ≡ take 4 (drop q img) → a ++ b ≡ gather img (register_bytes (f ∷ g ∷ []))
  gather_registers f g {p} {q} at there h l d e = gather_two 4 4 p q h l d e ∙ ap₂ (λ (x y : ℕ). gather img (run x 4 ++ run y 4)) at there

-- ---- the body in bytes

pub body_part : (img : List ℕ) (n size p : ℕ) → size ≤ n → p + n ≤ length img → body size (take n (drop p img)) ≡ take size (drop (p + (n - size)) img)
body_part img n size p h l =
    let part = drop p img in
    let long : length part ≡ length img - p = length-drop p img in
    let all : length (take n part) ≡ n = length-take-le n part (omega arith) in
    let ends : take n part ≡ take (n - size) part ++ take size (drop (n - size) part) =
    ap (λ (k : ℕ). take k part) (sym (sub-add_cancel h)) ∙ take-add (n - size) size part in
    let first : length (take (n - size) part) ≡ n - size = length-take-le (n - size) part (omega arith) in
    rw (all, ends, drop_at (take (n - size) part) (take size (drop (n - size) part)) (n - size) first, drop-drop)
