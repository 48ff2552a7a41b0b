-- A float stored into the words of its registers is stored at the image bytes that carry it.
-- Assumes nothing.
use mathlib.Core.Path.{◌≡◌, ap, ap₂, ◌∙◌}
use mathlib.Core.List.{List, [], ◌∷◌}
use Prim.Native.Nat.{ℕ, ◌+◌, ◌-◌, ◌*◌, ◌≤◌}
use native.Mathlib.Omega.{arith}
use lib.ListN.{length, set, take, drop, length-set}
use Rattle.std.proofs.lemmas.List.{take_all}
use Rattle.words.specs.Words.{bytes_of, bytes_of_words}
use Rattle.places.specs.Places.{put, run}
use Rattle.o32.specs.O32.{register_bytes, float_bytes}
use Rattle.o32_laws.specs.Fitting.{Floating}
use Rattle.o32_laws.proofs.Laws.{float_at}
use Rattle.o32_store.specs.Block.{whole}
use Rattle.places.proofs.Stores.{store-after}
use Rattle.o32_store.proofs.Image.{word-stored, whole_low}
use Rattle.o32_laws.proofs.Fitting.{float_bounds}

-- word j of the block is that of register j + 8
register-stored : (block : List ℕ) (j f u : ℕ) → length block ≡ 8 → j + 8 ≡ f → 12 ≤ f → f ≤ 15
    → bytes_of_words (set block j u) ≡ put (bytes_of_words block) (run (16 + 4 * (f - 12)) 4) (bytes_of 4 u)
register-stored block j f u l e h k =
    let p : 4 * j ≡ 16 + 4 * (f - 12) = omega arith in
    word-stored block j u (omega arith) ∙ ap (λ (x : ℕ). put (bytes_of_words block) (run x 4) (bytes_of 4 u)) p

module _ (block body : List ℕ) (words : length block ≡ 8) (f j u : ℕ) (is : j + 8 ≡ f) (low : 12 ≤ f) (high : f ≤ 15) (first : bytes_of 4 u ≡ take 4 body) where
  first_register : bytes_of_words (set block j u) ≡ put (bytes_of_words block) (register_bytes (f ∷ [])) (take 4 body)
  first_register = register-stored block j f u words is low high ∙ ap (put (bytes_of_words block) (run (16 + 4 * (f - 12)) 4)) first

  -- four bytes into a register
  pub one_register : length body ≡ 4 → bytes_of_words (set block j u) ≡ put (bytes_of_words block) (register_bytes (f ∷ [])) body
  one_register e = first_register ∙ ap (put (bytes_of_words block) (register_bytes (f ∷ []))) (take_all 4 body (omega arith))

  -- eight into two
  pub two_registers : (g k v : ℕ) → k + 8 ≡ g → 12 ≤ g → g ≤ 15 → bytes_of 4 v ≡ take 4 (drop 4 body) → length body ≡ 8
      → bytes_of_words (set (set block j u) k v) ≡ put (bytes_of_words block) (register_bytes (f ∷ g ∷ [])) body
  two_registers g k v e l h second z =
      register-stored (set block j u) k g v (rw length-set words) e l h
      ∙ ap₂ (λ (x y : List ℕ). put x (run (16 + 4 * (g - 12)) 4) y) first_register second
      ∙ store-after (bytes_of_words block) body 4 4 (16 + 4 * (f - 12)) (16 + 4 * (g - 12)) 0 (omega arith)
      ∙ ap (put (bytes_of_words block) (register_bytes (f ∷ g ∷ []))) (take_all 8 body (omega arith))

-- and so the image
pub float_whole : (block r out vs : List ℕ) → length block ≡ 8 → {f size : ℕ} → Floating f size → bytes_of_words r ≡ put (bytes_of_words block) (float_bytes f size) vs
    → whole r out ≡ put (whole block out) (float_bytes f size) vs
float_whole block r out vs l {f} {size} h e =
    whole_low block l r out (float_bytes f size) vs (λ p m. omega (arith, float_bounds h, float_at f size p (omega (arith, float_bounds h)) h.sized m)) e
