-- The words in the bytes of a prologue and of an epilogue are the words that they were made of.
-- Assumes nothing.
use mathlib.Core.Path.{◌≡◌, refl, ap₂}
use mathlib.Core.Bool.{Bool, true, false, cond}
use mathlib.Core.List.{List, [], ◌∷◌, ◌++◌, map, append-nil}
use Prim.Native.Nat.{ℕ, ◌+◌, ◌-◌, ◌*◌, ◌^◌, ◌<◌}
use native.Mathlib.Omega.{arith}
use lib.Dec.{eqb}
use lib.ListN.{length}
use Rattle.frame.specs.Words.{Save, word_of, store_word, lowering, prologue_for, epilogue_for}
use Rattle.words.specs.Words.{bytes_of_words}
use Rattle.frame.specs.Keeping.{words_in}
use Rattle.frame.proofs.Saves.{All, Span, span-le, Fit, Sound}

-- Each of them has 32 bits.
abbrev Small : List ℕ → Type 0
Small ws = All (λ (w : ℕ). w < 2 ^ 32) ws

pub words_in_lem : (ws : List ℕ) → Small ws → words_in (bytes_of_words ws) ≡ ws
words_in_lem [] h = refl
words_in_lem (w ∷ ws) h = ap₂ (λ (x : ℕ) (xs : List ℕ). x ∷ xs) (omega (arith, h.0)) (words_in_lem ws h.1)

pub length_bytes_of_words : (ws : List ℕ) → length (bytes_of_words ws) ≡ 4 * length ws
length_bytes_of_words [] = refl
length_bytes_of_words (w ∷ ws) = omega (arith, length_bytes_of_words ws)

-- an instruction on a save word; its opcode and `$sp` are x or y
small_word : (b : Bool) (x y : ℕ) (v : Save) → x < 2 ^ 32 - 2 ^ 21 → y < 2 ^ 32 - 2 ^ 21 → Fit v → v.offset < 2 ^ 15
    → word_of (cond b x y) v < 2 ^ 32
small_word b x y v h k f o = grind arith

small_each : (x y F lo : ℕ) (vs : List Save) (ws : List ℕ) → x < 2 ^ 32 - 2 ^ 21 → y < 2 ^ 32 - 2 ^ 21 → F < 2 ^ 15
    → All Fit vs → Span lo vs F → Small ws → Small (map (λ v. word_of (cond v.float x y) v) vs ++ ws)
small_each x y F lo [] ws h k l f d a = a
small_each x y F lo (v ∷ vs) ws h k l f d a = (
  small_word v.float x y v h k f.0 (omega (arith, span-le (v.offset + 4) vs F d.1)),
  small_each x y F (v.offset + 4) vs ws h k l f.1 d.1 a,
)

module _ (F : ℕ) (vs : List Save) (d : Sound F vs) where
  pub prologue_small : Small (prologue_for F vs)
  unfolding prologue_for
  prologue_small = by (eqb F 0)
    where
      by : (b : Bool) → Small (cond b [] (lowering F ∷ map store_word vs))
      by true = tt
      by false = (omega arith, rw append-nil at (small_each 0xE7A00000 0xAFA00000 F 0 vs [] (omega arith) (omega arith) d.small d.fit d.span tt))

  pub epilogue_small : Small (epilogue_for F vs)
  unfolding epilogue_for
  epilogue_small = small_each 0xC7A00000 0x8FA00000 F 0 vs _ (omega arith) (omega arith) d.small d.fit d.span (omega arith, (grind (arith, d.small), tt))
