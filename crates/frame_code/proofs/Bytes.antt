-- The bytes of a prologue and an epilogue, as the code writes them: the saves' instructions, with a word before or two after.
-- Assumes nothing.
use mathlib.Core.Path.{◌≡◌, refl, ap, ap₂, ◌∙◌}
use mathlib.Core.List.{List, [], map, ◌++◌, append-nil, map-append}
use mathlib.Core.Bool.{Bool, true, false, cond}
use Prim.Native.Nat.{ℕ, zero, suc, ◌+◌, ◌*◌}
use native.Mathlib.Omega.{arith}
use lib.ListN.{length, length-append, length-map}
use lib.Seq.{sets}
use borrow.Author.Tests.{eq-eqb, ne_eqb}
use Rattle.words.specs.Words.{bytes_of, bytes_of_words}
use Rattle.frame.specs.declared.Request.{Request}
use Rattle.frame.specs.Masks.{names, count_below}
use Rattle.frame.specs.Frame.{floating_at, general_at, frame_of}
use Rattle.frame.specs.Words.{Save, collect, pair_at, register_at, pairs_of, registers_of, saves_of, word_of, store_word, load_word, lowering, prologue_for, return_for, epilogue_for, prologue_words, epilogue_words}
use Rattle.frame.proofs.WordsIn.{length_bytes_of_words}
use Rattle.frame_words.proofs.Emit.{bytes_of_saves, sets_parts, bytes_append, length_bytes_of_saves}

-- the instructions on saves, by the opcodes for floating and for general registers
abbrev put_word : ℕ → ℕ → Save → ℕ
put_word x y v = word_of (cond v.float x y) v

map_same : (f g : Save → ℕ) (saves : ℕ → List Save) → ((j : ℕ) → map f (saves j) ≡ map g (saves j))
    → (m k : ℕ) → map f (collect saves m k) ≡ map g (collect saves m k)
unfolding collect
map_same f g saves h m zero = refl
map_same f g saves h m (suc k) = by (names m k) (map_same f g saves h m k)
  where
    by : (b : Bool) → map f (collect saves m k) ≡ map g (collect saves m k)
        → map f (collect saves m k ++ cond b (saves k) []) ≡ map g (collect saves m k ++ cond b (saves k) [])
    by true e = simp (map-append, e, h k)
    by false e = simp (append-nil, e)

-- first the pairs', then the general registers'
module _ (x y : ℕ) (r : Request) where
  saves_bytes : bytes_of_words (map (put_word x y) (saves_of r)) ≡ bytes_of_saves x (pairs_of r) ++ bytes_of_saves y (registers_of r)
  unfolding saves_of
  saves_bytes =
      rw map-append (bytes_append (map (put_word x y) (pairs_of r)) (map (put_word x y) (registers_of r)))
      ∙ ap₂ (λ (a b : List ℕ). bytes_of_words a ++ bytes_of_words b)
      (map_same (put_word x y) (word_of x) (pair_at (floating_at r) r.pairs) (λ j. refl) r.pairs 6)
      (map_same (put_word x y) (word_of y) (register_at (general_at r) r.general) (λ j. refl) r.general 32)

  length_pairs : length (bytes_of_saves x (pairs_of r)) ≡ 8 * count_below r.pairs 6
  length_pairs = length_bytes_of_saves x 8 (pair_at (floating_at r) r.pairs) (λ j. refl) r.pairs 6

  length-put : length (bytes_of_words (map (put_word x y) (saves_of r))) ≡ 4 * length (saves_of r)
  length-put = rw length_bytes_of_words (ap (λ (n : ℕ). 4 * n) (length-map (saves_of r) (put_word x y)))

  -- as the code puts them
  pub saves_put : (l a b : List ℕ) (at n : ℕ) → a ≡ sets l at (bytes_of_saves x (pairs_of r)) → n ≡ at + 8 * count_below r.pairs 6
      → b ≡ sets a n (bytes_of_saves y (registers_of r)) → b ≡ sets l at (bytes_of_words (map (put_word x y) (saves_of r)))
  saves_put l a b at n p q s = sets_parts l (bytes_of_saves x (pairs_of r)) (bytes_of_saves y (registers_of r)) at n saves_bytes p (omega (arith, length_pairs)) s

pub prologue-none : (r : Request) → frame_of r ≡ 0 → bytes_of_words (prologue_words r) ≡ []
unfolding prologue_words prologue_for
prologue-none r e = simp (eq-eqb (frame_of r) 0 e)

module _ (r : Request) (h : frame_of r ≡ 0 → ⊥) where
  prologue_bytes : bytes_of_words (prologue_words r)
      ≡ bytes_of 4 (lowering (frame_of r)) ++ bytes_of_words (map store_word (saves_of r))
  unfolding prologue_words prologue_for
  prologue_bytes = simp (ne_eqb (frame_of r) 0 h)

  pub prologue-length : length (bytes_of_words (prologue_words r)) ≡ 4 + 4 * length (saves_of r)
  prologue-length = ap length prologue_bytes ∙ omega (arith, length-put 0xE7A00000 0xAFA00000 r)

  pub prologue-put : (l a b : List ℕ) → a ≡ sets l 0 (bytes_of 4 (lowering (frame_of r)))
      → b ≡ sets a 4 (bytes_of_words (map store_word (saves_of r))) → b ≡ sets l 0 (bytes_of_words (prologue_words r))
  prologue-put l a b p q = sets_parts l (bytes_of 4 (lowering (frame_of r))) (bytes_of_words (map store_word (saves_of r))) 0 4 prologue_bytes p refl q

module _ (r : Request) where
  epilogue_bytes : bytes_of_words (epilogue_words r) ≡ bytes_of_words (map load_word (saves_of r)) ++ bytes_of_words (return_for (frame_of r))
  unfolding epilogue_words epilogue_for
  epilogue_bytes = bytes_append (map load_word (saves_of r)) (return_for (frame_of r))

  pub epilogue-length : length (bytes_of_words (epilogue_words r)) ≡ 4 * length (saves_of r) + 8
  epilogue-length = rw (epilogue_bytes, length-append) (omega (arith, length-put 0xC7A00000 0x8FA00000 r))

  pub epilogue-put : (l a b : List ℕ) (n : ℕ) → a ≡ sets l 0 (bytes_of_words (map load_word (saves_of r))) → n ≡ 0 + 4 * length (saves_of r)
      → b ≡ sets a n (bytes_of_words (return_for (frame_of r))) → b ≡ sets l 0 (bytes_of_words (epilogue_words r))
  epilogue-put l a b n p e q =
      sets_parts l (bytes_of_words (map load_word (saves_of r))) (bytes_of_words (return_for (frame_of r))) 0 n epilogue_bytes p
      (omega (arith, length-put 0xC7A00000 0x8FA00000 r)) q
