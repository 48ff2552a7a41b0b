-- Stores into the block and into the buffer, as stores into the image that the two make up.
-- Assumes nothing.
use mathlib.Core.Path.{◌≡◌, refl, sym, ap, ap₂, ◌∙◌}
use mathlib.Core.List.{List, [], ◌∷◌, ◌++◌, append_assoc, map}
use Prim.Native.Nat.{ℕ, zero, suc, ◌+◌, ◌-◌, ◌*◌, ◌/◌, ◌%◌, ◌≤◌, ◌<◌}
use native.Mathlib.Omega.{arith}
use native.Mathlib.Numerals.{add-one}
use lib.ListN.{length, get_or, set, take, drop, length-drop}
use lib.Seq.{length-take-le, take-suc, drop-drop}
use Rattle.words.specs.Words.{bytes_of, bytes_of_words}
use Rattle.places.specs.Places.{put, In, run}
use Rattle.places.proofs.Places as Places
use Rattle.o32.specs.O32.{carrier}
use Rattle.places.proofs.Runs.{run_at}
use Rattle.o32_laws.proofs.Runs.{span_low, span_high, span_split}
use Rattle.o32_store.specs.Block.{whole}
use Rattle.places.proofs.Stores.{put_left, put_right, put-after, put_next, store-after}

pub length_block : (ws : List ℕ) → length (bytes_of_words ws) ≡ 4 * length ws
length_block [] = refl
length_block (w ∷ ws) = let h = length_block ws in omega arith

block_append : (a b : List ℕ) → bytes_of_words (a ++ b) ≡ bytes_of_words a ++ bytes_of_words b
block_append [] b = refl
block_append (w ∷ ws) b = rw (block_append ws b, append_assoc)

-- n bytes of a word changed, from its first on
pub word-start : (ws : List ℕ) (j w n : ℕ) (vs : List ℕ) → j < length ws → n ≤ 4 → bytes_of 4 w ≡ put (bytes_of 4 (get_or ws j 0)) (run 0 n) vs
    → bytes_of_words (set ws j w) ≡ put (bytes_of_words ws) (run (4 * j) n) vs
word-start [] j w n vs h g e = absurd (omega arith)
word-start (x ∷ ws) zero w n vs h g e =
    ap (λ (l : List ℕ). l ++ bytes_of_words ws) e
    ∙ sym (put_left n 0 (bytes_of 4 x) (bytes_of_words ws) vs (omega arith))
word-start (x ∷ ws) (suc j) w n vs h g e =
    let i : 4 * suc j ≡ 4 + 4 * j = omega arith in
    ap (λ (l : List ℕ). bytes_of 4 x ++ l) (word-start ws j w n vs (omega arith) g e)
    ∙ sym (put_right n (4 * j) (bytes_of 4 x) (bytes_of_words ws) vs)
    ∙ ap (λ (p : ℕ). put (bytes_of_words (x ∷ ws)) (run p n) vs) (sym i)

-- all of it
pub word-stored : (ws : List ℕ) (j w : ℕ) → j < length ws → bytes_of_words (set ws j w) ≡ put (bytes_of_words ws) (run (4 * j) 4) (bytes_of 4 w)
word-stored ws j w h = word-start ws j w 4 (bytes_of 4 w) h (omega arith) refl

-- a turn of a loop that writes the block's words over a buffer
pub word_next : (ws out : List ℕ) (i : ℕ) → i < length ws → (i + 1) * 4 ≤ length out
    → put (bytes_of_words (take i ws) ++ drop (i * 4) out) (run (i * 4) 4) (bytes_of 4 (get_or ws i 0)) ≡ bytes_of_words (take (i + 1) ws) ++ drop ((i + 1) * 4) out
word_next ws out i h g =
    let long : length (bytes_of_words (take i ws)) ≡ i * 4 = length_block (take i ws) ∙ rw (length-take-le i ws (omega arith)) (omega arith) in
    let e : i * 4 + 4 ≡ (i + 1) * 4 = omega arith in
    put_next (bytes_of 4 (get_or ws i 0)) (bytes_of_words (take i ws)) (drop (i * 4) out) (i * 4) long (rw length-drop (omega arith))
    ∙ rw (drop-drop, e, add-one, take-suc ws i 0 h, block_append)

-- stores into the block, and into the buffer after byte 32
module _ (block : List ℕ) (words : length block ≡ 8) where
  long : length (bytes_of_words block) ≡ 32
  long = length_block block ∙ rw words

  -- into the block
  pub whole_low : (r out ps vs : List ℕ) → ((p : ℕ) → In p ps → p < 32) → bytes_of_words r ≡ put (bytes_of_words block) ps vs → whole r out ≡ put (whole block out) ps vs
  whole_low r out ps vs h e = rw e (sym (Places.put_left (bytes_of_words block) (drop 32 out) ps vs (rw long h)))

  -- into the buffer
  whole_high : (out : List ℕ) (n o : ℕ) (vs : List ℕ) → whole block (put out (run (32 + o) n) vs) ≡ put (whole block out) (run (32 + o) n) vs
  whole_high out n o vs = rw long at (put-after n o (bytes_of_words block) out vs)

  -- n bytes from offset o on, which all lie in the block, or all in the buffer
  pub laid_low : (r out : List ℕ) (n o : ℕ) (vs : List ℕ) → o + n ≤ 16 → bytes_of_words r ≡ put (bytes_of_words block) (run o n) vs
      → whole r out ≡ put (whole block out) (map carrier (run o n)) vs
  laid_low r out n o vs h e = rw (span_low n o h) (whole_low r out (run o n) vs (λ p m. omega (arith, run_at n o p m)) e)

  pub laid_high : (out out' : List ℕ) (n o : ℕ) (vs : List ℕ) → 16 ≤ o → out' ≡ put out (run (32 + o) n) vs
      → whole block out' ≡ put (whole block out) (map carrier (run o n)) vs
  laid_high out out' n o vs h e = rw (span_high n o h, e) (whole_high out n o vs)

  -- a word in the block
  pub word_low : (out : List ℕ) (o w : ℕ) → o < 16 → o % 4 ≡ 0 → whole (set block (o / 4) w) out ≡ put (whole block out) (map carrier (run o 4)) (bytes_of 4 w)
  word_low out o w h k =
      let e : 4 * (o / 4) ≡ o = omega arith in
      laid_low (set block (o / 4) w) out 4 o (bytes_of 4 w) (omega arith)
      (word-stored block (o / 4) w (omega arith) ∙ ap (λ (q : ℕ). put (bytes_of_words block) (run q 4) (bytes_of 4 w)) e)

-- or in both
pub laid_split : (block r out out' src : List ℕ) (n o at : ℕ) → length block ≡ 8 → length r ≡ 8 → o ≤ 16 → 16 ≤ o + n → at + n ≤ length src
    → bytes_of_words r ≡ put (bytes_of_words block) (run o (16 - o)) (take (16 - o) (drop at src))
    → out' ≡ put out (run 48 (n - (16 - o))) (take (n - (16 - o)) (drop (at + (16 - o)) src))
    → whole r out' ≡ put (whole block out) (map carrier (run o n)) (take n (drop at src))
laid_split block r out out' src n o at k l h g f d e =
    let m = 16 - o in
    let count : m + (n - m) ≡ n = omega arith in
    ap (whole r) e
    ∙ whole_high r l out (n - m) 16 (take (n - m) (drop (at + m) src))
    ∙ ap (λ (x : List ℕ). put x (run 48 (n - m)) (take (n - m) (drop (at + m) src))) (whole_low block k r out (run o m) (take m (drop at src)) (λ p i. omega (arith, run_at m o p i)) d)
    ∙ store-after (whole block out) src m (n - m) o 48 at (omega arith)
    ∙ ap₂ (λ (ps : List ℕ) (k : ℕ). put (whole block out) ps (take k (drop at src))) (sym (span_split n o h g)) count
