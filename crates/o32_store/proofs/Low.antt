-- A run of bytes stored into the words of `$4` to `$7`, one word after the other.
-- Assumes nothing.
use mathlib.Core.Path.{◌≡◌, refl, ap, ◌∙◌}
use mathlib.Core.List.{List}
use mathlib.Core.Bool.{Bool, true, false, cond}
use Prim.Native.Nat.{ℕ, ◌+◌, ◌-◌, ◌*◌, ◌%◌, ◌≤◌, ◌<◌, min}
use native.Mathlib.Omega.{arith}
use native.Mathlib.Nat.{min-eq_left, min-eq_right}
use lib.ListN.{length, take, drop}
use lib.Dec.{ltb}
use borrow.Author.Tests.{lt-ltb, le-ltb, ltb-true, ltb-false}
use Rattle.places.specs.Places.{put, run}
use Rattle.o32_store.specs.Block.{bytes_in_word}
use Rattle.places.proofs.Stores.{store_more}

-- ---- how many bytes are in a word

pub none_before : (o n p : ℕ) → p < o → bytes_in_word o n p ≡ 0
none_before o n p h = rw (lt-ltb p o h)

pub those_left : (o n p : ℕ) → o ≤ p → n - (p - o) ≤ 4 → bytes_in_word o n p ≡ n - (p - o)
those_left o n p h g = rw (le-ltb p o h) (min-eq_right g)

pub none_after : (o n p : ℕ) → o ≤ p → n ≤ p - o → bytes_in_word o n p ≡ 0
none_after o n p h g = those_left o n p h (omega arith) ∙ omega arith

pub at-most_four : (o n p : ℕ) → bytes_in_word o n p ≤ 4
at-most_four o n p = go (ltb p o)
  where
    go : (t : Bool) → cond t 0 (min 4 (n - (p - o))) ≤ 4
    go true = omega arith
    go false = omega arith

-- ---- a loop over the words

-- n bytes of a source, from its place on, at the bytes from o on
abbrev copied : List ℕ → List ℕ → ℕ → ℕ → ℕ → List ℕ
copied img src o at n = put img (run o n) (take n (drop at src))

-- its turn: the bytes below byte 4 * k are stored, and those of the word there follow
pub low_next : (img src : List ℕ) (o at n k : ℕ) → o % 4 ≡ 0 → at + n ≤ length src
    → copied (copied img src o at (min n (4 * k - o))) src (4 * k) (at + (4 * k - o)) (bytes_in_word o n (4 * k)) ≡ copied img src o at (min n (4 * (k + 1) - o))
low_next img src o at n k a h = go (ltb (4 * k) o) (ltb n (4 * k - o)) refl refl
  where
    go : (t u : Bool) → ltb (4 * k) o ≡ t → ltb n (4 * k - o) ≡ u
        → copied (copied img src o at (min n (4 * k - o))) src (4 * k) (at + (4 * k - o)) (bytes_in_word o n (4 * k)) ≡ copied img src o at (min n (4 * (k + 1) - o))
    go true u e f =
        let g : 4 * k < o = ltb-true (4 * k) o e in
        let x : 4 * k - o ≡ 0 = omega arith in
        let y : 4 * (k + 1) - o ≡ 0 = omega arith in
        rw (none_before o n (4 * k) g, x, y) refl
    go false true e f =
        let g : o ≤ 4 * k = ltb-false (4 * k) o e in
        let l : n < 4 * k - o = ltb-true n (4 * k - o) f in
        let x : min n (4 * k - o) ≡ n = min-eq_left (omega arith) in
        let y : min n (4 * (k + 1) - o) ≡ n = min-eq_left (omega arith) in
        rw (none_after o n (4 * k) g (omega arith), x, y) refl
    go false false e f =
        let g : o ≤ 4 * k = ltb-false (4 * k) o e in
        let m = 4 * k - o in
        let x : min n m ≡ m = min-eq_right (ltb-false n m f) in
        let w = bytes_in_word o n (4 * k) in
        let y : min n (4 * (k + 1) - o) ≡ m + w = rw (le-ltb (4 * k) o g) (omega (arith, ltb-false n m f)) in
        let z : 4 * k ≡ o + m = omega arith in
        rw (x, y) (ap (λ (q : ℕ). copied (copied img src o at m) src q (at + m) w) z ∙ store_more img src o at m w (omega (arith, ltb-false n m f)))
