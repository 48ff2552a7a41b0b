-- Laws of stores at bytes that lie together: some bytes more, one run after another, a word, and stores into either of two
-- parts of a list; and of bytes of a source that are taken into a list.
-- Assumes nothing.
use mathlib.Core.Path.{◌≡◌, refl, sym, ap, ap₂, ◌∙◌}
use mathlib.Core.List.{List, [], ◌∷◌, ◌++◌, append-nil}
use Prim.Native.Nat.{ℕ, zero, suc, ◌+◌, ◌-◌, ◌≤◌, ◌<◌}
use native.Mathlib.Omega.{arith}
use native.Mathlib.Numerals.{add-one}
use native.Mathlib.Nat.{zero-add, suc-add, add-suc}
use lib.ListN.{length, get_or, set, take, drop, length-append, length-drop}
use lib.Seq.{sets, length-take-le, take-suc, take-suc-set, take-add, get_or-drop, drop-drop, drop-set-add, set_at, append_snoc}
use borrow.Rule.Slice.PartMut.{put_mid}
use Rattle.words.proofs.Bytes.{part-written}
use Rattle.places.specs.Places.{put, run}
use Rattle.places.proofs.Places as Places
use Rattle.places.proofs.Places.{put-append}
use Rattle.places.proofs.Runs.{length_run, run_at, run-add}

-- ---- one store after another

-- n bytes of a source after m others of it
pub store-after : (img src : List ℕ) (m n p q at : ℕ) → at + m ≤ length src
    → put (put img (run p m) (take m (drop at src))) (run q n) (take n (drop (at + m) src)) ≡ put img (run p m ++ run q n) (take (m + n) (drop at src))
store-after img src m n p q at h =
    let long : length (take m (drop at src)) ≡ length (run p m) = length-take-le m (drop at src) (rw length-drop (omega arith)) ∙ sym (length_run m p) in
    rw (take-add, drop-drop) (sym (put-append img (run p m) (run q n) (take m (drop at src)) (take n (drop (at + m) src)) long))

-- a turn of a loop that stores m bytes of a source more
pub store_more : (img src : List ℕ) (to at i m : ℕ) → at + i ≤ length src
    → put (put img (run to i) (take i (drop at src))) (run (to + i) m) (take m (drop (at + i) src)) ≡ put img (run to (i + m)) (take (i + m) (drop at src))
store_more img src to at i m h = rw run-add (store-after img src i m to (to + i) at h)

-- a turn of a loop that takes bytes of a source into a list
pub held_next : (part src : List ℕ) (at i : ℕ) → i < length part → at + i < length src → take i part ≡ take i (drop at src)
    → take (i + 1) (set part i (get_or src (at + i) 0)) ≡ take (i + 1) (drop at src)
held_next part src at i h g e =
    rw add-one (take-suc-set part i (get_or src (at + i) 0) h ∙ rw (e, ← get_or-drop) (sym (take-suc (drop at src) i 0 (rw length-drop (omega arith)))))

-- bytes set from a place on are stored at the run of them
sets_run : (vs l : List ℕ) (i : ℕ) → sets l i vs ≡ put l (run i (length vs)) vs
sets_run [] l i = refl
sets_run (v ∷ vs) l i = sets_run vs (set l i v) (suc i)

-- a part of a list, n bytes from one on: how long it is, and that overwriting it stores at the run of its bytes
module _ (out : List ℕ) (to n : ℕ) (inside : to + n ≤ length out) where
  pub part-length : length (take (to + n - to) (drop to out)) ≡ n
  part-length = length-take-le (to + n - to) (drop to out) (rw length-drop (omega arith)) ∙ omega arith

  pub run-written : (part vs : List ℕ) → length part ≡ length (take (to + n - to) (drop to out)) → part ≡ vs → put_mid to (to + n - to) out part ≡ put out (run to n) vs
  run-written part vs l e =
      let m : length vs ≡ n = ap length (sym e) ∙ l ∙ part-length in
      part-written out part vs to (to + n - to) e (omega arith) (rw m inside) ∙ sets_run vs out to ∙ ap (λ (j : ℕ). put out (run to j) vs) m

-- ---- stores into the first of two parts of a list, into the second, and where the first ends

pub put_left : (n o : ℕ) (a x vs : List ℕ) → o + n ≤ length a → put (a ++ x) (run o n) vs ≡ put a (run o n) vs ++ x
put_left n o a x vs h = Places.put_left a x (run o n) vs (λ p m. omega (arith, run_at n o p m))

set_right : (a x : List ℕ) (i v : ℕ) → set (a ++ x) (length a + i) v ≡ a ++ set x i v
set_right [] x i v = rw zero-add
set_right (y ∷ a) x i v = rw (suc-add (length a) i) (ap (λ (r : List ℕ). y ∷ r) (set_right a x i v))

pub put_right : (n o : ℕ) (a x vs : List ℕ) → put (a ++ x) (run (length a + o) n) vs ≡ a ++ put x (run o n) vs
put_right zero o a x vs = refl
put_right (suc n) o a x [] = refl
put_right (suc n) o a x (v ∷ vs) =
    ap₂ (λ (l : List ℕ) (p : ℕ). put l (run p n) vs) (set_right a x o v) (sym (add-suc (length a) o)) ∙ put_right n (suc o) a (set x o v) vs

put-drop : (n m o : ℕ) (x vs : List ℕ) → drop m (put x (run (m + o) n) vs) ≡ put (drop m x) (run o n) vs
put-drop zero m o x vs = refl
put-drop (suc n) m o x [] = refl
put-drop (suc n) m o x (v ∷ vs) = rw (← add-suc, put-drop n m (suc o) (set x (m + o) v) vs, drop-set-add)

pub put-after : (n o : ℕ) (a x vs : List ℕ) → a ++ drop (length a) (put x (run (length a + o) n) vs) ≡ put (a ++ drop (length a) x) (run (length a + o) n) vs
put-after n o a x vs = rw put-drop (sym (put_right n o a (drop (length a) x) vs))

pub put_next : (vs a x : List ℕ) (p : ℕ) → length a ≡ p → length vs ≤ length x → put (a ++ x) (run p (length vs)) vs ≡ a ++ vs ++ drop (length vs) x
put_next [] a x p e h = rw append-nil
put_next (v ∷ vs) a [] p e h = absurd (omega arith)
put_next (v ∷ vs) a (y ∷ x) p e h =
    ap (λ (l : List ℕ). put l (run (suc p) (length vs)) vs) (set_at a y x v p e ∙ sym (append_snoc a v x))
    ∙ put_next vs (a ++ (v ∷ [])) x (suc p) (length-append a (v ∷ []) ∙ add-one (length a) ∙ ap suc e) (omega arith) ∙ rw append_snoc
