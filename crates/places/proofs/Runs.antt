-- Image bytes that lie together: how many they are, which they are, and what an image holds there.
-- Assumes nothing.
use mathlib.Core.Path.{◌≡◌, refl, ap, ◌∙◌}
use mathlib.Core.Logic.{inl, inr}
use mathlib.Core.List.{List, ◌∷◌, ◌++◌}
use Prim.Native.Nat.{ℕ, zero, suc, ◌+◌, ◌≤◌, ◌<◌}
use native.Mathlib.Omega.{arith}
use native.Mathlib.Numerals.{add-one}
use native.Mathlib.Nat.{zero-add, suc-add, add-zero, add-suc}
use lib.ListN.{length, get_or, take, drop}
use lib.Seq.{drop-cons}
use Rattle.places.specs.Places.{run, gather, In, Distinct}

pub length_run : (n p : ℕ) → length (run p n) ≡ n
length_run zero p = refl
length_run (suc n) p = ap suc (length_run n (suc p))

pub run_at : (n q p : ℕ) → In p (run q n) → (q ≤ p) × (p < q + n)
run_at zero q p m = absurd m
run_at (suc n) q p (inl e) = omega arith
run_at (suc n) q p (inr m) = omega (arith, run_at n (suc q) p m)

pub run_distinct : (n q : ℕ) → Distinct (run q n)
run_distinct zero q = tt
run_distinct (suc n) q = ((λ m. omega (arith, run_at n (suc q) q m)), run_distinct n (suc q))

pub run-add : (m n o : ℕ) → run o (m + n) ≡ run o m ++ run (o + m) n
run-add zero n o = rw (zero-add, add-zero)
run-add (suc m) n o = rw (suc-add m n) (ap (λ (r : List ℕ). o ∷ r) (run-add m n (suc o) ∙ rw (suc-add o m, ← (add-suc o m))))

pub get_or-run : (n p i : ℕ) → i < n → get_or (run p n) i 0 ≡ p + i
get_or-run zero p i h = absurd (omega arith)
get_or-run (suc n) p zero h = omega arith
get_or-run (suc n) p (suc i) h = get_or-run n (suc p) i (omega arith) ∙ omega arith

pub gather-run : (img : List ℕ) (n p : ℕ) → p + n ≤ length img → gather img (run p n) ≡ take n (drop p img)
gather-run img zero p h = refl
gather-run img (suc n) p h = rw (gather-run img n (suc p) (omega arith), drop-cons img p 0 (omega arith))

-- what is left from a place on is the byte there, and what is left after it
pub from_first : (l : List ℕ) (at : ℕ) → at < length l → drop at l ≡ get_or l at 0 ∷ drop (at + 1) l
from_first l at h = drop-cons l at 0 h ∙ rw add-one
