-- Bytes from an offset on lie together in the image: those below offset 16 from their offset on, the rest from 48 on, and all that
-- start at offset 16 or after it from 32 after their offset on.
-- Assumes nothing.
use mathlib.Core.Path.{◌≡◌, refl, ap, ◌∙◌}
use mathlib.Core.Bool.{Bool, true, false}
use mathlib.Core.List.{◌++◌, map-append, append-nil}
use Prim.Native.Nat.{ℕ, zero, suc, ◌+◌, ◌-◌, ◌≤◌, ◌<◌, min}
use native.Mathlib.Omega.{arith}
use native.Mathlib.Nat.{add-suc, min-eq_left, min-eq_right}
use lib.Dec.{ltb}
use borrow.Author.Tests.{lt-ltb, le-ltb, ltb-true, ltb-false}
use Rattle.places.specs.Places.{run}
use Rattle.o32_laws.proofs.Laws.{span}
use Rattle.places.proofs.Runs.{run-add}

pub span_low : (n o : ℕ) → o + n ≤ 16 → span o n ≡ run o n
span_low zero o h = refl
span_low (suc n) o h = rw (lt-ltb o 16 (omega arith), span_low n (suc o) (omega arith))

pub span_high : (n o : ℕ) → 16 ≤ o → span o n ≡ run (32 + o) n
span_high zero o h = refl
span_high (suc n) o h = rw (le-ltb o 16 h, span_high n (suc o) (omega arith), add-suc)

-- those that reach offset 16
pub span_split : (n o : ℕ) → o ≤ 16 → 16 ≤ o + n → span o n ≡ run o (16 - o) ++ run 48 (n - (16 - o))
span_split n o h g =
    let e : n ≡ (16 - o) + (n - (16 - o)) = omega arith in
    let f : o + (16 - o) ≡ 16 = omega arith in
    ap (span o) e
    ∙ rw (run-add, map-append, f, span_low (16 - o) o (omega arith), span_high (n - (16 - o)) 16 (omega arith))

-- those that start below it, few or many
pub span_below : (n o : ℕ) → o < 16 → span o n ≡ run o (min (16 - o) n) ++ run 48 (n - (16 - o))
span_below n o h = go (ltb n (16 - o)) refl
  where
    go : (t : Bool) → ltb n (16 - o) ≡ t → span o n ≡ run o (min (16 - o) n) ++ run 48 (n - (16 - o))
    go true e =
        let g : n < 16 - o = ltb-true n (16 - o) e in
        let z : n - (16 - o) ≡ 0 = omega arith in
        let m : min (16 - o) n ≡ n = min-eq_right (omega arith) in
        rw (z, append-nil, m) (span_low n o (omega arith))
    go false e =
        let g : 16 - o ≤ n = ltb-false n (16 - o) e in
        rw (min-eq_left g) (span_split n o (omega arith) (omega arith))
