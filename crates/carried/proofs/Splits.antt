-- Two places in one list: the later has the earlier before it, and two that have as much before them are the same.
-- Assumes nothing.
use mathlib.Core.Path.{◌≡◌, refl, ap, ap₂}
use mathlib.Core.List.{List, [], ◌∷◌, ◌++◌}
use Prim.Native.Nat.{◌<◌}
use native.Mathlib.Omega.{arith}
use lib.ListN.{length}

module _ {A : Type 0} where
  pub record Later (xs : List A) (k : A) (ys : List A) : Type 0 where
    pub between : List A
    pub before : ys ≡ xs ++ (k ∷ between)

  pub later : (xs : List A) (k : A) (us ys : List A) (j : A) (vs : List A) → xs ++ (k ∷ us) ≡ ys ++ (j ∷ vs) → length xs < length ys → Later xs k ys
  later xs k us [] j vs e h = absurd (omega arith)
  later [] k us (y ∷ ys) j vs e h = let x : y ≡ k = cc in record { between = ys; before = ap (λ (i : A). i ∷ ys) x }
  later (x ∷ xs) k us (y ∷ ys) j vs e h =
      let i : y ≡ x = cc in
      let w : Later xs k ys = later xs k us ys j vs (cc) (omega arith) in
      record { between = w.between; before = ap₂ (λ (a : A) (l : List A). a ∷ l) i w.before }

  pub record Same (xs : List A) (k : A) (ys : List A) (j : A) : Type 0 where
    pub before_same : xs ≡ ys
    pub here_same : k ≡ j

  pub same : (xs : List A) (k : A) (us ys : List A) (j : A) (vs : List A) → xs ++ (k ∷ us) ≡ ys ++ (j ∷ vs) → length xs ≡ length ys → Same xs k ys j
  same [] k us [] j vs e h = record { before_same = refl; here_same = cc }
  same [] k us (y ∷ ys) j vs e h = absurd (omega arith)
  same (x ∷ xs) k us [] j vs e h = absurd (omega arith)
  same (x ∷ xs) k us (y ∷ ys) j vs e h =
      let i : x ≡ y = cc in
      let w : Same xs k ys j = same xs k us ys j vs (cc) (omega arith) in
      record { before_same = ap₂ (λ (a : A) (l : List A). a ∷ l) i w.before_same; here_same = w.here_same }
