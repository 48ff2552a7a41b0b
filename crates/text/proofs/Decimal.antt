-- The fewest digits that hold a number are its decimal.
-- Assumes nothing.
use mathlib.Core.Path.{◌≡◌}
use mathlib.Core.Bool.{Bool, true, false, cond}
use mathlib.Core.List.{[], ◌∷◌, ◌++◌}
use Prim.Native.Nat.{ℕ, zero, suc, ◌+◌, ◌*◌, ◌/◌, ◌%◌, ◌^◌, ◌≤◌, ◌<◌}
use native.Mathlib.Omega.{arith}
use native.Mathlib.Nat.{pow-suc, pow-le-pow_right}
use native.Mathlib.Numerals.{sub-one}
use lib.Dec.{ltb}
use lib.ListN.{length, length-append}
use borrow.Author.Tests.{lt-ltb, le-ltb}
use Rattle.io.specs.Digits.{IsDigitCount, hex_digit_ascii}
use Rattle.io.specs.Digits as D
use Rattle.text.specs.Text.{digits, decimal, refusal_text}

-- A digit below ten is spelled from 48 on.
spelled : (d : ℕ) → d < 10 → hex_digit_ascii d ≡ 48 + d
spelled d h = simp (lt-ltb d 10 h)

-- The last step: one digit.
last_digit : (most n : ℕ) → n < 10 → D.last_digits 10 1 n ≡ digits (suc most) n
last_digit most n h =
    let e : n % 10 ≡ n = omega arith in
    simp (lt-ltb n 10 h, e)

-- Any other step: the digits of the tenth, then the last digit.
more_digits : (k most n : ℕ) → 10 ≤ n → D.last_digits 10 k (n / 10) ≡ digits most (n / 10) → D.last_digits 10 (suc k) n ≡ digits (suc most) n
more_digits k most n h e =
    let d : n % 10 < 10 = omega arith in
    simp (le-ltb n 10 h, spelled (n % 10) d, e)

fewest_digits : (r most n : ℕ) → n < 10 ^ suc r → (0 < r → 10 ^ r ≤ n) → n < most → D.last_digits 10 (suc r) n ≡ digits most n
fewest_digits zero zero n above below h = elim h [ ]
fewest_digits (suc r) zero n above below h = elim h [ ]
fewest_digits zero (suc most) n above below h = last_digit most n above
fewest_digits (suc r) (suc most) n above below h =
    let a : n < 10 ^ suc r * 10 = rw pow-suc at above in
    let b : 10 ^ r * 10 ≤ n = rw pow-suc at (below (omega arith)) in
    let p : 1 ≤ 10 ^ r = pow-le-pow_right {n = 10} (omega arith) {i = 0} {j = r} (omega arith) in
    more_digits (suc r) most n (omega arith)
    (fewest_digits r most (n / 10) (omega arith) (λ _. omega arith) (omega arith))

pub fewest_decimal : (n k : ℕ) → IsDigitCount 10 1 n k → D.last_digits 10 k n ≡ decimal n
unfolding decimal
fewest_decimal n zero h = absurd (omega arith)
fewest_decimal n (suc r) h = fewest_digits r (suc n) n h.1 (λ p. rw sub-one at (h.2 (omega arith))) (omega arith)

-- The same of its text: below 10 ^ k there are at most k digits.
digits-at-most : (k most n : ℕ) → n < 10 ^ suc k → length (digits most n) ≤ suc k
digits-at-most k zero n h = omega arith
digits-at-most zero (suc most) n h = simp (lt-ltb n 10 h) (omega arith)
digits-at-most (suc k) (suc most) n h = go (ltb n 10) (digits-at-most k most (n / 10) (let a : n < 10 ^ suc k * 10 = rw pow-suc at h in omega arith))
  where
    go : (t : Bool) → length (digits most (n / 10)) ≤ suc k → length (cond t ((48 + n) ∷ []) (digits most (n / 10) ++ ((48 + n % 10) ∷ []))) ≤ suc (suc k)
    go true g = omega arith
    go false g = omega (arith, length-append (digits most (n / 10)) ((48 + n % 10) ∷ []))

pub decimal-at-most_20 : (n : ℕ) → n < 2 ^ 64 → length (decimal n) ≤ 20
unfolding decimal
decimal-at-most_20 n h = digits-at-most 19 (suc n) n (omega arith)

-- So a refusal's line has at most 83 bytes.
pub refusal_at-most_83 : (number place argument : ℕ) → number < 2 ^ 64 → place < 2 ^ 64 → argument < 2 ^ 64 → length (refusal_text number place argument) ≤ 83
refusal_at-most_83 number place argument h g f =
    rw (length-append, length-append, length-append, length-append, length-append, length-append)
    (omega (arith, decimal-at-most_20 number h, decimal-at-most_20 place g, decimal-at-most_20 argument f))
