-- Laws of a number's bytes, over how many there are.
-- Assumes nothing.
use mathlib.Core.Path.{◌≡◌, refl, sym, ap, ap₂, ◌∙◌}
use mathlib.Core.List.{List, [], ◌∷◌, ◌++◌, append_assoc, append-nil}
use mathlib.Core.Bool.{Bool, true, false, ◌&&◌}
use Prim.Native.Nat.{ℕ, zero, suc, ◌+◌, ◌-◌, ◌*◌, ◌/◌, ◌%◌, ◌^◌, ◌<◌, ◌≤◌}
use native.Mathlib.Omega.{arith}
use native.Mathlib.Numerals.{add-one}
use native.Mathlib.Nat.{add-zero, add-suc, zero-add, mul_assoc, mul_comm, mul-sub, pow-succ', one-le-pow, div-one, div-eq_of_lt, div-add-mod', div-div-eq-div-mul, div-lt_iff_lt-mul, add-mul-div_right}
use lib.Pow.{pow-add}
use lib.ListN.{length, get_or, take, drop, replicate, length-append, replicate-append-replicate}
use lib.Seq.{sets, sets-eq, take-length, take_at, drop_at}
use borrow.Rule.Slice.PartMut.{put_mid}
use Rattle.std.proofs.lemmas.Slice.{put_mid-paste}
use lib.Dec.{T, eqb, ltb, eqb→eq, eqb_refl, ltb→lt, lt→ltb}
use lib.Ieee.Bits.{is_true}
use Rattle.words.specs.Words.{bytes_of, zeros, body, same, proper}

-- there are as many bytes as asked for
pub length_bytes : (n x : ℕ) → length (bytes_of n x) ≡ n
length_bytes zero x = refl
length_bytes (suc n) x = length-append (bytes_of n (x / 256)) (x % 256 ∷ []) ∙ rw (length_bytes n (x / 256)) (omega arith)

-- the first n of n + m bytes are those of the number without its last m, and the last m are those of the number itself
pub bytes_split : (n m x : ℕ) → bytes_of (n + m) x ≡ bytes_of n (x / 256 ^ m) ++ bytes_of m x
bytes_split n zero x = rw (add-zero, div-one) (sym (append-nil (bytes_of n x)))
bytes_split n (suc m) x =
    rw (add-suc, pow-succ', ← div-div-eq-div-mul x 256 (256 ^ m), bytes_split n m (x / 256)) (append_assoc (bytes_of n (x / 256 / 256 ^ m)) (bytes_of m (x / 256)) (x % 256 ∷ []))

-- the last bytes are those of the number itself
pub bytes_drop : (n m x : ℕ) → drop n (bytes_of (n + m) x) ≡ bytes_of m x
bytes_drop n m x = rw bytes_split (drop_at (bytes_of n (x / 256 ^ m)) (bytes_of m x) n (length_bytes n (x / 256 ^ m)))

-- what lies above the bytes does not matter
pub bytes_above : (n x c : ℕ) → bytes_of n (x + c * 256 ^ n) ≡ bytes_of n x
bytes_above zero x c = refl
bytes_above (suc n) x c =
    let e : c * 256 ^ suc n ≡ 256 * (c * 256 ^ n) = rw (pow-succ', ← mul_assoc c 256 (256 ^ n), mul_comm c 256, mul_assoc) in
    let q : (x + c * 256 ^ suc n) / 256 ≡ x / 256 + c * 256 ^ n = rw e (omega arith) in
    let r : (x + c * 256 ^ suc n) % 256 ≡ x % 256 = rw e (omega arith) in
    ap₂ (λ (a : List ℕ) (b : ℕ). a ++ (b ∷ [])) (ap (bytes_of n) q ∙ bytes_above n (x / 256) c) r

-- nor does it matter where it is cut off
pub bytes_mod : (n x : ℕ) → bytes_of n (x % 256 ^ n) ≡ bytes_of n x
bytes_mod n x =
    sym (bytes_above n (x % 256 ^ n) (x / 256 ^ n))
    ∙ ap (bytes_of n) (let h = div-add-mod' x (256 ^ n) in omega arith)

-- the bytes of zero and of the highest number
bytes_zero : (n : ℕ) → bytes_of n 0 ≡ replicate n 0
bytes_zero zero = refl
bytes_zero (suc n) = rw (bytes_zero n, replicate-append-replicate {A = ℕ} n 1 0, add-one)

bytes_highest : (n : ℕ) → bytes_of n (256 ^ n - 1) ≡ replicate n 255
bytes_highest zero = refl
bytes_highest (suc n) =
    let p = one-le-pow n 256 (omega arith) in
    let q : (256 ^ suc n - 1) / 256 ≡ 256 ^ n - 1 = rw pow-succ' (omega arith) in
    let r : (256 ^ suc n - 1) % 256 ≡ 255 = rw pow-succ' (omega arith) in
    rw (q, r, bytes_highest n, replicate-append-replicate {A = ℕ} n 1 255, add-one)

-- a number that needs m bytes only has zeros in front
pub bytes_small : (n m x : ℕ) → x < 256 ^ m → bytes_of (n + m) x ≡ replicate n 0 ++ bytes_of m x
bytes_small n m x h = rw (bytes_split, div-eq_of_lt h, bytes_zero)

-- and with all the bits above them set, FF in front
pub bytes_filled : (n m x : ℕ) → x < 256 ^ m → bytes_of (n + m) (x + (256 ^ (n + m) - 256 ^ m)) ≡ replicate n 255 ++ bytes_of m x
bytes_filled n m x h =
    let e : 256 ^ (n + m) - 256 ^ m ≡ (256 ^ n - 1) * 256 ^ m = rw (pow-add, mul_comm (256 ^ n - 1) (256 ^ m), mul-sub) (omega arith) in
    rw (e, bytes_split, bytes_above, add-mul-div_right x (256 ^ n - 1) (one-le-pow m 256 (omega arith)), div-eq_of_lt h, zero-add, bytes_highest)

-- two tests with the same meaning are equal
same_test : (a b : Bool) → (T a → T b) → (T b → T a) → a ≡ b
same_test true true f g = refl
same_test true false f g = absurd (f tt)
same_test false true f g = absurd (g tt)
same_test false false f g = refl

-- the first byte tells whether the highest bit is set
pub first_byte : (m x : ℕ) → x < 256 ^ suc m → ltb (get_or (bytes_of (suc m) x) 0 0) 128 ≡ ltb x (128 * 256 ^ m)
first_byte m x h =
    let p = one-le-pow m 256 (omega arith) in
    let count : suc m ≡ 1 + m = omega arith in
    let split : bytes_of (suc m) x ≡ x / 256 ^ m % 256 ∷ bytes_of m x = ap (λ (k : ℕ). bytes_of k x) count ∙ bytes_split 1 m x in
    let high : x / 256 ^ m < 256 = (div-lt_iff_lt-mul {x = x} {y = 256} p).1 (rw pow-succ' at h) in
    let first : x / 256 ^ m % 256 ≡ x / 256 ^ m = omega arith in
    rw (split, first)
    (same_test (ltb (x / 256 ^ m) 128) (ltb x (128 * 256 ^ m))
    (λ t. lt→ltb x (128 * 256 ^ m) ((div-lt_iff_lt-mul {x = x} {y = 128} p).0 (ltb→lt (x / 256 ^ m) 128 t)))
    (λ t. lt→ltb (x / 256 ^ m) 128 ((div-lt_iff_lt-mul {x = x} {y = 128} p).1 (ltb→lt x (128 * 256 ^ m) t))))

-- numbers with the same bytes are equal
pub bytes_injective : (n x y : ℕ) → x < 256 ^ n → y < 256 ^ n → bytes_of n x ≡ bytes_of n y → x ≡ y
bytes_injective zero x y h k e = omega arith
bytes_injective (suc n) x y h k e =
    let above = bytes_injective n (x / 256) (y / 256) (omega (arith, pow-succ' 256 n)) (omega (arith, pow-succ' 256 n))
    (sym (take_at (bytes_of n (x / 256)) (x % 256 ∷ []) n (length_bytes n (x / 256))) ∙ ap (take n) e ∙ take_at (bytes_of n (y / 256)) (y % 256 ∷ []) n (length_bytes n (y / 256))) in
    let last : ◌≡◌ {A = List ℕ} (x % 256 ∷ []) (y % 256 ∷ []) = sym (drop_at (bytes_of n (x / 256)) (x % 256 ∷ []) n (length_bytes n (x / 256))) ∙ ap (drop n) e ∙ drop_at (bytes_of n (y / 256)) (y % 256 ∷ []) n (length_bytes n (y / 256)) in
    let below : x % 256 ≡ y % 256 = cc in
    omega arith

-- both parts of a test
both : (a b : Bool) → T (a && b) → T a × T b
both true b t = (tt, t)
both false b t = absurd t

together : (a b : Bool) → T a → T b → T (a && b)
together true b s t = t
together false b s t = absurd s

-- `same` tests whether lists are equal
pub same→eq : (xs ys : List ℕ) → T (same xs ys) → xs ≡ ys
same→eq [] [] t = refl
same→eq [] (y ∷ ys) t = absurd t
same→eq (x ∷ xs) [] t = absurd t
same→eq (x ∷ xs) (y ∷ ys) t =
    let h = both (eqb x y) (same xs ys) t in
    ap₂ (λ (z : ℕ) (zs : List ℕ). z ∷ zs) (eqb→eq x y h.0) (same→eq xs ys h.1)

pub same_refl : (xs : List ℕ) → T (same xs xs)
same_refl [] = tt
same_refl (x ∷ xs) = together (eqb x x) (same xs xs) (eqb_refl x) (same_refl xs)

pub same_true : (xs : List ℕ) → same xs xs ≡ true
same_true xs = is_true (same xs xs) (same_refl xs)

-- bytes that promotion adds nothing to are their own body, and a proper promotion
pub body-whole : (n : ℕ) (bs : List ℕ) → length bs ≡ n → body n bs ≡ bs
body-whole n bs e = let z : length bs - n ≡ 0 = omega arith in rw z

pub proper-whole : (n : ℕ) (bs : List ℕ) → length bs ≡ n → proper (zeros 0) n bs ≡ true
proper-whole n bs e = rw (body-whole n bs e) (same_true bs)

-- so of the bytes of two numbers it tests whether these are equal
pub same-eqb : (n x y : ℕ) → x < 256 ^ n → y < 256 ^ n → same (bytes_of n x) (bytes_of n y) ≡ eqb x y
same-eqb n x y h k =
    same_test (same (bytes_of n x) (bytes_of n y)) (eqb x y)
    (λ t. rw (bytes_injective n x y h k (same→eq (bytes_of n x) (bytes_of n y) t)) (eqb_refl y))
    (λ t. rw (eqb→eq x y t) (same_refl (bytes_of n y)))

-- a part of a list that is overwritten, as stores in a row
pub part-written : (out part vs : List ℕ) (at k : ℕ) → part ≡ vs → k ≡ length vs → at + length vs ≤ length out → put_mid at k out part ≡ sets out at vs
part-written out part vs at k e f h = put_mid-paste at k out part vs (length vs) e (sym f) refl ∙ rw take-length (sym (sets-eq vs out at h))
