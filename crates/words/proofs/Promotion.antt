-- Promotion of a body to a wider width, and the test of a proper promotion, once for every width and every wider one.
-- Assumes nothing.
use mathlib.Core.Path.{◌≡◌, refl, sym, ap, ◌∙◌}
use mathlib.Core.List.{List, ◌++◌}
use mathlib.Core.Bool.{Bool, true, false, cond}
use Prim.Native.Nat.{ℕ, suc, ◌+◌, ◌-◌, ◌%◌, ◌^◌, ◌<◌, ◌≤◌}
use native.Mathlib.Omega.{arith}
use native.Mathlib.Nat.{sub-add_cancel, pow-le-pow_right}
use lib.ListN.{length, get_or, drop, replicate, length-append, length-replicate}
use lib.Dec.{eqb, ltb}
use lib.IntN.{pos, negsuc}
use mir.Syntax.{Width, w8, w16, w32, w64, w128}
use mir.Val.{bits, bytes, hbits, to_z, of_z, sel}
use Rattle.words.specs.Words.{Extension, bytes_of, to_width, front, promote, same, proper}
use Rattle.words.proofs.Bytes.{length_bytes, bytes_drop, bytes_mod, bytes_small, bytes_filled, first_byte, same-eqb}

-- a width's bits are those of its bytes
powers : (w : Width) → 2 ^ bits w ≡ 256 ^ bytes w
powers w8 = refl
powers w16 = refl
powers w32 = refl
powers w64 = refl
powers w128 = refl

-- and its sign bit is the highest of the first byte
sign_bit : (w : Width) (x : ℕ) → x < 2 ^ bits w → ltb (get_or (bytes_of (bytes w) x) 0 0) 128 ≡ ltb x (2 ^ hbits w)
sign_bit w8 = first_byte 0
sign_bit w16 = first_byte 1
sign_bit w32 = first_byte 3
sign_bit w64 = first_byte 7
sign_bit w128 = first_byte 15

-- a number whose sign bit is clear, or set, at a width v that is no smaller
extension : (w v : Width) (x : ℕ) (clear : Bool) → bytes w ≤ bytes v → x < 2 ^ bits w
    → bytes_of (bytes v) (of_z v (sel clear (pos x) (negsuc (2 ^ bits w - suc x)))) ≡ replicate (bytes v - bytes w) (cond clear 0 255) ++ bytes_of (bytes w) x
extension w v x true t h =
    ap (λ (k : ℕ). bytes_of k x) (sym (sub-add_cancel t)) ∙ bytes_small (bytes v - bytes w) (bytes w) x (rw (powers w) at h)
extension w v x false l h =
    let g : x < 256 ^ bytes w = rw (powers w) at h in
    let number : 2 ^ bits v - suc (2 ^ bits w - suc x) ≡ x + (256 ^ bytes v - 256 ^ bytes w) = rw (powers v, powers w) (omega (arith, pow-le-pow_right {n = 256} (omega arith) l)) in
    ap (bytes_of (bytes v)) number
    ∙ ap (λ (k : ℕ). bytes_of k (x + (256 ^ k - 256 ^ bytes w))) (sym (sub-add_cancel l))
    ∙ bytes_filled (bytes v - bytes w) (bytes w) x g

-- signed bodies: the bits of the signed number, at the wider width, are the promotion
pub promoted_signed : (w v : Width) (x : ℕ) → bytes w ≤ bytes v → x < 2 ^ bits w → bytes_of (bytes v) (of_z v (to_z w x)) ≡ promote (to_width (bytes v) true (bytes w)) (bytes_of (bytes w) x)
promoted_signed w v x t h = rw (sign_bit w x h) (extension w v x (ltb x (2 ^ hbits w)) t h)

-- unsigned bodies: the number itself, at the wider width, is the promotion
pub promoted_unsigned : (w v : Width) (x : ℕ) → bytes w ≤ bytes v → x < 2 ^ bits w → bytes_of (bytes v) x ≡ promote (to_width (bytes v) false (bytes w)) (bytes_of (bytes w) x)
promoted_unsigned w v x = extension w v x true

-- a number equals the promotion of its last m of k bytes just where its bytes are a proper promotion
test : (e : Extension) (k m v r : ℕ) → m ≤ k → v < 256 ^ k → r < 256 ^ k → bytes_of k r ≡ promote e (bytes_of m v) → eqb r v ≡ proper e m (bytes_of k v)
test e k m v r l h g p =
    let last : drop (length (bytes_of k v) - m) (bytes_of k v) ≡ bytes_of m v =
    rw length_bytes (ap (λ (n : ℕ). drop (k - m) (bytes_of n v)) (sym (sub-add_cancel l)) ∙ bytes_drop (k - m) m v) in
    sym (same-eqb k r v g h) ∙ ap (λ (b : List ℕ). same b (bytes_of k v)) p ∙ ap (λ (b : List ℕ). same (promote e b) (bytes_of k v)) (sym last)

-- the code's test of a proper promotion
pub promoted_test : (w v : Width) (signed : Bool) (x r : ℕ) → bytes w ≤ bytes v → x < 2 ^ bits v → r < 2 ^ bits v
    → bytes_of (bytes v) r ≡ promote (to_width (bytes v) signed (bytes w)) (bytes_of (bytes w) (x % 2 ^ bits w)) → eqb r x ≡ proper (to_width (bytes v) signed (bytes w)) (bytes w) (bytes_of (bytes v) x)
promoted_test w v signed x r t h g p =
    test (to_width (bytes v) signed (bytes w)) (bytes v) (bytes w) x r t (rw (powers v) at h) (rw (powers v) at g)
    (p ∙ ap (promote (to_width (bytes v) signed (bytes w))) (ap (λ (q : ℕ). bytes_of (bytes w) (x % q)) (powers w) ∙ bytes_mod (bytes w) x))

-- a body that is extended has the wider width
pub extended-length : (w : ℕ) (signed : Bool) (n : ℕ) (b : List ℕ) → n ≤ w → length b ≡ n → length (promote (to_width w signed n) b) ≡ w
extended-length w true n b h e = length-append (front (to_width w true n) b) b ∙ rw length-replicate (omega arith)
extended-length w false n b h e = length-append (front (to_width w false n) b) b ∙ rw length-replicate (omega arith)
