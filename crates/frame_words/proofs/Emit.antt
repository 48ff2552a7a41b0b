-- Words put one after another, and a turn of the loop that puts those of what a mask names.
-- Assumes nothing.
use mathlib.Core.Path.{◌≡◌, refl, ap, ◌∙◌}
use mathlib.Core.List.{List, [], ◌∷◌, map, ◌++◌, append-nil, map-append}
use mathlib.Core.Bool.{Bool, true, false}
use Prim.Native.Nat.{ℕ, zero, suc, ◌+◌, ◌-◌, ◌*◌, ◌%◌, ◌^◌, ◌<◌, ◌≤◌}
use native.Mathlib.Omega.{arith}
use native.Mathlib.Nat.{add-zero, add-suc, one-mul, mul-zero, mul-one, mul-add, mul-le-mul_left}
use native.Mathlib.Numerals.{add-one}
use lib.Pow.{shl_exact}
use lib.ListN.{length, length-append}
use lib.Seq.{sets, length-sets}
use borrow.Author.Tests.{eqb-true}
use Rattle.frame.specs.Masks.{bit, names, count_below}
use Rattle.frame.specs.Words.{Save, collect, word_of}
use Rattle.words.specs.Words.{bytes_of_words}
use Rattle.frame.proofs.Masks.{bit_unnamed, count_below_none}
use Rattle.frame.proofs.Collect.{collect-none}

-- the shift in the code
pub shift_power : (k : ℕ) → k < 32 → 1 * 2 ^ k % 2 ^ 32 ≡ 2 ^ k
shift_power k h = shl_exact 1 k 32 (omega arith) (omega arith) ∙ one-mul (2 ^ k)

-- one run after another is one run
pub sets_append : (l : List ℕ) (i n : ℕ) (a b : List ℕ) → n ≡ i + length a → sets (sets l i a) n b ≡ sets l i (a ++ b)
sets_append l i n [] b e = ap (λ (j : ℕ). sets l j b) (e ∙ add-zero i)
sets_append l i n (v ∷ a) b e = sets_append _ (suc i) n a b (omega arith)

-- what is put in two runs, the second after the first
pub sets_parts : (l x y : List ℕ) {a b whole : List ℕ} (i n : ℕ) → whole ≡ x ++ y → a ≡ sets l i x → n ≡ i + length x → b ≡ sets a n y → b ≡ sets l i whole
sets_parts l x y i n w p e q = rw (q, p, w) (sets_append l i n x y e)

pub bytes_append : (a b : List ℕ) → bytes_of_words (a ++ b) ≡ bytes_of_words a ++ bytes_of_words b
bytes_append [] b = refl
bytes_append (w ∷ a) b = simp (bytes_append a b)

-- the bytes of the instructions with an opcode on saves
abbrev pub bytes_of_saves : ℕ → List Save → List ℕ
bytes_of_saves op saves = bytes_of_words (map (word_of op) saves)

bytes_of_saves_append : (op : ℕ) (a b : List Save) → bytes_of_saves op (a ++ b) ≡ bytes_of_saves op a ++ bytes_of_saves op b
bytes_of_saves_append op a b = rw map-append (bytes_append (map (word_of op) a) (map (word_of op) b))

count_below_mono : (m k d : ℕ) → count_below m k ≤ count_below m (k + d)
unfolding count_below
count_below_mono m k zero = rw add-zero (omega arith)
count_below_mono m k (suc d) = rw add-suc (omega (arith, count_below_mono m k d))

module _ (size : ℕ) (saves : ℕ → List Save) (m k : ℕ) where
  named_adds : names m k ≡ true → (collect saves m (suc k) ≡ collect saves m k ++ saves k) × (size * count_below m (suc k) ≡ size * count_below m k + size)
  unfolding collect count_below
  named_adds e = (simp e, simp (eqb-true (bit m k) 1 e, mul-add, mul-one))

  unnamed_adds_none : names m k ≡ false → (collect saves m (suc k) ≡ collect saves m k) × (count_below m (suc k) ≡ count_below m k)
  unfolding collect count_below
  unnamed_adds_none e = (simp (e, append-nil), simp (bit_unnamed m k e, add-zero))

-- the loop, with `size` bytes for each name: n is the place after what was put for the names below k
pub record Put (op size : ℕ) (saves : ℕ → List Save) (m at : ℕ) (l : List ℕ) (k n : ℕ) (out : List ℕ) : Type 0 where
  pub place : n ≡ at + size * count_below m k
  pub bytes : out ≡ sets l at (bytes_of_saves op (collect saves m k))

-- nothing is put below k where a mask has no bit there
pub put-none : (op size : ℕ) (saves : ℕ → List Save) (m at : ℕ) (l : List ℕ) (k : ℕ) → m % 2 ^ k ≡ 0 → Put op size saves m at l k at l
put-none op size saves m at l k h =
    let z = count_below_none m k h in
    record { place = rw z (omega (arith, mul-zero size)); bytes = rw (collect-none saves m k z) }

pub length_bytes_of_saves : (op size : ℕ) (saves : ℕ → List Save) → ((j : ℕ) → length (bytes_of_saves op (saves j)) ≡ size)
    → (m k : ℕ) → length (bytes_of_saves op (collect saves m k)) ≡ size * count_below m k
unfolding collect count_below
length_bytes_of_saves op size saves sized m zero = omega (arith, mul-zero size)
length_bytes_of_saves op size saves sized m (suc k) = by (names m k) refl (length_bytes_of_saves op size saves sized m k)
  where
    by : (b : Bool) → names m k ≡ b → length (bytes_of_saves op (collect saves m k)) ≡ size * count_below m k
        → length (bytes_of_saves op (collect saves m (suc k))) ≡ size * count_below m (suc k)
    by true e h = let y = named_adds size saves m k e in simp (y.0, y.1, bytes_of_saves_append, length-append, sized k, h)
    by false e h = let y = unnamed_adds_none size saves m k e in simp (y.0, y.1, h)

module _ {op size : ℕ} {saves : ℕ → List Save} {m at k n : ℕ} {l out : List ℕ} (p : Put op size saves m at l k n out) where
  pub put-length : length out ≡ length l
  put-length = ap length p.bytes ∙ simp length-sets

  pub put-room : (j : ℕ) → k < j → names m k ≡ true → at + size * count_below m j ≤ length l → n + size ≤ length out
  put-room j h e w =
      let q : suc k + (j - suc k) ≡ j = omega arith in
      omega (arith, put-length, p.place, (named_adds size saves m k e).1, mul-le-mul_left size (rw q at (count_below_mono m (suc k) (j - suc k))))

  pub turn_named : {n' : ℕ} {out' : List ℕ} → ((j : ℕ) → length (bytes_of_saves op (saves j)) ≡ size) → names m k ≡ true
      → n' ≡ n + size → out' ≡ sets out n (bytes_of_saves op (saves k)) → Put op size saves m at l (k + 1) n' out'
  turn_named sized e h q =
      let y = named_adds size saves m k e in
      record {
        place = rw add-one (omega (arith, y.1, p.place));
        bytes =
            rw (add-one, y.0, bytes_of_saves_append, q, p.bytes)
            (sets_append l at n (bytes_of_saves op (collect saves m k)) _ (omega (arith, length_bytes_of_saves op size saves sized m k, p.place)));
      }

  pub turn_unnamed : {n' : ℕ} {out' : List ℕ} → names m k ≡ false → n' ≡ n → out' ≡ out → Put op size saves m at l (k + 1) n' out'
  turn_unnamed e h q =
      let y = unnamed_adds_none size saves m k e in
      record { place = rw (add-one, y.1) (h ∙ p.place); bytes = rw (add-one, y.0) (q ∙ p.bytes) }
