-- Words, compared with the entries of a plan three at a time, an entry's: those still to be compared decide; with zero past them; and
-- with a plan.
-- Assumes nothing.
use mathlib.Core.Path.{◌≡◌, refl, sym, ap, ap₂, ◌∙◌}
use mathlib.Core.List.{List, [], ◌∷◌, ◌++◌}
use mathlib.Core.Bool.{Bool, true, false, ◌&&◌}
use Prim.Native.Nat.{ℕ, zero, suc, ◌+◌, ◌-◌, ◌*◌, ◌≤◌, ◌<◌}
use native.Mathlib.Omega.{arith}
use native.Mathlib.Numerals.{add-one, add-two, add-three}
use native.Mathlib.Nat.{add-zero}
use lib.ListN.{length, get_or, take, drop, replicate, take-append-drop, drop_of_length-le, length-drop}
use lib.Seq.{drop-nil, drop-cons, get_or-drop, length-take-le, get_or-take, take_at, take-take}
use lib.Dec.{eqb}
use Rattle.std.specs.List.{sum, list_all}
use Rattle.std.proofs.Math.Bool.{and-true, and_assoc}
use Rattle.std.proofs.lemmas.List.{drop-take}
use Rattle.std.proofs.lemmas.List.Folds.{sum_by-zero}
use Rattle.words.specs.Words.{same}
use Rattle.plans.specs.declared.Entry.{Entry}
use Rattle.plans.specs.declared.Plan.{Plan}
use Rattle.plans.specs.Plans.{no_entry, padded, entry_numbers, numbers}
use Rattle.plans.proofs.Entries.{entry_numbers_long, numbers_long, padded_long}
use Rattle.plans_words.proofs.Storing.{numbers-append}

same-append : (xs ys us vs : List ℕ) → length xs ≡ length ys → same (xs ++ us) (ys ++ vs) ≡ same xs ys && same us vs
same-append [] [] us vs e = refl
same-append [] (y ∷ ys) us vs e = absurd (omega arith)
same-append (x ∷ xs) [] us vs e = absurd (omega arith)
same-append (x ∷ xs) (y ∷ ys) us vs e = rw (same-append xs ys us vs (omega arith)) (sym (and_assoc (eqb x y) (same xs ys) (same us vs)))

-- ---- three numbers

abbrev three_at : List ℕ → ℕ → List ℕ
three_at xs at = get_or xs at 0 ∷ get_or xs (at + 1) 0 ∷ get_or xs (at + 2) 0 ∷ []

three_ahead : (xs : List ℕ) (at : ℕ) → at + 2 < length xs → drop at xs ≡ three_at xs at ++ drop (at + 3) xs
three_ahead xs at h = rw (add-one at, add-two at, add-three at)
    (drop-cons xs at 0 (omega arith)
    ∙ ap (λ (x : List ℕ). get_or xs at 0 ∷ x) (drop-cons xs (suc at) 0 (omega arith) ∙ ap (λ (x : List ℕ). get_or xs (suc at) 0 ∷ x) (drop-cons xs (suc (suc at)) 0 (omega arith))))

numbers-drop : (i : ℕ) (es : List Entry) → drop (3 * i) (entry_numbers es) ≡ entry_numbers (drop i es)
numbers-drop zero es = refl
numbers-drop (suc i) [] = drop-nil (3 * suc i)
numbers-drop (suc i) (e ∷ es) =
    let m : 3 * suc i ≡ suc (suc (suc (3 * i))) = omega arith in
    rw m (numbers-drop i es)

three_shifted : (xs : List ℕ) (at : ℕ) → three_at xs at ≡ three_at (drop at xs) 0
three_shifted xs at = rw (get_or-drop at xs 0 0, get_or-drop at xs 1 0, get_or-drop at xs 2 0, add-zero at) refl

three_of_entry : (es : List Entry) (i : ℕ) → i < length es → three_at (entry_numbers es) (3 * i) ≡ entry_numbers (get_or es i no_entry ∷ [])
three_of_entry es i h = three_shifted (entry_numbers es) (3 * i) ∙ rw (numbers-drop i es, drop-cons es i no_entry h) refl

-- ---- all that are compared

-- the first i entries' numbers agree, so the rest decides
pub record Agreeing (xs ys : List ℕ) (i : ℕ) : Type 0 where
  pub rest : same xs ys ≡ same (drop (3 * i) xs) (drop (3 * i) ys)

module _ {xs ys : List ℕ} {i : ℕ} (w : Agreeing xs ys i) (h : 3 * i + 2 < length xs) (h' : 3 * i + 2 < length ys) where
  apart : same xs ys ≡ same (three_at xs (3 * i)) (three_at ys (3 * i)) && same (drop (3 * (i + 1)) xs) (drop (3 * (i + 1)) ys)
  apart =
      let m : 3 * i + 3 ≡ 3 * (i + 1) = omega arith in
      w.rest
      ∙ rw (three_ahead xs (3 * i) h, three_ahead ys (3 * i) h', m) (same-append (three_at xs (3 * i)) (three_at ys (3 * i)) (drop (3 * (i + 1)) xs) (drop (3 * (i + 1)) ys) refl)

  three_differ : same (three_at xs (3 * i)) (three_at ys (3 * i)) ≡ false → same xs ys ≡ false
  three_differ e = apart ∙ rw e refl

  three_agree : same (three_at xs (3 * i)) (three_at ys (3 * i)) ≡ true → Agreeing xs ys (i + 1)
  three_agree e = record { rest = apart ∙ rw e refl }

-- ---- entries

module _ (words : List ℕ) (entries : List Entry) (room : 3 * length entries ≤ length words) (i : ℕ) (w : Agreeing (take (3 * length entries) words) (entry_numbers entries) i) where
  words_long : length (take (3 * length entries) words) ≡ 3 * length entries
  words_long = length-take-le (3 * length entries) words room

  module _ (h : i < length entries) where
    inside : (3 * i + 2 < length (take (3 * length entries) words)) × (3 * i + 2 < length (entry_numbers entries))
    inside = (omega (arith, words_long), omega (arith, entry_numbers_long entries))

    -- what is compared at this turn
    turn : same (three_at (take (3 * length entries) words) (3 * i)) (three_at (entry_numbers entries) (3 * i)) ≡ same (three_at words (3 * i)) (entry_numbers (get_or entries i no_entry ∷ []))
    turn =
        let t : three_at (take (3 * length entries) words) (3 * i) ≡ three_at words (3 * i) =
        rw (get_or-take (3 * length entries) words (3 * i) 0 (omega arith), get_or-take (3 * length entries) words (3 * i + 1) 0 (omega arith), get_or-take (3 * length entries) words (3 * i + 2) 0 (omega arith)) refl in
        ap₂ same t (three_of_entry entries i h)

    pub compare_differs : same (three_at words (3 * i)) (entry_numbers (get_or entries i no_entry ∷ [])) ≡ false → false ≡ same (take (3 * length entries) words) (entry_numbers entries)
    compare_differs e = sym (three_differ w inside.0 inside.1 (turn ∙ e))

    pub compare_turn : same (three_at words (3 * i)) (entry_numbers (get_or entries i no_entry ∷ [])) ≡ true → Agreeing (take (3 * length entries) words) (entry_numbers entries) (i + 1)
    compare_turn e = three_agree w inside.0 inside.1 (turn ∙ e)

  pub compare_ends : length entries ≤ i → true ≡ same (take (3 * length entries) words) (entry_numbers entries)
  compare_ends h =
      sym (w.rest
      ∙ rw (drop_of_length-le (take (3 * length entries) words) {i = 3 * i} (omega (arith, words_long)), drop_of_length-le (entry_numbers entries) {i = 3 * i} (omega (arith, entry_numbers_long entries))) refl)

-- ---- zero words

same-zeros : (xs : List ℕ) → list_all (λ x. eqb x 0) xs ≡ same xs (replicate (length xs) 0)
same-zeros [] = refl
same-zeros (x ∷ xs) = ap (λ (t : Bool). eqb x 0 && t) (same-zeros xs)

-- they are zero where their sum is
zeros_by_sum : (xs : List ℕ) → same xs (replicate (length xs) 0) ≡ eqb (sum xs) 0
zeros_by_sum xs = sym (sum_by-zero (λ x. x) xs ∙ same-zeros xs)

-- ---- a plan

-- as many numbers as the entries have, a count and an area, with a plan
module _ (entries : List ℕ) (count area : ℕ) (p : Plan) (long : length entries ≡ length (entry_numbers p.entries)) where
  abbrev Compared : Bool
  Compared = same (entries ++ (count ∷ area ∷ [])) (numbers p)

  parts : Compared ≡ same entries (entry_numbers p.entries) && (eqb count p.count && (eqb area p.area && true))
  parts = same-append entries (entry_numbers p.entries) (count ∷ area ∷ []) (p.count ∷ p.area ∷ []) long

-- zero entries have zero numbers
numbers-zero : (k : ℕ) → entry_numbers (replicate k no_entry) ≡ replicate (3 * k) 0
numbers-zero zero = refl
numbers-zero (suc k) =
    let m : 3 * suc k ≡ suc (suc (suc (3 * k))) = omega arith in
    rw (m, numbers-zero k) refl

same_long : (xs ys : List ℕ) → (length xs ≡ length ys → ⊥) → false ≡ same xs ys
same_long [] [] h = absurd (h refl)
same_long [] (y ∷ ys) h = refl
same_long (x ∷ xs) [] h = refl
same_long (x ∷ xs) (y ∷ ys) h = rw (← same_long xs ys (λ e. h (omega arith))) (sym (and-false (eqb x y)))
  where
    and-false : (t : Bool) → t && false ≡ false
    and-false true = refl
    and-false false = refl

-- a test that is made only where the test before it passed
pub and_then : {x y v : Bool} → x ≡ true → v ≡ y → v ≡ x && y
and_then e f = rw (e, f) refl

pub and_else : {x v : Bool} (y : Bool) → x ≡ false → v ≡ x → v ≡ x && y
and_else y e f = rw (f, e) refl

-- what is known of a plan whose entries past the count are zero
abbrev pub ZeroPast : Plan → Type 0
ZeroPast p = (es : List Entry) × (length es ≤ 32) × (p.entries ≡ padded es) × (p.count ≡ length es)

-- the first words, compared with the entries up to the count; the sum of those past it; and the count
module _ (words : List ℕ) (p : Plan) where
  abbrev pub First : Bool
  First = same (take (3 * length (take p.count p.entries)) words) (entry_numbers (take p.count p.entries))

  abbrev pub Rest : Bool
  Rest = eqb (sum (take (96 - 3 * p.count) (drop (3 * p.count) words))) 0

  abbrev pub Counted : Bool
  Counted = (First && Rest) && eqb (get_or words 96 0) p.count

module _ (words : List ℕ) (p : Plan) (zero-past : ZeroPast p) where
  pub entries_32 : length p.entries ≡ 32
  entries_32 = ap length zero-past.2 ∙ padded_long zero-past.0 zero-past.1

  pub wrong_length : (length words ≡ 98 → ⊥) → false ≡ same words (numbers p)
  wrong_length h = same_long words (numbers p) (λ e. h (e ∙ numbers_long p entries_32))

  module _ (long : length words ≡ 98) where
    abbrev n : ℕ
    n = p.count

    pub count_few : n ≤ 32
    count_few = omega (arith, zero-past.1, zero-past.3)

    -- the first words are those of the entries up to the count, the next ones zero
    entries_apart : same (take 96 words) (entry_numbers p.entries)
        ≡ same (take (3 * n) words) (entry_numbers (take n p.entries)) && same (drop (3 * n) (take 96 words)) (replicate (96 - 3 * n) 0)
    entries_apart =
        let es : List Entry = zero-past.0 in
        let k : n ≡ length es = zero-past.3 in
        let m : 3 * (32 - length es) ≡ 96 - 3 * n = omega arith in
        let t : take n p.entries ≡ es = ap₂ take k zero-past.2 ∙ take_at es (replicate (32 - length es) no_entry) (length es) refl in
        let f : entry_numbers p.entries ≡ entry_numbers (take n p.entries) ++ replicate (96 - 3 * n) 0 =
        ap entry_numbers zero-past.2 ∙ numbers-append es (replicate (32 - length es) no_entry) ∙ rw (numbers-zero (32 - length es), m, t) refl in
        let a : take 96 words ≡ take (3 * n) words ++ drop (3 * n) (take 96 words) =
        sym (take-append-drop (3 * n) (take 96 words)) ∙ rw (take-take (3 * n) 96 words (omega (arith, count_few))) refl in
        let l : length (take (3 * n) words) ≡ length (entry_numbers (take n p.entries)) =
        length-take-le (3 * n) words (omega (arith, count_few)) ∙ sym (entry_numbers_long (take n p.entries) ∙ rw t (ap (λ (i : ℕ). 3 * i) (sym k))) in
        ap₂ same a f ∙ same-append (take (3 * n) words) (entry_numbers (take n p.entries)) (drop (3 * n) (take 96 words)) (replicate (96 - 3 * n) 0) l

    -- the last two
    split : words ≡ take 96 words ++ (get_or words 96 0 ∷ get_or words 97 0 ∷ [])
    split =
        let t : drop 96 words ≡ get_or words 96 0 ∷ get_or words 97 0 ∷ [] =
        drop-cons words 96 0 (omega arith)
        ∙ ap (λ (x : List ℕ). get_or words 96 0 ∷ x) (drop-cons words 97 0 (omega arith) ∙ ap (λ (x : List ℕ). get_or words 97 0 ∷ x) (drop_of_length-le words {i = 98} (omega arith))) in
        sym (take-append-drop 96 words) ∙ ap (λ (x : List ℕ). take 96 words ++ x) t

    many : length (take 96 words) ≡ length (entry_numbers p.entries)
    many = omega (arith, length-take-le 96 words (omega arith), entry_numbers_long p.entries, entries_32)

    -- so it is a plan's by the first words, the sum of the next, the count and the area
    by_parts : same words (numbers p) ≡ Counted words p && eqb (get_or words 97 0) p.area
    by_parts =
        let z : List ℕ = take (96 - 3 * n) (drop (3 * n) words) in
        let k : length (take n p.entries) ≡ n = length-take-le n p.entries (omega (arith, count_few, entries_32)) in
        let l : length z ≡ 96 - 3 * n = length-take-le (96 - 3 * n) (drop (3 * n) words) (omega (arith, length-drop (3 * n) words, count_few)) in
        let m : 3 * n + (96 - 3 * n) ≡ 96 = omega (arith, count_few) in
        let d : drop (3 * n) (take 96 words) ≡ z = ap (λ (i : ℕ). drop (3 * n) (take i words)) (sym m) ∙ drop-take (3 * n) (96 - 3 * n) words in
        let s : same (drop (3 * n) (take 96 words)) (replicate (96 - 3 * n) 0) ≡ Rest words p =
        ap (λ (x : List ℕ). same x (replicate (96 - 3 * n) 0)) d ∙ ap (λ (k : ℕ). same z (replicate k 0)) (sym l) ∙ zeros_by_sum z in
        ap (λ (x : List ℕ). same x (numbers p)) split
        ∙ parts (take 96 words) (get_or words 96 0) (get_or words 97 0) p many
        ∙ rw (entries_apart, s, k) (rw and-true (sym (and_assoc _ (eqb (get_or words 96 0) n) (eqb (get_or words 97 0) p.area))))

    pub area_decides : Counted words p ≡ true → eqb (get_or words 97 0) p.area ≡ same words (numbers p)
    area_decides e = sym (by_parts ∙ rw e refl)

    pub words_differ : Counted words p ≡ false → false ≡ same words (numbers p)
    words_differ e = sym (by_parts ∙ rw e refl)
