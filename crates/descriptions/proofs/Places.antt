-- How large the numbers of an answer are, above all the place. A structure ends at 512 at most and every member has bytes, so what is
-- read without a refusal is not long.
-- Assumes nothing.
use mathlib.Core.Path.{◌≡◌, refl}
use mathlib.Core.List.{List, [], ◌∷◌}
use mathlib.Core.Bool.{true, false, ◌&&◌, and-eq-true_iff}
use Prim.Native.Nat.{ℕ, suc, ◌+◌, ◌-◌, ◌*◌, ◌≤◌}
use native.Mathlib.Omega.{arith}
use native.Mathlib.Nat.{mul-add, add-mul, mul-le-mul_left, mul-le-mul_right}
use lib.Dec.{eqb, leb, ltb}
use lib.ListN.{length}
use borrow.Author.Tests.{ltb-true, leb-true, eqb-false}
use Rattle.words.specs.Words.{up}
use Rattle.o32_offsets.proofs.Offsets.{up-ge}
use Rattle.descriptions.specs.Structures.{Structure}
use Rattle.descriptions.specs.Trees.{kind_for}
use Rattle.descriptions.specs.Describing.{end_most, Open, empty, append, Around, State, start, inside, counting, repeated, closed, Step, refuse, go, scalar_bytes, placed, levels, typed, ended, close, judge, finish, proceed, describe_from, described}
use Rattle.descriptions.specs.Descriptions.{place_most}
use Rattle.descriptions.proofs.Steps.{decided}
use Rattle.descriptions.proofs.KindFor.{suited_small, kind_found}

-- ---- what the bytes so far allow

-- For each byte of a structure with n others around it, so many bytes of a description are enough. A scalar has 1 byte or more and
-- takes 3 of them at most, as 12 01 01 does. A structure takes 4, of 12 01 10 .. 11, and those of its members at the next lower rate.
abbrev rate : ℕ → ℕ
rate n = 3 + 4 * (5 - n)

-- The bytes before the first member of a structure with these around it: what their ends allow, the first 10, and 12, a count and 10
-- for each structure inside another.
abbrev before : List Around → ℕ
before [] = 1
before (s ∷ out) = rate (length out) * s.outer.end + before out + 3

record Sound (o : Open) : Type 0 where
  short : o.end ≤ end_most
  aligned : 1 ≤ o.strictest

-- at most five, and no repeat of 0
abbrev Nested : List Around → Type 0
Nested [] = Unit {0}
Nested (s ∷ out) = Sound s.outer × (1 ≤ s.times) × (length out ≤ 4) × Nested out

-- a place in a structure, behind the first m bytes of a repeat
record PlaceIn (m place : ℕ) (o : Open) (out : List Around) : Type 0 where
  early : place ≤ rate (length out) * o.end + before out + m
  sound : Sound o
  nested : Nested out

abbrev Reached : ℕ → State → Type 0
Reached place start = place ≡ 0
Reached place (inside o out) = PlaceIn 0 place o out
Reached place (counting o out) = PlaceIn 1 place o out
Reached place (repeated n o out) = PlaceIn 2 place o out × (1 ≤ n)
Reached place (closed bytes alignment) = place ≤ place_most

abbrev Allows : ℕ → Step → Type 0
Allows place (refuse number) = place ≤ place_most
Allows place (go state) = Reached (place + 1) state

-- ---- numbers

-- Six structures are open and all end at 512, each of their bytes took its rate, and a 12 and its count were read:
-- (23 + 19 + 15 + 11 + 7 + 3) * 512 + 5 * 3 + 1 + 2.
before-most : (out : List Around) → Nested out → rate (length out) * 512 + before out + 2 ≤ place_most
before-most [] h = omega arith
before-most (_ ∷ []) h = omega arith
before-most (_ ∷ _ ∷ []) h = omega arith
before-most (_ ∷ _ ∷ _ ∷ []) h = omega arith
before-most (_ ∷ _ ∷ _ ∷ _ ∷ []) h = omega arith
before-most (_ ∷ _ ∷ _ ∷ _ ∷ _ ∷ []) h = omega arith
before-most (_ ∷ _ ∷ _ ∷ _ ∷ _ ∷ _ ∷ out) h = absurd (omega arith)

place_most_lem : {m place : ℕ} {o : Open} {out : List Around} → PlaceIn m place o out → m ≤ 2 → place ≤ place_most
place_most_lem {out = out} h g = omega (arith, before-most out h.nested, mul-le-mul_left (rate (length out)) h.sound.short)

place_on : {m n p q : ℕ} {o : Open} {out : List Around} → PlaceIn m p o out → q + m ≤ p + n → PlaceIn n q o out
place_on h g = record { early = omega arith; sound = h.sound; nested = h.nested }

-- An end that moves on by x at a rate r allows x at a lower rate, and the difference x times.
rate_covers : (r r' d e x e' : ℕ) → r' + d ≤ r → e + x ≤ e' → r * e + r' * x + d * x ≤ r * e'
rate_covers r r' d e x e' h g = omega (arith, mul-add r e x, add-mul r' d x, mul-le-mul_right x h, mul-le-mul_left r g)

append-ge : (n bytes alignment : ℕ) (o : Open) → 1 ≤ n → 1 ≤ alignment → o.end + bytes ≤ (append n bytes alignment o).end
append-ge n bytes alignment o h g = omega (arith, up-ge alignment o.end g, mul-le-mul_right bytes h)

-- ---- one byte

placed_allows : (p n bytes alignment : ℕ) (o : Open) (out : List Around) → Sound o → Nested out → p ≤ place_most
    → p + 1 ≤ rate (length out) * (append n bytes alignment o).end + before out → Allows p (placed n bytes alignment o out)
placed_allows p n bytes alignment o out s t h f =
    let end : ℕ = (append n bytes alignment o).end in
    decided (Allows p) (leb end end_most)
    (λ e. record { early = omega arith; sound = omega (arith, leb-true end end_most e); nested = t }) (λ e. h)

typed_allows : (p b n : ℕ) (o : Open) (out : List Around) → PlaceIn 2 p o out → 1 ≤ n → Allows p (typed b n o out)
typed_allows p b n o out h t =
    decided (Allows p) (eqb b 0x10) (λ _. decided (Allows p) (ltb (levels out) 6) opened (λ _. here))
    (λ _. decided (Allows p) (eqb z 0) (λ _. here) scalar)
  where
    z : ℕ
    z = scalar_bytes b

    here : p ≤ place_most
    here = place_most_lem h (omega arith)

    opened : ltb (levels out) 6 ≡ true → Allows p (go (inside empty (record { times = n; outer = o } ∷ out)))
    opened e =
        let few : length out ≤ 4 = omega (arith, ltb-true (levels out) 6 e) in
        record { early = omega arith; sound = omega arith; nested = (h.sound, t, few, h.nested) }

    scalar : eqb z 0 ≡ false → Allows p (placed n z z o out)
    scalar e =
        let some : 1 ≤ z = omega (arith, eqb-false z 0 e) in
        let longer : o.end + 1 ≤ (append n z z o).end = omega (arith, append-ge n z z o t some) in
        placed_allows p n z z o out h.sound h.nested here
        (omega (arith, rate_covers (rate (length out)) 0 3 o.end 1 (append n z z o).end (omega arith) longer))

ended_allows : (p : ℕ) (o : Open) (out : List Around) → PlaceIn 0 p o out → 1 ≤ o.end
    → Allows p (ended (up o.strictest o.end) o.strictest out)
ended_allows p o [] h f = omega arith
ended_allows p o (s ∷ out) h f =
    let a : ℕ = o.strictest in
    let z : ℕ = up a o.end in
    let n : ℕ = length out in
    let end : ℕ = (append s.times z a s.outer).end in
    let one : 1 ≤ a = h.sound.aligned in
    let room : s.outer.end + z ≤ end = append-ge s.times z a s.outer h.nested.1 one in
    let longer : s.outer.end + o.end ≤ end = omega (arith, up-ge a o.end one) in
    placed_allows p s.times z a s.outer out h.nested.0 h.nested.3 (place_most_lem h (omega arith))
    (omega (arith, rate_covers (rate n) (rate (suc n)) 4 s.outer.end o.end end (omega arith) longer))

close_allows : (p : ℕ) (o : Open) (out : List Around) → PlaceIn 0 p o out → Allows p (close o out)
close_allows p o out h =
    decided (Allows p) (eqb o.end 0) (λ _. place_most_lem h (omega arith))
    (λ e. ended_allows p o out h (omega (arith, eqb-false o.end 0 e)))

judge_allows : (p b : ℕ) (state : State) → Reached p state → Allows p (judge b state)
unfolding judge
judge_allows p b start h =
    decided (Allows p) (eqb b 0x10) (λ _. record { early = omega arith; sound = omega arith; nested = tt }) (λ _. omega arith)
judge_allows p b (inside o out) h =
    let type : Allows p (typed b 1 o out) = typed_allows p b 1 o out (place_on h (omega arith)) (omega arith) in
    decided (Allows p) (eqb b 0x11) (λ _. close_allows p o out h)
    (λ _. decided (Allows p) (eqb b 0x12) (λ _. place_on h (omega arith)) (λ _. type))
judge_allows p b (counting o out) h =
    decided (Allows p) (leb 1 b && leb b 255)
    (λ e. (place_on h (omega arith), leb-true 1 b ((and-eq-true_iff (leb 1 b) (leb b 255)).0 e).0))
    (λ _. place_most_lem h (omega arith))
judge_allows p b (repeated n o out) h = typed_allows p b n o out h.0 h.1
judge_allows p b (closed bytes alignment) h = h

-- ---- the answer

record Bounded (s : Structure) : Type 0 where
  place : s.place ≤ place_most
  numbers : (s.size ≤ 512) × (s.alignment ≤ 8)

finish_bounded : (p : ℕ) (state : State) → Reached p state → Bounded (finish p state)
finish_bounded p start h = omega arith
finish_bounded p (inside o out) h = omega (arith, place_most_lem h (omega arith))
finish_bounded p (counting o out) h = omega (arith, place_most_lem h (omega arith))
finish_bounded p (repeated n o out) h = omega (arith, place_most_lem h.0 (omega arith))
finish_bounded p (closed z a) h =
    decided Bounded (eqb (kind_for z a) 0) (λ e. omega arith) (λ e. omega (arith, suited_small (kind_found z a (eqb-false (kind_for z a) 0 e))))

bounded : (p : ℕ) (state : State) → Reached p state → (bytes : List ℕ) → Bounded (describe_from p state bytes)
unfolding describe_from
bounded p state h [] = finish_bounded p state h
bounded p state h (b ∷ bytes) = proceeds (judge b state) (judge_allows p b state h) (λ next r. bounded (p + 1) next r bytes)
  where
    proceeds : (s : Step) → Allows p s → ((next : State) → Reached (p + 1) next → Bounded (describe_from (p + 1) next bytes))
        → Bounded (proceed p s (λ (next : State). describe_from (p + 1) next bytes))
    proceeds (refuse number) l rest = omega arith
    proceeds (go next) l rest = rest next l

-- The place of a refusal, and so the bytes that are read, whatever the length of the description.
pub place_bound : (bytes : List ℕ) → (described bytes).place ≤ place_most
place_bound bytes = (bounded 0 start refl bytes).place

pub small_numbers : (bytes : List ℕ) → ((described bytes).size ≤ 512) × ((described bytes).alignment ≤ 8)
small_numbers bytes = (bounded 0 start refl bytes).numbers
