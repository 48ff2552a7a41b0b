-- Where a record is refused, in every convention: exactly at the place where what is before is accepted and the step and the limits
-- refuse the kind byte there, in the state after what is before. And refusal 8: exactly at the first record that is improper.
-- Assumes nothing.
use mathlib.Core.Path.{◌≡◌, refl, ap, ◌∙◌, subst}
use mathlib.Core.Logic.{◌↔◌}
use mathlib.Core.List.{List, [], ◌∷◌, ◌++◌}
use mathlib.Core.Bool.{Bool, true, false, cond}
use Prim.Native.Nat.{ℕ, zero, suc, ◌+◌, ◌-◌, ◌≤◌, ◌<◌}
use native.Mathlib.Omega.{arith}
use lib.ListN.{length, get_or, take}
use lib.Seq.{length-take-le}
use lib.Dec.{ltb}
use borrow.Author.Tests.{le-ltb, ltb-false}
use Rattle.carried.specs.Image.{Placed, checked}
use Rattle.answers.specs.Outcomes.{Outcome, done, refused}
use Rattle.carried.specs.Convention.{Step, refuse, next, Convention, Scan, stopped, complete, prepend, body_length, limited, taken, proceed, scan_from, scan}
use Rattle.carried.specs.Carried.{AllProper}
use Rattle.carried.proofs.Scans.{by_records}
use Rattle.carried.proofs.Readings.{is_proper}
use Rattle.words.proofs.Impossible.{impossible}

module _ (c : Convention) (bodies : Bool) where
  -- in bytes that are read from place `at` on, with n of a body still to pass, a record that is refused r, as argument j
  record Stop (at n : ℕ) (st : c.State) (l : List ℕ) (r place j : ℕ) : Type 0 where
    index : ℕ
    placed : place ≡ at + index
    past : n ≤ index
    inside : index < length l
    before : List Placed
    last : c.State
    accepted : scan_from c bodies at st n (take index l) ≡ complete before last
    refusal : taken c bodies (length l - (index + 1)) last (get_or l index 0) ≡ refuse r j

  -- ---- a refusal has such a record

  -- the first record itself
  first : (at : ℕ) (st : c.State) (k : ℕ) (l : List ℕ) (r j : ℕ) → taken c bodies (length l) st k ≡ refuse r j → Stop at 0 st (k ∷ l) r at j
  first at st k l r j e =
      let n : length (k ∷ l) - (0 + 1) ≡ length l = omega arith in
      record { index = 0; placed = omega arith; past = omega arith; inside = omega arith; before = []; last = st; accepted = refl; refusal = rw n e }

  -- one after a record that is placed
  later : (at : ℕ) (st : c.State) (k : ℕ) (l : List ℕ) (r place i j : ℕ) (p : c.Placement) (st' : c.State) → c.step st k ≡ next j p st' → c.fits st' ≡ true
      → Stop (suc at) (body_length bodies (c.placed_at k j p).size) st' l r place i → Stop at 0 st (k ∷ l) r place i
  later at st k l r place i j p st' e f w =
      let long : length (take w.index l) ≡ w.index = length-take-le w.index l (omega (arith, w.inside)) in
      let n : ℕ = body_length bodies (c.placed_at k j p).size in
      let uncut : ltb (length (take w.index l)) n ≡ false = le-ltb (length (take w.index l)) n (omega (arith, w.past)) in
      let m : length (k ∷ l) - (suc w.index + 1) ≡ length l - (w.index + 1) = omega arith in
      record {
        index = suc w.index;
        placed = omega (arith, w.placed);
        past = omega arith;
        inside = omega (arith, w.inside);
        before = c.placed_at k j p ∷ w.before;
        last = w.last;
        accepted = rw (e, uncut, f, w.accepted);
        refusal = rw m w.refusal;
      }

  abbrev Found : ℕ → ℕ → c.State → List ℕ → Scan c.State → Type 0
  Found at n st l (stopped r place j) = Stop at n st l r place j
  Found at n st l (complete L last) = Unit {0}

  found : (l : List ℕ) (at n : ℕ) (st : c.State) → Found at n st l (scan_from c bodies at st n l)
  found = by_records c bodies (λ at n st l q. Found at n st l q) (λ at n st. tt) pass first join
    where
      pass : (b at n : ℕ) (st : c.State) (l : List ℕ) (q : Scan c.State) → Found (suc at) n st l q → Found at (suc n) st (b ∷ l) q
      pass b at n st l (stopped r place j) w =
          let m : length (b ∷ l) - (suc w.index + 1) ≡ length l - (w.index + 1) = omega arith in
          record {
            index = suc w.index;
            placed = omega (arith, w.placed);
            past = omega (arith, w.past);
            inside = omega (arith, w.inside);
            before = w.before;
            last = w.last;
            accepted = w.accepted;
            refusal = rw m w.refusal;
          }
      pass b at n st l (complete L last) w = tt

      join : (at : ℕ) (st : c.State) (k : ℕ) (l : List ℕ) (j : ℕ) (p : c.Placement) (st' : c.State) → c.step st k ≡ next j p st' → c.fits st' ≡ true
          → body_length bodies (c.placed_at k j p).size ≤ length l → (q : Scan c.State) → Found (suc at) (body_length bodies (c.placed_at k j p).size) st' l q
          → Found at 0 st (k ∷ l) (prepend (c.placed_at k j p) q)
      join at st k l j p st' e f h (stopped r place i) w = later at st k l r place i j p st' e f w
      join at st k l j p st' e f h (complete L last) w = tt

  -- ---- and such a record is the refusal

  -- the scan after a first record that is placed, of a part of the bytes and of them all
  record Passes (at : ℕ) (st : c.State) (k : ℕ) (part l : List ℕ) (last : c.State) : Type 0 where
    n : ℕ
    next_state : c.State
    rest : List Placed
    short : n ≤ length part
    accepted : scan_from c bodies (suc at) next_state n part ≡ complete rest last
    whole : (r place j : ℕ) → scan_from c bodies (suc at) next_state n l ≡ stopped r place j → scan_from c bodies at st 0 (k ∷ l) ≡ stopped r place j

  passes : (at : ℕ) (st : c.State) (k : ℕ) (part l : List ℕ) → length part ≤ length l → (L : List Placed) (last : c.State)
      → scan_from c bodies at st 0 (k ∷ part) ≡ complete L last → Passes at st k part l last
  passes at st k part l h L last e = go (c.step st k) refl e
    where
      rests : (s : Placed) (q : Scan c.State) → prepend s q ≡ complete L last → (M : List Placed) × (q ≡ complete M last)
      rests s (stopped r p j) g = impossible (cc)
      rests s (complete M st') g = let i : st' ≡ last = cc in (M, rw i refl)

      go : (s : Step c.Placement c.State) → c.step st k ≡ s
          → proceed c at k (limited c bodies (length part) k s) (λ size st'. scan_from c bodies (suc at) st' (body_length bodies size) part) ≡ complete L last → Passes at st k part l last
      go (refuse r j) f g = impossible (cc)
      go (next j p st') f g = tests (ltb (length part) (body_length bodies (c.placed_at k j p).size)) (c.fits st') refl refl g
        where
          tests : (t u : Bool) → ltb (length part) (body_length bodies (c.placed_at k j p).size) ≡ t → c.fits st' ≡ u
              → proceed c at k (cond t (refuse 4 j) (cond u (next j p st') (refuse 5 j))) (λ size st''. scan_from c bodies (suc at) st'' (body_length bodies size) part) ≡ complete L last → Passes at st k part l last
          tests true u x y i = impossible (cc)
          tests false false x y i = impossible (cc)
          tests false true x y i =
              let b : ℕ = body_length bodies (c.placed_at k j p).size in
              let short : b ≤ length part = ltb-false (length part) b x in
              let uncut : ltb (length l) b ≡ false = le-ltb (length l) b (omega arith) in
              let w = rests (c.placed_at k j p) (scan_from c bodies (suc at) st' b part) i in
              record {
                n = b;
                next_state = st';
                rest = w.0;
                short = short;
                accepted = w.1;
                whole = λ r place j' v. rw (f, uncut, y, v);
              }

  refused_there : (l : List ℕ) (at n : ℕ) (st : c.State) (i : ℕ) (L : List Placed) (last : c.State) (r j : ℕ) → n ≤ i → i < length l → scan_from c bodies at st n (take i l) ≡ complete L last
      → taken c bodies (length l - (i + 1)) last (get_or l i 0) ≡ refuse r j → scan_from c bodies at st n l ≡ stopped r (at + i) j
  refused_there [] at n st i L last r j h g e f = absurd (omega arith)
  refused_there (b ∷ l) at (suc n) st zero L last r j h g e f = absurd (omega arith)
  refused_there (b ∷ l) at (suc n) st (suc i) L last r j h g e f =
      let m : length (b ∷ l) - (suc i + 1) ≡ length l - (i + 1) = omega arith in
      let x : suc at + i ≡ at + suc i = omega arith in
      refused_there l (suc at) n st i L last r j (omega arith) (omega arith) e (rw m at f) ∙ rw x
  refused_there (k ∷ l) at zero st zero L last r j h g e f =
      let s : st ≡ last = cc in
      let m : length (k ∷ l) - (0 + 1) ≡ length l = omega arith in
      let x : at + 0 ≡ at = omega arith in
      let y : taken c bodies (length l) st k ≡ refuse r j = rw s (rw m at f) in
      rw (y, x)
  refused_there (k ∷ l) at zero st (suc i) L last r j h g e f =
      let long : length (take i l) ≡ i = length-take-le i l (omega arith) in
      let m : length (k ∷ l) - (suc i + 1) ≡ length l - (i + 1) = omega arith in
      let x : suc at + i ≡ at + suc i = omega arith in
      let w : Passes at st k (take i l) l last = passes at st k (take i l) l (omega arith) L last e in
      w.whole r (at + suc i) j
      (refused_there l (suc at) w.n w.next_state i w.rest last r j (omega (arith, w.short)) (omega arith) w.accepted (rw m at f) ∙ rw x)

  -- The record at this place is refused r, as argument j, and what is before it is accepted.
  pub record StopsAt (l : List ℕ) (r place j : ℕ) : Type 0 where
    pub inside : place < length l
    pub before : List Placed
    pub last : c.State
    pub accepted : scan c bodies (take place l) ≡ complete before last
    pub refusal : taken c bodies (length l - (place + 1)) last (get_or l place 0) ≡ refuse r j

  pub scan_stops : (l : List ℕ) (r place j : ℕ) → (scan c bodies l ≡ stopped r place j) ↔ StopsAt l r place j
  scan_stops l r place j = (there, back)
    where
      there : scan c bodies l ≡ stopped r place j → StopsAt l r place j
      there e =
          let w : Stop 0 0 c.start l r place j = subst (Found 0 0 c.start l) e (found l 0 0 c.start) in
          let i : w.index ≡ place = omega (arith, w.placed) in
          rw (← i) (record { inside = w.inside; before = w.before; last = w.last; accepted = w.accepted; refusal = w.refusal })

      back : StopsAt l r place j → scan c bodies l ≡ stopped r place j
      back w =
          let x : 0 + place ≡ place = omega arith in
          refused_there l 0 0 c.start place w.before w.last r j (omega arith) w.inside w.accepted w.refusal ∙ rw x

-- ---- refusal 8

module _ (img : List ℕ) where
  -- the record at this place is the first that is improper, and argument j
  pub record ImproperAt (L : List Placed) (place j : ℕ) : Type 0 where
    pub before : List Placed
    pub here : Placed
    pub after : List Placed
    pub records : L ≡ before ++ (here ∷ after)
    pub placed : place ≡ length before
    pub number : j ≡ here.argument
    pub proper-before : AllProper before img
    pub improper : is_proper here img ≡ false

  -- counted from here
  abbrev Tested : ℕ → List Placed → Outcome → Type 0
  Tested at L (refused r place j) = (r ≡ 8) × (i : ℕ) × ImproperAt L i j × (place ≡ at + i)
  Tested at L (done y) = AllProper L img

  tested : (L : List Placed) (at : ℕ) (x : List ℕ) → Tested at L (checked 8 at L img (done x))
  tested [] at x = tt
  tested (s ∷ L) at x = go (is_proper s img) refl (checked 8 (suc at) L img (done x)) (tested L (suc at) x)
    where
      go : (t : Bool) → is_proper s img ≡ t → (a : Outcome) → Tested (suc at) L a → Tested at (s ∷ L) (cond t a (refused 8 at s.argument))
      go true e (refused r place j) w =
          let v : ImproperAt L w.1 j = w.2 in (
            w.0,
            suc w.1,
            record {
              before = s ∷ v.before;
              here = v.here;
              after = v.after;
              records = ap (λ (M : List Placed). s ∷ M) v.records;
              placed = ap suc v.placed;
              number = v.number;
              proper-before = (e, v.proper-before);
              improper = v.improper;
            },
            omega (arith, w.3),
          )
      go true e (done y) w = (e, w)
      go false e a w = (
        refl,
        0,
        record {
          before = [];
          here = s;
          after = L;
          records = refl;
          placed = refl;
          number = refl;
          proper-before = tt;
          improper = e;
        },
        omega arith,
      )

  refuses : (M : List Placed) (s : Placed) (N : List Placed) (at : ℕ) (a : Outcome) → AllProper M img → is_proper s img ≡ false → checked 8 at (M ++ (s ∷ N)) img a ≡ refused 8 (at + length M) s.argument
  refuses [] s N at a h e = let x : at + 0 ≡ at = omega arith in rw (e, x)
  refuses (m ∷ M) s N at a h e = let x : suc at + length M ≡ at + suc (length M) = omega arith in rw h.0 (refuses M s N (suc at) a h.1 e ∙ rw x)

  pub checked-refuses : (L : List Placed) (x : List ℕ) (r place j : ℕ) → (checked 8 0 L img (done x) ≡ refused r place j) ↔ ((r ≡ 8) × ImproperAt L place j)
  checked-refuses L x r place j = (there, back)
    where
      there : checked 8 0 L img (done x) ≡ refused r place j → (r ≡ 8) × ImproperAt L place j
      there e =
          let w : (r ≡ 8) × (i : ℕ) × ImproperAt L i j × (place ≡ 0 + i) = subst (Tested 0 L) e (tested L 0 x) in
          let i : w.1 ≡ place = omega (arith, w.3) in
          (w.0, subst (λ (p : ℕ). ImproperAt L p j) i w.2)

      back : (r ≡ 8) × ImproperAt L place j → checked 8 0 L img (done x) ≡ refused r place j
      back h =
          let w : ImproperAt L place j = h.1 in
          let y : 0 + length w.before ≡ place = omega (arith, w.placed) in
          rw (w.records, h.0, w.number, ← y) (refuses w.before w.here w.after 0 (done x) w.proper-before w.improper)
