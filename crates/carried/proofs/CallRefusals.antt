-- When the writer and the reader of a convention refuse, with a buffer of any length: by record, or 7; by record, or 6, 7, 8.
-- Assumes nothing.
use mathlib.Core.Path.{◌≡◌, refl, ◌∙◌}
use mathlib.Core.Logic.{◌↔◌}
use mathlib.Core.List.{List}
use mathlib.Core.Bool.{Bool, true, false, cond}
use Prim.Native.Nat.{ℕ, ◌≤◌, ◌<◌}
use native.Mathlib.Omega.{arith}
use lib.ListN.{length}
use lib.Dec.{eqb, ltb}
use borrow.Author.Tests.{eqb-true, eqb-false, eq-eqb, ne_eqb, ltb-true, ltb-false, lt-ltb, le-ltb}
use Rattle.answers.specs.Outcomes.{Outcome, done, refused, answer_of, check_room}
use Rattle.carried.specs.Image.{checked, reading, Placed, image, length_of_list}
use Rattle.carried.specs.Convention.{Convention, Scan, stopped, complete, scan, write_scan, check_image, read_scan, write_into, read_into}
use Rattle.carried.proofs.Walks.{Laws, walk_of, walk_one_each}
use Rattle.carried.proofs.Readings.{image-length, reading_length}
use Rattle.carried.proofs.Refusals.{ImproperAt, checked-refuses}
use Rattle.words.proofs.Impossible.{impossible}

-- ---- an answer that refuses is that of a refusal

pub answer-refuses : (a : Outcome) (r place j : ℕ) → 1 ≤ r → (((answer_of a).refusal ≡ r) × ((answer_of a).place ≡ place) × ((answer_of a).argument ≡ j)) ↔ (a ≡ refused r place j)
answer-refuses a r place j h = (there a, λ e. rw e (refl, refl, refl))
  where
    there : (a : Outcome) → ((answer_of a).refusal ≡ r) × ((answer_of a).place ≡ place) × ((answer_of a).argument ≡ j) → a ≡ refused r place j
    there (refused r' place' j') e = rw (e.0, e.1, e.2) refl
    there (done x) e = absurd (omega (arith, e.0))

module _ (c : Convention) where
  -- ---- the writer

  pub data WriteRefused (list : List ℕ) (room r place j : ℕ) : Type 0 where
    by_record : scan c true list ≡ stopped r place j → WriteRefused list room r place j
    short : (L : List Placed) (last : c.State) → scan c true list ≡ complete L last → room < c.image_length last → r ≡ 7 → place ≡ 0 → j ≡ 0 → WriteRefused list room r place j

  pub write-refused : (list : List ℕ) (room r place j : ℕ) → (write_into c list room ≡ refused r place j) ↔ WriteRefused list room r place j
  write-refused list room r place j = (λ e. go (scan c true list) refl e, back)
    where
      go : (q : Scan c.State) → scan c true list ≡ q → write_scan c (check_room 7 room) list q ≡ refused r place j → WriteRefused list room r place j
      go (stopped r' place' j') f e =
          let x : r' ≡ r = cc in
          let y : place' ≡ place = cc in
          let z : j' ≡ j = cc in
          by_record (f ∙ rw (x, y, z) refl)
      go (complete L last) f e = tests (ltb room (length (image (c.image_length last) L list))) refl e
        where
          tests : (t : Bool) → ltb room (length (image (c.image_length last) L list)) ≡ t → cond t (refused 7 0 0) (done (image (c.image_length last) L list)) ≡ refused r place j → WriteRefused list room r place j
          tests true i h =
              short L last f (omega (arith, ltb-true room (length (image (c.image_length last) L list)) i, image-length (c.image_length last) L list)) (cc) (cc) (cc)
          tests false i h = impossible (cc)

      back : WriteRefused list room r place j → write_into c list room ≡ refused r place j
      back (by_record f) = rw f
      back (short L last f h x y z) =
          let i : ltb room (length (image (c.image_length last) L list)) ≡ true =
          lt-ltb room (length (image (c.image_length last) L list)) (omega (arith, image-length (c.image_length last) L list)) in
          rw (f, i, x, y, z)

  -- ---- an image of these records, for which n bytes are answered: 6, 7, 8

  module _ (L : List Placed) (last : c.State) (img : List ℕ) (n room r place j : ℕ) where
    pub data ImageRefused : Type 0 where
      six : (length img ≡ c.image_length last → ⊥) → r ≡ 6 → place ≡ 0 → j ≡ 0 → ImageRefused
      seven : length img ≡ c.image_length last → room < n → r ≡ 7 → place ≡ 0 → j ≡ 0 → ImageRefused
      eight : length img ≡ c.image_length last → n ≤ room → r ≡ 8 → ImproperAt img L place j → ImageRefused

    -- the bytes are n where the image has its length
    pub image-refused : (x : List ℕ) → (length img ≡ c.image_length last → length x ≡ n)
        → (check_image c (check_room 7 room) img L last x ≡ refused r place j) ↔ ImageRefused
    image-refused x long = (tests (eqb (length img) (c.image_length last)) (ltb room (length x)) refl refl, back)
      where
        tests : (t u : Bool) → eqb (length img) (c.image_length last) ≡ t → ltb room (length x) ≡ u
            → cond t (cond u (refused 7 0 0) (checked 8 0 L img (done x))) (refused 6 0 0) ≡ refused r place j → ImageRefused
        tests false u g i h = six (eqb-false (length img) (c.image_length last) g) (cc) (cc) (cc)
        tests true true g i h =
            let e = eqb-true (length img) (c.image_length last) g in
            seven e (omega (arith, ltb-true room (length x) i, long e)) (cc) (cc) (cc)
        tests true false g i h =
            let e = eqb-true (length img) (c.image_length last) g in
            let w = (checked-refuses img L x r place j).0 h in
            eight e (omega (arith, ltb-false room (length x) i, long e)) w.0 w.1

        back : ImageRefused → check_image c (check_room 7 room) img L last x ≡ refused r place j
        back (six h y z v) = rw (ne_eqb (length img) (c.image_length last) h, y, z, v)
        back (seven e h y z v) = rw (eq-eqb (length img) (c.image_length last) e, lt-ltb room (length x) (omega (arith, long e)), y, z, v)
        back (eight e h y w) =
            rw (eq-eqb (length img) (c.image_length last) e, le-ltb room (length x) (omega (arith, long e))) ((checked-refuses img L x r place j).1 (y, w))

  -- ---- the reader

  pub data ReadRefused (sig img : List ℕ) (room r place j : ℕ) : Type 0 where
    by_record : scan c false sig ≡ stopped r place j → ReadRefused sig img room r place j
    by_image : (L : List Placed) (last : c.State) → scan c false sig ≡ complete L last → ImageRefused L last img (length_of_list L) room r place j → ReadRefused sig img room r place j

  module _ (laws : Laws c) (sig img : List ℕ) (room r place j : ℕ) where
    exactly : (L : List Placed) (last : c.State) → scan c false sig ≡ complete L last
        → (check_image c (check_room 7 room) img L last (reading L img) ≡ refused r place j) ↔ ImageRefused L last img (length_of_list L) room r place j
    exactly L last f =
        image-refused L last img (length_of_list L) room r place j (reading L img)
        (λ e. reading_length L img (walk_one_each c laws (walk_of c laws sig c.start L last 0 f)).sized)

    there : (q : Scan c.State) → scan c false sig ≡ q → read_scan c (check_room 7 room) img q ≡ refused r place j → ReadRefused sig img room r place j
    there (stopped r' place' j') f e =
        let x : r' ≡ r = cc in
        let y : place' ≡ place = cc in
        let z : j' ≡ j = cc in
        by_record (f ∙ rw (x, y, z) refl)
    there (complete L last) f e = by_image L last f ((exactly L last f).0 e)

    back : ReadRefused sig img room r place j → read_into c sig img room ≡ refused r place j
    back (by_record f) = rw f
    back (by_image L last f w) = rw f ((exactly L last f).1 w)

    pub read-refused : (read_into c sig img room ≡ refused r place j) ↔ ReadRefused sig img room r place j
    read-refused = (there (scan c false sig) refl, back)
