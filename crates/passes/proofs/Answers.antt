-- What a writer and a reader answer and leave in the lent buffer: each refusal, and the result.
-- Assumes nothing.
use mathlib.Core.Path.{◌≡◌, refl, sym, ap, ◌∙◌, subst}
use mathlib.Core.List.{List, ◌++◌}
use mathlib.Core.Bool.{Bool, true, false}
use Prim.Native.Nat.{ℕ, ◌≤◌, ◌<◌}
use native.Mathlib.Omega.{arith}
use lib.ListN.{length, drop}
use lib.Dec.{eqb, ltb}
use borrow.Author.Tests.{eq-eqb, ne_eqb, lt-ltb, le-ltb}
use Rattle.answers.specs.Numbers.{number}
use Rattle.answers.specs.Outcomes.{Outcome, done, refused, check_room, answer_of, buffer_of, in_numbers}
use Rattle.carried.specs.Image.{Placed, image, reading, length_of_list, checked}
use Rattle.carried.specs.Convention.{Convention, Scan, stopped, complete, scan, check_image, write_into, read_into}
use Rattle.carried.proofs.Readings.{image-length, reading_length}
use Rattle.carried.proofs.Walks.{walk_of, walk_sized}
use Rattle.std.specs.Prelude.{Result, Ok, Err}
use Rattle.std.specs.Result.{IsErrAnd}
use Rattle.std.proofs.lemmas.Result.{err_from_is_err_and}
use Rattle.answers.specs.declared.Refusal.{Refusal}
use Rattle.answers.specs.declared.Cause.TheVariants as C
use Rattle.passes.specs.declared.Measured.{Measured}
use Rattle.passes.specs.declared.Improper.{Improper}
use Rattle.passes.specs.Found.{Found, found}
use Rattle.passes.specs.Found as F
use Rattle.passes.specs.Passes.{measured, verdict, placed_in, Admitted}
use Rattle.passes.proofs.Premises.{Premises}
use Rattle.words.proofs.Impossible.{impossible}

-- this answer and this buffer are those of this outcome
pub record Right (x : Outcome) (out : List ℕ) (a : Result ℕ Refusal) (o : List ℕ) : Type 0 where
  pub answer : in_numbers a ≡ answer_of x
  pub buffer : o ≡ buffer_of x out

-- so is an answer that a `?` makes of this refusal
pub passed_on : {x : Outcome} {out o : List ℕ} (r : Result ℕ Refusal) {e : Refusal} → IsErrAnd r (λ y. y ≡ e) → Right x out (Err e) o → Right x out r o
passed_on {x} {out} {o} r i w =
    let t = err_from_is_err_and r i in
    subst (λ (a : Result ℕ Refusal). Right x out a o) (sym (t.1 ∙ ap Err t.2)) w

-- ---- the first pass

module _ (c : Convention) (bodies : Bool) (l : List ℕ) where
  -- it was refused, and so is the whole
  pub was_refused : {m : Result Measured Refusal} {e : Refusal} → found m ≡ measured c (scan c bodies l) → m ≡ Err e
      → scan c bodies l ≡ stopped (number e.cause) e.place e.argument
  was_refused {m} {e} i g = go (scan c bodies l) refl (ap found (sym g) ∙ i)
    where
      go : (q : Scan c.State) → scan c bodies l ≡ q → F.refused (number e.cause) e.place e.argument ≡ measured c q → scan c bodies l ≡ stopped (number e.cause) e.place e.argument
      go (stopped r p j) f h =
          let x : r ≡ number e.cause = cc in
          let y : p ≡ e.place = cc in
          let z : j ≡ e.argument = cc in
          f ∙ rw (x, y, z) refl
      go (complete L st) f h = impossible (cc)

  -- it was accepted, with the length of the list and of the image
  pub record Lengths (n m : ℕ) : Type 0 where
    pub admitted : Admitted c bodies l m
    pub long : n ≡ length_of_list admitted.placed

  pub was_accepted : {q : Result Measured Refusal} {v : Measured} → found q ≡ measured c (scan c bodies l) → q ≡ Ok v → Lengths v.length v.image
  was_accepted {q} {v} e g = go (scan c bodies l) refl (ap found (sym g) ∙ e)
    where
      go : (q : Scan c.State) → scan c bodies l ≡ q → F.accepted v.length v.image ≡ measured c q → Lengths v.length v.image
      go (stopped r at j) f h = impossible (cc)
      go (complete L st) f h = record { admitted = record { placed = L; last = st; scanned = f; whole = cc }; long = cc }

pub refused_right : {x : Outcome} (out : List ℕ) {e : Refusal} → x ≡ refused (number e.cause) e.place e.argument → Right x out (Err e) out
refused_right out e = record { answer = rw e; buffer = rw e }

-- ---- the writer

module _ (c : Convention) (list out : List ℕ) where
  pub write-refused : {m : Result Measured Refusal} {e : Refusal} → found m ≡ measured c (scan c true list) → m ≡ Err e
      → Right (write_into c list (length out)) out (Err e) out
  write-refused i g = refused_right out (rw (was_refused c true list i g))

  module _ {n m : ℕ} (found : Lengths c true list n m) where
    abbrev L : List Placed
    L = found.admitted.placed

    long : length (image m L list) ≡ m
    long = image-length m L list

    pub write_short : length out < m → Right (write_into c list (length out)) out (Err (record { cause = C.BufferTooShort; place = 0; argument = 0 })) out
    write_short h =
        let f = found.admitted in
        record { answer = rw (f.scanned, ← f.whole, long, lt-ltb (length out) m h); buffer = rw (f.scanned, ← f.whole, long, lt-ltb (length out) m h) }

    pub write_done : {o : List ℕ} → m ≤ length out → o ≡ image m (placed_in (scan c true list)) list ++ drop m out
        → Right (write_into c list (length out)) out (Ok m) o
    write_done h e =
        let f = found.admitted in
        record {
          answer = rw (f.scanned, ← f.whole, long, le-ltb (length out) m h, long);
          buffer = e ∙ rw (f.scanned, ← f.whole, long, le-ltb (length out) m h, long);
        }

-- ---- an image under an accepted signature: 6, 7, 8, or x

-- a call that answers x where the checks of the image pass; x has n bytes where the image has its length, m
pub record Delivers (c : Convention) (sig img out x : List ℕ) (n m : ℕ) (into : Outcome) : Type 0 where
  pub admitted : Admitted c false sig m
  pub long : length img ≡ m → length x ≡ n
  pub is : into ≡ check_image c (check_room 7 (length out)) img admitted.placed admitted.last x

module _ {c : Convention} {sig img out x : List ℕ} {n m : ℕ} {into : Outcome} (w : Delivers c sig img out x n m into) where
  abbrev whole : ℕ
  whole = c.image_length w.admitted.last

  pub image-wrong : (length img ≡ m → ⊥) → Right into out (Err (record { cause = C.ImageLength; place = 0; argument = 0 })) out
  image-wrong h =
      let k : eqb (length img) whole ≡ false = ne_eqb (length img) whole (λ e. h (e ∙ sym w.admitted.whole)) in
      record { answer = rw (w.is, k); buffer = rw (w.is, k) }

  module _ (same : length img ≡ m) where
    right_length : eqb (length img) whole ≡ true
    right_length = eq-eqb (length img) whole (same ∙ w.admitted.whole)

    pub image_admitted : Admitted c false sig (length img)
    image_admitted = rw same w.admitted

    pub image_short : length out < n → Right into out (Err (record { cause = C.BufferTooShort; place = 0; argument = 0 })) out
    image_short h =
        let k : ltb (length out) (length x) ≡ true = lt-ltb (length out) (length x) (omega (arith, w.long same)) in
        record { answer = rw (w.is, right_length, k); buffer = rw (w.is, right_length, k) }

    module _ (h : n ≤ length out) where
      pub image-room : length x ≤ length out
      image-room = omega (arith, w.long same)

      -- q is what the last pass found, o what it left in the buffer
      module _ (q : Result (Unit {0}) Improper) {o : List ℕ} (i : (y : Outcome) → verdict q y ≡ checked 8 0 (placed_in (scan c false sig)) img y)
          (b : o ≡ buffer_of (checked 8 0 (placed_in (scan c false sig)) img (done x)) out) where
        reached : checked 8 0 (placed_in (scan c false sig)) img (done x) ≡ into
        reached =
            let k : ltb (length out) (length x) ≡ false = le-ltb (length out) (length x) image-room in
            rw (w.is, w.admitted.scanned, right_length, k)

        answered : verdict q (done x) ≡ into
        answered = i (done x) ∙ reached

        kept : o ≡ buffer_of into out
        kept = b ∙ ap (λ (y : Outcome). buffer_of y out) reached

        pub image_improper : {i : Improper} → q ≡ Err i → Right into out (Err (record { cause = C.Unpromoted; place = i.place; argument = i.argument })) o
        image_improper {i} e =
            let z : refused 8 i.place i.argument ≡ verdict q (done x) = rw e in
            record { answer = ap answer_of (z ∙ answered); buffer = kept }

        pub image_done : q ≡ Ok tt → Right into out (Ok n) o
        image_done e =
            let z : into ≡ done x = sym answered ∙ rw e in
            record { answer = rw (z, w.long same) refl; buffer = kept }

-- ---- the reader

module _ {c : Convention} (given : Premises c) (sig img out : List ℕ) where
  pub read-refused : {m : Result Measured Refusal} {e : Refusal} → found m ≡ measured c (scan c false sig) → m ≡ Err e
      → Right (read_into c sig img (length out)) out (Err e) out
  read-refused i g = refused_right out (rw (was_refused c false sig i g))

  pub read_delivers : {n m : ℕ} → Lengths c false sig n m → Delivers c sig img out (reading (placed_in (scan c false sig)) img) n m (read_into c sig img (length out))
  read_delivers found =
      let a = found.admitted in
      record {
        admitted = a;
        long = λ e. rw a.scanned (reading_length a.placed img (walk_sized c given.laws (walk_of c given.laws sig c.start a.placed a.last 0 a.scanned)) ∙ sym found.long);
        is = rw a.scanned;
      }
