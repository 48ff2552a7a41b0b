-- The writer and the reader with a buffer give bytes exactly where those of the theorem give them and they fit; and what is then in
-- the buffer.
-- Assumes nothing.
use mathlib.Core.Path.{◌≡◌, refl, sym, ap, subst}
use mathlib.Core.Logic.{◌⊎◌, ◌↔◌, inl, inr}
use mathlib.Core.List.{List, [], ◌∷◌}
use mathlib.Core.Bool.{Bool, true, false, cond}
use Prim.Native.Nat.{ℕ, suc, ◌≤◌}
use native.Mathlib.Omega.{arith}
use lib.ListN.{length, drop}
use lib.Seq.{take-append_seam}
use lib.Dec.{eqb, ltb}
use borrow.Author.Tests.{le-ltb, ltb-true, ltb-false}
use Rattle.words.specs.Words.{proper}
use Rattle.answers.specs.Outcomes.{Outcome, done, refused, check_room, answer_of, buffer_of}
use Rattle.carried.specs.Image.{checked, image, reading, Placed}
use Rattle.places.specs.Places.{gather}
use Rattle.carried.specs.Convention.{Convention, Scan, stopped, complete, scan, write_scan, read_scan, write, read, write_into, read_into}
use Rattle.carried.proofs.Readings.{done_inj, Passed, checked_passes}
use Rattle.carried.specs.Calls.{PastSignature, output, result_of}
use Rattle.words.proofs.Impossible.{impossible}

-- what refusal 8 lets pass is the answer itself
passes : (L : List Placed) (img : List ℕ) (at : ℕ) (y x : List ℕ) → checked 8 at L img (done y) ≡ done x → y ≡ x
passes L img at y x e = (subst (λ (a : Outcome). Passed L img a y) e (checked_passes L img y at)).1

module _ (c : Convention) where
  pub written_is : (list x : List ℕ) (room : ℕ) → (write_into c list room ≡ done x) ↔ ((write c list ≡ done x) × (length x ≤ room))
  written_is list x room = go (scan c true list)
    where
      go : (q : Scan c.State) → (write_scan c (check_room 7 room) list q ≡ done x) ↔ ((write_scan c (λ n x. x) list q ≡ done x) × (length x ≤ room))
      go (stopped r at j) = ((λ e. impossible (cc)), λ h. h.0)
      go (complete L st) = tests (image (c.image_length st) L list)
        where
          fits : (y : List ℕ) (t : Bool) → ltb room (length y) ≡ t → cond t (refused 7 0 0) (done y) ≡ done x → (done y ≡ done x) × (length x ≤ room)
          fits y true f e = impossible (cc)
          fits y false f e = let g : y ≡ x = cc in (e, rw (← g) (ltb-false room (length y) f))

          tests : (y : List ℕ) → (check_room 7 room (length y) (done y) ≡ done x) ↔ ((done y ≡ done x) × (length x ≤ room))
          tests y = (
            (λ e. fits y (ltb room (length y)) refl e),
            λ h. let g : y ≡ x = done_inj h.0 in rw (g, le-ltb room (length x) h.1),
          )

  -- where there is room for the image, the writer with a buffer answers as the one without
  pub write_roomy : (list : List ℕ) (room : ℕ) → ((x : List ℕ) → write c list ≡ done x → length x ≤ room) → write_into c list room ≡ write c list
  write_roomy list room h = go (scan c true list) refl
    where
      go : (q : Scan c.State) → scan c true list ≡ q → write_scan c (check_room 7 room) list q ≡ write_scan c (λ n x. x) list q
      go (stopped r at j) e = refl
      go (complete L st) e =
          let x : List ℕ = image (c.image_length st) L list in
          rw (le-ltb room (length x) (h x (rw e refl)))

  pub read_is : (sig img x : List ℕ) (room : ℕ) → (read_into c sig img room ≡ done x) ↔ ((read c sig img ≡ done x) × (length x ≤ room))
  read_is sig img x room = go (scan c false sig)
    where
      go : (q : Scan c.State) → (read_scan c (check_room 7 room) img q ≡ done x) ↔ ((read_scan c (λ n x. x) img q ≡ done x) × (length x ≤ room))
      go (stopped r at j) = ((λ e. impossible (cc)), λ h. h.0)
      go (complete L st) = tests (eqb (length img) (c.image_length st)) (ltb room (length (reading L img))) refl
        where
          tests : (t u : Bool) → ltb room (length (reading L img)) ≡ u
              → (cond t (cond u (refused 7 0 0) (checked 8 0 L img (done (reading L img)))) (refused 6 0 0) ≡ done x)
              ↔ ((cond t (checked 8 0 L img (done (reading L img))) (refused 6 0 0) ≡ done x) × (length x ≤ room))
          tests false u f = ((λ e. impossible (cc)), λ h. h.0)
          tests true true f = (
            (λ e. impossible (cc)),
            λ h.
                let i : reading L img ≡ x = passes L img 0 (reading L img) x h.0 in
                absurd (omega (arith, ltb-true room (length (reading L img)) f, ap length i, h.1)),
          )
          tests true false f = (
            (λ e.
                let i : reading L img ≡ x = passes L img 0 (reading L img) x e in
                (e, omega (arith, ltb-false room (length (reading L img)) f, ap length i))),
            λ h. h.0,
          )

-- ---- what a caller sees

-- what a call with this outcome has put into its buffer
abbrev pub output_of : Outcome → List ℕ → List ℕ
output_of x out = output (result_of (answer_of x) (buffer_of x out))

pub output_done : (x out : List ℕ) (a : Outcome) → a ≡ done x → ((answer_of a).refusal ≡ 0) × (output_of a out ≡ x)
output_done x out a e = rw e (refl, take-append_seam x (drop (length x) out))

pub answered-length : (x : List ℕ) (a : Outcome) → a ≡ done x → (answer_of a).length ≡ length x
answered-length x a e = ap (λ (y : Outcome). (answer_of y).length) e

-- no refusal is 0
abbrev pub Numbered : Outcome → Type 0
Numbered (refused r at j) = 1 ≤ r
Numbered (done x) = Unit {0}

pub accepted_done : (out : List ℕ) (a : Outcome) → Numbered a → (answer_of a).refusal ≡ 0 → a ≡ done (output_of a out)
accepted_done out (refused r at j) h e = absurd (omega arith)
accepted_done out (done x) h e = ap done (sym (take-append_seam x (drop (length x) out)))

-- ---- the numbers of the reader's answers

-- after the signature's refusals: 6, 7, 8, or success
abbrev Late : Outcome → Type 0
Late (refused r at j) = (r ≡ 6) ⊎ (r ≡ 7) ⊎ (r ≡ 8)
Late (done x) = Unit {0}

-- what holds of two outcomes holds of the one that a test chooses
pub of_either : (P : Outcome → Type 0) (t : Bool) {a b : Outcome} → P a → P b → P (cond t a b)
of_either P true h w = h
of_either P false h w = w

checked_late : (L : List Placed) (img : List ℕ) (at : ℕ) (x : List ℕ) → Late (checked 8 at L img (done x))
checked_late [] img at x = tt
checked_late (s ∷ L) img at x =
    of_either Late (proper s.extension s.size (gather img s.carriers)) (checked_late L img (suc at) x) (inr (inr refl))

module _ (c : Convention) (img : List ℕ) (room : ℕ) where
  read_late : (L : List Placed) (st : c.State) → Late (read_scan c (check_room 7 room) img (complete L st))
  read_late L st =
      of_either Late (eqb (length img) (c.image_length st)) (of_either Late (ltb room (length (reading L img))) (inr (inl refl)) (checked_late L img 0 (reading L img))) (inl refl)

  pub past_signature : (L : List Placed) (st : c.State) → PastSignature (answer_of (read_scan c (check_room 7 room) img (complete L st))).refusal
  past_signature L st = go (read_scan c (check_room 7 room) img (complete L st)) (read_late L st)
    where
      go : (a : Outcome) → Late a → PastSignature (answer_of a).refusal
      go (refused r at j) h = inr h
      go (done x) h = inl refl

  -- where no refusal by record is 0, none is
  pub read_numbered : (q : Scan c.State) → ((r at j : ℕ) → q ≡ stopped r at j → 1 ≤ r) → Numbered (read_scan c (check_room 7 room) img q)
  read_numbered (stopped r at j) h = h r at j refl
  read_numbered (complete L st) h = go (read_scan c (check_room 7 room) img (complete L st)) (read_late L st)
    where
      go : (a : Outcome) → Late a → Numbered a
      go (refused r at j) (inl e) = omega arith
      go (refused r at j) (inr (inl e)) = omega arith
      go (refused r at j) (inr (inr e)) = omega arith
      go (done x) h = tt
