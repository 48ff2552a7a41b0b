-- The place and the length of every answer with a buffer are at most 1,057, and its argument's number is at most 33; a structure has a
-- place up to 39,954, a size up to 512 and an alignment up to 8. So all are 32-bit numbers, and C gets the answer itself.
-- Assumes nothing.
use mathlib.Core.Path.{◌≡◌, refl, ap, ◌∙◌}
use mathlib.Core.List.{List, [], ◌∷◌}
use mathlib.Core.Bool.{Bool, true, false, cond}
use Prim.Native.Nat.{ℕ, suc, ◌+◌, ◌≤◌}
use native.Mathlib.Omega.{arith}
use lib.ListN.{length, length-append}
use lib.Dec.{eqb, ltb}
use borrow.Author.Tests.{eqb-true}
use Rattle.words.specs.Words.{body, proper, same}
use Rattle.device.specs.declared.Device.{Device}
use Rattle.answers.specs.declared.Answer.{Answer}
use Rattle.answers.specs.Outcomes.{Outcome, done, refused, check_room, answer_of, buffer_of}
use Rattle.carried.specs.Image.{checked, image, reading, Placed}
use Rattle.places.specs.Places.{gather}
use Rattle.carried.specs.Convention.{Scan, stopped, complete, resolve, scan, write_scan, check_image, read_scan, write_into, read_into}
use Rattle.carried.proofs.Readings.{image-length}
use Rattle.o32.specs.declared.State.{State}
use Rattle.o32.specs.O32.{O32, image_size}
use Rattle.o32_laws.proofs.Bounds.{Numbers, refusal_bound, scan_bound, reading_long}
use Rattle.varargs.specs.Walking.{walked, marked, walk_scan, walk_into}
use Rattle.varargs.proofs.Bodies.{walked_long, bodies_most}
use Rattle.carried.specs.Carried.{kinds}
use Rattle.plans.specs.Plans.{plan_of, numbers, make_into, fill_into, signature_into}
use Rattle.plans.proofs.Entries.{entries_long, kinds_few, numbers_long}
use Rattle.frame.specs.declared.Request.{Request}
use Rattle.frame.specs.Words.{prologue_words, epilogue_words}
use Rattle.frame_code.specs.Code.{code_into, prologue_into, epilogue_into}
use Rattle.descriptions.specs.Structures.{Structure}
use Rattle.descriptions.specs.Describing.{described}
use Rattle.descriptions.specs.Descriptions.{place_most}
use Rattle.descriptions.proofs.Places.{place_bound, small_numbers}
use Rattle.capi.specs.declared.O32Answer.{O32Answer}
use Rattle.capi.specs.Numbers.{narrow}
use Rattle.frame_code.proofs.Longest.{code_place_zero, longest}

-- of an answer as the code hands it on, and as the definitions give it
abbrev Fits : Answer → Type 0
Fits a = (a.place ≤ 1057) × (a.argument ≤ 33) × (a.length ≤ 1057)

abbrev Bounded : Outcome → Type 0
Bounded (refused r at j) = (at ≤ 1057) × (j ≤ 33)
Bounded (done x) = length x ≤ 1057

fits : {a : Answer} (x : Outcome) → Bounded x → a ≡ answer_of x → Fits a
fits (refused r at j) h e = rw e (h.0, h.1, omega arith)
fits (done x) h e = rw e (omega arith, omega arith, h)

-- a refusal at place 0, of no argument
nowhere : (0 ≤ 1057) × (0 ≤ 33)
nowhere = (omega arith, omega arith)

room_bounded : (number room n : ℕ) (x : Outcome) → Bounded x → Bounded (check_room number room n x)
room_bounded number room n x h = go (ltb room n)
  where
    go : (t : Bool) → Bounded (cond t (refused number 0 0) x)
    go true = nowhere
    go false = h

-- ---- the writer

write_bounded : (d : Device) (list : List ℕ) (room : ℕ) (q : Scan State) → scan (O32 d) true list ≡ q → Bounded (write_scan (O32 d) (check_room 7 room) list q)
write_bounded d list room (stopped r at j) e = refusal_bound d true list r at j e
write_bounded d list room (complete L last) e =
    let x : List ℕ = image (image_size last.end) L list in
    room_bounded 7 room (length x) (done x) (omega (arith, image-length (image_size last.end) L list, (scan_bound d true list L last e).fits))

pub write_fits : {a : Answer} (d : Device) (list : List ℕ) (room : ℕ) → a ≡ answer_of (write_into (O32 d) list room) → Fits a
write_fits d list room e = fits (write_into (O32 d) list room) (write_bounded d list room (scan (O32 d) true list) refl) e

-- ---- the reader

-- refusal 8 counts kinds, and a reading has a byte for each
checked_bounded : (L : List Placed) (img : List ℕ) (at : ℕ) (x : Outcome) → at + length (reading L img) ≤ 1057 → Numbers L → Bounded x → Bounded (checked 8 at L img x)
checked_bounded [] img at x h n b = b
checked_bounded (s ∷ L) img at x h n b =
    go (proper s.extension s.size (gather img s.carriers))
    (checked_bounded L img (suc at) x (omega (arith, length-append (body s.size (gather img s.carriers)) (reading L img))) n.1 b)
  where
    go : (t : Bool) → Bounded (checked 8 (suc at) L img x) → Bounded (cond t (checked 8 (suc at) L img x) (refused 8 at s.argument))
    go true w = w
    go false w = (omega arith, n.0)

-- what is answered for an image, where it has its length
image_bounded : (d : Device) (sig img : List ℕ) (room : ℕ) (L : List Placed) (last : State) (x : List ℕ) → scan (O32 d) false sig ≡ complete L last
    → (length img ≡ image_size last.end → length x ≤ 1057) → Bounded (check_image (O32 d) (check_room 7 room) img L last x)
image_bounded d sig img room L last x e h = go (eqb (length img) (image_size last.end)) refl
  where
    go : (t : Bool) → eqb (length img) (image_size last.end) ≡ t → Bounded (cond t (check_room 7 room (length x) (checked 8 0 L img (done x))) (refused 6 0 0))
    go true f =
        let l : length (reading L img) ≤ 1057 = reading_long d sig img L last e in
        room_bounded 7 room (length x) (checked 8 0 L img (done x))
        (checked_bounded L img 0 (done x) (omega arith) (scan_bound d false sig L last e).numbers (h (eqb-true (length img) (image_size last.end) f)))
    go false f = nowhere

read_bounded : (d : Device) (sig img : List ℕ) (room : ℕ) (q : Scan State) → scan (O32 d) false sig ≡ q → Bounded (read_scan (O32 d) (check_room 7 room) img q)
read_bounded d sig img room (stopped r at j) e = refusal_bound d false sig r at j e
read_bounded d sig img room (complete L last) e = image_bounded d sig img room L last (reading L img) e (λ h. reading_long d sig img L last e)

pub read_fits : {a : Answer} (d : Device) (sig img : List ℕ) (room : ℕ) → a ≡ answer_of (read_into (O32 d) sig img room) → Fits a
read_fits d sig img room e = fits (read_into (O32 d) sig img room) (read_bounded d sig img room (scan (O32 d) false sig) refl) e

-- ---- the walker

walk_bounded : (d : Device) (sig img : List ℕ) (room : ℕ) (q : Scan State) → scan (O32 d) false sig ≡ q
    → Bounded (walk_scan d (check_room 7 room) sig img q)
walk_bounded d sig img room (stopped r at j) e = refusal_bound d false sig r at j e
walk_bounded d sig img room (complete L last) e = go (marked sig) refl
  where
    go : (t : Bool) → marked sig ≡ t → Bounded (cond t (check_image (O32 d) (check_room 7 room) img L last (walked sig img)) (refused 15 0 0))
    go true m = image_bounded d sig img room L last (walked sig img) e (λ h. omega (arith, walked_long d sig e m img h, bodies_most d sig e m))
    go false m = nowhere

pub walk_fits : {a : Answer} (d : Device) (sig img : List ℕ) (room : ℕ) → a ≡ answer_of (walk_into d sig img room) → Fits a
walk_fits d sig img room e = fits (walk_into d sig img room) (walk_bounded d sig img room (scan (O32 d) false sig) refl) e

-- ---- plans

make_bounded : (d : Device) (sig : List ℕ) (room : ℕ) → Bounded (make_into d sig room)
make_bounded d sig room = go (scan (O32 d) false sig) refl
  where
    go : (q : Scan State) → scan (O32 d) false sig ≡ q → Bounded (resolve q (λ L st. check_room 7 room (length (numbers (plan_of d (kinds L)))) (done (numbers (plan_of d (kinds L))))))
    go (stopped r at j) e = refusal_bound d false sig r at j e
    go (complete L last) e =
        let x : List ℕ = numbers (plan_of d (kinds L)) in
        room_bounded 7 room (length x) (done x) (omega (arith, numbers_long (plan_of d (kinds L)) (entries_long d false sig e)))

pub make_fits : {a : Answer} (d : Device) (sig : List ℕ) (room : ℕ) → a ≡ answer_of (make_into d sig room) → Fits a
make_fits d sig room e = fits (make_into d sig room) (make_bounded d sig room) e

fill_bounded : (d : Device) (given list : List ℕ) (room : ℕ) → Bounded (fill_into d given list room)
fill_bounded d given list room = go (scan (O32 d) true list) refl
  where
    either : (t : Bool) → Bounded (cond t (write_into (O32 d) list room) (refused 20 0 0))
    either true = write_bounded d list room (scan (O32 d) true list) refl
    either false = nowhere

    go : (q : Scan State) → scan (O32 d) true list ≡ q → Bounded (resolve q (λ L st. cond (same given (numbers (plan_of d (kinds L)))) (write_into (O32 d) list room) (refused 20 0 0)))
    go (stopped r at j) e = refusal_bound d true list r at j e
    go (complete L last) e = either (same given (numbers (plan_of d (kinds L))))

pub fill_fits : {a : Answer} (d : Device) (given list : List ℕ) (room : ℕ) → a ≡ answer_of (fill_into d given list room) → Fits a
fill_fits d given list room e = fits (fill_into d given list room) (fill_bounded d given list room) e

signature_bounded : (d : Device) (list : List ℕ) (room : ℕ) → Bounded (signature_into d list room)
signature_bounded d list room = go (scan (O32 d) true list) refl
  where
    go : (q : Scan State) → scan (O32 d) true list ≡ q → Bounded (resolve q (λ L st. check_room 7 room (length (kinds L)) (done (kinds L))))
    go (stopped r at j) e = refusal_bound d true list r at j e
    go (complete L last) e = room_bounded 7 room (length (kinds L)) (done (kinds L)) (omega (arith, kinds_few d true list e))

pub signature_fits : {a : Answer} (d : Device) (list : List ℕ) (room : ℕ) → a ≡ answer_of (signature_into d list room) → Fits a
signature_fits d list room e = fits (signature_into d list room) (signature_bounded d list room) e

-- ---- the code of a frame

code_fits : {a : Answer} (d : Device) (r : Request) (ws : List ℕ) (room : ℕ) → (answer_of (code_into d r ws room)).length ≤ 1057 → a ≡ answer_of (code_into d r ws room) → Fits a
code_fits d r ws room h e = let z = code_place_zero d r ws room in rw e (omega (arith, z.0), omega (arith, z.1), h)

pub prologue_fits : {a : Answer} (d : Device) (r : Request) (room : ℕ) → a ≡ answer_of (prologue_into d r room) → Fits a
prologue_fits d r room e = code_fits d r (prologue_words r) room (omega (arith, longest.prologue.bound d r room)) e

pub epilogue_fits : {a : Answer} (d : Device) (r : Request) (room : ℕ) → a ≡ answer_of (epilogue_into d r room) → Fits a
epilogue_fits d r room e = code_fits d r (epilogue_words r) room (omega (arith, longest.epilogue.bound d r room)) e

-- ---- a structure

pub structure_fits : {x : Structure} (bytes : List ℕ) → x ≡ described bytes → (x.place ≤ place_most) × (x.size ≤ 512) × (x.alignment ≤ 8)
structure_fits bytes e = rw e (place_bound bytes, (small_numbers bytes).0, (small_numbers bytes).1)

-- ---- what C gets, and what stands in its buffer, where the function was called with what C's numbers say

pub handed : {A : Type 0} (into : A → Outcome) (buf : List ℕ) {x y : A} {a : Answer} {r : O32Answer} {o : List ℕ} → x ≡ y → r ≡ narrow a
    → a ≡ answer_of (into x) → o ≡ buffer_of (into x) buf → (r ≡ narrow (answer_of (into y))) × (o ≡ buffer_of (into y) buf)
handed {A} into buf e f g h = (f ∙ ap narrow (g ∙ ap (λ (x : A). answer_of (into x)) e), h ∙ ap (λ (x : A). buffer_of (into x) buf) e)
