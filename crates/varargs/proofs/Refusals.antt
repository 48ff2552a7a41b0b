-- The refusals of the walker with a buffer, exactly on their conditions, on every device; and so it answers alike on all of them.
-- Assumes nothing.
use mathlib.Core.Path.{◌≡◌, refl, sym, ap, ◌∙◌}
use mathlib.Core.Logic.Iff
use mathlib.Core.Logic.{◌↔◌}
use mathlib.Core.List.{List}
use mathlib.Core.Bool.{Bool, true, false, cond}
use Prim.Native.Nat.{ℕ, ◌≤◌}
use native.Mathlib.Omega.{arith}
use lib.Dec.{eqb, ltb}
use lib.ListN.{length}
use Rattle.words.proofs.Impossible.{impossible}
use Rattle.device.specs.declared.Device.{Device}
use Rattle.answers.specs.Outcomes.{Outcome, done, refused, answer_of, buffer_of, check_room}
use Rattle.carried.specs.Image.{Placed, checked}
use Rattle.carried.specs.Convention.{Scan, stopped, complete, scan, check_image}
use Rattle.carried.specs.Calls.{result_of}
use Rattle.carried.proofs.Readings.{Passed, checked_passes}
use Rattle.carried.proofs.CallRefusals.{image-refused, answer-refuses}
use Rattle.carried.proofs.Buffers.{of_either}
use Rattle.o32.specs.declared.State.{State}
use Rattle.o32.specs.O32.{O32, image_size}
use Rattle.o32_laws.specs.Refusing.{ImageRefuses}
use Rattle.o32_laws.proofs.Refusing.{by_record, accepted_scanned, refused_exactly}
use Rattle.o32_laws.proofs.Refusals.{keeps, accepts, image-refuses, image_numbered, signature_accepted}
use Rattle.varargs.specs.Walking.{after, walked, marked, walk_scan, walk_into}
use Rattle.varargs.specs.Varargs as W
use Rattle.varargs.specs.Varargs.{body_bytes, walker_of, WalkerRefuses, WalkerRefusals, SameOnDevices}
use Rattle.varargs.proofs.Bodies.{walked_long}

module _ (d : Device) (sig img : List ℕ) (room r place j : ℕ) where
  -- of the image, once the signature is accepted and has a marker
  exactly : (L : List Placed) (last : State) → scan (O32 d) false sig ≡ complete L last → marked sig ≡ true
      → (check_image (O32 d) (check_room 7 room) img L last (walked sig img) ≡ refused r place j) ↔ ImageRefuses sig img (body_bytes (after false sig)) room r place j
  exactly L last f m = Iff.trans
      (image-refused (O32 d) L last img (body_bytes (after false sig)) room r place j (walked sig img) (walked_long d sig f m img))
      (image-refuses d sig L last f img (body_bytes (after false sig)) room r place j)

  there : (q : Scan State) → scan (O32 d) false sig ≡ q → walk_scan d (check_room 7 room) sig img q ≡ refused r place j → WalkerRefuses sig img room r place j
  there (stopped r' place' j') f e =
      let x : r' ≡ r = cc in
      let y : place' ≡ place = cc in
      let z : j' ≡ j = cc in
      W.by_record ((refused_exactly d false sig r place j).0 (f ∙ rw (x, y, z) refl))
  there (complete L last) f e = go (marked sig) refl e
    where
      go : (t : Bool) → marked sig ≡ t → cond t (check_image (O32 d) (check_room 7 room) img L last (walked sig img)) (refused 15 0 0) ≡ refused r place j → WalkerRefuses sig img room r place j
      go true m g = W.by_image (signature_accepted d sig L last f) m ((exactly L last f m).0 g)
      go false m g = W.unmarked (signature_accepted d sig L last f) m (cc) (cc) (cc)

  back : WalkerRefuses sig img room r place j → walk_into d sig img room ≡ refused r place j
  back (W.by_record v) = rw ((refused_exactly d false sig r place j).1 v)
  back (W.unmarked v m x y z) = rw ((accepted_scanned d false sig sig v).scanned, m, x, y, z)
  back (W.by_image v m w) =
      let a = accepted_scanned d false sig sig v in
      rw (a.scanned, m) ((exactly a.placed a.last a.scanned m).1 w)

  walker_refuses : (walk_into d sig img room ≡ refused r place j) ↔ WalkerRefuses sig img room r place j
  walker_refuses = (there (scan (O32 d) false sig) refl, back)

module _ (d : Device) where
  numbered : {sig img : List ℕ} {room r place j : ℕ} → WalkerRefuses sig img room r place j → 1 ≤ r
  numbered (W.by_record v) = (by_record v.holds).0
  numbered (W.unmarked v m x y z) = omega arith
  numbered (W.by_image v m w) = image_numbered d w

  pub walker_refusals : WalkerRefusals (walker_of d)
  walker_refusals = record {
    refuses = λ sig img out r place j h.
        Iff.trans (answer-refuses (walk_into d sig img (length out)) r place j h) (walker_refuses d sig img (length out) r place j);
    accepts = λ sig img out.
        accepts d (walk_into d sig img (length out)) (λ r place j. WalkerRefuses sig img (length out) r place j) (walker_refuses d sig img (length out)) (λ r place j v. numbered v);
    keeps = λ sig img out. keeps (walk_into d sig img (length out)) (λ r place j e. numbered ((walker_refuses d sig img (length out) r place j).0 e)) out;
  }

-- ---- the devices

-- what is not refused is what the routine takes, which no device changes
abbrev Taken : List ℕ → Outcome → Type 0
Taken x (refused r place j) = Unit {0}
Taken x (done y) = y ≡ x

taken_checked : (x : List ℕ) (a : Outcome) (L : List Placed) (img : List ℕ) → Passed L img a x → Taken x a
taken_checked x (refused r place j) L img h = tt
taken_checked x (done y) L img h = sym h.1

taken : (d : Device) (sig img : List ℕ) (room : ℕ) → Taken (walked sig img) (walk_into d sig img room)
taken d sig img room = go (scan (O32 d) false sig)
  where
    go : (q : Scan State) → Taken (walked sig img) (walk_scan d (check_room 7 room) sig img q)
    go (stopped r place j) = tt
    go (complete L last) =
        let x : List ℕ = walked sig img in
        of_either (Taken x) (marked sig)
        (of_either (Taken x) (eqb (length img) (image_size last.end))
        (of_either (Taken x) (ltb room (length x)) tt (taken_checked x (checked 8 0 L img (done x)) L img (checked_passes L img x 0))) tt) tt

same_outcome : (d e : Device) (sig img : List ℕ) (room : ℕ) → walk_into d sig img room ≡ walk_into e sig img room
same_outcome d e sig img room = go (walk_into d sig img room) (walk_into e sig img room) refl refl (taken d sig img room) (taken e sig img room)
  where
    -- a refusal on one is a refusal on the other
    moved : (d e : Device) {r place j : ℕ} → walk_into d sig img room ≡ refused r place j → walk_into e sig img room ≡ refused r place j
    moved d e {r} {place} {j} f = (walker_refuses e sig img room r place j).1 ((walker_refuses d sig img room r place j).0 f)

    go : (a b : Outcome) → walk_into d sig img room ≡ a → walk_into e sig img room ≡ b → Taken (walked sig img) a → Taken (walked sig img) b → a ≡ b
    go (refused r place j) b f g t u = sym (moved d e f) ∙ g
    go (done y) (refused r place j) f g t u = impossible (cc (moved e d g))
    go (done y) (done z) f g t u = ap done (t ∙ sym u)

pub same_on_devices : SameOnDevices
same_on_devices d e sig img out = ap (λ (a : Outcome). result_of (answer_of a) (buffer_of a out)) (same_outcome d e sig img (length out))
