-- What a routine takes is what the reader gives: at each kind after the marker of an accepted signature, and so for all of them.
-- Assumes nothing.
use mathlib.Core.Path.{◌≡◌, refl, sym, ap, ap₂, ◌∙◌}
use mathlib.Core.Logic.{inr}
use mathlib.Core.List.{List, [], ◌∷◌, ◌++◌}
use mathlib.Core.Bool.{Bool, true, false, cond}
use Prim.Native.Nat.{ℕ, zero, suc, ◌+◌, ◌≤◌}
use native.Mathlib.Omega.{arith}
use lib.ListN.{length, length-append}
use Rattle.words.specs.Words.{body}
use Rattle.device.specs.declared.Device.{Device}
use Rattle.device.specs.declared.Device.TheVariants.{Fpu, NoFpu}
use Rattle.kinds.specs.declared.Class.TheVariants.{Marker, Float}
use Rattle.kinds.specs.declared.Kind.{Kind}
use Rattle.kinds.specs.Kinds.{kind_of, is}
use Rattle.o32_offsets.specs.Offsets.{offset, width}
use Rattle.o32_offsets.proofs.Offsets.{up-ge}
use Rattle.carried.specs.Image.{Placed, reading}
use Rattle.carried.specs.Convention.{next, complete, scan}
use Rattle.carried.proofs.Walks.{Walk, end, one, walk_grows}
use Rattle.o32.specs.declared.State.{State}
use Rattle.o32.specs.declared.Placement.{Placement}
use Rattle.o32.specs.O32.{O32, float_register, register, start, image_size}
use Rattle.o32_laws.proofs.Laws.{O32-laws}
use Rattle.o32_laws.proofs.Carrying.{late_register}
use Rattle.o32_laws.proofs.Bounds.{scan_bound}
use Rattle.varargs.specs.Walking.{spilled, bytes_at, walk_from, after, walked, marked}
use Rattle.varargs.specs.Varargs.{bodies_from, bodies_after, body_bytes}
use Rattle.varargs.proofs.Memory.{spilled_part}
use Rattle.varargs.proofs.Marker.{AfterMarker, body_of, is-stepped, body_long, record_inside, argument_end, argument-room, argument_leads, not_again, Rest, after-marker_of}

-- a body, and what comes after it
bodies_pass : (b l : List ℕ) (n : ℕ) → length b ≡ n → bodies_from n (b ++ l) ≡ b ++ bodies_from 0 l
bodies_pass [] l zero e = refl
bodies_pass [] l (suc n) e = absurd (omega arith)
bodies_pass (x ∷ b) l zero e = absurd (omega arith)
bodies_pass (x ∷ b) l (suc n) e = ap (λ (r : List ℕ). x ∷ r) (bodies_pass b l n (omega arith))

-- after a marker no float has a floating register,
no_register : (d : Device) (st : State) (k : Kind) → AfterMarker st → register d st k ≡ 0
no_register d st k h = go (is Float k)
  where
    none : (e : Device) → float_register e st ≡ 0
    none NoFpu = refl
    none Fpu = late_register st (inr (h.some, h.marked_state))

    go : (t : Bool) → cond t (float_register d st) 0 ≡ 0
    go true = none d
    go false = refl

-- so the routine takes from its memory what the image carries
argument_taken : (d : Device) (st : State) (k : ℕ) {j : ℕ} {p : Placement} {st' : State} → (O32 d).step st k ≡ next j p st' → (img : List ℕ) → image_size st'.end ≤ length img → AfterMarker st
    → body_of p img ≡ bytes_at (kind_of k) st.end (spilled img)
argument_taken d st k {st' = st'} e img h a =
    let z : register d st (kind_of k) ≡ 0 = no_register d st (kind_of k) a in
    rw ((is-stepped d st k e).at, z)
    (ap (body (kind_of k).size) (spilled_part img (omega arith) (width (kind_of k)) (offset (kind_of k) st.end) (omega (arith, record_inside d st k e, up-ge 8 st'.end (omega arith)))))

-- ---- the kinds after the marker

module _ (d : Device) (img : List ℕ) where
  -- what is taken is the bodies of the reading,
  walk_bodies : {st last : State} {ks : List ℕ} {L : List Placed} → Walk (O32 d) (O32-laws d) st ks L last → length img ≡ image_size last.end → AfterMarker st
      → bodies_from 0 (reading L img) ≡ walk_from (spilled img) st.end ks
  walk_bodies end h a = refl
  walk_bodies (one {st = st} {k = k} {p = p} {ks = ks} {L = L} e f w) h a =
      let m : is Marker (kind_of k) ≡ false = not_again d st k e a in
      bodies_pass (body_of p img) (reading L img) (kind_of k).size (body_long d st k e img)
      ∙ ap₂ (λ (x y : List ℕ). x ++ y) (argument_taken d st k e img (omega (arith, walk_grows (O32 d) (O32-laws d) w)) a)
      (walk_bodies w h (argument_leads d st k e m a) ∙ ap (λ (o : ℕ). walk_from (spilled img) o ks) (argument_end d st k e m))

  -- these have as many bytes as the kinds say,
  bodies_long : {st last : State} {ks : List ℕ} {L : List Placed} → Walk (O32 d) (O32-laws d) st ks L last → length (bodies_from 0 (reading L img)) ≡ body_bytes ks
  bodies_long end = refl
  bodies_long (one {st = st} {k = k} {p = p} {L = L} e f w) =
      let b : List ℕ = body_of p img in
      ap length (bodies_pass b (reading L img) (kind_of k).size (body_long d st k e img))
      ∙ omega (arith, length-append b (bodies_from 0 (reading L img)), body_long d st k e img, bodies_long w)

-- and not more than the area has for them
bodies_within : (d : Device) {st last : State} {ks : List ℕ} {L : List Placed} → Walk (O32 d) (O32-laws d) st ks L last → AfterMarker st → st.end + body_bytes ks ≤ last.end
bodies_within d end a = omega arith
bodies_within d (one {st = st} {k = k} e f w) a =
    let m : is Marker (kind_of k) ≡ false = not_again d st k e a in
    omega (arith, bodies_within d w (argument_leads d st k e m a), argument_end d st k e m, argument-room d st k e m)

-- ---- a whole signature

module _ (d : Device) (sig : List ℕ) {L : List Placed} {last : State} (ok : scan (O32 d) false sig ≡ complete L last) (m : marked sig ≡ true) where
  rest : Rest d start sig L last
  rest = after-marker_of d sig ok m

  -- What is taken from an image is the bodies of its reading after the marker;
  pub walked-is : (img : List ℕ) → length img ≡ image_size last.end → walked sig img ≡ bodies_after (reading L img)
  walked-is img h =
      ap (λ (o : ℕ). walk_from (spilled img) o (after false sig)) (sym rest.ends)
      ∙ sym (walk_bodies d img rest.walk h rest.after-marker)
      ∙ ap (bodies_from 0) (sym (rest.reads img))

  pub bodies_after_long : (img : List ℕ) → length (bodies_after (reading L img)) ≡ body_bytes (after false sig)
  bodies_after_long img = ap (λ (x : List ℕ). length (bodies_from 0 x)) (rest.reads img) ∙ bodies_long d img rest.walk

  pub walked_long : (img : List ℕ) → length img ≡ image_size last.end → length (walked sig img) ≡ body_bytes (after false sig)
  walked_long img h = ap length (walked-is img h) ∙ bodies_after_long img

  -- and they are the most where one word stands before the marker, and after it no byte is lost.
  pub bodies_most : body_bytes (after false sig) ≤ 1020
  bodies_most =
      omega (arith, bodies_within d rest.walk rest.after-marker, (scan_bound d false sig L last ok).fits, rest.words_each (omega arith), rest.after-marker.some)
