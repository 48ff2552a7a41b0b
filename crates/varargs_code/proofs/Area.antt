-- The walk over an accepted signature stays in the area of its images.
-- Assumes nothing.
use mathlib.Core.Path.{◌≡◌, refl, subst}
use mathlib.Core.List.{List, ◌∷◌}
use mathlib.Core.Bool.{Bool, true, false}
use Prim.Native.Nat.{ℕ, ◌≤◌}
use native.Mathlib.Omega.{arith}
use Rattle.device.specs.declared.Device.{Device}
use Rattle.kinds.specs.declared.Class.TheVariants.{Marker}
use Rattle.kinds.specs.Kinds.{kind_of, is}
use Rattle.o32_offsets.specs.Offsets.{lay}
use Rattle.carried.specs.Image.{Placed}
use Rattle.carried.specs.Convention.{complete, scan}
use Rattle.carried.proofs.Walks.{Walk, end, one, walk_of}
use Rattle.o32.specs.declared.State.{State}
use Rattle.o32.specs.O32.{O32, start}
use Rattle.o32_laws.proofs.Laws.{O32-laws}
use Rattle.varargs.specs.Walking.{before, after, marked}
use Rattle.varargs.proofs.Marker.{AfterMarker, argument_end, argument_leads, not_again, rises, ends_later, after-marker_of}
use Rattle.varargs_code.specs.Starts.{Within}

module _ (d : Device) {limit : ℕ} where
  -- before the marker,
  before_within : {st last : State} {ks : List ℕ} {L : List Placed} → Walk (O32 d) (O32-laws d) st ks L last → last.end ≤ limit → Within limit st.end (before ks)
  before_within end h = h
  before_within (one {st = st} {st' = st'} {last = last} {k = k} {ks = ks} {L = L} e f w) h = go (omega (arith, rises d st k e, ends_later d w)) (before_within w h) (is Marker (kind_of k)) refl
    where
      go : st.end ≤ last.end → Within limit st'.end (before ks) → (t : Bool) → is Marker (kind_of k) ≡ t → Within limit st.end (before (k ∷ ks))
      go g rest true m = rw m (omega arith)
      go g rest false m = rw m (omega arith, subst (λ (o : ℕ). Within limit o (before ks)) (argument_end d st k e m) rest)

  -- and after it
  kinds_within : {st last : State} {ks : List ℕ} {L : List Placed} → Walk (O32 d) (O32-laws d) st ks L last → last.end ≤ limit → AfterMarker st → Within limit st.end ks
  kinds_within end h a = h
  kinds_within (one {st = st} {k = k} {ks = ks} e f w) h a =
      let m : is Marker (kind_of k) ≡ false = not_again d st k e a in
      (omega (arith, rises d st k e, ends_later d w), subst (λ (o : ℕ). Within limit o ks) (argument_end d st k e m) (kinds_within w h (argument_leads d st k e m a)))

  module _ (sig : List ℕ) {L : List Placed} {last : State} (ok : scan (O32 d) false sig ≡ complete L last) (h : last.end ≤ limit) where
    pub signature-before : Within limit 0 (before sig)
    signature-before = before_within (walk_of (O32 d) (O32-laws d) sig start L last 0 ok) h

    pub signature-after : marked sig ≡ true → Within limit (lay 0 (before sig)).end (after false sig)
    signature-after m =
        let r = after-marker_of d sig ok m in
        subst (λ (o : ℕ). Within limit o (after false sig)) r.ends (kinds_within r.walk h r.after-marker)
