-- A record's answer, and what it says of the step, on every device.
-- Assumes nothing.
use mathlib.Core.Path.{◌≡◌, refl, sym, ◌∙◌}
use mathlib.Core.Bool.{Bool}
use Prim.Native.Nat.{ℕ}
use Rattle.device.specs.declared.Device.{Device}
use Rattle.kinds.specs.declared.Kind.{Kind}
use Rattle.carried.specs.Convention.{Step, refuse, next, taken}
use Rattle.o32.specs.declared.State.{State}
use Rattle.o32.specs.declared.Placement.{Placement}
use Rattle.o32.specs.O32.{O32}
use Rattle.o32_step.specs.Recorded.{Recorded}
use Rattle.o32_step.specs.Recorded as R
use Rattle.o32_step.specs.Records.{record_of}
use Rattle.words.proofs.Impossible.{impossible}

module _ (d : Device) (bodies : Bool) (left : ℕ) (st : State) (k : ℕ) {t : Recorded} (e : t ≡ record_of (taken (O32 d) bodies left st k)) where
  pub was_refused : {r j : ℕ} → t ≡ R.refused r j → taken (O32 d) bodies left st k ≡ refuse r j
  was_refused {r} {j} g = go (taken (O32 d) bodies left st k) refl (sym e ∙ g)
    where
      go : (s : Step Placement State) → taken (O32 d) bodies left st k ≡ s → record_of s ≡ R.refused r j → taken (O32 d) bodies left st k ≡ refuse r j
      go (refuse r' j') f h =
          let x : r' ≡ r = cc in
          let y : j' ≡ j = cc in
          f ∙ rw (x, y) refl
      go (next j' p st') f h = impossible (cc)

  -- the placement that it has, and its kind
  pub record Taken (j : ℕ) (kd : Kind) (st' : State) : Type 0 where
    pub place : Placement
    pub whole : taken (O32 d) bodies left st k ≡ next j place st'
    pub kind : place.kind ≡ kd

  pub was_taken : {j : ℕ} {kd : Kind} {st' : State} → t ≡ R.taken j kd st' → Taken j kd st'
  was_taken {j} {kd} {st'} g = go (taken (O32 d) bodies left st k) refl (sym e ∙ g)
    where
      go : (s : Step Placement State) → taken (O32 d) bodies left st k ≡ s → record_of s ≡ R.taken j kd st' → Taken j kd st'
      go (refuse r j') f h = impossible (cc)
      go (next j' p st'') f h =
          let x : j' ≡ j = cc in
          let y : p.kind ≡ kd = cc in
          let z : st'' ≡ st' = cc in
          record { place = p; whole = f ∙ rw (x, z) refl; kind = y }
