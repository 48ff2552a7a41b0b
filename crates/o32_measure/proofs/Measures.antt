-- The first walk at one record, on every device: what the record's answer says of the whole.
-- Assumes nothing.
use mathlib.Core.Path.{◌≡◌, ap, ◌∙◌}
use mathlib.Core.List.{List}
use mathlib.Core.Bool.{Bool}
use Prim.Native.Nat.{ℕ, ◌+◌, ◌-◌, ◌≤◌, ◌<◌}
use native.Mathlib.Omega.{arith}
use lib.ListN.{length, get_or}
use Rattle.device.specs.declared.Device.{Device}
use Rattle.device.specs.declared.Device.TheVariants.{Fpu}
use Rattle.kinds.specs.declared.Kind.{Kind}
use Rattle.carried.specs.Convention.{body_length, taken, scan}
use Rattle.passes.specs.declared.Measured.{Measured}
use Rattle.passes.specs.Found.{found}
use Rattle.passes.specs.Found as F
use Rattle.std.specs.Prelude.{Result}
use Rattle.answers.specs.declared.Refusal.{Refusal}
use Rattle.answers.specs.declared.Cause.{Cause}
use Rattle.o32_step.specs.Recorded.{recorded}
use Rattle.passes.specs.Passes.{measured}
use Rattle.passes.proofs.Walking.{Walking, walk_starts, walk_ends, walk_small, walk_refused, walk_size, walk_inside, walk_turn}
use Rattle.o32.specs.declared.State.{State}
use Rattle.o32.specs.O32.{O32, start, end_most, image_size}
use Rattle.rules.specs.Rules.{arguments_most}
use Rattle.o32_laws.proofs.Premises.{O32-premises}
use Rattle.o32_step.specs.declared.Record.{Record}
use Rattle.o32_step.specs.declared.Record.TheVariants as R
use Rattle.o32_step.specs.Records.{record_of}
use Rattle.o32_step.proofs.Taken.{Taken, was_refused, was_taken}
use Rattle.o32_measure.specs.Measured.{refused_at}

-- at this place and state, after records of n bytes, the walk has found what the whole has
abbrev pub Measuring : Bool → List ℕ → State → ℕ → ℕ → Type 0
Measuring bodies list st n at = (d : Device) → Walking (O32-premises d) bodies list st n at

pub measure_starts : (bodies : Bool) (list : List ℕ) (st : State) → st ≡ start → Measuring bodies list st 0 0
measure_starts bodies list st e d = walk_starts (O32-premises d) bodies list e

module _ (bodies : Bool) (list : List ℕ) (st : State) (n at : ℕ) (w : Measuring bodies list st n at) where
  pub measure_bounds : (n ≤ 4096) × (st.end ≤ end_most) × (st.prefix.count ≤ arguments_most)
  measure_bounds = (walk_small (w Fpu), (w Fpu).held.fits, (w Fpu).held.few)

  module _ (h : at < length list) (t : Record) (e : (d : Device) → recorded t ≡ record_of (taken (O32 d) bodies (length list - (at + 1)) st (get_or list at 0))) where
    pub measure_refused : (r : Cause) (j : ℕ) (m : Result Measured Refusal) → t ≡ R.Refused r j → m ≡ refused_at at t → (d : Device) → found m ≡ measured (O32 d) (scan (O32 d) bodies list)
    measure_refused r j m g q d = ap found (q ∙ ap (refused_at at) g) ∙ walk_refused (w d) h (was_refused d bodies (length list - (at + 1)) st (get_or list at 0) (e d) (ap recorded g))

    module _ (j : ℕ) (kd : Kind) (st' : State) (g : t ≡ R.Taken j kd st') where
      record_taken : (d : Device) → Taken d bodies (length list - (at + 1)) st (get_or list at 0) (e d) j kd st'
      record_taken d = was_taken d bodies (length list - (at + 1)) st (get_or list at 0) (e d) (ap recorded g)

      size_is : (d : Device) → (record_taken d).place.kind.size ≡ kd.size
      size_is d = ap (λ (x : Kind). x.size) (record_taken d).kind

      pub measure_size : kd.size ≤ 4096
      measure_size = omega (arith, walk_size (w Fpu) h (record_taken Fpu).whole, size_is Fpu)

      module _ (b : ℕ) (i : b ≡ body_length bodies kd.size) where
        pub measure_inside : at + 1 + b ≤ length list
        measure_inside = rw (i, ← (size_is Fpu)) (walk_inside (w Fpu) h (record_taken Fpu).whole)

        pub measure_turn : Measuring bodies list st' (n + 1 + kd.size) (at + 1 + b)
        measure_turn d = rw (i, ← (size_is d)) (walk_turn (w d) h (record_taken d).whole)
