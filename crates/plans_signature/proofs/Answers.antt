-- What is answered for the signature of a list, and left in the lent buffer, on every device: each refusal, and the kinds.
-- Assumes nothing.
use mathlib.Core.Path.{◌≡◌, refl, ◌∙◌}
use mathlib.Core.List.{List}
use mathlib.Core.Bool.{true, false}
use Prim.Native.Nat.{ℕ, ◌≤◌, ◌<◌}
use native.Mathlib.Omega.{arith}
use lib.ListN.{length}
use lib.Dec.{ltb}
use borrow.Author.Tests.{lt-ltb, le-ltb}
use Rattle.std.specs.Prelude.{Result, Ok, Err}
use Rattle.device.specs.declared.Device.{Device}
use Rattle.device.specs.declared.Device.TheVariants.{Fpu}
use Rattle.answers.specs.declared.Refusal.{Refusal}
use Rattle.answers.specs.declared.Cause.TheVariants as C
use Rattle.answers.specs.Outcomes.{over}
use Rattle.carried.specs.Convention.{scan}
use Rattle.carried.specs.Carried.{kinds}
use Rattle.passes.specs.declared.Measured.{Measured}
use Rattle.passes.specs.Found.{found}
use Rattle.passes.specs.Passes.{measured, Admitted}
use Rattle.passes.proofs.Answers.{Right, refused_right, was_accepted}
use Rattle.o32.specs.O32.{O32}
use Rattle.o32_laws.specs.Refusing.{Records}
use Rattle.o32_laws.proofs.Refusing.{scanned_accepted}
use Rattle.plans.specs.Plans.{signature_into}

module _ (list out : List ℕ) where
  -- this answer and this buffer are right on every device
  abbrev Answered : Result ℕ Refusal → List ℕ → Type 0
  Answered a o = (d : Device) → Right (signature_into d list (length out)) out a o

  module _ {q : Result Measured Refusal} (e : (d : Device) → found q ≡ measured (O32 d) (scan (O32 d) true list)) where
    module _ {m : Measured} (f : q ≡ Ok m) where
      admitted : (d : Device) → Admitted (O32 d) true list m.image
      admitted d = (was_accepted (O32 d) true list (e d) f).admitted

      -- The kinds as scanned on a device. The list is whole records of them, so what holds of every such signature holds of these,
      -- whichever the device.
      abbrev own : Device → List ℕ
      own d = kinds (admitted d).placed

      own_records : (d : Device) → Records true (own d) list
      own_records d = (scanned_accepted d true list (admitted d).placed (admitted d).last (admitted d).scanned).records

      pub whole_records : (sig : List ℕ) × Records true sig list
      whole_records = (own Fpu, own_records Fpu)

      module _ {n : ℕ} (counted : (sig : List ℕ) → Records true sig list → n ≡ length sig) where
        pub signature_short : {r : Refusal} → length out < n → r ≡ record { cause = C.BufferTooShort; place = 0; argument = 0 } → Answered (Err r) out
        signature_short h g d =
            let t : ltb (length out) (length (own d)) ≡ true = lt-ltb (length out) (length (own d)) (omega (arith, counted (own d) (own_records d))) in
            refused_right out (rw (g, (admitted d).scanned, t))

        module _ (h : n ≤ length out) where
          pub records_room : (sig : List ℕ) × Records true sig list × (length sig ≤ length out)
          records_room = (own Fpu, own_records Fpu, omega (arith, counted (own Fpu) (own_records Fpu)))

          pub signature_done : {o : List ℕ} → ((sig : List ℕ) → Records true sig list → o ≡ over sig out) → Answered (Ok n) o
          signature_done b d =
              let t : ltb (length out) (length (own d)) ≡ false = le-ltb (length out) (length (own d)) (omega (arith, counted (own d) (own_records d))) in
              record { answer = rw ((admitted d).scanned, t, counted (own d) (own_records d)) refl; buffer = b (own d) (own_records d) ∙ rw ((admitted d).scanned, t) }
