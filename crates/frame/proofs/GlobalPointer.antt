-- What the layout says of `$28`; and code that keeps the registers of a request keeps `$28` at the layout's offset.
-- Assumes nothing.
use mathlib.Core.Path.{◌≡◌, refl, sym, ap, ◌∙◌, subst}
use mathlib.Core.List.{List}
use mathlib.Core.Bool.{Bool, true, cond, true≢false}
use Prim.Native.Nat.{ℕ, ◌+◌}
use native.Mathlib.Omega.{arith}
use Rattle.device.specs.declared.Device.{Device}
use Rattle.frame.specs.declared.Request.{Request}
use Rattle.frame.specs.Layout.{Layout}
use Rattle.frame.specs.Frame.{refusal_of, locals_at, offset_of_register, saves_gp, gp_at, accepted_layout, layout_of}
use Rattle.frame.specs.Keeping.{Keeps}
use Rattle.frame.specs.GlobalPointer.{PlacedInOrder, KeepsGp, SaysGp}
use Rattle.frame.proofs.Masks.{count_below_named}
use Rattle.frame.proofs.Accepted.{layout_accepted, layout_cases}

module _ (r : Request) where
  gp_offset : {saved : Bool} → saves_gp r ≡ saved → gp_at r ≡ cond saved (offset_of_register r 28) 0
  unfolding gp_at
  gp_offset e = ap (λ (b : Bool). cond b (offset_of_register r 28) 0) e

  gp_placed : saves_gp r ≡ true → PlacedInOrder r (accepted_layout r)
  unfolding locals_at
  gp_placed e = record {
    area = (omega (arith, gp_offset e), omega (arith, gp_offset e, count_below_named r.general 28 32 e (omega arith)));
    above = λ k h n. omega (arith, gp_offset e, count_below_named r.general k 28 n h);
    below = λ k h l n. omega (arith, gp_offset e, count_below_named r.general 28 k e h);
  }

  gp_keeps : (prologue epilogue : List ℕ) → Keeps r prologue epilogue → saves_gp r ≡ true → KeepsGp r (accepted_layout r) prologue epilogue
  gp_keeps prologue epilogue k e code s entry ready =
      let p = k code s entry ready in
      record {
        last = p.last;
        ran = p.ran;
        holds = (
          ap (λ (o : ℕ). p.last.mem (p.last.reg 29 + o)) (gp_offset e) ∙ p.holds.0.registers 28 (omega arith) e,
          λ u b there.
              let w = p.holds.1 u b there in
              record { last = w.last; ran = w.ran; holds = w.holds.general 28 (omega arith) e },
        );
      }

-- what the layout that is answered says, whatever the device and the request
pub says_gp : (d : Device) (r : Request) → SaysGp r (layout_of d r)
says_gp d r =
    layout_cases d r (SaysGp r)
    (λ e. record { named = λ z. refl; refused = λ n. absurd (n refl); none = gp_offset r; placed = gp_placed r })
    (λ n. record { named = λ z. absurd (n z); refused = λ m. refl; none = λ e. refl; placed = λ e. absurd (true≢false (sym e)) })

-- any code that keeps the registers of an accepted request keeps `$28` at the layout's offset
pub keeps_gp : (d : Device) (r : Request) (prologue epilogue : List ℕ) → refusal_of d r ≡ 0 → Keeps r prologue epilogue
    → (layout_of d r).gp_saved ≡ true → KeepsGp r (layout_of d r) prologue epilogue
keeps_gp d r prologue epilogue e k =
    subst (λ (y : Layout). y.gp_saved ≡ true → KeepsGp r y prologue epilogue) (sym (layout_accepted d r e)) (gp_keeps r prologue epilogue k)
