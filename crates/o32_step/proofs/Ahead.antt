-- The record at a place of a list or signature that was accepted: it can be placed, and its bytes fit the image.
-- Assumes nothing.
use mathlib.Core.Path.{◌≡◌, refl}
use mathlib.Core.Logic.{◌⊎◌}
use mathlib.Core.List.{List}
use mathlib.Core.Bool.{Bool, true}
use Prim.Native.Nat.{ℕ, ◌≤◌, ◌<◌}
use native.Mathlib.Omega.{arith}
use lib.ListN.{length, get_or}
use borrow.Author.Tests.{leb-true}
use Rattle.device.specs.declared.Device.{Device}
use Rattle.kinds.specs.declared.Class.TheVariants.{Float}
use Rattle.kinds.specs.declared.Kind.{Kind}
use Rattle.kinds.specs.Kinds.{kind_of, is}
use Rattle.kinds.proofs.KindFacts.{kind_facts}
use Rattle.rules.specs.Rules.{arguments_most}
use Rattle.o32_offsets.specs.Offsets.{offset}
use Rattle.o32_offsets.proofs.Offsets.{up-ge}
use Rattle.passes.proofs.Ahead.{Ahead, ahead_stepped, Next, ahead_next}
use Rattle.o32.specs.declared.State.{State}
use Rattle.o32.specs.declared.Placement.{Placement}
use Rattle.o32.specs.O32.{advance, placement, register, end_most}
use Rattle.o32_laws.specs.Fitting.{Fit}
use Rattle.o32_laws.proofs.Premises.{O32-premises}
use Rattle.o32_laws.proofs.Steps.{ends_within, word-aligned, register-floats}
use Rattle.o32_step.specs.Records.{Placeable}
use Rattle.o32_step.proofs.Returns.{placeable}

-- Of a list or signature on a device: its image has m bytes, st is the state before the record at this place.
abbrev pub O32-ahead : Device → Bool → List ℕ → ℕ → State → ℕ → Type 0
O32-ahead d bodies list m st at = Ahead (O32-premises d) bodies list m st at

module _ (d : Device) {bodies : Bool} {list : List ℕ} {m : ℕ} {st : State} {at : ℕ} (w : O32-ahead d bodies list m st at) where
  module _ {kd : Kind} (e : kd ≡ kind_of (get_or list at 0)) where
    pub ahead_placeable : Placeable st kd
    ahead_placeable = placeable st (get_or list at 0) kd e w.held.fits w.held.few

    module _ {p : Placement} (g : p ≡ placement d st kd) where
      pub ahead_fit : (h : at < length list) (room : ℕ) → m ≤ room → Fit p room
      ahead_fit h room l = rw (g, e) (
          let k : ℕ = get_or list at 0 in
          let end : ℕ = (advance st (kind_of k)).end in
          let fits : end ≤ end_most = leb-true end end_most (ahead_stepped w h).1 in
          let v : Next w h _ = ahead_next w h refl in
          record {
            area = omega (arith, v.room);
            inside = omega (arith, v.room, ends_within st k, up-ge 8 end (omega arith));
            low = omega (arith, fits, ends_within st k);
            aligned = word-aligned k st.end;
            promoted = (kind_facts k).promoted;
            floating = λ r.
                let f : (is Float (kind_of k) ≡ true) × ((register d st (kind_of k) ≡ 12) ⊎ (register d st (kind_of k) ≡ 14)) = register-floats d st (kind_of k) r in
                (f.0, record { named = f.1; sized = (kind_facts k).floats f.0 });
          })
