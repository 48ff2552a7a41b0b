-- The carried bytes of an accepted signature are exactly those that the rules give to its arguments' bytes, one to each.
-- Assumes nothing.
use mathlib.Core.Path.{◌≡◌, refl, sym, ap, ◌∙◌}
use mathlib.Core.Logic.{◌↔◌}
use mathlib.Core.List.{List, ◌∷◌, ◌++◌}
use mathlib.Core.Bool.{false}
use Prim.Native.Nat.{ℕ, ◌+◌, ◌<◌}
use native.Mathlib.Omega.{arith}
use lib.ListN.{length, get_or}
use Rattle.device.specs.declared.Device.{Device}
use Rattle.carried.specs.Image.{Placed, carried}
use Rattle.carried.specs.Convention.{complete, scan}
use Rattle.places.specs.Places.{In}
use Rattle.carried.specs.Carried.{kinds, Carried}
use Rattle.carried.proofs.Carriers.{Among, Carrier, carrier_of, carrier_in, SameByte, carriers-same, kinds-append, length-kinds, OfKind, of_kind}
use Rattle.o32.specs.declared.State.{State}
use Rattle.kinds.specs.Kinds.{kind_of}
use Rattle.o32_offsets.specs.Offsets.{width}
use Rattle.o32.specs.O32.{O32, area, start}
use Rattle.rules.specs.Rules.{argument}
use Rattle.o32_laws.specs.Carrying.{register_after, CarriedAt, KindIn, offset_of, ArgumentByte, CarriedBy, CarriedByte}
use Rattle.o32_laws.proofs.Laws.{O32-carried}
use Rattle.o32_laws.proofs.Carrying.{reach, placed-after, carried-at}

module _ (d : Device) (sig : List ℕ) (L : List Placed) (last : State) (ok : scan (O32 d) false sig ≡ complete L last) where
  carried_bytes : Carried (O32 d) sig L (32 + area last.end)
  carried_bytes = O32-carried d sig L last ok

  -- the record of an argument, placed by the kinds before it
  abbrev pub record_of : KindIn sig → Placed
  record_of a = (O32 d).placed_at a.kind (argument (reach start a.before).prefix (kind_of a.kind))
      (record { kind = kind_of a.kind; offset = offset_of a; register = register_after d a.before a.kind })

  pub record Of (a : KindIn sig) : Type 0 where
    pub among : Among L
    pub kinds-before : kinds among.before ≡ a.before
    pub long : length among.before ≡ length a.before
    pub record_placed : among.here ≡ record_of a
    pub carried_as : CarriedAt d a.before a.kind among.here

  pub of : (a : KindIn sig) → Of a
  of a =
      let w : OfKind L a.before a.kind a.after = of_kind L a.before a.kind a.after (carried_bytes.signature ∙ sym a.here) in
      let n : length w.among.before ≡ length a.before = sym (length-kinds w.among.before) ∙ ap length w.kinds-before in
      let ok' : scan (O32 d) false (a.before ++ (a.kind ∷ a.after)) ≡ complete L last = ap (scan (O32 d) false) a.here ∙ ok in
      record {
        among = w.among;
        kinds-before = w.kinds-before;
        long = n;
        record_placed = placed-after d a.before a.kind a.after L last ok' w.among.before w.among.here w.among.after w.among.records n;
        carried_as = carried-at d a.before a.kind a.after L last ok' w.among.before w.among.here w.among.after w.among.records n;
      }

  -- the argument of a record
  abbrev pub argument_of : Among L → KindIn sig
  argument_of w = record {
    before = kinds w.before;
    kind = w.here.kind;
    after = kinds w.after;
    here = sym (kinds-append w.before (w.here ∷ w.after)) ∙ ap kinds (sym w.records) ∙ (O32-carried d sig L last ok).signature;
  }

  pub in_carriers : (w : Among L) → w.here ≡ record_of (argument_of w)
  in_carriers w =
      placed-after d (kinds w.before) w.here.kind (kinds w.after) L last (ap (scan (O32 d) false) (argument_of w).here ∙ ok) w.before w.here w.after w.records
      (sym (length-kinds w.before))

  among_as : (w : Among L) → CarriedAt d (kinds w.before) w.here.kind w.here
  among_as w =
      carried-at d (kinds w.before) w.here.kind (kinds w.after) L last (ap (scan (O32 d) false) (argument_of w).here ∙ ok) w.before w.here w.after w.records
      (sym (length-kinds w.before))

  -- the record that carries an argument's byte
  carrier-at : (b : ArgumentByte sig) (p : ℕ) → CarriedBy d b p → Carrier L p
  carrier-at b p h =
      let w : Of b.argument = of b.argument in
      record {
        among = w.among;
        byte = record { index = b.index; inside = omega (arith, w.carried_as.long, b.inside); at = (w.carried_as.bytes b.index p b.inside).1 h };
      }

  pub carried_exactly : (p : ℕ) → CarriedByte d sig p ↔ In p (carried L)
  carried_exactly p = (
    (λ h. carrier_in L p (carrier-at h.0 p h.1)),
    λ m.
        let w : Carrier L p = carrier_of L p m in
        let v : CarriedAt d (kinds w.among.before) w.among.here.kind w.among.here = among_as w.among in
        let l : w.byte.index < width (kind_of w.among.here.kind) = omega (arith, v.long, w.byte.inside) in (
          record { argument = argument_of w.among; index = w.byte.index; inside = l },
          (v.bytes w.byte.index p l).0 w.byte.at,
        ),
  )

  -- each byte has one,
  pub one_byte : (b : ArgumentByte sig) → (p : ℕ) × CarriedBy d b p × ((q : ℕ) → CarriedBy d b q → q ≡ p)
  one_byte b =
      let w : Of b.argument = of b.argument in (
        get_or w.among.here.carriers b.index 0,
        (w.carried_as.bytes b.index _ b.inside).0 refl,
        λ q h. sym ((w.carried_as.bytes b.index q b.inside).1 h),
      )

  -- no two share one,
  pub none_shared : (b c : ArgumentByte sig) (p : ℕ) → CarriedBy d b p → CarriedBy d c p → (length b.argument.before ≡ length c.argument.before) × (b.index ≡ c.index)
  unfolding carrier-at
  none_shared b c p h g =
      let v : Carrier L p = carrier-at b p h in
      let w : Carrier L p = carrier-at c p g in
      let s : SameByte v.among.before w.among.before b.index c.index = carriers-same L carried_bytes.one_each.distinct p v w in
      (sym (of b.argument).long ∙ s.record_same ∙ (of c.argument).long, s.byte_same)

  -- and all lie in the image.
  pub bytes_inside : (p : ℕ) → CarriedByte d sig p → p < 32 + area last.end
  bytes_inside p h = carried_bytes.one_each.inside p ((carried_exactly p).0 h)
