-- What carries nothing: each argument has the offsets from the end of those before to its own end, and of these only its own bytes are
-- carried, if it has no floating register.
-- Assumes nothing.
use mathlib.Core.Path.{◌≡◌, refl, sym, ◌∙◌, subst}
use mathlib.Core.Logic.{◌⊎◌, inl, inr}
use mathlib.Core.List.{List, [], ◌∷◌}
use mathlib.Core.Bool.{Bool, true, false, cond, ◌&&◌}
use Prim.Native.Nat.{ℕ, zero, suc, ◌+◌, ◌-◌, ◌*◌, ◌/◌, ◌≤◌, ◌<◌}
use native.Mathlib.Omega.{arith}
use lib.ListN.{length}
use lib.Dec.{ltb}
use borrow.Author.Tests.{ltb-true, ltb-false}
use Rattle.device.specs.declared.Device.{Device}
use Rattle.device.specs.declared.Device.TheVariants.{Fpu, NoFpu}
use Rattle.carried.specs.Image.{Placed, carried}
use Rattle.places.specs.Places.{In}
use Rattle.carried.specs.Convention.{complete, scan}
use Rattle.places.proofs.Places.{in_or-not}
use Rattle.carried.proofs.Splits.{Same, same}
use Rattle.carried.proofs.Walks.{Walk, end, one, walk_of}
use Rattle.kinds.specs.declared.Class.TheVariants.{Float}
use Rattle.o32.specs.declared.State.{State}
use Rattle.kinds.specs.Kinds.{kind_of, is}
use Rattle.o32_offsets.specs.Offsets.{lay}
use Rattle.o32.specs.O32.{O32, carrier, start}
use Rattle.o32_laws.specs.Carrying.{register_after, low, high, single, odd, even, KindIn, end_before, offset_of, width_of, ArgumentByte, CarriedBy, CarriedByte}
use Rattle.o32_laws.specs.Nothing.{GivenTo, Empty, fill, hole, bypassed, unused, home, unused_float, EachByte}
use Rattle.kinds.proofs.KindFacts.{kind_facts}
use Rattle.o32_offsets.specs.Laying.{Known}
use Rattle.o32_offsets.proofs.Offsets.{float_width, up-ge}
use Rattle.o32_offsets.proofs.Laying.{marker, laid}
use Rattle.o32_laws.proofs.Laws.{O32-laws}
use Rattle.o32_laws.proofs.Steps.{step-described}
use Rattle.o32_laws.proofs.Carrying.{floats_only}
use Rattle.o32_laws.proofs.Bytes.{carried_exactly}
use Rattle.o32_laws.proofs.Groups.{end_after, argument_lies, ordered, all_end, Around, around}

-- ---- kinds that are known

walk_known : (d : Device) {st last : State} {ks : List ℕ} {L : List Placed} → Walk (O32 d) (O32-laws d) st ks L last → Known ks
walk_known d end = tt
walk_known d (one {st = st} {st' = st'} {k = k} {j = j} {p = p} e f w) = ((step-described d st k j p st' e).known, walk_known d w)

-- ---- floating registers

register_values : (d : Device) (before : List ℕ) (k : ℕ) → 1 ≤ register_after d before k → (register_after d before k ≡ 12) ⊎ (register_after d before k ≡ 14)
register_values NoFpu before k h = absurd (omega arith)
register_values Fpu [] k h = go (is Float (kind_of k)) h
  where
    go : (t : Bool) → 1 ≤ cond t 12 0 → (◌≡◌ {A = ℕ} (cond t 12 0) 12) ⊎ (◌≡◌ {A = ℕ} (cond t 12 0) 14)
    go true h = inl refl
    go false h = absurd (omega arith)
register_values Fpu (j ∷ []) k h = go (is Float (kind_of j) && is Float (kind_of k)) h
  where
    go : (t : Bool) → 1 ≤ cond t 14 0 → (◌≡◌ {A = ℕ} (cond t 14 0) 12) ⊎ (◌≡◌ {A = ℕ} (cond t 14 0) 14)
    go true h = inr refl
    go false h = absurd (omega arith)
register_values Fpu (j ∷ i ∷ js) k h = absurd (omega arith)

-- where a byte is carried: by its offset, or in the word of a floating register that the argument is given
data Where (d : Device) {sig : List ℕ} (b : ArgumentByte sig) (p : ℕ) : Type 0 where
  at_offset : (x : ℕ) → register_after d b.argument.before b.argument.kind ≡ 0 → x ≡ offset_of b.argument + b.index → p ≡ carrier x → Where d b p
  in_float : (g : ℕ) → GivenTo d b.argument g → (16 + 4 * (g - 12) ≤ p) × (p < 20 + 4 * (g - 12)) → (12 ≤ g) × (g < 16) → Where d b p

carrier_cases : (q : ℕ) → ((q < 16) × (carrier q ≡ q)) ⊎ ((16 ≤ q) × (carrier q ≡ 32 + q))
carrier_cases q = go (ltb q 16) refl
  where
    go : (t : Bool) → ltb q 16 ≡ t → ((q < 16) × (cond t q (32 + q) ≡ q)) ⊎ ((16 ≤ q) × (cond t q (32 + q) ≡ 32 + q))
    go true e = inl (ltb-true q 16 e, refl)
    go false e = inr (ltb-false q 16 e, refl)

same-offset : (x y : ℕ) → carrier x ≡ carrier y → x ≡ y
same-offset x y e = elim (carrier_cases x) [
  | inl a ↦ elim (carrier_cases y) [ inl b ↦ omega (arith, e) | inr b ↦ absurd (omega (arith, e)) ]
  | inr a ↦ elim (carrier_cases y) [ inl b ↦ absurd (omega (arith, e)) | inr b ↦ omega (arith, e) ]
]

module _ (d : Device) (sig : List ℕ) where
  where_is : (b : ArgumentByte sig) (p : ℕ) → CarriedBy d b p → Where d b p
  where_is b p (low z h g) = elim (carrier_cases (offset_of b.argument + b.index)) [
    | inl x ↦ at_offset (offset_of b.argument + b.index) z refl (g ∙ sym x.1)
    | inr x ↦ absurd (omega arith)
  ]
  where_is b p (high z h g) = elim (carrier_cases (offset_of b.argument + b.index)) [
    | inl x ↦ absurd (omega arith)
    | inr x ↦ at_offset (offset_of b.argument + b.index) z refl (g ∙ sym x.1)
  ]
  where_is b p (single h z g) =
      let k : ℕ = b.argument.kind in
      let n : b.index < 4 = omega (arith, b.inside, float_width (kind_of k) (floats_only d b.argument.before k h)) in
      elim (register_values d b.argument.before k h) [
        | inl v ↦ in_float _ (h, inl refl) (omega arith, omega arith) (omega arith, omega arith)
        | inr v ↦ in_float _ (h, inl refl) (omega arith, omega arith) (omega arith, omega arith)
      ]
  where_is b p (odd h z n g) = elim (register_values d b.argument.before b.argument.kind h) [
    | inl v ↦ in_float _ (h, inr (refl, z)) (omega arith, omega arith) (omega arith, omega arith)
    | inr v ↦ in_float _ (h, inr (refl, z)) (omega arith, omega arith) (omega arith, omega arith)
  ]
  where_is b p (even h z n g) =
      let k : ℕ = b.argument.kind in
      let m : b.index < 8 = omega (arith, b.inside, float_width (kind_of k) (floats_only d b.argument.before k h)) in
      elim (register_values d b.argument.before k h) [
        | inl v ↦ in_float _ (h, inl refl) (omega arith, omega arith) (omega arith, omega arith)
        | inr v ↦ in_float _ (h, inl refl) (omega arith, omega arith) (omega arith, omega arith)
      ]

  -- ---- at an offset

  -- the argument whose byte is carried at this offset
  record Own (x : ℕ) : Type 0 where
    argument : KindIn sig
    unfloated : register_after d argument.before argument.kind ≡ 0
    from : offset_of argument ≤ x
    before_end : x < offset_of argument + width_of argument

  own : (x : ℕ) → CarriedByte d sig (carrier x) → Own x
  own x h = go (where_is h.0 (carrier x) h.1)
    where
      go : Where d h.0 (carrier x) → Own x
      go (at_offset y z e g) =
          let i : x ≡ y = same-offset x y g in
          record { argument = h.0.argument; unfloated = z; from = omega arith; before_end = omega (arith, h.0.inside) }
      go (in_float g w r s) = elim (carrier_cases x) [ inl y ↦ absurd (omega arith) | inr y ↦ absurd (omega arith) ]

  at-carrier : (x : ℕ) {p : ℕ} → p ≡ carrier x → CarriedByte d sig p → CarriedByte d sig (carrier x)
  at-carrier x e c = subst (CarriedByte d sig) e c

  module _ (known : Known sig) where
    -- an argument's own bytes lie between the end of those before and its own end
    own_lies : {x : ℕ} (o : Own x) → (end_before o.argument ≤ x) × (x < end_after o.argument)
    own_lies o = elim (argument_lies known o.argument) [
      | marker w z n ↦ absurd (omega (arith, o.from, o.before_end))
      | laid b n ↦ (omega (arith, b, o.from), omega (arith, n, o.before_end, up-ge 4 (width_of o.argument) (omega arith)))
    ]

    -- of the offsets of an argument only its own bytes are carried, and only if it has no floating register
    only : (a : KindIn sig) (x : ℕ) → end_before a ≤ x → x < end_after a → CarriedByte d sig (carrier x)
        → (register_after d a.before a.kind ≡ 0) × (offset_of a ≤ x) × (x < offset_of a + width_of a)
    only a x h g m = go (own x m)
      where
        go : Own x → (register_after d a.before a.kind ≡ 0) × (offset_of a ≤ x) × (x < offset_of a + width_of a)
        go o = orders (ltb (length a.before) (length o.argument.before)) (ltb (length o.argument.before) (length a.before)) refl refl
          where
            orders : (t u : Bool) → ltb (length a.before) (length o.argument.before) ≡ t → ltb (length o.argument.before) (length a.before) ≡ u
                → (register_after d a.before a.kind ≡ 0) × (offset_of a ≤ x) × (x < offset_of a + width_of a)
            orders true u e f = absurd (omega (arith, ordered known a o.argument (ltb-true (length a.before) (length o.argument.before) e), own_lies o))
            orders false true e f = absurd (omega (arith, ordered known o.argument a (ltb-true (length o.argument.before) (length a.before) f), own_lies o))
            orders false false e f =
                let n : length a.before ≡ length o.argument.before =
                omega (arith, ltb-false (length a.before) (length o.argument.before) e, ltb-false (length o.argument.before) (length a.before) f) in
                let s : Same a.before a.kind o.argument.before o.argument.kind = same a.before a.kind a.after o.argument.before o.argument.kind o.argument.after (a.here ∙ sym o.argument.here) n in
                rw (s.before_same, s.here_same) (o.unfloated, o.from, o.before_end)

    never_both : (p : ℕ) → Empty d sig p → CarriedByte d sig p → ⊥
    never_both p (fill a x h g e) c = elim (argument_lies known a) [
      | marker w z n ↦ omega (arith, w, z)
      | laid b n ↦ omega (arith, (only a x (omega (arith, b)) (omega (arith, n)) (at-carrier x e c)).2)
    ]
    never_both p (hole a x h g e) c = elim (argument_lies known a) [
      | marker w z n ↦ omega (arith, z)
      | laid b n ↦ omega (arith, (only a x h (omega (arith, n)) (at-carrier x e c)).1)
    ]
    never_both p (bypassed a x r h g e) c = elim (argument_lies known a) [
      | marker w z n ↦ omega (arith, w)
      | laid b n ↦ omega (arith, (only a x (omega (arith, b)) (omega (arith, n, up-ge 4 (width_of a) (omega arith))) (at-carrier x e c)).0)
    ]
    never_both p (unused x h e) c = let o : Own x = own x (at-carrier x e c) in omega (arith, own_lies o, all_end known o.argument)
    never_both p (home h g) c = elim (where_is c.0 p c.1) [
      | at_offset x z e q ↦ elim (carrier_cases x) [ inl y ↦ omega arith | inr y ↦ omega arith ]
      | in_float f w r s ↦ omega arith
    ]
    never_both p (unused_float g h l none a b) c = elim (where_is c.0 p c.1) [
      | at_offset x z e q ↦ elim (carrier_cases x) [ inl y ↦ omega arith | inr y ↦ omega arith ]
      | in_float f w r s ↦ let e : f ≡ g = omega arith in none c.0.argument (subst (GivenTo d c.0.argument) e w)
    ]

    -- ---- and nothing else is

    -- a byte of an argument by its offset
    own_byte : (a : KindIn sig) (x : ℕ) → register_after d a.before a.kind ≡ 0 → offset_of a ≤ x → x < offset_of a + width_of a → CarriedByte d sig (carrier x)
    own_byte a x z h g =
        let n : offset_of a + (x - offset_of a) ≡ x = omega arith in
        (record { argument = a; index = x - offset_of a; inside = omega arith }, elim (carrier_cases x) [ inl y ↦ low z (omega arith) (omega arith) | inr y ↦ high z (omega arith) (omega arith) ])

    -- a byte of a floating register that an argument is given
    float_byte : (a : KindIn sig) (g p : ℕ) → GivenTo d a g → 16 + 4 * (g - 12) ≤ p → p < 20 + 4 * (g - 12) → CarriedByte d sig p
    float_byte a g p w h l =
        let f : ℕ = register_after d a.before a.kind in
        let n : width_of a ≡ (kind_of a.kind).size = float_width (kind_of a.kind) (floats_only d a.before a.kind w.0) in
        elim ((kind_facts a.kind).floats (floats_only d a.before a.kind w.0)) [
          | inl z ↦ elim w.1 [
            | inl e ↦ (record { argument = a; index = p - (16 + 4 * (g - 12)); inside = omega arith }, single w.0 z (omega arith))
            | inr e ↦ absurd (omega (arith, e.1))
          ]
          | inr z ↦ elim w.1 [
            | inl e ↦ (record { argument = a; index = 4 + (p - (16 + 4 * (g - 12))); inside = omega arith }, even w.0 z (omega arith) (omega arith))
            | inr e ↦ (record { argument = a; index = p - (16 + 4 * (g - 12)); inside = omega arith }, odd w.0 z (omega arith) (omega (arith, e.0)))
          ]
        ]

    -- an offset of an argument: a hole, its own byte, or fill
    in_argument : (p x : ℕ) → p ≡ carrier x → (a : KindIn sig) → end_before a ≤ x → x < end_after a → CarriedByte d sig p ⊎ Empty d sig p
    in_argument p x e a h g = go (ltb x (offset_of a)) (ltb x (offset_of a + width_of a)) refl refl
      where
        by_register : (f : ℕ) → register_after d a.before a.kind ≡ f → offset_of a ≤ x → x < offset_of a + width_of a → CarriedByte d sig p ⊎ Empty d sig p
        by_register zero z m n = inl (subst (CarriedByte d sig) (sym e) (own_byte a x z m n))
        by_register (suc f) z m n = inr (bypassed a x (omega arith) m n e)

        go : (t u : Bool) → ltb x (offset_of a) ≡ t → ltb x (offset_of a + width_of a) ≡ u → CarriedByte d sig p ⊎ Empty d sig p
        go true u i j = inr (hole a x h (ltb-true x (offset_of a) i) e)
        go false true i j = by_register (register_after d a.before a.kind) refl (ltb-false x (offset_of a) i) (ltb-true x (offset_of a + width_of a) j)
        go false false i j = elim (argument_lies known a) [
          | marker w z n ↦ absurd (omega (arith, n))
          | laid b n ↦ inr (fill a x (ltb-false x (offset_of a + width_of a) j) (omega (arith, n)) e)
        ]

    at_an_offset : (p x : ℕ) → p ≡ carrier x → CarriedByte d sig p ⊎ Empty d sig p
    at_an_offset p x e = go (ltb x (lay 0 sig).end) refl
      where
        go : (t : Bool) → ltb x (lay 0 sig).end ≡ t → CarriedByte d sig p ⊎ Empty d sig p
        go true f =
            let o : Around sig x = around sig [] x refl (omega arith) (ltb-true x (lay 0 sig).end f) in
            in_argument p x e o.argument o.from o.before_end
        go false f = inr (unused x (ltb-false x (lay 0 sig).end f) e)

    -- a byte of a floating word is carried, or no argument is given its register
    in_a_float : (p : ℕ) → 16 ≤ p → p < 32 → CarriedByte d sig p ⊎ (CarriedByte d sig p → ⊥) → CarriedByte d sig p ⊎ Empty d sig p
    in_a_float p h l (inl c) = inl c
    in_a_float p h l (inr c) =
        let g : ℕ = 12 + (p - 16) / 4 in
        inr (unused_float g (omega arith) (omega arith) (λ a w. c (float_byte a g p w (omega arith) (omega arith))) (omega arith) (omega arith))

    pub either : (p : ℕ) → CarriedByte d sig p ⊎ (CarriedByte d sig p → ⊥) → CarriedByte d sig p ⊎ Empty d sig p
    either p decided = go (ltb p 16) (ltb p 32) (ltb p 48) refl refl refl
      where
        high_offset : 48 ≤ p → p ≡ carrier (p - 32)
        high_offset h = elim (carrier_cases (p - 32)) [ inl y ↦ absurd (omega arith) | inr y ↦ omega arith ]

        low_offset : p < 16 → p ≡ carrier p
        low_offset h = elim (carrier_cases p) [ inl y ↦ sym y.1 | inr y ↦ absurd (omega arith) ]

        go : (t u v : Bool) → ltb p 16 ≡ t → ltb p 32 ≡ u → ltb p 48 ≡ v → CarriedByte d sig p ⊎ Empty d sig p
        go true u v e f g = at_an_offset p p (low_offset (ltb-true p 16 e))
        go false true v e f g = in_a_float p (ltb-false p 16 e) (ltb-true p 32 f) decided
        go false false true e f g = inr (home (ltb-false p 32 f) (ltb-true p 48 g))
        go false false false e f g = at_an_offset p (p - 32) (high_offset (ltb-false p 48 g))

-- at every accepted signature, on every device
pub each_byte : (d : Device) (sig : List ℕ) (L : List Placed) (last : State) → scan (O32 d) false sig ≡ complete L last → EachByte d sig
each_byte d sig L last ok =
    let known : Known sig = walk_known d (walk_of (O32 d) (O32-laws d) sig start L last 0 ok) in
    record { either = λ p h. either d sig known p (decided p (in_or-not p (carried L))); never_both = never_both d sig known }
  where
    decided : (p : ℕ) → In p (carried L) ⊎ (In p (carried L) → ⊥) → CarriedByte d sig p ⊎ (CarriedByte d sig p → ⊥)
    decided p (inl m) = inl ((carried_exactly d sig L last ok p).1 m)
    decided p (inr n) = inr (λ c. n ((carried_exactly d sig L last ok p).0 c))

-- Request (ii) of document 02, on the device without a floating-point unit: "no floating register is used and those four image words
-- carry nothing".
pub floats_carry_nothing : (sig : List ℕ) (p : ℕ) → 16 ≤ p → p < 32 → CarriedByte NoFpu sig p → ⊥
floats_carry_nothing sig p h g m = elim (where_is NoFpu sig m.0 p m.1) [
  | at_offset x z e q ↦ elim (carrier_cases x) [ inl y ↦ omega arith | inr y ↦ omega arith ]
  | in_float f w r s ↦ omega (arith, w.0)
]
