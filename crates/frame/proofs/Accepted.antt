-- What an accepted request is, on every device, and the bounds of its frame.
-- Assumes nothing.
use mathlib.Core.Path.{◌≡◌, refl}
use mathlib.Core.Bool.{Bool, true, false, cond, not, ◌&&◌, ◌||◌, true≢false}
use Prim.Native.Nat.{ℕ, ◌+◌, ◌*◌, ◌%◌, ◌^◌, ◌≤◌}
use native.Mathlib.Omega.{arith}
use lib.Dec.{eqb, ltb}
use lib.Bits.{bit_and}
use lib.ListN.{length}
use lib.Count.{ones}
use borrow.Author.Tests.{ltb-false, eqb-true, eqb-false, eq-eqb, not-false}
use Rattle.device.specs.declared.Device.{Device}
use Rattle.device.specs.declared.Device.TheVariants.{NoFpu}
use Rattle.frame.specs.Masks.{count_below}
use Rattle.frame.specs.Frame.{savable_registers, savable, pairs_most, names_unsavable, has_pairs_without_unit, loses_return, locals_most, exceeds_locals, outgoing_most, exceeds_outgoing, refusal_of, build_for, build_of, general_at, locals_at, frame_of, frame_most, accepted_layout, refused_layout, layout_of}
use Rattle.frame.specs.Largest.{registers_most, area_most}
use Rattle.frame.specs.declared.Request.{Request}
use Rattle.frame.specs.Layout.{Layout}
use Rattle.frame.proofs.Masks.{ones_all, count_below_le}
use Rattle.frame.proofs.Savable.{names_few, savable-word, savable_low}

-- masks that refusal 9 lets pass
pub record Savable (r : Request) : Type 0 where
  pub general : bit_and r.general savable ≡ r.general
  pub pairs : r.pairs ≤ pairs_most

-- the counts that the code takes of them are those of the definitions, and they name few
pub record Counted (r : Request) : Type 0 where
  pub pairs : ones r.pairs ≡ count_below r.pairs 6
  pub general : ones r.general ≡ count_below r.general 32
  pub few_pairs : count_below r.pairs 6 ≤ 6
  pub few_general : count_below r.general 32 ≤ length savable_registers

pub record Accepted (r : Request) : Type 0 where
  pub masks : Savable r
  pub counts : Counted r
  pub locals : r.locals ≤ locals_most
  pub outgoing : r.outgoing ≤ outgoing_most
  pub build : build_of r ≤ outgoing_most

all-false : (a b c d e : Bool) → ◌≡◌ {A = ℕ} (cond a 9 (cond b 14 (cond c 10 (cond d 11 (cond e 12 0))))) 0
    → (a ≡ false) × (b ≡ false) × (c ≡ false) × (d ≡ false) × (e ≡ false)
all-false a b c d e z = grind arith

or-false : (a b : Bool) → (a || b) ≡ false → (a ≡ false) × (b ≡ false)
or-false true b e = absurd (true≢false e)
or-false false b e = (refl, e)

pub savable_masks : (r : Request) → names_unsavable r ≡ false → Savable r
savable_masks r e =
    let o = or-false (not (eqb (bit_and r.general savable) r.general)) (ltb pairs_most r.pairs) e in
    record { general = eqb-true _ _ (not-false _ o.0); pairs = ltb-false _ _ o.1 }

-- of a request that is not refused on a device none of the conditions holds
conditions_false : (d : Device) (r : Request) → refusal_of d r ≡ 0
    → (names_unsavable r ≡ false) × (has_pairs_without_unit d r ≡ false) × (loses_return r ≡ false) × (exceeds_locals r ≡ false) × (exceeds_outgoing r ≡ false)
unfolding refusal_of
conditions_false d r e = all-false (names_unsavable r) (has_pairs_without_unit d r) (loses_return r) (exceeds_locals r) (exceeds_outgoing r) e

pub accepted_savable : (d : Device) (r : Request) → refusal_of d r ≡ 0 → names_unsavable r ≡ false
accepted_savable d r e = (conditions_false d r e).0

-- without a floating-point unit it names no pair
pub no_pairs : (r : Request) → refusal_of NoFpu r ≡ 0 → r.pairs ≡ 0
no_pairs r e = eqb-true r.pairs 0 (not-false _ (conditions_false NoFpu r e).1)

-- no general register below `$16`
pub low_general : {r : Request} → Savable r → r.general % 2 ^ 16 ≡ 0
low_general {r} s = savable_low r.general s.general

pub counted : {r : Request} → Savable r → Counted r
counted {r} s = record {
  pairs = ones_all r.pairs 6 (omega arith);
  general = ones_all r.general 32 (savable-word r.general s.general);
  few_pairs = count_below_le r.pairs 6;
  few_general = names_few r.general s.general;
}

pub build_le : (leaf : Bool) (n : ℕ) → n ≤ outgoing_most → (build_for leaf n ≤ outgoing_most) × (build_for leaf n % 8 ≡ 0)
build_le leaf n h = grind arith

pub accepted : (d : Device) (r : Request) → refusal_of d r ≡ 0 → Accepted r
accepted d r e =
    let f = conditions_false d r e in
    let s = savable_masks r f.0 in
    let o = ltb-false outgoing_most r.outgoing (or-false (ltb outgoing_most r.outgoing) (r.leaf && not (eqb r.outgoing 0)) f.4).0 in
    record { masks = s; counts = counted s; locals = ltb-false _ _ f.3; outgoing = o; build = (build_le r.leaf r.outgoing o).0 }

module _ {r : Request} (a : Accepted r) where
  pub frame_le : frame_of r ≤ frame_most
  unfolding frame_of locals_at general_at
  frame_le = omega arith

  pub registers_le : 4 * count_below r.general 32 ≤ registers_most
  registers_le = omega arith

  pub area-le : locals_at r ≤ general_at r + area_most
  unfolding locals_at
  area-le = omega arith

  pub general_le : general_at r ≤ outgoing_most + 48
  unfolding general_at
  general_le = omega arith

-- the layout that is answered, by case
pub layout_accepted : (d : Device) (r : Request) → refusal_of d r ≡ 0 → layout_of d r ≡ accepted_layout r
unfolding layout_of
layout_accepted d r e = simp (eq-eqb (refusal_of d r) 0 e)

pub layout_cases : (d : Device) (r : Request) (P : Layout → Type 0) → (refusal_of d r ≡ 0 → P (accepted_layout r))
    → ((refusal_of d r ≡ 0 → ⊥) → P (refused_layout (refusal_of d r))) → P (layout_of d r)
unfolding layout_of
layout_cases d r P taken refused = by (eqb (refusal_of d r) 0) refl
  where
    by : (b : Bool) → eqb (refusal_of d r) 0 ≡ b → P (cond b (accepted_layout r) (refused_layout (refusal_of d r)))
    by true e = taken (eqb-true (refusal_of d r) 0 e)
    by false e = refused (eqb-false (refusal_of d r) 0 e)
