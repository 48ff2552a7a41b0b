-- The frame of a request on a device: what is refused, and where everything lies ("Frames"). Only refusal 14 looks at the device.
use Rattle.std.specs.Prelude.{List, [], ◌∷◌, Bool, false, cond, not, ◌&&◌, ◌||◌, ℕ, ◌+◌, ◌*◌, max, eqb, ltb}
use Rattle.std.specs.Int.Bits.{bit_and}
use Rattle.words.specs.Words.{up}
use Rattle.device.specs.declared.Device.{Device}
use Rattle.device.specs.declared.Device.TheVariants.{Fpu, NoFpu}
use Rattle.frame.specs.declared.Request.{Request}
use Rattle.frame.specs.Layout.{Layout}
use Rattle.frame.specs.Masks.{names, count_below, mask_of}

-- The general registers that may be saved: "`$16`..`$23`, `$30`, `$31`"; request (ix) of document 02: "Admit `$28` in the general
-- mask".
abbrev pub savable_registers : List ℕ
savable_registers = 16 ∷ 17 ∷ 18 ∷ 19 ∷ 20 ∷ 21 ∷ 22 ∷ 23 ∷ 28 ∷ 30 ∷ 31 ∷ []

abbrev pub savable : ℕ
savable = mask_of savable_registers

-- The largest mask of pairs: "k from 0 to 5".
abbrev pub pairs_most : ℕ
pairs_most = 63

-- "9: general mask outside `$16`..`$23`, `$30`, `$31`, or pair mask above 63"; "9 now also admits `$28`".
abbrev pub names_unsavable : Request → Bool
names_unsavable r = not (eqb (bit_and r.general savable) r.general) || ltb pairs_most r.pairs

-- Request (ii) of document 02. "14, pair mask not 0 on this device, directly after 9": on the one without a floating-point unit.
abbrev pub has_pairs_without_unit : Device → Request → Bool
has_pairs_without_unit Fpu r = false
has_pairs_without_unit NoFpu r = not (eqb r.pairs 0)

-- "10: not a leaf and `$31` not named".
abbrev pub loses_return : Request → Bool
loses_return r = not r.leaf && not (names r.general 31)

-- "11: L above 16,384".
abbrev pub locals_most : ℕ
locals_most = 16384

abbrev pub exceeds_locals : Request → Bool
exceeds_locals r = ltb locals_most r.locals

-- "12: outgoing above 1,024, or not 0 in a leaf".
abbrev pub outgoing_most : ℕ
outgoing_most = 1024

abbrev pub exceeds_outgoing : Request → Bool
exceeds_outgoing r = ltb outgoing_most r.outgoing || (r.leaf && not (eqb r.outgoing 0))

-- "Checks in this order": the refusal's number, 0 for none.
unfoldable pub refusal_of : Device → Request → ℕ
refusal_of d r =
    cond (names_unsavable r) 9
    (cond (has_pairs_without_unit d r) 14
    (cond (loses_return r) 10
    (cond (exceeds_locals r) 11
    (cond (exceeds_outgoing r) 12 0))))

-- "B is outgoing rounded up to 8, at least 16 in a non-leaf, 0 in a leaf."
abbrev pub build_for : Bool → ℕ → ℕ
build_for leaf outgoing = cond leaf 0 (max 16 (up 8 outgoing))

abbrev pub build_of : Request → ℕ
build_of r = build_for r.leaf r.outgoing

-- "From `$sp` upward: argument build area B, the floating save area, the general save area, locals .. an empty area's offset
-- being the end of the one below."
abbrev pub floating_at : Request → ℕ
floating_at r = build_of r

-- "a pair takes 8".
unfoldable pub general_at : Request → ℕ
general_at r = floating_at r + 8 * count_below r.pairs 6

-- "The general area has four bytes for each register named in the mask, rounded up to 8".
unfoldable pub locals_at : Request → ℕ
locals_at r = general_at r + up 8 (4 * count_below r.general 32)

-- "The frame F is the end of locals rounded up to 8"; with request (ix) "F at most 17,504".
unfoldable pub frame_of : Request → ℕ
frame_of r = up 8 (locals_at r + r.locals)

abbrev pub frame_most : ℕ
frame_most = 17504

-- Where register k is saved, from `$sp`: "Lower register numbers lie lower."
abbrev pub offset_of_register : Request → ℕ → ℕ
offset_of_register r k = general_at r + 4 * count_below r.general k

-- "a yes or no for it and its offset, 0 with the no": for `$28`, the global pointer.
abbrev pub saves_gp : Request → Bool
saves_gp r = names r.general 28

unfoldable pub gp_at : Request → ℕ
gp_at r = cond (saves_gp r) (offset_of_register r 28) 0

-- "The layout answers F, B and the offsets of the floating save area, the general save area and the locals", and those two of `$28`.
abbrev pub accepted_layout : Request → Layout
accepted_layout r = record {
  refusal = 0;
  place = 0;
  frame = frame_of r;
  build = build_of r;
  floating = floating_at r;
  general = general_at r;
  locals = locals_at r;
  gp_saved = saves_gp r;
  gp = gp_at r;
}

-- "Place is 0, .. and the layout's numbers are all 0"; of `$28` it says no.
abbrev pub refused_layout : ℕ → Layout
refused_layout n = record { refusal = n; place = 0; frame = 0; build = 0; floating = 0; general = 0; locals = 0; gp_saved = false; gp = 0 }

unfoldable pub layout_of : Device → Request → Layout
layout_of d r = cond (eqb (refusal_of d r) 0) (accepted_layout r) (refused_layout (refusal_of d r))
