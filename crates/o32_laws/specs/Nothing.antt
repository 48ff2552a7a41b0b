-- The image bytes that carry nothing: "holes, fill, homes of register words, unused registers".
use Rattle.std.specs.Prelude.{◌≡◌, ◌⊎◌, List, ℕ, ◌+◌, ◌-◌, ◌*◌, ◌≤◌, ◌<◌}
use Rattle.words.specs.Words.{up}
use Rattle.device.specs.declared.Device.{Device}
use Rattle.kinds.specs.Kinds.{kind_of}
use Rattle.o32.specs.O32.{carrier}
use Rattle.o32_offsets.specs.Offsets.{lay}
use Rattle.o32_laws.specs.Carrying.{register_after, KindIn, end_before, offset_of, width_of, CarriedByte, image_bytes}

-- Rule 3 gives floating register g to this argument: its register, and to a double also the next one.
abbrev pub GivenTo : Device → {sig : List ℕ} → KindIn sig → ℕ → Type 0
GivenTo d a g = (1 ≤ register_after d a.before a.kind)
    × ((g ≡ register_after d a.before a.kind) ⊎ ((g ≡ register_after d a.before a.kind + 1) × ((kind_of a.kind).size ≡ 8)))

-- Image byte p carries nothing, for one of these reasons. Offset x is at image byte `carrier x`: x below 16, in `$4` to `$7`, else
-- 32 + x, in the area after the homes.
pub data Empty (d : Device) (sig : List ℕ) (p : ℕ) : Type 0 where
  -- it is fill: after a structure's own bytes, up to the next word
  fill : (a : KindIn sig) (x : ℕ) → offset_of a + width_of a ≤ x → x < offset_of a + up 4 (width_of a) → p ≡ carrier x → Empty d sig p
  -- it is in a hole: after the end of the arguments before this one, and before its offset
  hole : (a : KindIn sig) (x : ℕ) → end_before a ≤ x → x < offset_of a → p ≡ carrier x → Empty d sig p
  -- it lies where a float would by its offset, and rule 3 puts that float in a floating register
  bypassed : (a : KindIn sig) (x : ℕ) → 1 ≤ register_after d a.before a.kind → offset_of a ≤ x → x < offset_of a + width_of a → p ≡ carrier x → Empty d sig p
  -- it lies after the last argument: in an unused register, or in the rest of the area
  unused : (x : ℕ) → (lay 0 sig).end ≤ x → p ≡ carrier x → Empty d sig p
  -- it is in the home of one of `$4` to `$7`
  home : 32 ≤ p → p < 48 → Empty d sig p
  -- it is in the word of a floating register that rule 3 gives to no argument, as `$f13` beside a single in `$f12`
  unused_float : (g : ℕ) → 12 ≤ g → g < 16 → ((a : KindIn sig) → GivenTo d a g → ⊥) → 16 + 4 * (g - 12) ≤ p → p < 20 + 4 * (g - 12) → Empty d sig p

-- Every byte of an image carries a byte of an argument, or nothing, and never both.
pub record EachByte (d : Device) (sig : List ℕ) : Type 0 where
  pub either : (p : ℕ) → p < image_bytes sig → CarriedByte d sig p ⊎ Empty d sig p
  pub never_both : (p : ℕ) → Empty d sig p → CarriedByte d sig p → ⊥
