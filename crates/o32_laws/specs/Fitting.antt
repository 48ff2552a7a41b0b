-- What the stores and loads of one argument ask of its placement.
use Rattle.std.specs.Prelude.{◌≡◌, ◌⊎◌, true, ◌||◌, ℕ, ◌+◌, ◌%◌, ◌≤◌}
use Rattle.kinds.specs.declared.Class.TheVariants.{Signed, Unsigned, Float}
use Rattle.o32.specs.declared.Placement.{Placement}
use Rattle.o32.specs.O32.{end_most}
use Rattle.kinds.specs.Kinds.{is}
use Rattle.o32_offsets.specs.Offsets.{width}

-- A float register of rule 3 and the size of a single or double.
pub record Floating (register size : ℕ) : Type 0 where
  pub named : (register ≡ 12) ⊎ (register ≡ 14)
  pub sized : (size ≡ 4) ⊎ (size ≡ 8)

-- A placement that fits an image of m bytes.
pub record Fit (p : Placement) (m : ℕ) : Type 0 where
  pub area : 48 ≤ m
  pub inside : 32 + (p.offset + width p.kind) ≤ m
  pub low : p.offset + width p.kind ≤ end_most
  pub aligned : p.offset % 4 ≡ 0
  pub promoted : is Signed p.kind || is Unsigned p.kind ≡ true → (1 ≤ p.kind.size) × (p.kind.size ≤ 2)
  pub floating : 1 ≤ p.register → (is Float p.kind ≡ true) × Floating p.register p.kind.size
