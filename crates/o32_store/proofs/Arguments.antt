-- An argument's bytes after promotion, and the image bytes that carry them, by its class and register.
-- Assumes nothing.
use mathlib.Core.Path.{◌≡◌, ◌∙◌}
use mathlib.Core.List.{List}
use mathlib.Core.Bool.{true}
use Prim.Native.Nat.{ℕ}
use borrow.Author.Tests.{ne_eqb}
use Rattle.words.specs.Words.{promote}
use Rattle.places.specs.Places.{put}
use Rattle.kinds.specs.declared.Class.TheVariants.{Float}
use Rattle.o32.specs.declared.Placement.{Placement}
use Rattle.kinds.specs.Kinds.{is}
use Rattle.o32_offsets.specs.Offsets.{extension}
use Rattle.o32.specs.O32.{float_bytes, carriers}
use Rattle.o32_laws.proofs.Fitting.{float_extended}

-- ---- stored at the image bytes that carry them

module _ (p : Placement) (img img' body : List ℕ) where
  abbrev pub Stored : Type 0
  Stored = img' ≡ put img (carriers p) (promote (extension p.kind) body)

  pub float_argument : (p.register ≡ 0 → ⊥) → is Float p.kind ≡ true → img' ≡ put img (float_bytes p.register p.kind.size) body → Stored
  float_argument z f h = h ∙ rw (ne_eqb p.register 0 z, float_extended p.kind f)
