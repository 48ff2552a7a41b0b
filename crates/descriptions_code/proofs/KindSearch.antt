-- The kind byte of a structure: only one byte can be it, and the search over all kinds finds that one or none.
-- Assumes nothing.
use mathlib.Core.Path.{◌≡◌, refl, sym, ◌∙◌}
use mathlib.Core.Bool.{Bool, true, false, cond, false≢true}
use Prim.Native.Nat.{ℕ}
use lib.Dec.{eqb}
use borrow.Author.Tests.{eqb-false, ne_eqb}
use Rattle.std.specs.Prelude.{Some, None}
use Rattle.std.specs.Bool.{then_some}
use Rattle.descriptions.specs.Trees.{suits, kind_for}
use Rattle.descriptions.proofs.KindFor.{kind_suits, some_found}
use Rattle.descriptions_code.specs.Reading.{OnlyKind, nonzero}

-- where none suits none is found
kind_missing : (size alignment : ℕ) → ((j : ℕ) → suits size alignment j ≡ true → ⊥) → None ≡ nonzero (kind_for size alignment)
kind_missing size alignment n = go (eqb (kind_for size alignment) 0) refl
  where
    go : (t : Bool) → eqb (kind_for size alignment) 0 ≡ t → None ≡ cond t None (Some (kind_for size alignment))
    go true f = refl
    go false f = absurd (n (kind_for size alignment) (kind_suits size alignment 256 (eqb-false (kind_for size alignment) 0 f)))

pub kind_none : {size alignment : ℕ} → OnlyKind size alignment None → None ≡ nonzero (kind_for size alignment)
kind_none {size} {alignment} o = kind_missing size alignment (λ j e. let f = o.only j e in absurd (cc))

-- the only kind that can be is found where it suits
pub kind_if : {size alignment k : ℕ} → OnlyKind size alignment (Some k) → then_some (suits size alignment k) k ≡ nonzero (kind_for size alignment)
kind_if {size} {alignment} {k} o = go (suits size alignment k) refl
  where
    go : (t : Bool) → suits size alignment k ≡ t → then_some t k ≡ nonzero (kind_for size alignment)
    go true e =
        let f = some_found size alignment k e in
        rw (ne_eqb (kind_for size alignment) 0 f) (o.only (kind_for size alignment) (kind_suits size alignment 256 f))
    go false e = kind_missing size alignment (λ j f. let g = o.only j f in absurd (false≢true (sym e ∙ (cc))))
