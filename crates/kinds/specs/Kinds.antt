-- "The list and its kinds": body bytes, alignment and class of every kind byte.
use Rattle.std.specs.Prelude.{List, [], ◌∷◌, Bool, cond, ◌&&◌, ℕ, ◌+◌, ◌-◌, ◌*◌, eqb, leb}
use Rattle.kinds.specs.declared.Class.{Class}
use Rattle.kinds.specs.declared.Class.TheVariants.{Unknown, Marker, Pointer, Signed, Unsigned, Float, Plain, Structure}
use Rattle.kinds.specs.declared.Kind.{Kind}

-- A row of the table: the kinds from the first number to the second, their body bytes, alignment and class.
pub data Row : Type 0 where
  row : ℕ → ℕ → (ℕ → ℕ) → ℕ → Class → Row

-- The table, in its order. (A marker has no alignment.)
abbrev pub table : List Row
table =
    row 0x01 0x01 (λ k. 1) 4 Signed
    ∷ row 0x02 0x02 (λ k. 1) 4 Unsigned
    ∷ row 0x03 0x03 (λ k. 2) 4 Signed
    ∷ row 0x04 0x04 (λ k. 2) 4 Unsigned
    ∷ row 0x05 0x05 (λ k. 4) 4 Plain
    ∷ row 0x06 0x06 (λ k. 8) 8 Plain
    ∷ row 0x07 0x07 (λ k. 4) 4 Float
    ∷ row 0x08 0x08 (λ k. 8) 8 Float
    ∷ row 0x0A 0x0A (λ k. 0) 0 Marker
    ∷ row 0x0B 0x0B (λ k. 4) 4 Pointer
    ∷ row 0x40 0x7F (λ k. k - 0x3F) 4 Structure
    ∷ row 0x80 0xBF (λ k. 64 + 4 * (k - 0x7F)) 4 Structure
    ∷ row 0xC0 0xFF (λ k. 8 * (k - 0xBF)) 8 Structure
    ∷ []

-- "Every other kind is unknown."
abbrev pub look : ℕ → List Row → Kind
look k [] = record { size = 0; alignment = 0; class = Unknown }
look k (row first last size a c ∷ rows) = cond (leb first k && leb k last) (record { size = size k; alignment = a; class = c }) (look k rows)

abbrev pub kind_of : ℕ → Kind
kind_of k = look k table

-- A number for each class, and whether a kind is of a class.
abbrev pub class_number : Class → ℕ
class_number Unknown = 0
class_number Marker = 1
class_number Pointer = 2
class_number Signed = 3
class_number Unsigned = 4
class_number Float = 5
class_number Plain = 6
class_number Structure = 7

abbrev pub is : Class → Kind → Bool
is c k = eqb (class_number k.class) (class_number c)
