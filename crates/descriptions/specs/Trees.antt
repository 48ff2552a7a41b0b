-- What a description means: a tree of members, with size and alignment by the rules of C structures. Nothing here knows of the
-- bytes of a description. The comments quote request (vi) of document 02.
use Rattle.std.specs.Prelude.{Bool, cond, ◌&&◌, ℕ, zero, suc, ◌+◌, ◌-◌, ◌*◌, ◌≤◌, max, eqb}
use Rattle.words.specs.Words.{up}
use Rattle.kinds.specs.declared.Class.TheVariants as Class
use Rattle.kinds.specs.Kinds.{kind_of, is}

-- "01 to 08 are members": the first eight kinds of document 01's table.
pub data Scalar : Type 0 where
  signed_byte : Scalar
  unsigned_byte : Scalar
  signed_halfword : Scalar
  unsigned_halfword : Scalar
  word : Scalar
  doubleword : Scalar
  single : Scalar
  double : Scalar

-- Its kind there.
abbrev pub kind_byte : Scalar → ℕ
kind_byte signed_byte = 0x01
kind_byte unsigned_byte = 0x02
kind_byte signed_halfword = 0x03
kind_byte unsigned_halfword = 0x04
kind_byte word = 0x05
kind_byte doubleword = 0x06
kind_byte single = 0x07
kind_byte double = 0x08

-- Its bytes: those of a body of that kind.
abbrev pub width : Scalar → ℕ
width s = (kind_of (kind_byte s)).size

-- A member is a scalar, a repeat of a member, or a structure of members in order.
infixr 5 ◌then◌
mutual
  pub data Member : Type 0 where
    scalar : Scalar → Member
    repeat : ℕ → Member → Member
    structure : Members → Member

  pub data Members : Type 0 where
    none : Members
    ◌then◌ : Member → Members → Members

-- ---- "Members use natural alignment (a byte 1, a halfword 2), a structure that of its strictest member."

abbrev mutual
  pub alignment : Member → ℕ
  alignment (scalar s) = width s
  alignment (repeat n m) = alignment m
  alignment (structure ms) = strictest ms

  pub strictest : Members → ℕ
  strictest none = 1
  strictest (m then ms) = max (alignment m) (strictest ms)

-- ---- "The size is rounded up to that alignment."

abbrev mutual
  pub size : Member → ℕ
  size (scalar s) = width s
  size (repeat n m) = n * size m
  size (structure ms) = up (strictest ms) (end_from 0 ms)

  -- Where members end that begin here: each lies at the next multiple of its alignment.
  pub end_from : ℕ → Members → ℕ
  end_from end none = end
  end_from end (m then ms) = end_from (up (alignment m) end + size m) ms

-- ---- "A description is one structure, which is depth 1."

abbrev mutual
  pub depth : Member → ℕ
  depth (scalar s) = 0
  depth (repeat n m) = depth m
  depth (structure ms) = deepest ms + 1

  pub deepest : Members → ℕ
  deepest none = 0
  deepest (m then ms) = max (depth m) (deepest ms)

-- ---- which trees are laid out: in a description of any other one a byte is refused

-- A member that is itself no repeat.
abbrev pub Unrepeated : Member → Type 0
Unrepeated (scalar s) = Unit {0}
Unrepeated (repeat n m) = ⊥
Unrepeated (structure ms) = Unit {0}

-- A structure that is not empty.
abbrev pub NonEmpty : Members → Type 0
NonEmpty none = ⊥
NonEmpty (m then ms) = Unit {0}

-- No structure is empty, every repeat is 1 to 255 and of a member that is itself no repeat, and every member ends within 512 in its
-- structure.
abbrev mutual
  pub Proper : Member → Type 0
  Proper (scalar s) = Unit {0}
  Proper (repeat n m) = (1 ≤ n) × (n ≤ 255) × Unrepeated m × Proper m
  Proper (structure ms) = NonEmpty ms × Within 0 ms

  -- members that begin here
  pub Within : ℕ → Members → Type 0
  Within end none = Unit {0}
  Within end (m then ms) = Proper m × (up (alignment m) end + size m ≤ 512) × Within (up (alignment m) end + size m) ms

-- "A member may itself be a structure .., to depth 6." A structure of these members, in whose description no byte is refused.
pub record Laid (ms : Members) : Type 0 where
  pub proper : Proper (structure ms)
  pub shallow : depth (structure ms) ≤ 6

-- ---- "Answer the size, alignment and the kind byte."

-- Whether a kind of document 01's table is for structures of this size and alignment. "Structures aligned below 4 use the
-- word-aligned kinds."
abbrev pub suits : ℕ → ℕ → ℕ → Bool
suits z a k = is Class.Structure (kind_of k) && eqb (kind_of k).size z && eqb (kind_of k).alignment (max 4 a)

-- Of the last n kinds, up to FF, the first that suits; 0 where none does.
unfoldable pub kind_among : ℕ → ℕ → ℕ → ℕ
kind_among z a zero = 0
kind_among z a (suc n) = cond (suits z a (255 - n)) (255 - n) (kind_among z a n)

-- The kind byte of such a structure: of all 256.
abbrev pub kind_for : ℕ → ℕ → ℕ
kind_for z a = kind_among z a 256
