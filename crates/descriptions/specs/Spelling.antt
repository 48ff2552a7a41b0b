-- Which bytes spell which tree (request (vi) of document 02).
use Rattle.std.specs.Prelude.{◌≡◌, List, [], ◌∷◌, ◌++◌, ℕ}
use Rattle.descriptions.specs.Trees.{kind_byte, Member, Members, scalar, repeat, structure, none, ◌then◌}

-- "10 opens a structure, 11 closes it, 01 to 08 are members, and 12 with a count byte repeats the member right behind it".
abbrev mutual
  pub spelling : Member → List ℕ
  spelling (scalar s) = kind_byte s ∷ []
  spelling (repeat n m) = 0x12 ∷ n ∷ spelling m
  spelling (structure ms) = 0x10 ∷ spellings ms ++ (0x11 ∷ [])

  pub spellings : Members → List ℕ
  spellings none = []
  spellings (m then ms) = spelling m ++ spellings ms

-- "A description is one structure": the one with these members.
abbrev pub Spells : List ℕ → Members → Type 0
Spells bytes ms = bytes ≡ spelling (structure ms)
