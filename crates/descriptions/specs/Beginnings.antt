-- What stands before a place of a description, said of trees: structures that are open, and the members that each has so far.
use Rattle.std.specs.Prelude.{◌≡◌, List, [], ◌∷◌, ◌++◌, ℕ, ◌+◌, ◌≤◌}
use Rattle.descriptions.specs.Trees.{Members, deepest, Within}
use Rattle.descriptions.specs.Spelling.{spellings}

-- The members of a structure at depth d so far, of which nothing is refused.
pub record Fit (d : ℕ) (ms : Members) : Type 0 where
  pub within : Within 0 ms
  pub shallow : deepest ms + d ≤ 6

-- How often a member is to stand, and the bytes before its type that say so.
pub data Count : ℕ → List ℕ → Type 0 where
  once : Count 1 []
  times : (n : ℕ) → 1 ≤ n → n ≤ 255 → Count n (0x12 ∷ n ∷ [])

-- d structures are open in each other. The bytes up to the 10 that opens the innermost.
pub data Opened : ℕ → List ℕ → Type 0 where
  outermost : Opened 1 (0x10 ∷ [])
  inner : {d n : ℕ} {before bytes : List ℕ} → Opened d before → (ms : Members) → Fit d ms → Count n bytes → d + 1 ≤ 6
      → Opened (d + 1) (before ++ (spellings ms ++ (bytes ++ (0x10 ∷ []))))

-- The bytes up to a place in the innermost of d open structures: those up to the 10 that opens it, its members so far, and then
-- `last`.
pub record Inside (d : ℕ) (ms : Members) (last bytes : List ℕ) : Type 0 where
  pub opening : List ℕ
  pub opened : Opened d opening
  pub fit : Fit d ms
  pub spelled : bytes ≡ opening ++ (spellings ms ++ last)
