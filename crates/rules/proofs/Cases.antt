-- The rules on lists, computed.
-- Assumes nothing.
use mathlib.Core.List.{List, [], ◌∷◌}
use mathlib.Core.Bool.{Bool, not, ◌&&◌}
use Prim.Native.Nat.{ℕ}
use lib.Dec.{T, eqb}
use lib.ListN.{replicate}
use Rattle.kinds.specs.Kinds.{kind_of}
use Rattle.rules.specs.declared.Prefix.{Prefix}
use Rattle.rules.specs.Rules.{nothing, misplaced, full, argument, extend}

-- what is kept of records of these kinds
abbrev keep : Prefix → List ℕ → Prefix
keep pre [] = pre
keep pre (k ∷ ks) = keep (extend pre (kind_of k)) ks

abbrev is_misplaced : List ℕ → ℕ → Bool
is_misplaced before k = misplaced (keep nothing before) (kind_of k)

abbrev is_full : List ℕ → ℕ → Bool
is_full before k = full (keep nothing before) (kind_of k)

abbrev number_of : List ℕ → ℕ → ℕ
number_of before k = argument (keep nothing before) (kind_of k)

-- A marker first, after a return pointer alone, after a word, after a word and a marker; a return pointer first and after a word.
pub markers_and_pointers : T (
    is_misplaced [] 0x0A && is_misplaced (0x0B ∷ []) 0x0A && not (is_misplaced (0x05 ∷ []) 0x0A) && not (is_misplaced (0x0B ∷ 0x05 ∷ []) 0x0A)
    && is_misplaced (0x05 ∷ 0x0A ∷ []) 0x0A && not (is_misplaced [] 0x0B) && is_misplaced (0x05 ∷ []) 0x0B && not (is_misplaced (0x05 ∷ 0x0A ∷ []) 0x05)
    )
markers_and_pointers = tt

-- The 32nd and the 33rd argument, and a marker after 32.
pub thirty_two : T (not (is_full (replicate 31 0x05) 0x05) && is_full (replicate 32 0x05) 0x05 && not (is_full (replicate 32 0x05) 0x0A) && is_full (0x0B ∷ replicate 31 0x05) 0x05)
thirty_two = tt

-- The first argument, one after a marker, one after a return pointer; a marker and an unknown kind have none.
pub numbers : T (
    eqb (number_of [] 0x05) 1 && eqb (number_of (0x05 ∷ 0x0A ∷ []) 0x05) 2 && eqb (number_of (0x0B ∷ []) 0x05) 2
    && eqb (number_of (0x05 ∷ []) 0x0A) 0 && eqb (number_of (0x05 ∷ []) 0x09) 0 && eqb (number_of (replicate 32 0x05) 0x0B) 33
    )
numbers = tt
