-- A mask names registers, or pairs of registers, by its bits.
use Rattle.std.specs.Prelude.{List, [], ◌∷◌, Bool, ℕ, zero, suc, ◌+◌, ◌/◌, ◌%◌, ◌^◌, eqb}

-- Bit k, 0 or 1.
abbrev pub bit : ℕ → ℕ → ℕ
bit m k = m / 2 ^ k % 2

-- Whether a mask names k: "bit k is `$k`".
abbrev pub names : ℕ → ℕ → Bool
names m k = eqb (bit m k) 1

-- How many below k a mask names.
unfoldable pub count_below : ℕ → ℕ → ℕ
count_below m zero = 0
count_below m (suc k) = count_below m k + bit m k

-- The mask that names these, where each of them is listed once.
abbrev pub mask_of : List ℕ → ℕ
mask_of [] = 0
mask_of (k ∷ ks) = 2 ^ k + mask_of ks
