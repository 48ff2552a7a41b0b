-- Offsets and ends, computed.
-- Assumes nothing.
use mathlib.Core.List.{List, [], ◌∷◌, ◌++◌}
use mathlib.Core.Bool.{Bool, ◌&&◌}
use Prim.Native.Nat.{ℕ}
use lib.Dec.{T, eqb}
use Rattle.words.specs.Words.{same}
use Rattle.o32_offsets.specs.Offsets.{lay}

-- these kinds, from this start, have these offsets and this end
abbrev lays : ℕ → List ℕ → List ℕ → ℕ → Bool
lays start ks offsets end = same (lay start ks).offsets offsets && eqb (lay start ks).end end

-- n; d; n,n
abbrev word : List ℕ
word = 0x05 ∷ []

abbrev double : List ℕ
double = 0x08 ∷ []

abbrev words : List ℕ
words = 0x05 ∷ 0x05 ∷ []

pub laid : T (
    -- n,d: a hole
    lays 0 (word ++ double) (0 ∷ 8 ∷ []) 16
    -- a byte and a halfword are words
    && lays 0 (0x01 ∷ 0x04 ∷ 0x05 ∷ []) (0 ∷ 4 ∷ 8 ∷ []) 12
    -- n, a structure of 6 bytes, n: fill, which is before the end
    && lays 0 (0x05 ∷ 0x45 ∷ 0x05 ∷ []) (0 ∷ 4 ∷ 12 ∷ []) 16
    && lays 0 (0x45 ∷ []) (0 ∷ []) 8
    -- a structure of 1 byte takes one word
    && lays 0 (0x40 ∷ 0x05 ∷ []) (0 ∷ 4 ∷ []) 8
    -- n, a structure aligned to 8
    && lays 0 (0x05 ∷ 0xC0 ∷ []) (0 ∷ 8 ∷ []) 16
    -- s, marker, d: the marker has no offset
    && lays 0 (0x07 ∷ 0x0A ∷ 0x08 ∷ []) (0 ∷ 8 ∷ []) 16
    -- two FF structures, which end at 1,024, and one word more: there is no limit here
    && lays 0 (0xFF ∷ 0xFF ∷ []) (0 ∷ 512 ∷ []) 1024
    && lays 0 (0xFF ∷ 0xFF ∷ 0x05 ∷ []) (0 ∷ 512 ∷ 1024 ∷ []) 1028
    -- an unknown kind is at 0 from every start: why the law of starting later asks for known kinds
    && lays 12 (0x09 ∷ []) (0 ∷ []) 0
    )
laid = tt

pub end_to_end : T (
    -- n, and then d from where it ended, is n,d
    lays 0 word (0 ∷ []) 4
    && lays 4 double (8 ∷ []) 16
    -- the empty group and a marker lay nothing, also from 12, where a double would be aligned
    && lays 12 [] [] 12
    && lays 12 (0x0A ∷ []) [] 12
    -- n,d from 4, and from 28: moved by 24
    && lays 4 (word ++ double) (4 ∷ 8 ∷ []) 16
    && lays 28 (word ++ double) (28 ∷ 32 ∷ []) 40
    -- and from 8: a multiple of 4 moves the word by 4 and the double by 8
    && lays 8 (word ++ double) (8 ∷ 16 ∷ []) 24
    -- after a double a group lies as from 0, moved by 8: the ends 8 and 16 make 24
    && lays 0 (double ++ word ++ double) (0 ∷ 8 ∷ 16 ∷ []) 24
    -- n,n and d leave the same end in both orders, and what follows lies at 16;
    && lays 0 (words ++ double ++ word) (0 ∷ 4 ∷ 8 ∷ 16 ∷ []) 20
    && lays 0 (double ++ words ++ word) (0 ∷ 8 ∷ 12 ∷ 16 ∷ []) 20
    -- n and d do not, and it lies at 16 or at 12
    && lays 0 (word ++ double ++ word) (0 ∷ 8 ∷ 16 ∷ []) 20
    && lays 0 (double ++ word ++ word) (0 ∷ 8 ∷ 12 ∷ []) 16
    )
end_to_end = tt
