-- A small convention, computed: each argument is a byte that becomes two, signed, in the first two of three image bytes; at most two
-- arguments fit; kind 0 is unknown.
-- Assumes nothing.
use mathlib.Core.List.{List, [], ◌∷◌}
use mathlib.Core.Bool.{cond, ◌&&◌}
use Prim.Native.Nat.{ℕ, ◌+◌, ◌*◌}
use lib.Dec.{T, eqb, leb}
use Rattle.words.specs.Words.{signs}
use Rattle.places.specs.Places.{run}
use Rattle.answers.proofs.Cases.{came}
use Rattle.carried.specs.Convention.{refuse, next, Convention, write_into, read_into}

abbrev pairs : Convention
pairs = record {
  State = ℕ;
  Placement = ℕ;
  start = 0;
  step = λ st k. cond (eqb k 0) (refuse 1 0) (next (st + 1) (3 * st) (st + 1));
  placed_at = λ k n p. record { kind = k; argument = n; size = 1; extension = signs 1; carriers = run p 2 };
  fits = λ st. leb st 2;
  image_length = λ st. 3 * st;
}

-- the list 5 with 80, 6 with 7F, and its image
abbrev list : List ℕ
list = 5 ∷ 0x80 ∷ 6 ∷ 0x7F ∷ []

pub written : T (
    came (write_into pairs list 7) 7 0 0 0 (0xFF ∷ 0x80 ∷ 0 ∷ 0 ∷ 0x7F ∷ 0 ∷ [])
    -- a byte too little room
    && came (write_into pairs list 5) 5 7 0 0 []
    -- an unknown kind, a body cut off, a third argument
    && came (write_into pairs (5 ∷ 1 ∷ 0 ∷ []) 9) 9 1 2 0 []
    && came (write_into pairs (5 ∷ 1 ∷ 6 ∷ []) 9) 9 4 2 2 []
    && came (write_into pairs (5 ∷ 1 ∷ 6 ∷ 2 ∷ 7 ∷ 3 ∷ []) 9) 9 5 4 3 []
    )
written = tt

pub read : T (
    -- what the holes hold does not matter
    came (read_into pairs (5 ∷ 6 ∷ []) (0xFF ∷ 0x80 ∷ 0xEE ∷ 0 ∷ 0x7F ∷ 0xEE ∷ []) 5) 5 0 0 0 list
    -- no proper promotion, also with a byte too little room, and with a byte too much of image besides
    && came (read_into pairs (5 ∷ 6 ∷ []) (0xFF ∷ 0x80 ∷ 0 ∷ 1 ∷ 0x7F ∷ 0 ∷ []) 5) 5 8 1 2 []
    && came (read_into pairs (5 ∷ 6 ∷ []) (0xFF ∷ 0x80 ∷ 0 ∷ 1 ∷ 0x7F ∷ 0 ∷ []) 3) 3 7 0 0 []
    && came (read_into pairs (5 ∷ 6 ∷ []) (0xFF ∷ 0x80 ∷ 0 ∷ 1 ∷ 0x7F ∷ 0 ∷ 0 ∷ []) 3) 3 6 0 0 []
    -- a third argument
    && came (read_into pairs (5 ∷ 6 ∷ 7 ∷ []) [] 9) 9 5 2 3 []
    )
read = tt
