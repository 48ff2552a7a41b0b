-- What is answered to the bytes of a description: "Refusals, by byte from the left and in this order at each, the place being that
-- byte" (request (vi) of document 02).
use Rattle.std.specs.Prelude.{List, [], ◌∷◌, cond, ◌&&◌, ℕ, ◌+◌, ◌*◌, max, eqb, leb, ltb, length}
use Rattle.words.specs.Words.{up}
use Rattle.kinds.specs.Kinds.{kind_of}
use Rattle.descriptions.specs.Structures.{Structure}
use Rattle.descriptions.specs.Trees.{kind_for}

-- ---- what the bytes so far leave open

-- A structure that is open: where its last member ends, and the alignment of its strictest member. Every member has bytes, so an
-- end of 0 says that there is none yet.
pub record Open : Type 0 where
  pub end : ℕ
  pub strictest : ℕ

abbrev pub empty : Open
empty = record { end = 0; strictest = 1 }

-- One member more: n times a type of so many bytes, at the next multiple of its alignment.
abbrev pub append : ℕ → ℕ → ℕ → Open → Open
append n bytes alignment o = record { end = up alignment o.end + n * bytes; strictest = max alignment o.strictest }

-- A structure around an open one, which is to be its member so many times.
pub record Around : Type 0 where
  pub times : ℕ
  pub outer : Open

pub data State : Type 0 where
  start : State  -- nothing was read
  inside : Open → List Around → State  -- in a structure, before a member or its end
  counting : Open → List Around → State  -- there, after a 12
  repeated : ℕ → Open → List Around → State  -- there, after a 12 and its count
  closed : ℕ → ℕ → State  -- the description's structure is closed: its size and alignment

-- ---- one byte

-- A byte is refused, with a number, or leads to another state.
pub data Step : Type 0 where
  refuse : ℕ → Step
  go : State → Step

-- The bytes of a scalar member, which are its alignment too; 0 where the byte is none of 01 to 08.
abbrev pub scalar_bytes : ℕ → ℕ
scalar_bytes b = cond (leb 1 b && leb b 8) (kind_of b).size 0

-- "18 a member, repeats counted, ends above 512 in its structure (place: its last byte)".
abbrev pub end_most : ℕ
end_most = 512

-- A member whose last byte was read: n times a type of so many bytes.
abbrev pub placed : ℕ → ℕ → ℕ → Open → List Around → Step
placed n bytes alignment o out = cond (leb (append n bytes alignment o).end end_most) (go (inside (append n bytes alignment o) out)) (refuse 18)

-- The structures that are open where one is open inside these.
abbrev pub levels : List Around → ℕ
levels out = length out + 1

-- "17 depth above 6".
abbrev pub depth_most : ℕ
depth_most = 6

-- A byte where the type of a member begins, which is to stand n times.
abbrev pub typed : ℕ → ℕ → Open → List Around → Step
typed b n o out =
    cond (eqb b 0x10) (cond (ltb (levels out) depth_most) (go (inside empty (record { times = n; outer = o } ∷ out))) (refuse 17))
    (cond (eqb (scalar_bytes b) 0) (refuse 16) (placed n (scalar_bytes b) (scalar_bytes b) o out))

-- A structure is complete: it is a member of the one around it, or it is the description's.
abbrev pub ended : ℕ → ℕ → List Around → Step
ended bytes alignment [] = go (closed bytes alignment)
ended bytes alignment (s ∷ out) = placed s.times bytes alignment s.outer out

-- "19 a structure closed empty". "The size is rounded up to that alignment."
abbrev pub close : Open → List Around → Step
close o out = cond (eqb o.end 0) (refuse 19) (ended (up o.strictest o.end) o.strictest out)

-- "16 unknown byte or one that can't stand there, repeat of 0, .. or left over". "12 with a count byte repeats the member right
-- behind it, which may not begin with 12, 1 to 255 times."
unfoldable pub judge : ℕ → State → Step
judge b start = cond (eqb b 0x10) (go (inside empty [])) (refuse 16)
judge b (inside o out) = cond (eqb b 0x11) (close o out) (cond (eqb b 0x12) (go (counting o out)) (typed b 1 o out))
judge b (counting o out) = cond (leb 1 b && leb b 255) (go (repeated b o out)) (refuse 16)
judge b (repeated n o out) = typed b n o out
judge b (closed bytes alignment) = refuse 16

-- ---- the answer

abbrev pub refused : ℕ → ℕ → Structure
refused number place = record { refusal = number; place = place; size = 0; alignment = 0; kind = 0 }

-- "Last, at place 0: 19 no kind of that size."
abbrev pub answered : ℕ → ℕ → ℕ → Structure
answered bytes alignment kind = cond (eqb kind 0) (refused 19 0) (record { refusal = 0; place = 0; size = bytes; alignment = alignment; kind = kind })

-- No byte is left at this place: "bytes missing (place the length)".
abbrev pub finish : ℕ → State → Structure
finish place (closed bytes alignment) = answered bytes alignment (kind_for bytes alignment)
finish place start = refused 16 place
finish place (inside o out) = refused 16 place
finish place (counting o out) = refused 16 place
finish place (repeated n o out) = refused 16 place

-- "by byte from the left .., the place being that byte".
abbrev pub proceed : ℕ → Step → (State → Structure) → Structure
proceed place (refuse number) rest = refused number place
proceed place (go state) rest = rest state

unfoldable pub describe_from : ℕ → State → List ℕ → Structure
describe_from place state [] = finish place state
describe_from place state (b ∷ bytes) = proceed place (judge b state) (λ (next : State). describe_from (place + 1) next bytes)

abbrev pub described : List ℕ → Structure
described bytes = describe_from 0 start bytes
