-- The cases that are proved, by computation, of the answers with a lent buffer: the twelve bench cases of document 01 and the
-- case of request (ii) of document 02, the edges, and the argument's numbers of request (iv). Three tables, one test.
-- Assumes nothing.
use mathlib.Core.List.{List, [], ◌∷◌, ◌++◌, map}
use mathlib.Core.Bool.{Bool, true, false, ◌&&◌}
use Prim.Native.Nat.{ℕ, ◌+◌}
use lib.Dec.{T}
use lib.ListN.{length, replicate}
use Rattle.words.specs.Words.{bytes_of, bytes_of_words, same}
use Rattle.device.specs.declared.Device.{Device}
use Rattle.device.specs.declared.Device.TheVariants.{Fpu, NoFpu}
use Rattle.answers.specs.Outcomes.{Outcome}
use Rattle.answers.proofs.Cases.{came}
use Rattle.carried.specs.Image.{Placed}
use Rattle.carried.specs.Convention.{Scan, stopped, complete, scan, write_into, read_into}
use Rattle.o32.specs.declared.State.{State}
use Rattle.o32.specs.O32.{O32}

-- A call: of the writer with a list, or of the reader with a signature and an image.
pub data Call : Type 0 where
  write : Device → List ℕ → Call
  read : Device → List ℕ → List ℕ → Call

-- What a call answers with so many bytes lent.
abbrev pub outcome_of : Call → ℕ → Outcome
outcome_of (write d list) room = write_into (O32 d) list room
outcome_of (read d sig img) room = read_into (O32 d) sig img room

-- A case: a call and the bytes lent, and what is to come of it: refusal, place, argument, and the bytes written.
pub data Case : Type 0 where
  case : Call → ℕ → ℕ → ℕ → ℕ → List ℕ → Case

abbrev pub holds : Case → Bool
holds (case call room refusal place argument bytes) = came (outcome_of call room) room refusal place argument bytes

abbrev pub all : List Case → Bool
all [] = true
all (c ∷ cs) = holds c && all cs

-- ---- how the tables are written

-- these bytes are written, into a buffer that is five longer
abbrev gives : Call → List ℕ → Case
gives call bytes = case call (length bytes + 5) 0 0 0 bytes

-- an image by words, on the device with a floating-point unit: $4 to $7, $f12 to $f15, the area
abbrev image : List ℕ → List ℕ → List ℕ → List ℕ → Case
image list general floating area = gives (write Fpu list) (bytes_of_words (general ++ floating ++ area))

-- refused, with twelve bytes lent, which is more than the lists have that are refused 8
abbrev refuses : Call → ℕ → ℕ → ℕ → Case
refuses call number place argument = case call 12 number place argument []

-- a list, and a signature with no image: where it is accepted it comes to refusal 6
abbrev list : List ℕ → Call
list = write Fpu

abbrev signature : List ℕ → Call
signature sig = read Fpu sig []

-- records: a word, a single, a double, a return pointer, a marker
abbrev n : ℕ → List ℕ
n x = 0x05 ∷ bytes_of 4 x

abbrev s : ℕ → List ℕ
s x = 0x07 ∷ bytes_of 4 x

abbrev d : ℕ → List ℕ
d x = 0x08 ∷ bytes_of 8 x

abbrev pointer : ℕ → List ℕ
pointer x = 0x0B ∷ bytes_of 4 x

abbrev marker : List ℕ
marker = 0x0A ∷ []

-- a word whose body is cut off
abbrev cut : List ℕ
cut = 0x05 ∷ 0 ∷ []

-- 32 words, each with 05 for every byte of its body, and two structures of 512 bytes likewise
abbrev words32 : List ℕ
words32 = replicate 160 0x05

abbrev structures1024 : List ℕ
structures1024 = replicate 1026 0xFF

abbrev none : List ℕ
none = 0 ∷ 0 ∷ 0 ∷ 0 ∷ []

-- ---- the bench cases

abbrev pub bench_table : List Case
bench_table =
    -- empty
    image [] none none none
    -- 01 80
    ∷ image (0x01 ∷ 0x80 ∷ []) (0xFFFFFF80 ∷ 0 ∷ 0 ∷ 0 ∷ []) none none
    -- d,s
    ∷ image (d 0xD1D2D3D4D5D6D7D8 ++ s 0xA1A2A3A4) none (0xD5D6D7D8 ∷ 0xD1D2D3D4 ∷ 0xA1A2A3A4 ∷ 0 ∷ []) none
    -- s,d
    ∷ image (s 0xA1A2A3A4 ++ d 0xD1D2D3D4D5D6D7D8) none (0xA1A2A3A4 ∷ 0 ∷ 0xD5D6D7D8 ∷ 0xD1D2D3D4 ∷ []) none
    -- s,s,d
    ∷ image (s 0xA1A2A3A4 ++ s 0xB1B2B3B4 ++ d 0xD1D2D3D4D5D6D7D8) (0 ∷ 0 ∷ 0xD1D2D3D4 ∷ 0xD5D6D7D8 ∷ []) (0xA1A2A3A4 ∷ 0 ∷ 0xB1B2B3B4 ∷ 0 ∷ []) none
    -- n,d
    ∷ image (n 0x11121314 ++ d 0xD1D2D3D4D5D6D7D8) (0x11121314 ∷ 0 ∷ 0xD1D2D3D4 ∷ 0xD5D6D7D8 ∷ []) none none
    -- s,n,s,n
    ∷ image (s 0xA1A2A3A4 ++ n 0x11121314 ++ s 0xB1B2B3B4 ++ n 0x21222324) (0 ∷ 0x11121314 ∷ 0xB1B2B3B4 ∷ 0x21222324 ∷ []) (0xA1A2A3A4 ∷ 0 ∷ 0 ∷ 0 ∷ []) none
    -- n,n,n,d
    ∷ image (n 0x11121314 ++ n 0x21222324 ++ n 0x31323334 ++ d 0xD1D2D3D4D5D6D7D8) (0x11121314 ∷ 0x21222324 ∷ 0x31323334 ∷ 0 ∷ []) none (none ++ (0xD1D2D3D4 ∷ 0xD5D6D7D8 ∷ []))
    -- s, marker, d
    ∷ image (s 0xA1A2A3A4 ++ marker ++ d 0xD1D2D3D4D5D6D7D8) (0 ∷ 0 ∷ 0xD1D2D3D4 ∷ 0xD5D6D7D8 ∷ []) (0xA1A2A3A4 ∷ 0 ∷ 0 ∷ 0 ∷ []) none
    -- return pointer, d
    ∷ image (pointer 0x11121314 ++ d 0xD1D2D3D4D5D6D7D8) (0x11121314 ∷ 0 ∷ 0xD1D2D3D4 ∷ 0xD5D6D7D8 ∷ []) none none
    -- n = 9, then 45 with 01..06
    ∷ image (n 9 ++ (0x45 ∷ 1 ∷ 2 ∷ 3 ∷ 4 ∷ 5 ∷ 6 ∷ [])) (9 ∷ 0x01020304 ∷ 0x05060000 ∷ 0 ∷ []) none none
    -- n, then 53 (20 bytes)
    ∷ image (n 0x11121314 ++ (0x53 ∷ bytes_of_words (0x51525354 ∷ 0x61626364 ∷ 0x71727374 ∷ 0x81828384 ∷ 0x91929394 ∷ [])))
    (0x11121314 ∷ 0x51525354 ∷ 0x61626364 ∷ 0x71727374 ∷ []) none (none ++ (0x81828384 ∷ 0x91929394 ∷ []))
    -- without a floating-point unit: d,s,d
    ∷ gives (write NoFpu (d 0xD1D2D3D4D5D6D7D8 ++ s 0xA1A2A3A4 ++ d 0xE1E2E3E4E5E6E7E8))
    (bytes_of_words ((0xD1D2D3D4 ∷ 0xD5D6D7D8 ∷ 0xA1A2A3A4 ∷ 0 ∷ []) ++ none ++ none ++ (0xE1E2E3E4 ∷ 0xE5E6E7E8 ∷ [])))
    ∷ []

pub bench_cases : T (all bench_table)
bench_cases = tt

-- ---- the edges: what is refused, where, at which argument, and what is accepted next to it

abbrev pub edge_table : List Case
edge_table =
    -- a 33rd argument
    refuses (signature (replicate 33 0x05)) 3 32 33
    ∷ refuses (list (words32 ++ n 1)) 3 160 33
    -- a word that ends beyond 1,024
    ∷ refuses (signature (0xFF ∷ 0xFF ∷ 0x05 ∷ [])) 5 2 3
    ∷ refuses (list (structures1024 ++ n 1)) 5 1026 3
    -- "At each record the order is 1 to 5": a 33rd argument that is cut off, a word that is cut off and would end beyond 1,024
    ∷ refuses (list (words32 ++ cut)) 3 160 33
    ∷ refuses (list (structures1024 ++ cut)) 4 1026 3
    ∷ refuses (list cut) 4 0 1
    ∷ refuses (list marker) 2 0 0
    -- signature 01 with `$4` = 00000080, the same with a byte after the image, and with `$4` = FFFFFF80, which is read
    ∷ refuses (read Fpu (0x01 ∷ []) (bytes_of_words (0x80 ∷ replicate 11 0))) 8 0 1
    ∷ refuses (read Fpu (0x01 ∷ []) (bytes_of_words (0x80 ∷ replicate 11 0) ++ (0 ∷ []))) 6 0 0
    ∷ gives (read Fpu (0x01 ∷ []) (bytes_of_words (0xFFFFFF80 ∷ replicate 11 0))) (0x01 ∷ 0x80 ∷ [])
    -- one byte too little lent: for the image, and for the list, where it would be refused 8
    ∷ case (list []) 47 7 0 0 []
    ∷ case (read Fpu (0x01 ∷ []) (bytes_of_words (0x80 ∷ replicate 11 0))) 1 7 0 0 []
    -- 32 words are accepted, and two FF structures, which end at 1,024: their signature comes to refusal 6
    ∷ image words32 (replicate 4 0x05050505) none (none ++ replicate 28 0x05050505)
    ∷ refuses (signature (0xFF ∷ 0xFF ∷ [])) 6 0 0
    ∷ []

pub edges : T (all edge_table)
edges = tt

-- ---- request (iv) of document 02: the argument's number after other arguments, and after a marker, which counts for the
-- place and not for the number

abbrev pub number_table : List Case
number_table =
    refuses (signature (replicate 32 0x05 ++ marker ++ (0x05 ∷ []))) 3 33 33
    -- a misplaced return pointer has the number that it would have, also the 33rd
    ∷ refuses (signature (0x05 ∷ 0x0B ∷ [])) 2 1 2
    ∷ refuses (signature (replicate 32 0x05 ++ (0x0B ∷ []))) 2 32 33
    -- a return pointer counts
    ∷ refuses (list (pointer 1 ++ cut)) 4 5 2
    -- a second marker, a marker after a return pointer alone, an unknown kind: none
    ∷ refuses (list (n 1 ++ marker ++ marker)) 2 6 0
    ∷ refuses (list (pointer 1 ++ marker)) 2 5 0
    ∷ refuses (list (n 1 ++ marker ++ (0x09 ∷ []))) 1 6 0
    -- a body cut off, and an end beyond 1,024, after a marker
    ∷ refuses (list (n 1 ++ marker ++ cut)) 4 6 2
    ∷ refuses (signature (0xFF ∷ 0xFF ∷ 0x0A ∷ 0x05 ∷ [])) 5 3 3
    -- no proper promotion, likewise
    ∷ refuses (read Fpu (0x05 ∷ 0x0A ∷ 0x01 ∷ []) (bytes_of_words (0 ∷ 0x80 ∷ replicate 10 0))) 8 2 2
    ∷ []

pub numbers : T (all number_table)
numbers = tt

-- The numbers of the records that are taken, of which no answer speaks.
abbrev pub reports : Scan State → List ℕ → Bool
reports (stopped r at k) ns = false
reports (complete L st) ns = same (map (λ (s : Placed). s.argument) L) ns

pub taken_numbers : T (reports (scan (O32 Fpu) false (0x0B ∷ 0x05 ∷ 0x0A ∷ 0x05 ∷ [])) (1 ∷ 2 ∷ 0 ∷ 3 ∷ []))
taken_numbers = tt
