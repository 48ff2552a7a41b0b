-- When the writer and the reader refuse, said of the kinds that stand before the place ("Refusal numbers").
use Rattle.std.specs.Prelude.{◌≡◌, ◌⊎◌, ◌↔◌, List, [], ◌∷◌, ◌++◌, map, Bool, true, false, cond, ◌||◌, ℕ, ◌+◌, ◌-◌, ◌≤◌, ◌<◌, length, get_or, take, drop}
use Rattle.words.specs.Words.{proper}
use Rattle.places.specs.Places.{gather, run}
use Rattle.carried.specs.Convention.{body_length}
use Rattle.kinds.specs.declared.Class.{Class}
use Rattle.kinds.specs.declared.Class.TheVariants.{Unknown, Marker, Pointer, Signed, Unsigned}
use Rattle.kinds.specs.Kinds.{kind_of, is}
use Rattle.o32_offsets.specs.Offsets.{extension, lay}
use Rattle.o32.specs.O32.{carrier}
use Rattle.carried.specs.Calls.{Result, Functions}
use Rattle.o32_laws.specs.Carrying.{KindIn, offset_of, image_bytes, list_bytes}

-- How many of these kinds are of a class, and how many arguments they are: "the return pointer counted, the marker not".
abbrev pub count_of : Class → List ℕ → ℕ
count_of c [] = 0
count_of c (k ∷ ks) = cond (is c (kind_of k)) 1 0 + count_of c ks

abbrev pub arguments_in : List ℕ → ℕ
arguments_in [] = 0
arguments_in (k ∷ ks) = cond (is Marker (kind_of k)) 0 1 + arguments_in ks

-- The number of the argument that a kind after these is or would be. "At a record that would be argument k it is k; at a
-- misplaced marker or an unknown kind 0" (request (iv) of document 02).
abbrev pub argument_after : List ℕ → ℕ → ℕ
argument_after before k = cond (is Unknown (kind_of k) || is Marker (kind_of k)) 0 (arguments_in before + 1)

-- ---- 1 to 5: the conditions at a kind k after these kinds, with so many bytes left after it, in a list (true) or a signature
-- (false)

-- 2, "marker or return pointer misplaced or repeated". "The marker stands at most once, and after at least one argument that is no
-- return pointer. .. A return pointer stands first or nowhere."
abbrev pub Misplaced : List ℕ → ℕ → Type 0
Misplaced before k =
    ((is Marker (kind_of k) ≡ true) × ((1 ≤ count_of Marker before) ⊎ (arguments_in before ≡ count_of Pointer before)))
    ⊎ ((is Pointer (kind_of k) ≡ true) × (1 ≤ arguments_in before))

pub data Condition (bodies : Bool) (before : List ℕ) (k left r : ℕ) : Type 0 where
  -- "unknown kind"
  unknown : r ≡ 1 → is Unknown (kind_of k) ≡ true → Condition bodies before k left r
  misplaced : r ≡ 2 → Misplaced before k → Condition bodies before k left r
  -- "a 33rd argument"
  full : r ≡ 3 → is Marker (kind_of k) ≡ false → arguments_in before ≡ 32 → Condition bodies before k left r
  -- "body cut off (lists only)"
  cut : r ≡ 4 → bodies ≡ true → left < (kind_of k).size → Condition bodies before k left r
  -- "this argument ends beyond 1,024"
  beyond : r ≡ 5 → is Marker (kind_of k) ≡ false → 1024 < (lay 0 (before ++ (k ∷ []))).end → Condition bodies before k left r

-- These bytes are whole records of these kinds, end to end: a kind byte each and, in a list (true), its body.
abbrev pub Records : Bool → List ℕ → List ℕ → Type 0
Records bodies [] l = l ≡ []
Records bodies (k ∷ ks) l = (body : List ℕ) × (rest : List ℕ) × (l ≡ k ∷ (body ++ rest)) × (length body ≡ body_length bodies (kind_of k).size) × Records bodies ks rest

-- A list (true) or a signature (false) is accepted, and these are its kinds: its records are whole, so 4 holds at none of them, and
-- neither do 1, 2, 3 and 5. (These are asked as in a signature, with no bytes left, where 4 cannot hold.)
pub record Accepted (bodies : Bool) (l ks : List ℕ) : Type 0 where
  pub records : Records bodies ks l
  pub none_refused : (a : KindIn ks) (r : ℕ) → Condition false a.before a.kind 0 r → ⊥

-- "records are checked left to right. At each record the order is 1 to 5": refusal r is given at this place, of argument j. The bytes
-- before the place are accepted, the condition of r holds there by their kinds, and that of no lower number does.
pub record RefusedAt (bodies : Bool) (l : List ℕ) (r place j : ℕ) : Type 0 where
  pub inside : place < length l
  pub before : List ℕ
  pub accepted : Accepted bodies (take place l) before
  pub holds : Condition bodies before (get_or l place 0) (length l - (place + 1)) r
  pub first : (q : ℕ) → q < r → Condition bodies before (get_or l place 0) (length l - (place + 1)) q → ⊥
  pub number : j ≡ argument_after before (get_or l place 0)

-- ---- 8

-- "a word of kind 01 to 04 is no proper promotion": the word at its offset in this image.
abbrev pub Improper : {sig : List ℕ} → KindIn sig → List ℕ → Type 0
Improper a img =
    (is Signed (kind_of a.kind) || is Unsigned (kind_of a.kind) ≡ true)
    × (proper (extension (kind_of a.kind)) (kind_of a.kind).size (gather img (map carrier (run (offset_of a) 4))) ≡ false)

-- "first such kind's offset in the signature".
pub record FirstImproper (sig img : List ℕ) (place j : ℕ) : Type 0 where
  pub argument : KindIn sig
  pub at : place ≡ length argument.before
  pub improper : Improper argument img
  pub first : (a : KindIn sig) → length a.before < place → Improper a img → ⊥
  pub number : j ≡ argument_after argument.before argument.kind

-- ---- all refusals, in their order: "1 to 5. After the last: 6, 7, 8". None depends on the device.

-- The writer refuses a list, into a buffer with so many bytes.
pub data WriterRefuses (list : List ℕ) (room r place j : ℕ) : Type 0 where
  by_record : RefusedAt true list r place j → WriterRefuses list room r place j
  -- 7, "output buffer shorter than the result"
  short_buffer : (ks : List ℕ) → Accepted true list ks → room < image_bytes ks → r ≡ 7 → place ≡ 0 → j ≡ 0 → WriterRefuses list room r place j

-- An image under an accepted signature is refused, where n bytes are to be answered into a buffer of `room` bytes.
pub data ImageRefuses (sig img : List ℕ) (n room r place j : ℕ) : Type 0 where
  -- 6, "image length is not 32 + A"
  wrong_length : (length img ≡ image_bytes sig → ⊥) → r ≡ 6 → place ≡ 0 → j ≡ 0 → ImageRefuses sig img n room r place j
  short_buffer : length img ≡ image_bytes sig → room < n → r ≡ 7 → place ≡ 0 → j ≡ 0 → ImageRefuses sig img n room r place j
  improper : length img ≡ image_bytes sig → n ≤ room → r ≡ 8 → FirstImproper sig img place j → ImageRefuses sig img n room r place j

-- The reader refuses an image under a signature, into a buffer with so many bytes.
pub data ReaderRefuses (sig img : List ℕ) (room r place j : ℕ) : Type 0 where
  by_record : RefusedAt false sig r place j → ReaderRefuses sig img room r place j
  by_image : Accepted false sig sig → ImageRefuses sig img (list_bytes sig) room r place j → ReaderRefuses sig img room r place j

-- ---- demand 1, of what a reader and a writer answer and leave in a lent buffer

-- A result is this refusal, at this place, of this argument.
abbrev pub Refuses : Result → ℕ → ℕ → ℕ → Type 0
Refuses x r place j = (x.refusal ≡ r) × (x.place ≡ place) × (x.argument ≡ j)

-- What a call with this buffer leaves. "A refusal returns its number, its place .., length 0 ..; the output buffer keeps its bytes.
-- Success returns 0, place 0 .. Output bytes beyond [the length] keep their content." (Which length is the exact one is said by
-- `reading_length` and `rewriting_length` of demand 3, of plans and signatures by `made` and `own_signature`, plans/specs/Pair.antt.)
pub record KeepsBuffer (out : List ℕ) (x : Result) : Type 0 where
  pub refused : 1 ≤ x.refusal → (x.length ≡ 0) × (x.buffer ≡ out)
  pub accepted : x.refusal ≡ 0 → (x.place ≡ 0) × (x.argument ≡ 0) × (drop x.length x.buffer ≡ drop x.length out)

-- Each refusal is "given exactly when" its condition holds, first one first.
pub record Refusals (f : Functions) : Type 0 where
  -- a list or signature is accepted exactly when no record of it is refused
  pub accepted : (bodies : Bool) (l : List ℕ) → ((ks : List ℕ) × Accepted bodies l ks) ↔ ((r place j : ℕ) → RefusedAt bodies l r place j → ⊥)
  pub write_refuses : (list out : List ℕ) (r place j : ℕ) → 1 ≤ r → Refuses (f.write list out) r place j ↔ WriterRefuses list (length out) r place j
  pub write_accepts : (list out : List ℕ) → ((f.write list out).refusal ≡ 0) ↔ ((r place j : ℕ) → WriterRefuses list (length out) r place j → ⊥)
  pub write_keeps : (list out : List ℕ) → KeepsBuffer out (f.write list out)
  pub read_refuses : (sig img out : List ℕ) (r place j : ℕ) → 1 ≤ r → Refuses (f.read sig img out) r place j ↔ ReaderRefuses sig img (length out) r place j
  pub read_accepts : (sig img out : List ℕ) → ((f.read sig img out).refusal ≡ 0) ↔ ((r place j : ℕ) → ReaderRefuses sig img (length out) r place j → ⊥)
  pub read_keeps : (sig img out : List ℕ) → KeepsBuffer out (f.read sig img out)
