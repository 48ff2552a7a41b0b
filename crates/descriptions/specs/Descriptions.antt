-- What holds of descriptions: of the definitions, and of a function that answers by them. The comments quote request (vi) of
-- document 02.
use Rattle.std.specs.Prelude.{◌≡◌, ◌⊎◌, ◌↔◌, List, [], ◌∷◌, ◌++◌, true, ℕ, ◌+◌, ◌*◌, ◌≤◌, ◌<◌, max, length}
use Rattle.words.specs.Words.{up}
use Rattle.kinds.specs.declared.Class.TheVariants as Class
use Rattle.kinds.specs.Kinds.{kind_of, is}
use Rattle.o32_offsets.specs.Offsets.{offset, ending}
use Rattle.descriptions.specs.Structures.{Structure}
use Rattle.descriptions.specs.Trees.{Member, Members, structure, alignment, size, end_from, depth, Unrepeated, Proper, Laid}
use Rattle.descriptions.specs.Spelling.{spelling, Spells}
use Rattle.descriptions.specs.Beginnings.{Count, Opened, Inside}

-- ---- what is accepted

-- k is a kind of document 01's table for structures of so many bytes, aligned to 8 there exactly where the structure is.
pub record IsKind (bytes natural k : ℕ) : Type 0 where
  pub class : is Class.Structure (kind_of k) ≡ true
  pub same_size : (kind_of k).size ≡ bytes
  pub eight : ((kind_of k).alignment ≡ 8) ↔ (natural ≡ 8)

-- There are not two of them.
abbrev pub OneKind : Type 0
OneKind = (bytes natural j k : ℕ) → IsKind bytes natural j → IsKind bytes natural k → j ≡ k

-- The size of a structure of these members has a kind.
abbrev pub HasKind : Members → Type 0
HasKind ms = (k : ℕ) × IsKind (size (structure ms)) (alignment (structure ms)) k

-- A description is accepted: it spells a structure that is laid out, and whose size has a kind.
pub record Accepted (bytes : List ℕ) : Type 0 where
  pub members : Members
  pub spelled : Spells bytes members
  pub laid : Laid members
  pub kind : HasKind members

-- ---- demand 1: which refusal is given, and where

-- The bytes that the type of a member begins with: "01 to 08 are members", "10 opens a structure".
abbrev pub BeginsType : ℕ → Type 0
BeginsType b = ((1 ≤ b) × (b ≤ 8)) ⊎ (b ≡ 0x10)

-- When byte b is refused with number r after these bytes, of which none is refused. No two of these hold at one byte, so nothing
-- depends on "in this order at each" but this: an 11 after a count is 16, also where the structure has no member yet.
pub data Condition (before : List ℕ) (b r : ℕ) : Type 0 where
  -- "16 unknown byte or one that can't stand there": first anything but a 10,
  unopened : r ≡ 16 → before ≡ [] → (b ≡ 0x10 → ⊥) → Condition before b r
  -- in a structure anything but 01 to 08, 10, 11 and 12,
  no_member : r ≡ 16 → (d : ℕ) (ms : Members) → Inside d ms [] before → (BeginsType b → ⊥) → (b ≡ 0x12 → ⊥) → (b ≡ 0x11 → ⊥) → Condition before b r
  -- after a 12 and its count anything but 01 to 08 and 10, since the member "may not begin with 12";
  no_type : r ≡ 16 → (d n : ℕ) (ms : Members) → 1 ≤ n → n ≤ 255 → Inside d ms (0x12 ∷ n ∷ []) before → (BeginsType b → ⊥) → Condition before b r
  -- "repeat of 0" (and no byte is above 255);
  no_count : r ≡ 16 → (d : ℕ) (ms : Members) → Inside d ms (0x12 ∷ []) before → ((1 ≤ b) × (b ≤ 255) → ⊥) → Condition before b r
  -- "bytes .. left over"
  left_over : r ≡ 16 → (ms : Members) → Spells before ms → Laid ms → Condition before b r
  -- "17 depth above 6"
  too_deep : r ≡ 17 → (d n : ℕ) (ms : Members) (bytes : List ℕ) → Inside d ms bytes before → Count n bytes → b ≡ 0x10 → 6 < d + 1 → Condition before b r
  -- "18 a member, repeats counted, ends above 512 in its structure (place: its last byte)"
  ends_beyond : r ≡ 18 → (d n : ℕ) (ms : Members) (start bytes : List ℕ) → Inside d ms bytes start → Count n bytes
      → (m : Member) → Unrepeated m → Proper m → depth m + d ≤ 6 → before ++ (b ∷ []) ≡ start ++ spelling m
      → 512 < up (alignment m) (end_from 0 ms) + n * size m → Condition before b r
  -- "19 a structure closed empty"
  closed_empty : r ≡ 19 → (d : ℕ) → Opened d before → b ≡ 0x11 → Condition before b r

-- The bytes of a description that is not closed yet: none, or a member may come next, or a count, or the type of a repeated member.
pub data Unfinished (bytes : List ℕ) : Type 0 where
  no_bytes : bytes ≡ [] → Unfinished bytes
  member_next : (d : ℕ) (ms : Members) → Inside d ms [] bytes → Unfinished bytes
  count_next : (d : ℕ) (ms : Members) → Inside d ms (0x12 ∷ []) bytes → Unfinished bytes
  type_next : (d n : ℕ) (ms : Members) → 1 ≤ n → n ≤ 255 → Inside d ms (0x12 ∷ n ∷ []) bytes → Unfinished bytes

pub data Refuses (bytes : List ℕ) (r place : ℕ) : Type 0 where
  -- "by byte from the left .., the place being that byte"
  by_byte : (before : List ℕ) (b : ℕ) (after : List ℕ) → bytes ≡ before ++ (b ∷ after) → Condition before b r → place ≡ length before → Refuses bytes r place
  -- 16, "bytes missing (place the length)"
  missing : r ≡ 16 → Unfinished bytes → place ≡ length bytes → Refuses bytes r place
  -- "Last, at place 0: 19 no kind of that size."
  no_kind : r ≡ 19 → (ms : Members) → Spells bytes ms → Laid ms → (HasKind ms → ⊥) → place ≡ 0 → Refuses bytes r place

-- ---- the answer

-- The alignments of structures.
abbrev pub Natural : ℕ → Type 0
Natural a = (a ≡ 1) ⊎ (a ≡ 2) ⊎ (a ≡ 4) ⊎ (a ≡ 8)

-- "Answer the size, alignment and the kind byte": those of the structure of these members.
pub record Answers (ms : Members) (x : Structure) : Type 0 where
  pub place_zero : x.place ≡ 0
  pub same_size : x.size ≡ size (structure ms)
  pub same_alignment : x.alignment ≡ alignment (structure ms)
  pub natural : Natural x.alignment
  pub kind : IsKind x.size x.alignment x.kind

-- An argument of the answered kind is placed as the structure is, wherever the arguments before it end: at the next multiple of the
-- structure's alignment, or of 4 where that is less (rule 2), and rounded up to whole words (rule 1).
abbrev pub PlacedAlike : Structure → Type 0
PlacedAlike x = (end : ℕ) → (offset (kind_of x.kind) end ≡ up (max 4 x.alignment) end) × (ending (kind_of x.kind) end ≡ up (max 4 x.alignment) end + up 4 x.size)

-- "A refusal returns its number, its place .. and 0 in every other part of the answer" (document 01).
pub record RefusedNumbers (x : Structure) : Type 0 where
  pub number : (16 ≤ x.refusal) × (x.refusal ≤ 19)
  pub size : x.size ≡ 0
  pub alignment : x.alignment ≡ 0
  pub kind : x.kind ≡ 0

-- The largest place of a refusal.
abbrev pub place_most : ℕ
place_most = 39954

-- ---- all of it, of a function that answers to descriptions

pub record Describes (f : List ℕ → Structure) : Type 0 where
  -- each refusal exactly when its condition holds, the first one first
  pub refuses : (bytes : List ℕ) (r place : ℕ) → 1 ≤ r → (((f bytes).refusal ≡ r) × ((f bytes).place ≡ place)) ↔ Refuses bytes r place
  pub refused_numbers : (bytes : List ℕ) → ((f bytes).refusal ≡ 0 → ⊥) → RefusedNumbers (f bytes)
  -- accepted exactly when it spells a tree that is laid out and whose size has a kind, and then the answer is that tree's
  pub accepts : (bytes : List ℕ) → ((f bytes).refusal ≡ 0) ↔ Accepted bytes
  pub answers : (bytes : List ℕ) (ms : Members) → Spells bytes ms → (f bytes).refusal ≡ 0 → Answers ms (f bytes)
  pub placed_alike : (bytes : List ℕ) → (f bytes).refusal ≡ 0 → PlacedAlike (f bytes)
  -- places are small, however long a description is, and one is as large as this
  pub places : (bytes : List ℕ) → (f bytes).place ≤ place_most
  pub largest_place : (bytes : List ℕ) × ((f bytes).place ≡ place_most)

-- This leaves no part of an answer open: two functions of which it holds answer alike.
abbrev pub Determined : Type 0
Determined = (f g : List ℕ → Structure) → Describes f → Describes g → (bytes : List ℕ) → f bytes ≡ g bytes

-- No bytes spell two trees.
abbrev pub Unambiguous : Type 0
Unambiguous = (bytes : List ℕ) (ms ns : Members) → Spells bytes ms → Spells bytes ns → ms ≡ ns
