-- What the functions of this crate promise each other: what is answered from a place of a description on, by what was read there.
-- `describe` promises none of it, so its users need not read this file.
use Rattle.std.specs.Prelude.{◌≡◌, List, true, cond, ℕ, ◌+◌, ◌≤◌, ◌<◌, eqb, length, drop, Option, Some, None, Result, Ok, Err}
use Rattle.words.specs.Words.{up}
use Rattle.answers.specs.declared.Cause.TheVariants as C
use Rattle.answers.specs.declared.Refusal.{Refusal}
use Rattle.answers.specs.Numbers.{number}
use Rattle.descriptions.specs.Structures.{Structure}
use Rattle.descriptions.specs.Trees.{suits}
use Rattle.descriptions.specs.Describing.{depth_most, Open, Around, State, Step, inside, repeated, empty, levels, placed, ended, refused, proceed, describe_from}
use Rattle.descriptions_code.specs.declared.Member.{Member}
use Rattle.descriptions_code.specs.declared.Repeat.{Repeat}

-- What is answered from a place on, in a state.
unfoldable pub from : List ℕ → ℕ → State → Structure
from s at state = describe_from at state (drop at s)

-- A number that is there unless it is 0.
abbrev pub nonzero : ℕ → Option ℕ
nonzero n = cond (eqb n 0) None (Some n)

-- What is answered after something that was read, or to its refusal.
abbrev pub read_on : {A : Type 0} → (A → Structure) → Result A Refusal → Structure
read_on rest (Ok x) = rest x
read_on rest (Err e) = refused (number e.cause) e.place

-- What is answered after a type that was read, where the structure around it takes up its size and alignment so.
abbrev pub resumed : List ℕ → (ℕ → ℕ → Step) → Member → Structure
resumed s take m = proceed m.last (take m.size m.alignment) (from s (m.last + 1))

-- ---- numbers that are small enough for sums and products

abbrev pub alignment_most : ℕ
alignment_most = 8

-- an end of 512 at most, rounded up to an alignment
abbrev pub size_most : ℕ
size_most = 519

-- a type that was read from a place on
pub record Bounds (s : List ℕ) (at : ℕ) (m : Member) : Type 0 where
  pub later : at ≤ m.last
  pub within : m.last < length s
  pub size_most_lem : m.size ≤ size_most
  pub alignment_least : 1 ≤ m.alignment
  pub alignment_most_lem : m.alignment ≤ alignment_most

-- how often it is there
pub record Counted (at : ℕ) (r : Repeat) : Type 0 where
  pub later : at ≤ r.next
  pub times_most : r.times ≤ 255

-- This of what was read; and a refusal is of no argument.
abbrev pub Bounded : {A : Type 0} → (A → Type 0) → Result A Refusal → Type 0
Bounded P (Ok x) = P x
Bounded P (Err e) = e.argument ≡ 0

-- ---- what was read at a place

-- A 12 and its count, or nothing.
pub record RepeatRead (s : List ℕ) (at : ℕ) (r : Result Repeat Refusal) : Type 0 where
  pub reads : (o : Open) (out : List Around) → from s at (inside o out) ≡ read_on (λ x. from s x.next (repeated x.times o out)) r
  pub bounded : Bounded (Counted at) r

-- The type of a member. (The structures that are open and those that may still be opened are 6.)
pub record TypeRead (s : List ℕ) (at depth : ℕ) (r : Result Member Refusal) : Type 0 where
  pub reads : (n : ℕ) (o : Open) (out : List Around) → levels out + depth ≡ depth_most
      → from s at (repeated n o out) ≡ read_on (resumed s (λ (size alignment : ℕ). placed n size alignment o out)) r
  pub bounded : Bounded (Bounds s at) r

-- The members of a structure, to its closing byte.
pub record ListRead (s : List ℕ) (at depth : ℕ) (r : Result Member Refusal) : Type 0 where
  pub reads : (out : List Around) → levels out + depth ≡ depth_most
      → from s at (inside empty out) ≡ read_on (resumed s (λ (size alignment : ℕ). ended size alignment out)) r
  pub bounded : Bounded (Bounds s at) r

-- A structure that is closed at a place, as a type that was read; "19 a structure closed empty".
abbrev pub closed_at : ℕ → ℕ → ℕ → Result Member Refusal
closed_at end strictest at =
    cond (eqb end 0) (Err (record { cause = C.NoKind; place = at; argument = 0 }))
    (Ok (record { size = up strictest end; alignment = strictest; last = at }))

-- ---- the kind of a structure

-- If any kind suits, it is this one.
pub record OnlyKind (size alignment : ℕ) (k : Option ℕ) : Type 0 where
  pub only : (j : ℕ) → suits size alignment j ≡ true → k ≡ Some j
