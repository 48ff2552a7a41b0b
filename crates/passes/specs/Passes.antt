-- What the passes of a writer and a reader find, in any convention.
use Rattle.std.specs.Prelude.{◌≡◌, List, [], Bool, ℕ, Result, Ok, Err}
use Rattle.answers.specs.Outcomes.{Outcome, refused}
use Rattle.carried.specs.Image.{Placed, length_of_list}
use Rattle.carried.specs.Convention.{Convention, Scan, stopped, complete, scan_from}
use Rattle.passes.specs.declared.Improper.{Improper}
use Rattle.passes.specs.Found.{Found}
use Rattle.passes.specs.Found as F

-- The first pass: the refusal, its place and its argument, or the length of the list and of its image.
abbrev pub measured : (c : Convention) → Scan c.State → Found
measured c (stopped r at n) = F.refused r at n
measured c (complete L st) = F.accepted (length_of_list L) (c.image_length st)

-- What is answered where this was found, by a refusal of this number: that refusal, with its place and its argument's number, or else
-- this outcome.
abbrev pub judged : ℕ → Result (Unit {0}) Improper → Outcome → Outcome
judged number (Ok y) x = x
judged number (Err i) x = refused number i.place i.argument

-- "8: a word of kind 01 to 04 is no proper promotion (reader)".
abbrev pub verdict : Result (Unit {0}) Improper → Outcome → Outcome
verdict = judged 8

-- The records of a scan that is complete.
abbrev pub placed_in : {State : Type 0} → Scan State → List Placed
placed_in (stopped r at n) = []
placed_in (complete L st) = L

-- From the record at this place on all records are accepted, and the image of the whole has m bytes.
pub record Rest (c : Convention) (bodies : Bool) (m : ℕ) (st : c.State) (at : ℕ) (l : List ℕ) : Type 0 where
  pub placed : List Placed
  pub last : c.State
  pub scanned : scan_from c bodies at st 0 l ≡ complete placed last
  pub whole : m ≡ c.image_length last

-- A list (true) or a signature (false) that is accepted, whose images have m bytes.
abbrev pub Admitted : (c : Convention) → Bool → List ℕ → ℕ → Type 0
Admitted c bodies l m = Rest c bodies m c.start 0 l
