-- What holds of making a plan and filling an image by it: of what the functions answer and leave in lent buffers. The comments quote
-- request (vii) of document 02.
use Rattle.std.specs.Prelude.{◌≡◌, ◌↔◌, List, ◌∷◌, ◌++◌, map, true, false, ℕ, ◌+◌, ◌≤◌, ◌<◌, length, get_or, take, replicate}
use Rattle.device.specs.declared.Device.{Device}
use Rattle.answers.specs.Outcomes.{Outcome, answer_of, buffer_of}
use Rattle.carried.specs.Calls.{Result, result_of, output, Functions}
use Rattle.kinds.specs.declared.Class.TheVariants.{Marker}
use Rattle.kinds.specs.Kinds.{kind_of, is}
use Rattle.o32_offsets.specs.Offsets.{lay}
use Rattle.o32_laws.specs.Carrying.{register_after, offset_after, image_bytes}
use Rattle.o32_laws.specs.Refusing.{arguments_in, Records, Accepted, RefusedAt, Refuses, KeepsBuffer, Refusals}
use Rattle.o32_laws.specs.Demand.{Demand}
use Rattle.plans.specs.declared.Entry.{Entry}
use Rattle.plans.specs.declared.Plan.{Plan}
use Rattle.plans.specs.Plans.{PlanAnswer, no_entry, numbers, make_into, fill_into, signature_into}

-- The pair, with the function that gives a list's signature: of a signature into a buffer for a plan's numbers; of a plan's numbers
-- and a list into a buffer for the image; of a list into a buffer for its signature.
pub record Pair : Type 0 where
  pub make : List ℕ → List ℕ → Result
  pub fill : List ℕ → List ℕ → List ℕ → Result
  pub signature : List ℕ → List ℕ → Result

-- What a call with this outcome answers and leaves in its buffer.
abbrev pub result : (ℕ → Outcome) → List ℕ → Result
result into out = result_of (answer_of (into (length out))) (buffer_of (into (length out)) out)

-- The functions that the contracts describe.
abbrev pub pair_of : Device → Pair
pair_of d = record {
  make = λ sig lent. result (make_into d sig) lent;
  fill = λ given list out. result (fill_into d given list) out;
  signature = λ list lent. result (signature_into d list) lent;
}

-- A buffer in which a plan's numbers, or a signature, always fit.
abbrev pub PlanRoom : List ℕ → Type 0
PlanRoom lent = 98 ≤ length lent

abbrev pub SignatureRoom : List ℕ → Type 0
SignatureRoom lent = 33 ≤ length lent

-- A list has this signature: it is whole records of these kinds.
abbrev pub HasSignature : List ℕ → List ℕ → Type 0
HasSignature list sig = Records true sig list

-- ---- the plan of a signature, said of each argument

pub record PlanFor (d : Device) (sig : List ℕ) (p : Plan) : Type 0 where
  -- "A plan holds up to 32 placements with their count and the area size"
  pub long : length p.entries ≡ 32
  pub count : p.count ≡ arguments_in sig
  pub area : 32 + p.area ≡ image_bytes sig
  -- "A placement is the kind, the offset and the floating register or 0": of each kind that is no marker, by the kinds before it; and
  -- it comes after as many entries as arguments before it.
  pub placed : (before : List ℕ) (k : ℕ) (after : List ℕ) → before ++ (k ∷ after) ≡ sig → is Marker (kind_of k) ≡ false
      → get_or p.entries (arguments_in before) no_entry ≡ record { kind = k; register = register_after d before k; offset = offset_after before k }
  -- "entries past the count are zero"
  pub past : (i : ℕ) → p.count ≤ i → get_or p.entries i no_entry ≡ no_entry

-- These are the numbers of the signature's plan on the device.
abbrev pub IsPlan : Device → List ℕ → List ℕ → Type 0
IsPlan d sig given = (p : Plan) × PlanFor d sig p × (given ≡ numbers p)

-- All of this fixes the plan, and no two plans have the same numbers.
pub record OnePlan : Type 0 where
  pub one : (d : Device) (sig : List ℕ) (a b : Plan) → PlanFor d sig a → PlanFor d sig b → a ≡ b
  pub by_numbers : (a b : Plan) → numbers a ≡ numbers b → a ≡ b

-- ---- demand 1: when each refuses, into a buffer with room for so many

pub data MakeRefuses (sig : List ℕ) (room r place j : ℕ) : Type 0 where
  -- 1, 2, 3 and 5, as in the reader
  by_record : RefusedAt false sig r place j → MakeRefuses sig room r place j
  short_buffer : Accepted false sig sig → room < 98 → r ≡ 7 → place ≡ 0 → j ≡ 0 → MakeRefuses sig room r place j

pub data FillRefuses (d : Device) (given list : List ℕ) (room r place j : ℕ) : Type 0 where
  -- 1 to 5, as in the writer
  by_record : RefusedAt true list r place j → FillRefuses d given list room r place j
  -- "20, plan differs, after 1 to 5 and before 7"
  plan_differs : (sig : List ℕ) → Accepted true list sig → (IsPlan d sig given → ⊥) → r ≡ 20 → place ≡ 0 → j ≡ 0 → FillRefuses d given list room r place j
  short_buffer : (sig : List ℕ) → Accepted true list sig → IsPlan d sig given → room < image_bytes sig → r ≡ 7 → place ≡ 0 → j ≡ 0
      → FillRefuses d given list room r place j

pub data SignatureRefuses (list : List ℕ) (room r place j : ℕ) : Type 0 where
  by_record : RefusedAt true list r place j → SignatureRefuses list room r place j
  short_buffer : (sig : List ℕ) → Accepted true list sig → room < length sig → r ≡ 7 → place ≡ 0 → j ≡ 0 → SignatureRefuses list room r place j

-- A function of a lent buffer refuses "exactly when" these conditions hold, else it succeeds; and it leaves what it must.
pub record RefusesWhen (f : List ℕ → Result) (P : ℕ → ℕ → ℕ → ℕ → Type 0) : Type 0 where
  pub refuses : (out : List ℕ) (r place j : ℕ) → 1 ≤ r → Refuses (f out) r place j ↔ P (length out) r place j
  pub accepts : (out : List ℕ) → ((f out).refusal ≡ 0) ↔ ((r place j : ℕ) → P (length out) r place j → ⊥)
  pub keeps : (out : List ℕ) → KeepsBuffer out (f out)

-- ---- the pair beside the writer, on a device

pub record Pairs (f : Functions) (p : Pair) (d : Device) : Type 0 where
  -- "Callers of the old writer move to the pair, whose answer equals the old one whenever the list has the plan's signature and fill
  -- names the plan's device." (Where the signature is refused there is no plan, and the list is refused alike by both.)
  pub answers_alike : (sig list lent out : List ℕ) → PlanRoom lent → HasSignature list sig → p.fill (output (p.make sig lent)) list out ≡ f.write list out
  -- So a plan that was made is never refused 20 for such a list,
  pub never_differs : (sig list lent out : List ℕ) → PlanRoom lent → HasSignature list sig → (p.fill (output (p.make sig lent)) list out).refusal ≡ 20 → ⊥
  -- and any other is: one that differs in a single number, and one with fewer numbers or more.
  pub differs : (sig list lent given out : List ℕ) → PlanRoom lent → Accepted true list sig → (given ≡ output (p.make sig lent) → ⊥) → Refuses (p.fill given list out) 20 0 0
  -- The numbers are those of the plan of the signature on the device; they are 98.
  pub made : (sig lent : List ℕ) → PlanRoom lent → Accepted false sig sig
      → ((p.make sig lent).refusal ≡ 0) × ((p.make sig lent).length ≡ 98) × IsPlan d sig (output (p.make sig lent))
  -- A list that is accepted has this signature, where there is room for it; 33 bytes are always enough;
  pub own_signature : (sig list lent : List ℕ) → Accepted true list sig → length sig ≤ length lent
      → ((p.signature list lent).refusal ≡ 0) × ((p.signature list lent).length ≡ length sig) × (output (p.signature list lent) ≡ sig)
  pub signature_short : (sig list : List ℕ) → Accepted true list sig → length sig ≤ 33
  -- so by its own signature every list, accepted or not, is answered as by the writer.
  pub by_own_signature : (list lent lent' out : List ℕ) → SignatureRoom lent → PlanRoom lent'
      → p.fill (output (p.make (output (p.signature list lent)) lent')) list out ≡ f.write list out
  pub make_refuses : (sig : List ℕ) → RefusesWhen (p.make sig) (MakeRefuses sig)
  pub fill_refuses : (given list : List ℕ) → RefusesWhen (p.fill given list) (FillRefuses d given list)
  pub signature_refuses : (list : List ℕ) → RefusesWhen (p.signature list) (SignatureRefuses list)

-- ---- demands 1 and 3 with the pair in place of the writer

-- A reader, and the writer that asks for a list's signature, makes the plan of it and fills an image by it, with these two buffers.
abbrev pub by_plan : Functions → Pair → List ℕ → List ℕ → Functions
by_plan f p lent lent' = record { read = f.read; write = λ list out. p.fill (output (p.make (output (p.signature list lent)) lent')) list out }

pub record Demands (f : Functions) (p : Pair) (d : Device) : Type 0 where
  pub refusals : (lent lent' : List ℕ) → SignatureRoom lent → PlanRoom lent' → Refusals (by_plan f p lent lent')
  pub demand : (lent lent' : List ℕ) → SignatureRoom lent → PlanRoom lent' → Demand (by_plan f p lent lent') d

-- ---- a plan by value

-- A plan in its struct has 32 entries. Its numbers are those that `make` gives, and with a refusal all zero; and by it an image is
-- filled as by its numbers.
pub record ByValue (f : Functions) (p : Pair) (make : List ℕ → PlanAnswer) (fill : Plan → List ℕ → List ℕ → Result) : Type 0 where
  pub same_refusal : (sig lent : List ℕ) → PlanRoom lent
      → ((make sig).refusal ≡ (p.make sig lent).refusal) × ((make sig).place ≡ (p.make sig lent).place) × ((make sig).argument ≡ (p.make sig lent).argument)
  pub same_numbers : (sig lent : List ℕ) → PlanRoom lent → (make sig).refusal ≡ 0 → numbers (make sig).plan ≡ output (p.make sig lent)
  pub zero : (sig : List ℕ) → 1 ≤ (make sig).refusal → numbers (make sig).plan ≡ replicate 98 0
  pub entries : (sig : List ℕ) → length (make sig).plan.entries ≡ 32
  -- The offsets of its entries are those that `lay` gives, of which the laws for laying lists end to end speak (request (viii) of
  -- document 02).
  pub entries_laid : (sig : List ℕ) → (make sig).refusal ≡ 0 → map (λ (e : Entry). e.offset) (take (make sig).plan.count (make sig).plan.entries) ≡ (lay 0 sig).offsets
  pub fills : (q : Plan) (list out : List ℕ) → fill q list out ≡ p.fill (numbers q) list out
  -- so what is said of the pair holds of these two
  pub answers_alike : (sig list out : List ℕ) → HasSignature list sig → fill (make sig).plan list out ≡ f.write list out
  pub differs : (q : Plan) (sig list out : List ℕ) → Accepted true list sig → (q ≡ (make sig).plan → ⊥) → Refuses (fill q list out) 20 0 0

-- The function that the contract of `fill` with a plan by value describes.
abbrev pub filler_of : Device → Plan → List ℕ → List ℕ → Result
filler_of d q list out = result (fill_into d (numbers q) list) out
