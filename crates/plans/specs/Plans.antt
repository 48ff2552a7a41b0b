-- Plans (request (vii) of document 02): "one operation makes a plan from signature and device, one fills an image from plan and list."
use Rattle.std.specs.Prelude.{List, [], ◌∷◌, ◌++◌, Bool, true, false, cond, ℕ, Result, Ok, Err, ◌-◌, length, replicate}
use Rattle.words.specs.Words.{same}
use Rattle.device.specs.declared.Device.{Device}
use Rattle.answers.specs.declared.Refusal.{Refusal}
use Rattle.answers.specs.Numbers.{number}
use Rattle.answers.specs.Outcomes.{Outcome, done, refused, check_room}
use Rattle.kinds.specs.declared.Class.TheVariants.{Marker}
use Rattle.kinds.specs.Kinds.{kind_of, is}
use Rattle.carried.specs.Convention.{Scan, stopped, complete, resolve, scan, write_into}
use Rattle.carried.specs.Carried.{kinds}
use Rattle.o32_offsets.specs.Offsets.{lay}
use Rattle.o32.specs.declared.State.{State}
use Rattle.o32.specs.O32.{O32, area}
use Rattle.o32_laws.specs.Carrying.{register_after, offset_after}
use Rattle.plans.specs.declared.Entry.{Entry}
use Rattle.plans.specs.declared.Plan.{Plan}

-- ---- the plan of some kinds

-- "A placement is the kind, the offset and the floating register or 0": that of kind k after these kinds, by rules 2 and 3.
abbrev pub entry_after : Device → List ℕ → ℕ → Entry
entry_after d before k = record { kind = k; register = register_after d before k; offset = offset_after before k }

-- The placements of kinds after these, in order. A marker is no argument and has none.
abbrev pub entries_after : Device → List ℕ → List ℕ → List Entry
entries_after d before [] = []
entries_after d before (k ∷ ks) =
    cond (is Marker (kind_of k)) [] (entry_after d before k ∷ []) ++ entries_after d (before ++ (k ∷ [])) ks

-- "entries past the count are zero": these, and as many zero entries as make 32.
abbrev pub no_entry : Entry
no_entry = record { kind = 0; register = 0; offset = 0 }

abbrev pub padded : List Entry → List Entry
padded es = es ++ replicate (32 - length es) no_entry

-- "A plan holds up to 32 placements with their count and the area size."
abbrev pub plan_of : Device → List ℕ → Plan
plan_of d ks = record { entries = padded (entries_after d [] ks); count = length (entries_after d [] ks); area = area (lay 0 ks).end }

-- A plan that is all zero. It is no signature's: the area has 16 bytes or more.
abbrev pub no_plan : Plan
no_plan = record { entries = replicate 32 no_entry; count = 0; area = 0 }

-- ---- making one

-- What making a plan answers, in the papers' numbers: a refusal's, its place, its argument's number and a plan that is all zero; or 0,
-- 0, 0 and the plan.
pub record PlanAnswer : Type 0 where
  pub refusal : ℕ
  pub place : ℕ
  pub argument : ℕ
  pub plan : Plan

-- A function's answer in these numbers.
abbrev pub plan_answer : Result Plan Refusal → PlanAnswer
plan_answer (Err e) = record { refusal = number e.cause; place = e.place; argument = e.argument; plan = no_plan }
plan_answer (Ok p) = record { refusal = 0; place = 0; argument = 0; plan = p }

-- The refusal of a signature or a list and with it 0 "in every other part of the answer", or the plan of its kinds.
abbrev pub answered : Device → Scan State → PlanAnswer
answered d (stopped r at n) = record { refusal = r; place = at; argument = n; plan = no_plan }
answered d (complete L st) = record { refusal = 0; place = 0; argument = 0; plan = plan_of d (kinds L) }

-- Of a signature (false), with refusals 1, 2, 3 and 5; and of a list (true), with its own 1 to 5.
abbrev pub make_plan : Device → Bool → List ℕ → PlanAnswer
make_plan d bodies l = answered d (scan (O32 d) bodies l)

-- The numbers of a plan in one order: of each entry the kind, the offset and the register, then the count, then the area size.
abbrev pub entry_numbers : List Entry → List ℕ
entry_numbers [] = []
entry_numbers (e ∷ es) = e.kind ∷ e.offset ∷ e.register ∷ entry_numbers es

abbrev pub numbers : Plan → List ℕ
numbers p = entry_numbers p.entries ++ (p.count ∷ p.area ∷ [])

-- As numbers, into a buffer with room for so many: the signature's 1, 2, 3 and 5, then 7 where there is less room.
abbrev pub make_into : Device → List ℕ → ℕ → Outcome
make_into d sig room = resolve (scan (O32 d) false sig) (λ L st. check_room 7 room (length (numbers (plan_of d (kinds L)))) (done (numbers (plan_of d (kinds L)))))

-- ---- filling an image

-- "fill refuses any that isn't, in every entry, count and area size, what the list's signature and device give. Refusals: 20, plan
-- differs, after 1 to 5 and before 7": by these numbers of a plan, with a lent buffer of so many bytes, the list's 1 to 5, then 20, then
-- what the writer gives.
abbrev pub fill_into : Device → List ℕ → List ℕ → ℕ → Outcome
fill_into d given list room =
    resolve (scan (O32 d) true list) (λ L st. cond (same given (numbers (plan_of d (kinds L)))) (write_into (O32 d) list room) (refused 20 0 0))

-- ---- the signature of a list

-- "The signature is the kind bytes alone, in order": the list's 1 to 5, then 7, else its kind bytes.
abbrev pub signature_into : Device → List ℕ → ℕ → Outcome
signature_into d list room = resolve (scan (O32 d) true list) (λ L st. check_room 7 room (length (kinds L)) (done (kinds L)))
