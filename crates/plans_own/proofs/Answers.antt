-- What is answered, and what is left in the buffer, when an image is filled by the list's own plan.
-- Assumes nothing.
use mathlib.Core.Path.{◌≡◌, refl, sym, ap, ◌∙◌, subst}
use mathlib.Core.List.{List, ◌++◌}
use mathlib.Core.Bool.{Bool, true, false}
use Prim.Native.Nat.{ℕ, ◌+◌, ◌≤◌, ◌<◌}
use lib.ListN.{length, drop}
use Rattle.std.specs.Prelude.{Result, Ok, Err}
use Rattle.words.specs.Words.{same}
use Rattle.device.specs.declared.Device.{Device}
use Rattle.answers.specs.declared.Refusal.{Refusal}
use Rattle.answers.specs.declared.Cause.TheVariants as C
use Rattle.answers.specs.Outcomes.{Outcome, answer_of, buffer_of, in_numbers}
use Rattle.carried.specs.Image.{image, length_of_list}
use Rattle.carried.specs.Convention.{scan, write_into}
use Rattle.carried.specs.Carried.{kinds}
use Rattle.carried.proofs.Walks.{walk_by_kinds}
use Rattle.passes.specs.Passes.{placed_in}
use Rattle.passes.proofs.Answers.{Right, refused_right, Lengths, write_short, write_done}
use Rattle.o32.specs.O32.{O32, area}
use Rattle.o32_offsets.specs.Offsets.{lay}
use Rattle.o32_laws.proofs.Laws.{O32-laws}
use Rattle.o32_laws.proofs.Refusing.{end_is}
use Rattle.plans.specs.declared.Plan.{Plan}
use Rattle.plans.specs.Plans.{plan_answer, make_plan, numbers, fill_into}
use Rattle.plans.proofs.Planned.{Planned, was_planned}
use Rattle.plans_own.specs.Filling.{filled}

-- ---- an image is filled by the list's own plan

module _ (d : Device) (list : List ℕ) {own : Plan} (e : plan_answer (Ok own) ≡ make_plan d true list) where
  planned : Planned d true list own
  planned = was_planned d true list e

  -- its image has as many bytes as the plan says
  pub own_accepted : Lengths (O32 d) true list (length_of_list (placed_in (scan (O32 d) true list))) (32 + own.area)
  own_accepted =
      let p = planned in
      let n : own.area ≡ area (lay 0 (kinds p.placed)).end = ap (λ (x : Plan). x.area) p.is in
      let k : p.last.end ≡ (lay 0 (kinds p.placed)).end = end_is d (walk_by_kinds (O32 d) (O32-laws d) true list p.placed p.last p.scanned) in
      record {
        admitted = record { placed = p.placed; last = p.last; scanned = p.scanned; whole = ap (λ (x : ℕ). 32 + x) (n ∙ ap area (sym k)) };
        long = rw p.scanned refl;
      }

  module _ (out : List ℕ) where
    pub plan_differs : {agrees : Bool} → agrees ≡ false → {r : Refusal} → r ≡ record { cause = C.OtherPlan; place = 0; argument = 0 } → Right (filled d agrees list (length out)) out (Err r) out
    plan_differs g f = refused_right out (rw (f, g, planned.scanned))

    module _ {agrees : Bool} (g : agrees ≡ true) where
      -- then what is filled is what the writer writes
      right_as_written : {a : Result ℕ Refusal} {o : List ℕ} → Right (write_into (O32 d) list (length out)) out a o → Right (filled d agrees list (length out)) out a o
      right_as_written {a} {o} w =
          let i : filled d agrees list (length out) ≡ write_into (O32 d) list (length out) = rw (g, planned.scanned) in
          subst (λ (x : Outcome). Right x out a o) (sym i) w

      pub filled_short : length out < 32 + own.area → {r : Refusal} → r ≡ record { cause = C.BufferTooShort; place = 0; argument = 0 } → Right (filled d agrees list (length out)) out (Err r) out
      filled_short l f = rw f (right_as_written (write_short (O32 d) list out own_accepted l))

      pub filled_done : {o : List ℕ} → 32 + own.area ≤ length out → o ≡ image (32 + own.area) (placed_in (scan (O32 d) true list)) list ++ drop (32 + own.area) out
          → Right (filled d agrees list (length out)) out (Ok (32 + own.area)) o
      filled_done l i = right_as_written (write_done (O32 d) list out own_accepted l i)

-- what is compared with the numbers that are given is the plan of the list
pub fill_compared : (d : Device) (given list out : List ℕ) {own : Plan} {agrees : Bool} {a : Result ℕ Refusal} {o : List ℕ} → plan_answer (Ok own) ≡ make_plan d true list
    → agrees ≡ same given (numbers own) → in_numbers a ≡ answer_of (filled d agrees list (length out)) → o ≡ buffer_of (filled d agrees list (length out)) out
    → Right (fill_into d given list (length out)) out a o
fill_compared d given list out {own} {agrees} e g h i =
    let p = was_planned d true list e in
    let j : filled d agrees list (length out) ≡ fill_into d given list (length out) = rw (g, p.is, p.scanned) in
    record { answer = h ∙ ap answer_of j; buffer = i ∙ ap (λ (x : Outcome). buffer_of x out) j }
