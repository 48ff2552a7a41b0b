-- What is answered where a plan is made, and what is left in the buffer for its words.
-- Assumes nothing.
use mathlib.Core.Path.{◌≡◌, refl, sym, ap, ◌∙◌}
use mathlib.Core.List.{List, []}
use mathlib.Core.Bool.{true, false}
use Prim.Native.Nat.{ℕ, ◌≤◌, ◌<◌}
use lib.ListN.{length}
use lib.Dec.{ltb}
use borrow.Author.Tests.{lt-ltb, le-ltb}
use Rattle.std.specs.Prelude.{Ok, Err}
use Rattle.device.specs.declared.Device.{Device}
use Rattle.answers.specs.declared.Refusal.{Refusal}
use Rattle.answers.specs.declared.Cause.TheVariants as C
use Rattle.answers.specs.Outcomes.{Outcome, done, buffer_of, over}
use Rattle.carried.specs.Carried.{kinds}
use Rattle.passes.proofs.Answers.{Right, refused_right}
use Rattle.plans.specs.declared.Plan.{Plan}
use Rattle.plans.specs.Plans.{entries_after, plan_of, plan_answer, make_plan, numbers, make_into}
use Rattle.plans.proofs.Entries.{entries_few, entries_long, numbers_long}
use Rattle.plans.proofs.Planned.{Planned, was_planned}
use Rattle.plans_words.proofs.Comparing.{ZeroPast}

module _ (d : Device) (sig : List ℕ) {plan : Plan} (e : plan_answer (Ok plan) ≡ make_plan d false sig) where
  planned : Planned d false sig plan
  planned = was_planned d false sig e

  -- an accepted signature has 98 numbers
  long : length (numbers (plan_of d (kinds planned.placed))) ≡ 98
  long = numbers_long (plan_of d (kinds planned.placed)) (entries_long d false sig planned.scanned)

  module _ (out : List ℕ) where
    pub make_short : length out < 98 → {r : Refusal} → r ≡ record { cause = C.BufferTooShort; place = 0; argument = 0 } → Right (make_into d sig (length out)) out (Err r) out
    make_short h f =
        let t : ltb (length out) 98 ≡ true = lt-ltb (length out) 98 h in
        refused_right out (rw (f, planned.scanned, long, t))

    pub make_done : {o : List ℕ} → 98 ≤ length out → o ≡ over (numbers plan) out → Right (make_into d sig (length out)) out (Ok 98) o
    make_done h i =
        let t : ltb (length out) 98 ≡ false = le-ltb (length out) 98 h in
        let g : make_into d sig (length out) ≡ done (numbers (plan_of d (kinds planned.placed))) = rw (planned.scanned, long, t) in
        record { answer = rw (g, long) refl; buffer = i ∙ ap (λ (x : Plan). over (numbers x) out) planned.is ∙ ap (λ (x : Outcome). buffer_of x out) (sym g) }

-- ---- filling

-- the plan of a list has zero past its count
pub own_zero_past : (d : Device) (list : List ℕ) {own : Plan} → plan_answer (Ok own) ≡ make_plan d true list → ZeroPast own
own_zero_past d list e =
    let p = was_planned d true list e in
    rw p.is (entries_after d [] (kinds p.placed), entries_few d true list p.scanned, refl, refl)
