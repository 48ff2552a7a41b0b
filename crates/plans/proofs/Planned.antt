-- What a plan, or a refusal, that is answered says of the scan.
-- Assumes nothing.
use mathlib.Core.Path.{◌≡◌, refl, sym, ap, ◌∙◌}
use mathlib.Core.List.{List}
use mathlib.Core.Bool.{Bool}
use Prim.Native.Nat.{ℕ, ◌≤◌}
use native.Mathlib.Omega.{arith}
use Rattle.std.specs.Prelude.{Ok, Err}
use Rattle.device.specs.declared.Device.{Device}
use Rattle.answers.specs.declared.Cause.{Cause}
use Rattle.answers.specs.declared.Refusal.{Refusal}
use Rattle.answers.specs.Numbers.{number}
use Rattle.answers.proofs.Numbers.{number_positive}
use Rattle.carried.specs.Image.{Placed}
use Rattle.carried.specs.Convention.{Scan, stopped, complete, scan}
use Rattle.carried.specs.Carried.{kinds}
use Rattle.o32.specs.declared.State.{State}
use Rattle.o32.specs.O32.{O32}
use Rattle.o32_laws.proofs.Refusing.{by_record, refused_exactly}
use Rattle.plans.specs.declared.Plan.{Plan}
use Rattle.plans.specs.Plans.{PlanAnswer, plan_answer, plan_of, answered, make_plan}

module _ (d : Device) (bodies : Bool) (l : List ℕ) where
  -- it is the plan of what was accepted
  pub record Planned (p : Plan) : Type 0 where
    pub placed : List Placed
    pub last : State
    pub scanned : scan (O32 d) bodies l ≡ complete placed last
    pub is : p ≡ plan_of d (kinds placed)

  pub was_planned : {p : Plan} → plan_answer (Ok p) ≡ make_plan d bodies l → Planned p
  was_planned {p} = go (scan (O32 d) bodies l) refl
    where
      go : (q : Scan State) → scan (O32 d) bodies l ≡ q → plan_answer (Ok p) ≡ answered d q → Planned p
      go (stopped r at j) f h = absurd (omega (arith, (by_record ((refused_exactly d bodies l r at j).0 f).holds).0, ap (λ (x : PlanAnswer). x.refusal) h))
      go (complete L last) f h = record { placed = L; last = last; scanned = f; is = ap (λ (x : PlanAnswer). x.plan) h }

  -- it is a refusal, and so is the whole
  pub was_unplanned : (e : Refusal) → plan_answer (Err e) ≡ make_plan d bodies l → scan (O32 d) bodies l ≡ stopped (number e.cause) e.place e.argument
  was_unplanned e = go (scan (O32 d) bodies l) refl
    where
      go : (q : Scan State) → scan (O32 d) bodies l ≡ q → plan_answer (Err e) ≡ answered d q → scan (O32 d) bodies l ≡ stopped (number e.cause) e.place e.argument
      go (stopped r at j) f h =
          let x : r ≡ number e.cause = sym (ap (λ (a : PlanAnswer). a.refusal) h) in
          let y : at ≡ e.place = sym (ap (λ (a : PlanAnswer). a.place) h) in
          let z : j ≡ e.argument = sym (ap (λ (a : PlanAnswer). a.argument) h) in
          f ∙ rw (x, y, z) refl
      go (complete L last) f h = absurd (omega (arith, number_positive e.cause, ap (λ (x : PlanAnswer). x.refusal) h))
