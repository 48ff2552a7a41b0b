-- The plan that is made of what `signature_of` leaves in its buffer lets `fill` answer as the writer does, whatever the list.
-- Assumes nothing.
use mathlib.Core.Path.{◌≡◌, refl, ap, ap₂, ◌∙◌}
use mathlib.Core.List.{List}
use mathlib.Core.Bool.{true, false}
use Prim.Native.Nat.{ℕ, ◌≤◌}
use native.Mathlib.Omega.{arith}
use lib.ListN.{length, take, replicate}
use borrow.Author.Tests.{le-ltb}
use Rattle.std.specs.Prelude.{Result, Ok, Err}
use Rattle.words.proofs.Impossible.{impossible}
use Rattle.device.specs.declared.Device.{Device}
use Rattle.answers.specs.declared.Refusal.{Refusal}
use Rattle.answers.specs.declared.Answer.{Answer}
use Rattle.answers.specs.Outcomes.{Outcome, done, check_room, answer_of, buffer_of, in_numbers}
use Rattle.carried.specs.Image.{Placed}
use Rattle.carried.specs.Convention.{Scan, stopped, complete, resolve, scan, write_into}
use Rattle.carried.specs.Carried.{kinds}
use Rattle.passes.proofs.Answers.{Right}
use Rattle.o32.specs.declared.State.{State}
use Rattle.o32.specs.O32.{O32}
use Rattle.o32_laws.specs.Refusing.{Accepted}
use Rattle.o32_laws.proofs.Refusing.{by_record, refused_exactly, scanned_accepted, accepted_scanned}
use Rattle.plans.specs.declared.Plan.{Plan}
use Rattle.plans.specs.Plans.{PlanAnswer, plan_answer, make_plan, numbers, fill_into, signature_into}
use Rattle.plans.proofs.Entries.{kinds_few}
use Rattle.answers.proofs.Numbers.{number_positive}
use Rattle.plans.proofs.Planned.{was_unplanned}
use Rattle.plans.proofs.Theorem.{own_accepted, pairs, filled_by_own_plan}

module _ (d : Device) (list : List ℕ) where
  -- what a signature's answer is of, where all records are accepted
  signature_done : {L : List Placed} {last : State} → scan (O32 d) true list ≡ complete L last → check_room 7 33 (length (kinds L)) (done (kinds L)) ≡ done (kinds L)
  signature_done {L} f = rw (le-ltb 33 (length (kinds L)) (kinds_few d true list f))

  -- a list whose signature is refused is refused alike by the writer
  pub written_refused : (out : List ℕ) {e : Refusal} → in_numbers (Err e) ≡ answer_of (signature_into d list 33) → Right (write_into (O32 d) list (length out)) out (Err e) out
  written_refused out {e} = go (scan (O32 d) true list) refl
    where
      go : (q : Scan State) → scan (O32 d) true list ≡ q → in_numbers (Err e) ≡ answer_of (resolve q (λ L st. check_room 7 33 (length (kinds L)) (done (kinds L)))) → Right (write_into (O32 d) list (length out)) out (Err e) out
      go (stopped r at j) f h = record { answer = rw f h; buffer = rw f }
      go (complete L last) f h = absurd (omega (arith, number_positive e.cause, ap (λ (a : Answer). a.refusal) (h ∙ ap answer_of (signature_done f))))

  module _ {n : ℕ} (h : in_numbers (Ok n) ≡ answer_of (signature_into d list 33)) where
    -- a signature lies within its buffer
    pub signature_inside : n ≤ 33
    signature_inside = go (scan (O32 d) true list) refl h
      where
        go : (q : Scan State) → scan (O32 d) true list ≡ q → in_numbers (Ok n) ≡ answer_of (resolve q (λ L st. check_room 7 33 (length (kinds L)) (done (kinds L)))) → n ≤ 33
        go (stopped r at j) f h = omega (arith, ap (λ (a : Answer). a.length) h)
        go (complete L last) f h = omega (arith, kinds_few d true list f, ap (λ (a : Answer). a.length) (h ∙ ap answer_of (signature_done f)))

    module _ {b : List ℕ} (g : b ≡ buffer_of (signature_into d list 33) (replicate 33 0)) where
      -- the list is accepted, and has this signature
      signed : Accepted true list (take n b)
      signed = go (scan (O32 d) true list) refl h
        where
          go : (q : Scan State) → scan (O32 d) true list ≡ q → in_numbers (Ok n) ≡ answer_of (resolve q (λ L st. check_room 7 33 (length (kinds L)) (done (kinds L)))) → Accepted true list (take n b)
          go (stopped r at j) f k = absurd (omega (arith, (by_record ((refused_exactly d true list r at j).0 f).holds).0, ap (λ (a : Answer). a.refusal) k))
          go (complete L last) f k =
              let v = scanned_accepted d true list L last f in
              let e : take n b ≡ kinds L =
              ap₂ take (ap (λ (a : Answer). a.length) h) g ∙ ((pairs d).own_signature (kinds L) list (replicate 33 0) v ((pairs d).signature_short (kinds L) list v)).2 in
              rw e v

      -- so its plan is not refused,
      pub plan_given : (e : Refusal) → plan_answer (Err e) ≡ make_plan d false (take n b) → ⊥
      plan_given e i =
          let s = was_unplanned d false (take n b) e i in
          let a = (accepted_scanned d false (take n b) (take n b) (own_accepted signed)).scanned in
          impossible (cc)

      -- and by it the list is filled as it is written
      pub written_by_plan : (out : List ℕ) {p : Plan} {r : Result ℕ Refusal} {o : List ℕ} → plan_answer (Ok p) ≡ make_plan d false (take n b)
          → in_numbers r ≡ answer_of (fill_into d (numbers p) list (length out)) → o ≡ buffer_of (fill_into d (numbers p) list (length out)) out
          → Right (write_into (O32 d) list (length out)) out r o
      written_by_plan out {p} i k l =
          let t : take n b ≡ take (answer_of (signature_into d list 33)).length (buffer_of (signature_into d list 33) (replicate 33 0)) = ap₂ take (ap (λ (a : Answer). a.length) h) g in
          let q : numbers p ≡ numbers (make_plan d false (take (answer_of (signature_into d list 33)).length (buffer_of (signature_into d list 33) (replicate 33 0)))).plan =
          ap (λ (x : PlanAnswer). numbers x.plan) (i ∙ ap (make_plan d false) t) in
          let w : fill_into d (numbers p) list (length out) ≡ write_into (O32 d) list (length out) = ap (λ (x : List ℕ). fill_into d x list (length out)) q ∙ filled_by_own_plan d list (length out) in
          record { answer = k ∙ ap answer_of w; buffer = l ∙ ap (λ (x : Outcome). buffer_of x out) w }
