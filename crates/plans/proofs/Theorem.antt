-- The pair answers as the writer does, for every list and the plan of its signature; and a plan by value is the same plan.
-- Assumes nothing.
use mathlib.Core.Path.{◌≡◌, refl, sym, ap, ◌∙◌, subst}
use mathlib.Core.List.{List, [], ◌∷◌, map}
use mathlib.Core.Bool.{true, false}
use Prim.Native.Nat.{ℕ, ◌≤◌}
use native.Mathlib.Omega.{arith}
use lib.ListN.{length, replicate}
use lib.Seq.{take-append_seam}
use borrow.Author.Tests.{le-ltb}
use Rattle.device.specs.declared.Device.{Device}
use Rattle.answers.specs.Outcomes.{Outcome, done, answer_of, buffer_of}
use Rattle.carried.specs.Image.{Placed}
use Rattle.carried.specs.Convention.{Scan, stopped, complete, scan, write_into}
use Rattle.carried.specs.Carried.{kinds}
use Rattle.carried.specs.Calls.{Result, Functions, functions_of, output, result_of}
use Rattle.carried.proofs.Buffers.{output_of, output_done, answered-length}
use Rattle.o32.specs.declared.State.{State}
use Rattle.o32.specs.O32.{O32}
use Rattle.o32_laws.specs.Refusing as R
use Rattle.o32_laws.specs.Refusing.{Records, Accepted, WriterRefuses}
use Rattle.o32_laws.proofs.Refusing.{by_record, scanned_accepted, accepted_scanned, refused_exactly}
use Rattle.o32_laws.specs.Refusing.{Refusals}
use Rattle.o32_laws.specs.Demand.{Demand}
use Rattle.o32_laws.proofs.Demand.{demand}
use Rattle.o32_laws.proofs.Refusals.{refusals, signature_accepted}
use Rattle.plans.specs.declared.Entry.{Entry}
use Rattle.plans.specs.Plans.{entries_after, plan_of, make_plan, numbers, make_into, fill_into, signature_into}
use Rattle.plans.specs.Pair as P
use Rattle.plans.specs.Pair.{Pair, pair_of, PlanRoom, SignatureRoom, HasSignature, Pairs, by_plan, Demands, ByValue, filler_of}
use Rattle.plans.proofs.Entries.{entries_laid, kinds_few, numbers_injective}
use Rattle.plans.proofs.Refusals.{alike, records_one, entries_32, numbers_98, planned, is-plan, plan-is, filled_accepted, make_refuses_when, fill_refuses_when, signature-refuses_when}

-- A plan that is that of the list's kinds, where the list is accepted, lets fill answer as the writer does, whatever the list.
fill_writes : (d : Device) (given list : List ℕ) (room : ℕ) → ((L : List Placed) (last : State) → scan (O32 d) true list ≡ complete L last → given ≡ numbers (plan_of d (kinds L)))
    → fill_into d given list room ≡ write_into (O32 d) list room
fill_writes d given list room h = go (scan (O32 d) true list) refl
  where
    go : (q : Scan State) → scan (O32 d) true list ≡ q → fill_into d given list room ≡ write_into (O32 d) list room
    go (stopped r place j) e = rw e
    go (complete L last) e =
        let v = scanned_accepted d true list L last e in
        filled_accepted d given list room true v (alike given _ (h L last e))

-- ---- the signature of a list

own_records : (ks : List ℕ) → Records false ks ks
own_records [] = refl
own_records (k ∷ ks) = ([], ks, refl, refl, own_records ks)

-- of an accepted list it is accepted,
pub own_accepted : {list sig : List ℕ} → Accepted true list sig → Accepted false sig sig
own_accepted {sig = sig} v = record { records = own_records sig; none_refused = v.none_refused }

-- ---- into a buffer that is long enough

module _ (d : Device) where
  abbrev f : Functions
  f = functions_of (O32 d)

  abbrev p : Pair
  p = pair_of d

  -- the numbers of the plan of an accepted signature
  make_done : {sig : List ℕ} (room : ℕ) → 98 ≤ room → Accepted false sig sig → make_into d sig room ≡ done (numbers (plan_of d sig))
  make_done {sig} room h v =
      let a = accepted_scanned d false sig sig v in
      rw (a.scanned, a.kinds_are, le-ltb room (length (numbers (plan_of d sig))) (omega (arith, numbers_98 d v)))

  made_numbers : (sig lent : List ℕ) → PlanRoom lent → Accepted false sig sig
      → ((p.make sig lent).refusal ≡ 0) × ((p.make sig lent).length ≡ 98) × (output (p.make sig lent) ≡ numbers (plan_of d sig))
  made_numbers sig lent h v =
      let e = make_done (length lent) h v in
      let o = output_done (numbers (plan_of d sig)) lent (make_into d sig (length lent)) e in
      (o.0, answered-length (numbers (plan_of d sig)) (make_into d sig (length lent)) e ∙ numbers_98 d v, o.1)

  -- the signature of an accepted list
  own_short : {list sig : List ℕ} → Accepted true list sig → length sig ≤ 33
  own_short {list} {sig} v = let a = accepted_scanned d true list sig v in rw a.kinds_are at (kinds_few d true list a.scanned)

  own_signature : (sig list lent : List ℕ) → Accepted true list sig → length sig ≤ length lent
      → ((p.signature list lent).refusal ≡ 0) × ((p.signature list lent).length ≡ length sig) × (output (p.signature list lent) ≡ sig)
  own_signature sig list lent v h =
      let a = accepted_scanned d true list sig v in
      let e : signature_into d list (length lent) ≡ done sig = rw (a.scanned, a.kinds_are, le-ltb (length lent) (length sig) h) in
      let o = output_done sig lent (signature_into d list (length lent)) e in
      (o.0, answered-length sig (signature_into d list (length lent)) e, o.1)

  -- ---- the pair beside the writer

  fills : (given list out : List ℕ) → ((sig : List ℕ) → Accepted true list sig → given ≡ numbers (plan_of d sig)) → p.fill given list out ≡ f.write list out
  fills given list out h =
      ap (λ (x : Outcome). result_of (answer_of x) (buffer_of x out)) (fill_writes d given list (length out) (λ L last e. h (kinds L) (scanned_accepted d true list L last e)))

  answers_alike : (sig list lent out : List ℕ) → PlanRoom lent → HasSignature list sig → p.fill (output (p.make sig lent)) list out ≡ f.write list out
  answers_alike sig list lent out h s =
      fills (output (p.make sig lent)) list out (λ ks v.
      let e : ks ≡ sig = records_one ks sig list v.records s in
      rw (← e) (made_numbers ks lent h (own_accepted v)).2)

  -- the writer has no 20
  never : (list : List ℕ) (room place j : ℕ) → WriterRefuses list room 20 place j → ⊥
  never list room place j (R.by_record v) = omega (arith, by_record v.holds)
  never list room place j (R.short_buffer ks v h x y z) = omega arith

  -- By the plan of its own signature, which 33 bytes hold, every list is filled as it is written, refused ones too.
  pub filled_by_own_plan : (list : List ℕ) (room : ℕ)
      → fill_into d (numbers (make_plan d false (output_of (signature_into d list 33) (replicate 33 0))).plan) list room ≡ write_into (O32 d) list room
  filled_by_own_plan list room = fill_writes d _ list room (λ L last e.
      let v = scanned_accepted d true list L last e in
      ap numbers (ap (λ (x : List ℕ). (make_plan d false x).plan) (own_signature (kinds L) list (replicate 33 0) v (own_short v)).2 ∙ planned d false (own_accepted v)))

  pub pairs : Pairs (functions_of (O32 d)) (pair_of d) d
  pairs = record {
    answers_alike = answers_alike;
    never_differs = λ sig list lent out h s e.
        never list (length out) _ _
        (((refusals d).write_refuses list out 20 _ _ (omega arith)).0 (sym (ap (λ (x : Result). x.refusal) (answers_alike sig list lent out h s)) ∙ e, refl, refl));
    differs = λ sig list lent given out h v n.
        ((fill_refuses_when d given list).refuses out 20 0 0 (omega arith)).1 (P.plan_differs sig v (λ q. n (plan-is d true v q ∙ sym (made_numbers sig lent h (own_accepted v)).2)) refl refl refl);
    made = λ sig lent h v. let m = made_numbers sig lent h v in (m.0, m.1, is-plan d false v m.2);
    own_signature = own_signature;
    signature_short = λ sig list v. own_short v;
    by_own_signature = λ list lent lent' out h g.
        fills (output (p.make (output (p.signature list lent)) lent')) list out (λ sig v. rw (own_signature sig list lent v (omega (arith, own_short v))).2 (made_numbers sig lent' g (own_accepted v)).2);
    make_refuses = make_refuses_when d;
    fill_refuses = fill_refuses_when d;
    signature_refuses = signature-refuses_when d;
  }

  -- ---- demands 1 and 3 with the pair in place of the writer

  by_plan_writes : (lent lent' : List ℕ) → SignatureRoom lent → PlanRoom lent' → f ≡ by_plan f p lent lent'
  by_plan_writes lent lent' h g = λ i. record { read = f.read; write = λ list out. sym (pairs.by_own_signature list lent lent' out h g) i }

  pub demands : Demands (functions_of (O32 d)) (pair_of d) d
  demands = record {
    refusals = λ lent lent' h g. subst Refusals (by_plan_writes lent lent' h g) (refusals d);
    demand = λ lent lent' h g. subst (λ (x : Functions). Demand x d) (by_plan_writes lent lent' h g) (demand d);
  }

  -- ---- a plan by value

  -- a signature is refused by a record, or accepted
  by_scan : {A : Type 0} (sig : List ℕ) → ((r place j : ℕ) → 1 ≤ r → scan (O32 d) false sig ≡ stopped r place j → A) → (Accepted false sig sig → A) → A
  by_scan {A} sig g h = go (scan (O32 d) false sig) refl
    where
      go : (q : Scan State) → scan (O32 d) false sig ≡ q → A
      go (stopped r place j) e = g r place j (by_record ((refused_exactly d false sig r place j).0 e).holds).0 e
      go (complete L last) e = h (signature_accepted d sig L last e)

  pub by_value : ByValue (functions_of (O32 d)) (pair_of d) (make_plan d false) (filler_of d)
  by_value = record {
    same_refusal = λ sig lent h. by_scan sig (λ r place j n e. rw e (refl, refl, refl)) (λ v.
        let a = accepted_scanned d false sig sig v in
        let m = make_done (length lent) h v in
        rw (m, a.scanned) (refl, refl, refl));
    same_numbers = λ sig lent h z. by_scan sig (λ r place j n e. absurd (let q : r ≡ 0 = rw e at z in omega arith))
        (λ v. ap numbers (planned d false v) ∙ sym (made_numbers sig lent h v).2);
    zero = λ sig h. by_scan sig (λ r place j n e. rw e) (λ v. absurd (let q : 1 ≤ 0 = rw (accepted_scanned d false sig sig v).scanned at h in omega arith));
    entries = λ sig. by_scan sig (λ r place j n e. rw e) (λ v. rw (planned d false v) (entries_32 d v));
    entries_laid = λ sig z. by_scan sig (λ r place j n e. absurd (let q : r ≡ 0 = rw e at z in omega arith))
        (λ v. rw (planned d false v) (ap (map (λ (e : Entry). e.offset)) (take-append_seam (entries_after d [] sig) _) ∙ entries_laid d [] sig));
    fills = λ q list out. refl;
    answers_alike = λ sig list out s.
        fills (numbers (make_plan d false sig).plan) list out (λ ks v.
        let e : ks ≡ sig = records_one ks sig list v.records s in
        rw (← e) (ap numbers (planned d false (own_accepted v))));
    differs = λ q sig list out v n.
        ((fill_refuses_when d (numbers q) list).refuses out 20 0 0 (omega arith)).1
        (P.plan_differs sig v (λ i. n (numbers_injective q (make_plan d false sig).plan (plan-is d true v i ∙ ap numbers (sym (planned d false (own_accepted v)))))) refl refl refl);
  }
