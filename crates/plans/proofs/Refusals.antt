-- Making a plan, filling an image by it and giving a list's signature refuse exactly on their conditions, on every device.
-- Assumes nothing.
use mathlib.Core.Path.{◌≡◌, refl, sym, ap, ◌∙◌, subst}
use mathlib.Core.Logic.Iff
use mathlib.Core.Logic.{◌↔◌}
use mathlib.Core.List.{List, [], ◌∷◌, ◌++◌}
use mathlib.Core.Bool.{Bool, true, false, cond}
use Prim.Native.Nat.{ℕ, ◌≤◌, ◌<◌}
use native.Mathlib.Omega.{arith}
use lib.Dec.{ltb}
use lib.ListN.{length, drop}
use lib.Seq.{drop_at}
use borrow.Author.Tests.{ltb-true, lt-ltb}
use Rattle.words.specs.Words.{same}
use Rattle.words.proofs.Impossible.{impossible}
use Rattle.words.proofs.Bytes.{same→eq, same_true}
use Rattle.kinds.specs.Kinds.{kind_of}
use Rattle.device.specs.declared.Device.{Device}
use Rattle.answers.specs.Outcomes.{Outcome, done, refused, check_room}
use Rattle.carried.specs.Image.{Placed}
use Rattle.carried.specs.Convention.{Scan, stopped, complete, resolve, scan, write_into}
use Rattle.carried.specs.Carried.{kinds}
use Rattle.carried.proofs.CallRefusals.{answer-refuses}
use Rattle.o32.specs.declared.State.{State}
use Rattle.o32.specs.O32.{O32}
use Rattle.o32_laws.specs.Refusing as R
use Rattle.o32_laws.specs.Refusing.{Records, Accepted, RefusedAt, WriterRefuses}
use Rattle.o32_laws.proofs.Refusing.{by_record, scanned_accepted, accepted_scanned, refused_exactly}
use Rattle.o32_laws.proofs.Refusals.{keeps, accepts, signature_accepted, writer_refuses}
use Rattle.plans.specs.Plans.{plan_of, make_plan, numbers, make_into, fill_into, signature_into}
use Rattle.plans.specs.Pair as P
use Rattle.plans.specs.Pair.{IsPlan, PlanFor, result, pair_of, MakeRefuses, FillRefuses, SignatureRefuses, RefusesWhen}
use Rattle.plans.proofs.Entries.{entries_long, numbers_long}
use Rattle.plans.proofs.Placements.{plan_for, one_plan}

-- ---- the test of equal numbers, and refusals in general

pub alike : (xs ys : List ℕ) → xs ≡ ys → same xs ys ≡ true
alike xs ys e = rw e (same_true ys)

unlike : (xs ys : List ℕ) → same xs ys ≡ false → xs ≡ ys → ⊥
unlike xs ys e q = impossible (cc (alike xs ys q))

differing : (xs ys : List ℕ) → (xs ≡ ys → ⊥) → same xs ys ≡ false
differing xs ys h = go (same xs ys) refl
  where
    go : (t : Bool) → same xs ys ≡ t → same xs ys ≡ false
    go true e = absurd (h (same→eq xs ys (rw e tt)))
    go false e = e

room-refuses : (room : ℕ) (x : List ℕ) (r place j : ℕ) → (check_room 7 room (length x) (done x) ≡ refused r place j) ↔ ((room < length x) × (r ≡ 7) × (place ≡ 0) × (j ≡ 0))
room-refuses room x r place j = (there (ltb room (length x)) refl, λ h. rw (lt-ltb room (length x) h.0, h.1, h.2, h.3))
  where
    there : (t : Bool) → ltb room (length x) ≡ t → cond t (refused 7 0 0) (done x) ≡ refused r place j → (room < length x) × (r ≡ 7) × (place ≡ 0) × (j ≡ 0)
    there true e f = (ltb-true room (length x) e, (cc), (cc), (cc))
    there false e f = impossible (cc)

-- a list has one signature only
pub records_one : (ks js l : List ℕ) → Records true ks l → Records true js l → ks ≡ js
records_one [] [] l v w = refl
records_one [] (j ∷ js) l v w = impossible (cc w.2)
records_one (k ∷ ks) [] l v w = impossible (cc v.2)
records_one (k ∷ ks) (j ∷ js) l v w =
    let e : k ≡ j = cc (v.2, w.2) in
    let f : v.0 ++ v.1 ≡ w.0 ++ w.1 = cc (v.2, w.2) in
    let n : ℕ = (kind_of j).size in
    let g : v.1 ≡ w.1 =
    sym (drop_at v.0 v.1 n (v.3 ∙ ap (λ (x : ℕ). (kind_of x).size) e)) ∙ ap (drop n) f ∙ drop_at w.0 w.1 n w.3 in
    let i = records_one ks js w.1 (subst (Records true ks) g v.4) w.4 in
    cc

module _ (d : Device) (bodies : Bool) (l : List ℕ) (r place j : ℕ) where
  -- what comes of a scan is refused by a record, or by what is made of all records
  resolved : {A : Type 0} (then : List Placed → State → Outcome) → (RefusedAt bodies l r place j → A)
      → ((L : List Placed) (last : State) → scan (O32 d) bodies l ≡ complete L last → then L last ≡ refused r place j → A)
      → resolve (scan (O32 d) bodies l) then ≡ refused r place j → A
  resolved {A} then f g e = go (scan (O32 d) bodies l) refl e
    where
      go : (q : Scan State) → scan (O32 d) bodies l ≡ q → resolve q then ≡ refused r place j → A
      go (stopped r' place' j') h e =
          let x : r' ≡ r = cc in
          let y : place' ≡ place = cc in
          let z : j' ≡ j = cc in
          f ((refused_exactly d bodies l r place j).0 (h ∙ rw (x, y, z) refl))
      go (complete L last) h e = g L last h e

-- ---- making a plan

module _ (d : Device) where
  -- the plan of what is accepted has 32 entries, and so 98 numbers
  pub entries_32 : {bodies : Bool} {l ks : List ℕ} → Accepted bodies l ks → length (plan_of d ks).entries ≡ 32
  entries_32 {bodies} {l} {ks} v = let a = accepted_scanned d bodies l ks v in rw a.kinds_are at (entries_long d bodies l a.scanned)

  pub numbers_98 : {bodies : Bool} {l ks : List ℕ} → Accepted bodies l ks → length (numbers (plan_of d ks)) ≡ 98
  numbers_98 {ks = ks} v = numbers_long (plan_of d ks) (entries_32 v)

  module _ (sig : List ℕ) (room r place j : ℕ) where
    pub make_refuses : (make_into d sig room ≡ refused r place j) ↔ MakeRefuses sig room r place j
    make_refuses = (resolved d false sig r place j _ P.by_record there, back)
      where
        there : (L : List Placed) (last : State) → scan (O32 d) false sig ≡ complete L last
            → check_room 7 room (length (numbers (plan_of d (kinds L)))) (done (numbers (plan_of d (kinds L)))) ≡ refused r place j → MakeRefuses sig room r place j
        there L last ok e =
            let h = (room-refuses room (numbers (plan_of d (kinds L))) r place j).0 e in
            P.short_buffer (signature_accepted d sig L last ok) (omega (arith, h.0, numbers_98 (scanned_accepted d false sig L last ok))) h.1 h.2 h.3

        back : MakeRefuses sig room r place j → make_into d sig room ≡ refused r place j
        back (P.by_record v) = rw ((refused_exactly d false sig r place j).1 v)
        back (P.short_buffer v h x y z) =
            let a = accepted_scanned d false sig sig v in
            rw (a.scanned, a.kinds_are) ((room-refuses room (numbers (plan_of d sig)) r place j).1 (omega (arith, numbers_98 v), x, y, z))

  -- ---- filling an image

  -- a list or signature has one plan
  pub planned : (bodies : Bool) {l ks : List ℕ} → Accepted bodies l ks → (make_plan d bodies l).plan ≡ plan_of d ks
  planned bodies {l} {ks} v =
      let a = accepted_scanned d bodies l ks v in
      rw a.scanned (ap (plan_of d) a.kinds_are)

  -- and these numbers are those of its plan exactly where they are those of the definition
  plan_here : (bodies : Bool) {l ks : List ℕ} → Accepted bodies l ks → PlanFor d ks (plan_of d ks)
  plan_here bodies {l} {ks} v = let a = accepted_scanned d bodies l ks v in rw a.kinds_are at (plan_for d bodies l a.scanned)

  pub is-plan : (bodies : Bool) {l ks given : List ℕ} → Accepted bodies l ks → given ≡ numbers (plan_of d ks) → IsPlan d ks given
  is-plan bodies {ks = ks} v e = (plan_of d ks, plan_here bodies v, e)

  pub plan-is : (bodies : Bool) {l ks given : List ℕ} → Accepted bodies l ks → IsPlan d ks given → given ≡ numbers (plan_of d ks)
  plan-is bodies {ks = ks} v q = q.2 ∙ ap numbers (one_plan.one d ks q.0 (plan_of d ks) q.1 (plan_here bodies v))

  module _ (given list : List ℕ) (room : ℕ) where
    -- an accepted list is answered by the writer, or 20
    pub filled_accepted : (t : Bool) {sig : List ℕ} → Accepted true list sig → same given (numbers (plan_of d sig)) ≡ t
        → fill_into d given list room ≡ cond t (write_into (O32 d) list room) (refused 20 0 0)
    filled_accepted t {sig} v e = let a = accepted_scanned d true list sig v in rw (a.scanned, a.kinds_are, e)

    module _ (r place j : ℕ) where
      pub fill_refuses : (fill_into d given list room ≡ refused r place j) ↔ FillRefuses d given list room r place j
      fill_refuses = (resolved d true list r place j _ P.by_record (λ L last ok. there L last ok (same given (numbers (plan_of d (kinds L)))) refl), back)
        where
          writer : (ks : List ℕ) → Accepted true list ks → given ≡ numbers (plan_of d ks) → WriterRefuses list room r place j → FillRefuses d given list room r place j
          writer ks v q (R.by_record w) = P.by_record w
          writer ks v q (R.short_buffer js w h x y z) =
              let e : js ≡ ks = records_one js ks list w.records v.records in
              P.short_buffer js w (is-plan true w (q ∙ rw e refl)) h x y z

          there : (L : List Placed) (last : State) → scan (O32 d) true list ≡ complete L last → (t : Bool) → same given (numbers (plan_of d (kinds L))) ≡ t
              → cond t (write_into (O32 d) list room) (refused 20 0 0) ≡ refused r place j → FillRefuses d given list room r place j
          there L last ok true s e = writer (kinds L) (scanned_accepted d true list L last ok) (same→eq given (numbers (plan_of d (kinds L))) (rw s tt)) ((writer_refuses d list room r place j).0 e)
          there L last ok false s e =
              let v = scanned_accepted d true list L last ok in
              P.plan_differs (kinds L) v (λ q. unlike given (numbers (plan_of d (kinds L))) s (plan-is true v q)) (cc) (cc) (cc)

          back : FillRefuses d given list room r place j → fill_into d given list room ≡ refused r place j
          back (P.by_record v) = rw ((refused_exactly d true list r place j).1 v)
          back (P.plan_differs sig v h x y z) = filled_accepted false v (differing given (numbers (plan_of d sig)) (λ q. h (is-plan true v q))) ∙ rw (x, y, z)
          back (P.short_buffer sig v q h x y z) =
              filled_accepted true v (alike given (numbers (plan_of d sig)) (plan-is true v q)) ∙ (writer_refuses d list room r place j).1 (R.short_buffer sig v h x y z)

  -- ---- the signature of a list

  module _ (list : List ℕ) (room r place j : ℕ) where
    pub signature_refuses : (signature_into d list room ≡ refused r place j) ↔ SignatureRefuses list room r place j
    signature_refuses = (resolved d true list r place j _ P.by_record there, back)
      where
        there : (L : List Placed) (last : State) → scan (O32 d) true list ≡ complete L last → check_room 7 room (length (kinds L)) (done (kinds L)) ≡ refused r place j
            → SignatureRefuses list room r place j
        there L last ok e =
            let h = (room-refuses room (kinds L) r place j).0 e in
            P.short_buffer (kinds L) (scanned_accepted d true list L last ok) h.0 h.1 h.2 h.3

        back : SignatureRefuses list room r place j → signature_into d list room ≡ refused r place j
        back (P.by_record v) = rw ((refused_exactly d true list r place j).1 v)
        back (P.short_buffer sig v h x y z) =
            let a = accepted_scanned d true list sig v in
            rw (a.scanned, a.kinds_are) ((room-refuses room sig r place j).1 (h, x, y, z))

-- ---- what they answer and leave in their buffers

make_numbered : {sig : List ℕ} {room r place j : ℕ} → MakeRefuses sig room r place j → 1 ≤ r
make_numbered (P.by_record v) = (by_record v.holds).0
make_numbered (P.short_buffer v h x y z) = omega arith

fill_numbered : {d : Device} {given list : List ℕ} {room r place j : ℕ} → FillRefuses d given list room r place j → 1 ≤ r
fill_numbered (P.by_record v) = (by_record v.holds).0
fill_numbered (P.plan_differs sig v h x y z) = omega arith
fill_numbered (P.short_buffer sig v q h x y z) = omega arith

signature_numbered : {list : List ℕ} {room r place j : ℕ} → SignatureRefuses list room r place j → 1 ≤ r
signature_numbered (P.by_record v) = (by_record v.holds).0
signature_numbered (P.short_buffer sig v h x y z) = omega arith

-- an outcome that refuses just on these conditions, each with a number
refuses_when : (d : Device) (into : ℕ → Outcome) (P : ℕ → ℕ → ℕ → ℕ → Type 0) → ((room r place j : ℕ) → (into room ≡ refused r place j) ↔ P room r place j)
    → ((room r place j : ℕ) → P room r place j → 1 ≤ r) → RefusesWhen (result into) P
refuses_when d into P exactly numbered = record {
  refuses = λ out r place j h. Iff.trans (answer-refuses (into (length out)) r place j h) (exactly (length out) r place j);
  accepts = λ out. accepts d (into (length out)) (P (length out)) (exactly (length out)) (numbered (length out));
  keeps = λ out. keeps (into (length out)) (λ r place j e. numbered (length out) r place j ((exactly (length out) r place j).0 e)) out;
}

module _ (d : Device) where
  pub make_refuses_when : (sig : List ℕ) → RefusesWhen ((pair_of d).make sig) (MakeRefuses sig)
  make_refuses_when sig = refuses_when d (make_into d sig) (MakeRefuses sig) (make_refuses d sig) (λ room r place j v. make_numbered v)

  pub fill_refuses_when : (given list : List ℕ) → RefusesWhen ((pair_of d).fill given list) (FillRefuses d given list)
  fill_refuses_when given list = refuses_when d (fill_into d given list) (FillRefuses d given list) (fill_refuses d given list) (λ room r place j v. fill_numbered v)

  pub signature-refuses_when : (list : List ℕ) → RefusesWhen ((pair_of d).signature list) (SignatureRefuses list)
  signature-refuses_when list = refuses_when d (signature_into d list) (SignatureRefuses list) (signature_refuses d list) (λ room r place j v. signature_numbered v)
