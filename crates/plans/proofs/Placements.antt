-- The plan of accepted kinds is what is said of each argument, and there is one such plan only.
-- Assumes nothing.
use mathlib.Core.Path.{◌≡◌, refl, sym, ap, ◌∙◌}
use mathlib.Core.List.{List, [], ◌∷◌, ◌++◌, append_assoc}
use mathlib.Core.Bool.{Bool, true, false, cond}
use Prim.Native.Nat.{ℕ, zero, suc, ◌+◌, ◌-◌, ◌≤◌, ◌<◌}
use native.Mathlib.Omega.{arith}
use lib.ListN.{length, get_or, replicate}
use lib.Seq.{get_or_at, get_or-append-add, ext_get_or}
use lib.Dec.{ltb}
use borrow.Author.Tests.{ltb-true, ltb-false}
use Rattle.device.specs.declared.Device.{Device}
use Rattle.kinds.specs.declared.Class.TheVariants.{Marker}
use Rattle.kinds.specs.Kinds.{kind_of, is}
use Rattle.carried.specs.Image.{Placed}
use Rattle.carried.specs.Convention.{complete, scan}
use Rattle.carried.specs.Carried.{kinds}
use Rattle.o32.specs.declared.State.{State}
use Rattle.o32.specs.O32.{O32}
use Rattle.o32_laws.specs.Refusing.{arguments_in}
use Rattle.plans.specs.declared.Entry.{Entry}
use Rattle.plans.specs.declared.Plan.{Plan}
use Rattle.plans.specs.Plans.{entry_after, entries_after, no_entry, padded, plan_of}
use Rattle.plans.specs.Pair.{PlanFor, OnePlan}
use Rattle.plans.proofs.Entries.{entries_append, entries_count, entries_long, numbers_injective}

-- past the entries there is nothing but zero
zeros : (k i : ℕ) → get_or (replicate k no_entry) i no_entry ≡ no_entry
zeros zero i = refl
zeros (suc k) zero = refl
zeros (suc k) (suc i) = zeros k i

padded_past : (es : List Entry) (i : ℕ) → length es ≤ i → get_or (padded es) i no_entry ≡ no_entry
padded_past es i h =
    let n : i ≡ length es + (i - length es) = omega arith in
    ap (λ (j : ℕ). get_or (padded es) j no_entry) n ∙ get_or-append-add es (replicate (32 - length es) no_entry) (i - length es) no_entry ∙ zeros (32 - length es) (i - length es)

-- the entry of a kind comes after as many as arguments before it
entry_at : (d : Device) (before : List ℕ) (k : ℕ) (after : List ℕ) → is Marker (kind_of k) ≡ false
    → get_or (padded (entries_after d [] (before ++ (k ∷ after)))) (arguments_in before) no_entry ≡ entry_after d before k
entry_at d before k after m =
    let E : List Entry = entries_after d [] before in
    let F : List Entry = entries_after d (before ++ (k ∷ [])) after in
    let e : entries_after d [] (before ++ (k ∷ after)) ≡ E ++ (entry_after d before k ∷ F) = entries_append d [] before (k ∷ after) ∙ rw m refl in
    rw e
    (ap (λ (l : List Entry). get_or l (arguments_in before) no_entry) (append_assoc E (entry_after d before k ∷ F) (replicate (32 - length (E ++ (entry_after d before k ∷ F))) no_entry))
    ∙ get_or_at E (entry_after d before k) (F ++ replicate (32 - length (E ++ (entry_after d before k ∷ F))) no_entry) no_entry (arguments_in before) (entries_count d [] before))

pub plan_for : (d : Device) (bodies : Bool) (l : List ℕ) {L : List Placed} {last : State} → scan (O32 d) bodies l ≡ complete L last → PlanFor d (kinds L) (plan_of d (kinds L))
plan_for d bodies l {L} ok = record {
  long = entries_long d bodies l ok;
  count = entries_count d [] (kinds L);
  area = refl;
  placed = λ before k after e m. rw (← e) (entry_at d before k after m);
  past = padded_past (entries_after d [] (kinds L));
}

-- ---- one plan only

-- the kind of argument i, from 0, among kinds
record Argument (sig : List ℕ) (i : ℕ) : Type 0 where
  before : List ℕ
  kind : ℕ
  after : List ℕ
  here : before ++ (kind ∷ after) ≡ sig
  argument : is Marker (kind_of kind) ≡ false
  counted : arguments_in before ≡ i

later : (k : ℕ) {sig : List ℕ} {i j : ℕ} → cond (is Marker (kind_of k)) 0 1 + i ≡ j → Argument sig i → Argument (k ∷ sig) j
later k e a = record { before = k ∷ a.before; kind = a.kind; after = a.after; here = ap (λ (l : List ℕ). k ∷ l) a.here; argument = a.argument; counted = omega (arith, a.counted) }

argument-at : (sig : List ℕ) (i : ℕ) → i < arguments_in sig → Argument sig i
argument-at [] i h = absurd (omega arith)
argument-at (k ∷ sig) i h = go (argument-at sig) (is Marker (kind_of k)) refl i h
  where
    go : ((i : ℕ) → i < arguments_in sig → Argument sig i) → (t : Bool) → is Marker (kind_of k) ≡ t → (i : ℕ) → i < cond (is Marker (kind_of k)) 0 1 + arguments_in sig → Argument (k ∷ sig) i
    go rest true e i h = later k (rw e (omega arith)) (rest i (let g : i < 0 + arguments_in sig = rw e at h in omega arith))
    go rest false e zero h = record { before = []; kind = k; after = sig; here = refl; argument = e; counted = refl }
    go rest false e (suc i) h = later k (rw e (omega arith)) (rest i (let g : suc i < 1 + arguments_in sig = rw e at h in omega arith))

module _ {d : Device} {sig : List ℕ} {a b : Plan} (v : PlanFor d sig a) (w : PlanFor d sig b) where
  entry_same : (i : ℕ) → get_or a.entries i no_entry ≡ get_or b.entries i no_entry
  entry_same i = go (ltb i (arguments_in sig)) refl
    where
      go : (t : Bool) → ltb i (arguments_in sig) ≡ t → get_or a.entries i no_entry ≡ get_or b.entries i no_entry
      go true e =
          let x = argument-at sig i (ltb-true i (arguments_in sig) e) in
          rw x.counted at (v.placed x.before x.kind x.after x.here x.argument ∙ sym (w.placed x.before x.kind x.after x.here x.argument))
      go false e =
          let h = ltb-false i (arguments_in sig) e in
          v.past i (omega (arith, v.count)) ∙ sym (w.past i (omega (arith, w.count)))

  plan_one : a ≡ b
  plan_one =
      let e : a.entries ≡ b.entries = ext_get_or no_entry a.entries b.entries (v.long ∙ sym w.long) (λ i h. entry_same i) in
      let n : a.count ≡ b.count = v.count ∙ sym w.count in
      let s : a.area ≡ b.area = omega (arith, v.area, w.area) in
      λ i. record { entries = e i; count = n i; area = s i }

pub one_plan : OnePlan
one_plan = record { one = λ d sig a b v w. plan_one v w; by_numbers = numbers_injective }
