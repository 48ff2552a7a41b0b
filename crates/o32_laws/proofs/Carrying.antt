-- The law of carried bytes, for every argument of every accepted signature on every device.
-- Assumes nothing.
use mathlib.Core.Path.{◌≡◌, refl, sym, ap, ap₂, ◌∙◌, subst}
use mathlib.Core.Logic.{◌⊎◌, inl, inr}
use mathlib.Core.List.{List, [], ◌∷◌, ◌++◌, map}
use mathlib.Core.Bool.{Bool, true, false, cond, ◌&&◌, and-false}
use Prim.Native.Nat.{ℕ, zero, suc, ◌+◌, ◌-◌, ◌*◌, ◌≤◌, ◌<◌}
use native.Mathlib.Omega.{arith}
use native.Mathlib.Nat.{zero-add}
use lib.ListN.{length, get_or, get_or-append}
use lib.Seq.{get_or-append-add}
use lib.Dec.{eqb, ltb}
use borrow.Author.Tests.{lt-ltb, le-ltb, ltb-true, ltb-false, ne_eqb}
use Rattle.device.specs.declared.Device.{Device}
use Rattle.device.specs.declared.Device.TheVariants.{Fpu, NoFpu}
use Rattle.carried.specs.Image.{Placed}
use Rattle.carried.specs.Convention.{complete, scan}
use Rattle.carried.proofs.Walks.{Walk, one, walk_of}
use Rattle.kinds.specs.declared.Class.TheVariants.{Marker, Float}
use Rattle.kinds.specs.declared.Kind.{Kind}
use Rattle.o32.specs.declared.State.{State}
use Rattle.o32.specs.declared.Placement.{Placement}
use Rattle.kinds.specs.Kinds.{kind_of, is}
use Rattle.o32_offsets.specs.Offsets.{width, lay}
use Rattle.o32.specs.O32.{float_register, register, float_registers, register_bytes, float_bytes, carrier, carriers, advance, placement, start, O32}
use Rattle.rules.specs.Rules.{misplaced, argument}
use Rattle.places.specs.Places.{run}
use Rattle.o32_laws.specs.Carrying.{register_after, offset_after, Carries, low, high, single, odd, even, CarriedAt, InRuns}
use Rattle.kinds.proofs.KindFacts.{kind_facts, structure}
use Rattle.o32_offsets.proofs.Offsets.{unpromoted_width, float_width}
use Rattle.o32_laws.proofs.Steps.{Stepped, Describes, describes}
use Rattle.o32_laws.proofs.Laws.{O32-laws, span, length-span, length_float}
use Rattle.o32_laws.proofs.Runs.{span_below, span_high}
use Rattle.places.proofs.Runs.{get_or-run}

-- ---- the state after some kinds

abbrev pub reach : State → List ℕ → State
reach st [] = st
reach st (k ∷ ks) = reach (advance st (kind_of k)) ks

pub reach_end : (ks : List ℕ) (st : State) → (reach st ks).end ≡ (lay st.end ks).end
reach_end [] st = refl
reach_end (k ∷ ks) st = reach_end ks (advance st (kind_of k))

-- a state in which no float gets a floating register any more
abbrev Late : State → Type 0
Late st = (2 ≤ st.prefix.count) ⊎ ((1 ≤ st.prefix.count) × (st.prefix.marked ≡ true))

late_on : (st : State) (k : Kind) → Late st → Late (advance st k)
late_on st k h = go (is Marker k) refl h
  where
    go : (t : Bool) → is Marker k ≡ t → Late st → Late (advance st k)
    go true e (inl n) = inl (rw e n)
    go true e (inr n) = inr (rw e (n.0, refl))
    go false e (inl n) = inl (rw e (omega arith))
    go false e (inr n) = inr (rw e (omega arith, n.1))

late_reach : (ks : List ℕ) (st : State) → Late st → Late (reach st ks)
late_reach [] st h = h
late_reach (k ∷ ks) st h = late_reach ks (advance st (kind_of k)) (late_on st (kind_of k) h)

pub late_register : (st : State) → Late st → float_register Fpu st ≡ 0
late_register st (inl n) = rw (ne_eqb st.prefix.count 0 (λ e. omega arith), ne_eqb st.prefix.count 1 (λ e. omega arith))
late_register st (inr n) = rw (ne_eqb st.prefix.count 0 (λ e. omega arith), n.1, and-false (eqb st.prefix.count 1 && st.floating))

-- ---- a walk over an accepted signature, taken apart at its first record

record First (d : Device) (st : State) (k : ℕ) (ks : List ℕ) (L : List Placed) (last : State) : Type 0 where
  number : ℕ
  place : Placement
  after : State
  rest : List Placed
  step_taken : Stepped d st (kind_of k) number place after
  records : L ≡ (O32 d).placed_at k number place ∷ rest
  walk : Walk (O32 d) (O32-laws d) after ks rest last

first : {d : Device} {st : State} {k : ℕ} {ks : List ℕ} {L : List Placed} {last : State} → Walk (O32 d) (O32-laws d) st (k ∷ ks) L last → First d st k ks L last
first {d} {st} (one {st' = st'} {k = k} {j = j} {p = p} {L = L} e f w) = record {
  number = j;
  place = p;
  after = st';
  rest = L;
  step_taken = subst (Describes d st (kind_of k)) e (describes d st (kind_of k));
  records = refl;
  walk = w;
}

-- the walk after the first record, from the state that the record leads to
then : {d : Device} {st : State} {k : ℕ} {ks : List ℕ} {L : List Placed} {last : State} (w : First d st k ks L last) → Walk (O32 d) (O32-laws d) (advance st (kind_of k)) ks w.rest last
then {d = d} {ks = ks} {last = last} w = subst (λ (x : State). Walk (O32 d) (O32-laws d) x ks w.rest last) w.step_taken.on w.walk

-- the record of this kind is placed by the state after the kinds before
record_placed : (d : Device) (before : List ℕ) (st : State) (k : ℕ) (after : List ℕ) (L : List Placed) (last : State) → Walk (O32 d) (O32-laws d) st (before ++ (k ∷ after)) L last
    → (M : List Placed) (s : Placed) (N : List Placed) → L ≡ M ++ (s ∷ N) → length M ≡ length before
    → s ≡ (O32 d).placed_at k (argument (reach st before).prefix (kind_of k)) (placement d (reach st before) (kind_of k))
record_placed d [] st k after L last w [] s N e h =
    let a : First d st k after L last = first w in
    let i : s ≡ (O32 d).placed_at k a.number a.place = cc a.records in
    i ∙ ap₂ ((O32 d).placed_at k) a.step_taken.number a.step_taken.at
record_placed d [] st k after L last w (m ∷ M) s N e h = absurd (omega arith)
record_placed d (j ∷ before) st k after L last w [] s N e h = absurd (omega arith)
record_placed d (j ∷ before) st k after L last w (m ∷ M) s N e h =
    let a : First d st j (before ++ (k ∷ after)) L last = first w in
    let i : a.rest ≡ M ++ (s ∷ N) = cc a.records in
    record_placed d before (advance st (kind_of j)) k after a.rest last (then a) M s N i (omega arith)

-- ---- rule 3 by the kinds before

no_marker_first : (k : Kind) → misplaced start.prefix k ≡ false → is Marker k ≡ false
no_marker_first k h = go (is Marker k) refl
  where
    go : (t : Bool) → is Marker k ≡ t → is Marker k ≡ false
    go false e = e
    go true e = let z : true ≡ false = rw e at h in cc

none : (t : Bool) → ◌≡◌ {A = ℕ} (cond t 0 0) 0
none true = refl
none false = refl

pub register_by_kinds : (d : Device) (before : List ℕ) (k : ℕ) (after : List ℕ) (L : List Placed) (last : State)
    → Walk (O32 d) (O32-laws d) start (before ++ (k ∷ after)) L last → register d (reach start before) (kind_of k) ≡ register_after d before k
register_by_kinds NoFpu before k after L last w = none (is Float (kind_of k))
register_by_kinds Fpu [] k after L last w = refl
register_by_kinds Fpu (j ∷ []) k after L last w =
    let n : is Marker (kind_of j) ≡ false = no_marker_first (kind_of j) (first {d = Fpu} w).step_taken.rightly in
    go n (is Float (kind_of j)) (is Float (kind_of k)) refl refl
  where
    go : is Marker (kind_of j) ≡ false → (t u : Bool) → is Float (kind_of j) ≡ t → is Float (kind_of k) ≡ u
        → register Fpu (advance start (kind_of j)) (kind_of k) ≡ cond (is Float (kind_of j) && is Float (kind_of k)) 14 0
    go n true true d e = rw (n, d, e)
    go n true false d e = rw (n, d, e)
    go n false true d e = rw (n, d, e)
    go n false false d e = rw (n, d, e)
register_by_kinds Fpu (j ∷ i ∷ js) k after L last w =
    let n : is Marker (kind_of j) ≡ false = no_marker_first (kind_of j) (first {d = Fpu} w).step_taken.rightly in
    let z : float_register Fpu (reach start (j ∷ i ∷ js)) ≡ 0 =
    late_register (reach start (j ∷ i ∷ js)) (late_reach js (advance (advance start (kind_of j)) (kind_of i)) (go n (is Marker (kind_of i)) refl)) in
    ap (λ (f : ℕ). cond (is Float (kind_of k)) f 0) z ∙ none (is Float (kind_of k))
  where
    go : is Marker (kind_of j) ≡ false → (t : Bool) → is Marker (kind_of i) ≡ t → Late (advance (advance start (kind_of j)) (kind_of i))
    go n true e = inr (rw (e, n) (omega arith, refl))
    go n false e = inl (rw (e, n) (omega arith))

-- ---- the bytes of a placement, one by one

get_or-span : (n o i : ℕ) → i < n → get_or (map carrier (run o n)) i 0 ≡ carrier (o + i)
get_or-span zero o i h = absurd (omega arith)
get_or-span (suc n) o zero h = let e : o ≡ o + 0 = omega arith in ap carrier e
get_or-span (suc n) o (suc i) h = let e : suc o + i ≡ o + suc i = omega arith in get_or-span n (suc o) i (omega arith) ∙ ap carrier e

carrier_low : (o : ℕ) → o < 16 → carrier o ≡ o
carrier_low o h = rw (lt-ltb o 16 h)

carrier_high : (o : ℕ) → 16 ≤ o → carrier o ≡ 32 + o
carrier_high o h = rw (le-ltb o 16 h)

-- byte i of the word of register j of these
get_or-register : (fs : List ℕ) (j i : ℕ) → j < length fs → i < 4 → get_or (register_bytes fs) (4 * j + i) 0 ≡ 16 + 4 * (get_or fs j 0 - 12) + i
get_or-register [] j i l h = absurd (omega arith)
get_or-register (f ∷ fs) zero i l h = rw zero-add (get_or-append (run (16 + 4 * (f - 12)) 4) (register_bytes fs) 0 i h ∙ get_or-run 4 (16 + 4 * (f - 12)) i h)
get_or-register (f ∷ fs) (suc j) i l h =
    let e : 4 * suc j + i ≡ 4 + (4 * j + i) = omega arith in
    rw e (get_or-append-add (run (16 + 4 * (f - 12)) 4) (register_bytes fs) (4 * j + i) 0 ∙ get_or-register fs j i (omega arith) h)

-- only floats have a floating register
pub floats_only : (d : Device) (before : List ℕ) (k : ℕ) → 1 ≤ register_after d before k → is Float (kind_of k) ≡ true
floats_only NoFpu before k h = absurd (omega arith)
floats_only Fpu [] k h = go (is Float (kind_of k)) h
  where
    go : (t : Bool) → 1 ≤ cond t 12 0 → t ≡ true
    go true h = refl
    go false h = absurd (omega arith)
floats_only Fpu (j ∷ []) k h = go (is Float (kind_of j)) (is Float (kind_of k)) h
  where
    go : (t u : Bool) → 1 ≤ cond (t && u) 14 0 → u ≡ true
    go t true h = refl
    go true false h = absurd (omega arith)
    go false false h = absurd (omega arith)
floats_only Fpu (j ∷ i ∷ js) k h = absurd (omega arith)

-- after two kinds no float has a floating register
pub register_late : (d : Device) (before : List ℕ) (k : ℕ) → 2 ≤ length before → register_after d before k ≡ 0
register_late NoFpu before k h = refl
register_late Fpu [] k h = absurd (omega arith)
register_late Fpu (j ∷ []) k h = absurd (omega arith)
register_late Fpu (j ∷ i ∷ js) k h = refl

pub unfloated : (d : Device) (before : List ℕ) (k : ℕ) → is Float (kind_of k) ≡ false → register_after d before k ≡ 0
unfloated d before k f = go (register_after d before k) refl
  where
    go : (r : ℕ) → register_after d before k ≡ r → register_after d before k ≡ 0
    go zero e = e
    go (suc r) e = let z : true ≡ false = rw (floats_only d before k (omega arith)) at f in cc

-- ---- the law

module _ (d : Device) (before : List ℕ) (k j : ℕ) (s : Placed)
    (placed_as : s ≡ (O32 d).placed_at k j (record { kind = kind_of k; offset = offset_after before k; register = register_after d before k })) where
  abbrev cs : List ℕ
  cs = s.carriers

  carriers_as : cs ≡ carriers (record { kind = kind_of k; offset = offset_after before k; register = register_after d before k })
  carriers_as = ap (λ (x : Placed). x.carriers) placed_as

  by_offset : register_after d before k ≡ 0 → cs ≡ map carrier (run (offset_after before k) (width (kind_of k)))
  by_offset z = carriers_as ∙ rw z

  by_register : 1 ≤ register_after d before k → cs ≡ float_bytes (register_after d before k) (kind_of k).size
  by_register h = carriers_as ∙ rw (ne_eqb (register_after d before k) 0 (λ e. omega arith))

  carried_long : (r : ℕ) → register_after d before k ≡ r → length cs ≡ width (kind_of k)
  carried_long zero e = ap length (by_offset e) ∙ length-span (width (kind_of k)) (offset_after before k)
  carried_long (suc r) e =
      let f : is Float (kind_of k) ≡ true = floats_only d before k (omega arith) in
      ap length (by_register (omega arith)) ∙ length_float (register_after d before k) (kind_of k).size ((kind_facts k).floats f) ∙ sym (float_width (kind_of k) f)

  at_byte : register_after d before k ≡ 0 → (o i : ℕ) → o ≡ offset_after before k → i < length cs → get_or cs i 0 ≡ carrier (o + i)
  at_byte z o i e h =
      ap (λ (x : List ℕ). get_or x i 0) (by_offset z) ∙ get_or-span (width (kind_of k)) (offset_after before k) i (omega (arith, carried_long 0 z)) ∙ rw e

  -- byte i of word j of a float
  in_register : 1 ≤ register_after d before k → {n : ℕ} → (kind_of k).size ≡ n → (j i p : ℕ) → j < length (float_registers (register_after d before k) n) → i < 4 → p ≡ 4 * j + i
      → get_or cs p 0 ≡ 16 + 4 * (get_or (float_registers (register_after d before k) n) j 0 - 12) + i
  in_register h {n} z j i p m l e =
      let q : cs ≡ float_bytes (register_after d before k) n = by_register h ∙ ap (float_bytes (register_after d before k)) z in
      rw (q, e) (get_or-register (float_registers (register_after d before k) n) j i m l)

  module _ (i : ℕ) (l : i < width (kind_of k)) where
    float_long : 1 ≤ register_after d before k → width (kind_of k) ≡ (kind_of k).size
    float_long h = float_width (kind_of k) (floats_only d before k h)

    -- carrier i is the byte that the rules name,
    carries_as : Carries d before k i (get_or cs i 0)
    carries_as = go (register_after d before k) refl
      where
        laid : register_after d before k ≡ 0 → (t : Bool) → ltb (offset_after before k + i) 16 ≡ t → Carries d before k i (get_or cs i 0)
        laid z true e =
            let h = ltb-true (offset_after before k + i) 16 e in
            low z h (at_byte z _ i refl (omega (arith, carried_long 0 z)) ∙ carrier_low (offset_after before k + i) h)
        laid z false e =
            let h = ltb-false (offset_after before k + i) 16 e in
            high z h (at_byte z _ i refl (omega (arith, carried_long 0 z)) ∙ carrier_high (offset_after before k + i) h)

        pair : (f : ℕ) → register_after d before k ≡ suc f → (kind_of k).size ≡ 8 → i < 8 → (t : Bool) → ltb i 4 ≡ t → Carries d before k i (get_or cs i 0)
        pair f e z h true t = let g = ltb-true i 4 t in odd (omega arith) z g (in_register (omega arith) z 0 i i (omega arith) g (omega arith))
        pair f e z h false t = let g = ltb-false i 4 t in even (omega arith) z g (in_register (omega arith) z 1 (i - 4) i (omega arith) (omega arith) (omega arith))

        go : (f : ℕ) → register_after d before k ≡ f → Carries d before k i (get_or cs i 0)
        go zero e = laid e (ltb (offset_after before k + i) 16) refl
        go (suc f) e =
            let n = float_long (omega arith) in
            elim ((kind_facts k).floats (floats_only d before k (omega arith))) [
              | inl z ↦ single (omega arith) z (in_register (omega arith) z 0 i i (omega arith) (omega arith) (omega arith))
              | inr z ↦ pair f e z (omega arith) (ltb i 4) refl
            ]

    -- and no other
    carries_only : (p : ℕ) → Carries d before k i p → get_or cs i 0 ≡ p
    carries_only p (low z h g) = at_byte z _ i refl (omega (arith, carried_long 0 z)) ∙ carrier_low (offset_after before k + i) h ∙ sym g
    carries_only p (high z h g) = at_byte z _ i refl (omega (arith, carried_long 0 z)) ∙ carrier_high (offset_after before k + i) h ∙ sym g
    carries_only p (single h z g) = let n = float_long h in rw g (in_register h z 0 i i (omega arith) (omega arith) (omega arith))
    carries_only p (odd h z m g) = rw g (in_register h z 0 i i (omega arith) m (omega arith))
    carries_only p (even h z m g) = let n = float_long h in rw g (in_register h z 1 (i - 4) i (omega arith) (omega arith) (omega arith))

  law : CarriedAt d before k s
  law = record {
    size = ap (λ (x : Placed). x.size) placed_as;
    promotion = ap (λ (x : Placed). x.extension) placed_as;
    long = carried_long (register_after d before k) refl;
    bytes = λ i p l. ((λ e. subst (Carries d before k i) e (carries_as i l)), carries_only i l p);
  }

-- At every accepted signature, the record of every kind byte is placed by the kinds before,
pub placed-after : (d : Device) (before : List ℕ) (k : ℕ) (after : List ℕ) (L : List Placed) (last : State) → scan (O32 d) false (before ++ (k ∷ after)) ≡ complete L last
    → (M : List Placed) (s : Placed) (N : List Placed) → L ≡ M ++ (s ∷ N) → length M ≡ length before
    → s ≡ (O32 d).placed_at k (argument (reach start before).prefix (kind_of k)) (record { kind = kind_of k; offset = offset_after before k; register = register_after d before k })
placed-after d before k after L last ok M s N e h =
    let w : Walk (O32 d) (O32-laws d) start (before ++ (k ∷ after)) L last = walk_of (O32 d) (O32-laws d) (before ++ (k ∷ after)) start L last 0 ok in
    record_placed d before start k after L last w M s N e h
    ∙ rw (reach_end before start, register_by_kinds d before k after L last w)

-- and is carried as `CarriedAt` says.
pub carried-at : (d : Device) (before : List ℕ) (k : ℕ) (after : List ℕ) (L : List Placed) (last : State) → scan (O32 d) false (before ++ (k ∷ after)) ≡ complete L last
    → (M : List Placed) (s : Placed) (N : List Placed) → L ≡ M ++ (s ∷ N) → length M ≡ length before → CarriedAt d before k s
carried-at d before k after L last ok M s N e h = law d before k _ s (placed-after d before k after L last ok M s N e h)

-- Request (iii) of document 02: at every accepted signature, on every device, a structure lies in the runs of `InRuns`.
pub structure_in_runs : (d : Device) (before : List ℕ) (k : ℕ) (after : List ℕ) (L : List Placed) (last : State) → scan (O32 d) false (before ++ (k ∷ after)) ≡ complete L last
    → (M : List Placed) (s : Placed) (N : List Placed) → L ≡ M ++ (s ∷ N) → length M ≡ length before → InRuns before k s
structure_in_runs d before k after L last ok M s N e h = record {
  below = λ g o n x y l. cs g o n x y ∙ span_below n o l;
  above = λ g o n x y l. cs g o n x y ∙ span_high n o l;
}
  where
    cs : 0x40 ≤ k → (o n : ℕ) → o ≡ offset_after before k → n ≡ (kind_of k).size → s.carriers ≡ span o n
    cs g o n x y =
        by_offset d before k _ s (placed-after d before k after L last ok M s N e h)
        (unfloated d before k (structure k g).no_float)
        ∙ rw (x, y) (ap (span (offset_after before k)) (unpromoted_width (kind_of k) (structure k g).unpromoted))
