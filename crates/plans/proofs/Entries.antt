-- Laws of a plan's entries: of joined kinds, how many there are, and that no two plans have the same numbers.
-- Assumes nothing.
use mathlib.Core.Path.{◌≡◌, refl, sym, ap, ◌∙◌}
use mathlib.Core.List.{List, [], ◌∷◌, ◌++◌, map, append-nil, append_assoc}
use mathlib.Core.Bool.{Bool, true, false, cond}
use Prim.Native.Nat.{ℕ, suc, ◌+◌, ◌-◌, ◌*◌, ◌≤◌, ◌<◌}
use native.Mathlib.Omega.{arith}
use lib.ListN.{length, get_or, drop, set, replicate, length-append, length-replicate}
use lib.Seq.{set_at}
use Rattle.device.specs.declared.Device.{Device}
use Rattle.kinds.specs.declared.Class.TheVariants.{Marker}
use Rattle.kinds.specs.declared.Kind.{Kind}
use Rattle.kinds.specs.Kinds.{kind_of, is}
use Rattle.carried.specs.Image.{Placed}
use Rattle.carried.specs.Convention.{complete, scan}
use Rattle.carried.specs.Carried.{kinds}
use Rattle.carried.proofs.Walks.{Walk, end, one, walk_by_kinds}
use Rattle.o32_offsets.specs.Offsets.{offset, lay_one, lay}
use Rattle.o32_offsets.proofs.Laying.{end_joined}
use Rattle.o32.specs.declared.State.{State}
use Rattle.o32.specs.declared.Placement.{Placement}
use Rattle.o32.specs.O32.{O32, advance, start}
use Rattle.o32_laws.specs.Refusing.{arguments_in}
use Rattle.o32_laws.proofs.Laws.{O32-laws}
use Rattle.o32_laws.proofs.Steps.{Stepped, step-described}
use Rattle.o32_laws.proofs.Bounds.{marker_rightly, step_grows}
use Rattle.o32_laws.proofs.Numbering.{reach-count, walk-reach}
use Rattle.plans.specs.declared.Entry.{Entry}
use Rattle.plans.specs.declared.Plan.{Plan}
use Rattle.plans.specs.Plans.{entry_after, entries_after, no_entry, padded, plan_of, entry_numbers, numbers}

-- ---- the entries of kinds

pub entries_append : (d : Device) (before ks js : List ℕ) → entries_after d before (ks ++ js) ≡ entries_after d before ks ++ entries_after d (before ++ ks) js
entries_append d before [] js = rw append-nil
entries_append d before (k ∷ ks) js = go (is Marker (kind_of k)) refl (rw (append_assoc before (k ∷ []) ks) at (entries_append d (before ++ (k ∷ [])) ks js))
  where
    go : (t : Bool) → is Marker (kind_of k) ≡ t
        → entries_after d (before ++ (k ∷ [])) (ks ++ js) ≡ entries_after d (before ++ (k ∷ [])) ks ++ entries_after d (before ++ (k ∷ ks)) js
        → entries_after d before (k ∷ (ks ++ js)) ≡ entries_after d before (k ∷ ks) ++ entries_after d (before ++ (k ∷ ks)) js
    go true e h = rw (e, h)
    go false e h = rw (e, h)

-- one more kind is one more entry, or a marker
module _ (d : Device) (ks : List ℕ) (k : ℕ) where
  pub entries_argument : is Marker (kind_of k) ≡ false → entries_after d [] (ks ++ (k ∷ [])) ≡ entries_after d [] ks ++ (entry_after d ks k ∷ [])
  entries_argument e = entries_append d [] ks (k ∷ []) ∙ rw e

  pub entries_marker : is Marker (kind_of k) ≡ true → entries_after d [] (ks ++ (k ∷ [])) ≡ entries_after d [] ks
  entries_marker e = entries_append d [] ks (k ∷ []) ∙ rw e (append-nil (entries_after d [] ks))

pub entries_count : (d : Device) (before ks : List ℕ) → length (entries_after d before ks) ≡ arguments_in ks
entries_count d before [] = refl
entries_count d before (k ∷ ks) = go (is Marker (kind_of k)) refl (entries_count d (before ++ (k ∷ [])) ks)
  where
    go : (t : Bool) → is Marker (kind_of k) ≡ t → length (entries_after d (before ++ (k ∷ [])) ks) ≡ arguments_in ks → length (entries_after d before (k ∷ ks)) ≡ arguments_in (k ∷ ks)
    go true e h = rw e (omega arith)
    go false e h = rw e (omega arith)

-- their offsets are those that the kinds lay, from where those before end
pub entries_laid : (d : Device) (before ks : List ℕ) → map (λ (e : Entry). e.offset) (entries_after d before ks) ≡ (lay (lay 0 before).end ks).offsets
entries_laid d before [] = refl
entries_laid d before (k ∷ ks) = go (is Marker (kind_of k)) refl (entries_laid d (before ++ (k ∷ [])) ks ∙ ap (λ (n : ℕ). (lay n ks).offsets) (end_joined 0 before (k ∷ [])))
  where
    go : (t : Bool) → is Marker (kind_of k) ≡ t
        → map (λ (e : Entry). e.offset) (entries_after d (before ++ (k ∷ [])) ks) ≡ (lay (lay_one (lay 0 before).end (kind_of k)).end ks).offsets
        → map (λ (e : Entry). e.offset) (entries_after d before (k ∷ ks)) ≡ (lay (lay 0 before).end (k ∷ ks)).offsets
    go true e h = rw e (rw e at h)
    go false e h = rw e (ap (λ (x : List ℕ). offset (kind_of k) (lay 0 before).end ∷ x) (rw e at h))

-- ---- 32 of them

pub padded_long : (es : List Entry) → length es ≤ 32 → length (padded es) ≡ 32
padded_long es h = simp (length-append, length-replicate) (omega arith)

-- the entries filled in so far, and the next one put into the first that is still zero
pub padded-set : (es : List Entry) (e : Entry) → length es < 32 → set (padded es) (length es) e ≡ padded (es ++ (e ∷ []))
padded-set es e h =
    let n : 32 - length es ≡ suc (32 - length (es ++ (e ∷ []))) = omega (arith, length-append es (e ∷ [])) in
    rw n (set_at es no_entry (replicate (32 - length (es ++ (e ∷ []))) no_entry) e (length es) refl ∙ sym (append_assoc es (e ∷ []) _))

-- ---- of what is accepted

-- the arguments before a state, and the marker
abbrev counted : State → ℕ
counted st = st.prefix.count + cond st.prefix.marked 1 0

counted-most : (st : State) → counted st ≤ st.prefix.count + 1
counted-most st = go st.prefix.marked
  where
    go : (t : Bool) → st.prefix.count + cond t 1 0 ≤ st.prefix.count + 1
    go true = omega arith
    go false = omega arith

counted_on : {d : Device} {st st' : State} {k : Kind} {j : ℕ} {p : Placement} → Stepped d st k j p st' → counted st' ≡ counted st + 1
counted_on {st = st} {k = k} s = rw s.on (go (is Marker k) refl)
  where
    go : (t : Bool) → is Marker k ≡ t → counted (advance st k) ≡ counted st + 1
    go true e = rw (e, (marker_rightly (is Marker k) st.prefix.marked _ _ s.rightly e).0) (omega arith)
    go false e = rw e (omega arith)

module _ (d : Device) where
  walk_few : {st last : State} {ks : List ℕ} {L : List Placed} → Walk (O32 d) (O32-laws d) st ks L last → st.prefix.count ≤ 32 → last.prefix.count ≤ 32
  walk_few end h = h
  walk_few (one {st = st} {k = k} e f w) h = walk_few w ((step_grows d st k e).few h)

  walk-counted : {st last : State} {ks : List ℕ} {L : List Placed} → Walk (O32 d) (O32-laws d) st ks L last → counted last ≡ counted st + length ks
  walk-counted end = omega arith
  walk-counted (one {st = st} {st' = st'} {k = k} {j = j} {p = p} e f w) = omega (arith, walk-counted w, counted_on (step-described d st k j p st' e))

  -- so a list or signature that is accepted has at most 32 arguments, and one kind byte more
  module _ (bodies : Bool) (l : List ℕ) {L : List Placed} {last : State} (ok : scan (O32 d) bodies l ≡ complete L last) where
    walk : Walk (O32 d) (O32-laws d) start (kinds L) L last
    walk = walk_by_kinds (O32 d) (O32-laws d) bodies l L last ok

    pub entries_few : length (entries_after d [] (kinds L)) ≤ 32
    entries_few =
        let n : last.prefix.count ≡ 0 + arguments_in (kinds L) = ap (λ (s : State). s.prefix.count) (walk-reach d walk) ∙ reach-count start (kinds L) in
        omega (arith, entries_count d [] (kinds L), walk_few walk (omega arith))

    pub kinds_few : length (kinds L) ≤ 33
    kinds_few = omega (arith, walk-counted walk, counted-most last, walk_few walk (omega arith))

    pub entries_long : length (plan_of d (kinds L)).entries ≡ 32
    entries_long = padded_long (entries_after d [] (kinds L)) entries_few

-- ---- the numbers of a plan

pub entry_numbers_long : (es : List Entry) → length (entry_numbers es) ≡ 3 * length es
entry_numbers_long [] = refl
entry_numbers_long (e ∷ es) = omega (arith, entry_numbers_long es)

numbers-count : (p : Plan) → length (numbers p) ≡ 3 * length p.entries + 2
numbers-count p = rw (length-append, entry_numbers_long)

pub numbers_long : (p : Plan) → length p.entries ≡ 32 → length (numbers p) ≡ 98
numbers_long p h = omega (arith, numbers-count p)

-- number i of two lists of numbers that are equal
at : {xs ys : List ℕ} (i : ℕ) → xs ≡ ys → get_or xs i 0 ≡ get_or ys i 0
at i q = ap (λ (x : List ℕ). get_or x i 0) q

-- as many entries with the same numbers are the same
numbers_apart : (es fs : List Entry) (xs ys : List ℕ) → length es ≡ length fs → entry_numbers es ++ xs ≡ entry_numbers fs ++ ys → (es ≡ fs) × (xs ≡ ys)
numbers_apart [] [] xs ys h q = (refl, q)
numbers_apart [] (f ∷ fs) xs ys h q = absurd (omega arith)
numbers_apart (e ∷ es) [] xs ys h q = absurd (omega arith)
numbers_apart (e ∷ es) (f ∷ fs) xs ys h q =
    let r = numbers_apart es fs xs ys (omega arith) (ap (drop 3) q) in
    let same : e ≡ f = λ i. record { kind = at 0 q i; register = at 2 q i; offset = at 1 q i } in
    (cc, r.1)

-- so no two plans have the same numbers
pub numbers_injective : (a b : Plan) → numbers a ≡ numbers b → a ≡ b
numbers_injective a b e =
    let r = numbers_apart a.entries b.entries _ _ (omega (arith, ap length e, numbers-count a, numbers-count b)) e in
    λ i. record { entries = r.0 i; count = at 0 r.1 i; area = at 1 r.1 i }
