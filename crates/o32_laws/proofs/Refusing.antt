-- Refusals 1 to 5 exactly on their conditions, by the kinds before the place, on every device.
-- Assumes nothing.
use mathlib.Core.Path.{◌≡◌, refl, sym, ap, ◌∙◌, subst}
use mathlib.Core.Logic.{◌⊎◌, ◌↔◌, inl, inr}
use mathlib.Core.List.{List, [], ◌∷◌, ◌++◌}
use mathlib.Core.Bool.{Bool, true, false, cond, not, ◌&&◌, ◌||◌}
use Prim.Native.Nat.{ℕ, suc, ◌+◌, ◌-◌, ◌≤◌, ◌<◌}
use native.Mathlib.Omega.{arith}
use lib.ListN.{length, get_or, take, drop, take-append-drop}
use lib.Seq.{drop-cons}
use lib.Dec.{eqb, leb, ltb}
use borrow.Author.Tests.{eqb-true, eqb-false, ltb-true, ltb-false, leb-true, leb-false, le-leb, ne_eqb}
use Rattle.device.specs.declared.Device.{Device}
use Rattle.carried.specs.Image.{Placed, length_of_list}
use Rattle.carried.specs.Convention.{Step, refuse, next, Scan, stopped, complete, body_length, limited, taken, scan}
use Rattle.carried.specs.Carried.{kinds}
use Rattle.carried.proofs.Walks.{Walk, end, one, walk_of, walk-kinds, walk_by_kinds, walk_fits, WalkTo, walk_to}
use Rattle.carried.proofs.Wholeness.{Whole, scan_whole, whole_scan}
use Rattle.carried.proofs.Refusals.{StopsAt, scan_stops}
use Rattle.kinds.specs.declared.Class.TheVariants.{Unknown, Marker, Pointer}
use Rattle.kinds.specs.declared.Kind.{Kind}
use Rattle.o32.specs.declared.State.{State}
use Rattle.o32.specs.declared.Placement.{Placement}
use Rattle.kinds.specs.Kinds.{kind_of, is, class_number}
use Rattle.o32_offsets.specs.Offsets.{lay_one, lay}
use Rattle.o32_offsets.proofs.Laying.{end_joined}
use Rattle.rules.specs.Rules as R
use Rattle.o32.specs.O32.{advance, placement, start, O32}
use Rattle.rules.specs.Rules.{argument}
use Rattle.o32_laws.specs.Carrying.{KindIn, list_bytes}
use Rattle.o32_laws.specs.Refusing.{count_of, arguments_in, argument_after, Misplaced, Condition, unknown, misplaced, full, cut, beyond, Records, Accepted, RefusedAt}
use Rattle.o32_laws.proofs.Laws.{O32-laws}
use Rattle.o32_laws.proofs.Steps.{Stepped, step-described}
use Rattle.o32_laws.proofs.Carrying.{reach_end}
use Rattle.o32_laws.proofs.Numbering.{reach-count, number_after, walk-reach}
use Rattle.o32_laws.proofs.Bounds.{marker_rightly, not_full, step_grows}
use Rattle.words.proofs.Impossible.{impossible}

-- the refusals by record are 1 to 5
pub by_record : {bodies : Bool} {ks : List ℕ} {k left r : ℕ} → Condition bodies ks k left r → (1 ≤ r) × (r ≤ 5)
by_record (unknown e x) = (omega arith, omega arith)
by_record (misplaced e x) = (omega arith, omega arith)
by_record (full e x y) = (omega arith, omega arith)
by_record (cut e x y) = (omega arith, omega arith)
by_record (beyond e x y) = (omega arith, omega arith)

-- ---- what the state after accepted kinds has of them

-- a return pointer that is not misplaced is first
first_pointer : (t a p z : Bool) → (t && a) || (p && not z) ≡ false → p ≡ true → z ≡ true
first_pointer true true p z e f = cc
first_pointer true false true true e f = refl
first_pointer true false true false e f = cc
first_pointer true false false z e f = cc
first_pointer false a true true e f = refl
first_pointer false a true false e f = cc
first_pointer false a false z e f = cc

no_pointer : (k : Kind) → is Marker k ≡ true → is Pointer k ≡ false
no_pointer k e = rw (eqb-true (class_number k.class) 1 e)

or-false : (b : Bool) → b || false ≡ b
or-false true = refl
or-false false = refl

-- a flag, as a count
abbrev bit : Bool → ℕ
bit t = cond t 1 0

module _ (d : Device) where
  record Counted (st : State) (k : Kind) (st' : State) : Type 0 where
    markers : bit st'.prefix.marked ≡ bit st.prefix.marked + bit (is Marker k)
    pointers : bit st'.prefix.pointer ≡ bit st.prefix.pointer + bit (is Pointer k)
    few : bit st'.prefix.pointer ≤ st'.prefix.count

  counted : (st : State) (k : Kind) {j : ℕ} {p : Placement} {st' : State} → Stepped d st k j p st' → bit st.prefix.pointer ≤ st.prefix.count → Counted st k st'
  counted st k s h = rw s.on (go (is Marker k) (is Pointer k) refl refl)
    where
      unpointed : (t : Bool) → bit t ≤ 0 → t ≡ false
      unpointed true h = absurd (omega arith)
      unpointed false h = refl

      go : (t u : Bool) → is Marker k ≡ t → is Pointer k ≡ u → Counted st k (advance st k)
      go true u e f =
          let m : st.prefix.marked ≡ false = (marker_rightly (is Marker k) st.prefix.marked _ _ s.rightly e).0 in
          record { markers = rw (e, m) refl; pointers = rw (e, no_pointer k e) (omega arith); few = rw e h }
      go false true e f =
          let z : st.prefix.count ≡ 0 = eqb-true st.prefix.count 0 (first_pointer (is Marker k) _ (is Pointer k) (eqb st.prefix.count 0) s.rightly f) in
          let n : st.prefix.pointer ≡ false = unpointed st.prefix.pointer (omega arith) in
          record { markers = rw e (omega arith); pointers = rw (e, f, n) refl; few = rw (e, f, n) (omega arith) }
      go false false e f = record { markers = rw e (omega arith); pointers = rw (e, f, or-false st.prefix.pointer) (omega arith); few = rw (e, f, or-false st.prefix.pointer) (omega arith) }

  record After (st : State) (ks : List ℕ) (last : State) : Type 0 where
    markers : bit last.prefix.marked ≡ bit st.prefix.marked + count_of Marker ks
    pointers : bit last.prefix.pointer ≡ bit st.prefix.pointer + count_of Pointer ks
    few : st.prefix.count ≤ 32 → last.prefix.count ≤ 32

  state_after : {st last : State} {ks : List ℕ} {L : List Placed} → Walk (O32 d) (O32-laws d) st ks L last → bit st.prefix.pointer ≤ st.prefix.count → After st ks last
  state_after end h = record { markers = omega arith; pointers = omega arith; few = λ g. g }
  state_after (one {st = st} {st' = st'} {k = k} {j = j} {p = p} {ks = ks} e f w) h =
      let c : Counted st (kind_of k) st' = counted st (kind_of k) (step-described d st k j p st' e) h in
      let r = state_after w c.few in
      record {
        markers = omega (arith, c.markers, r.markers);
        pointers = omega (arith, c.pointers, r.pointers);
        few = λ g. r.few ((step_grows d st k e).few g);
      }

-- ---- the conditions at a kind after accepted ones

pointers_le : (ks : List ℕ) → count_of Pointer ks ≤ arguments_in ks
pointers_le [] = omega arith
pointers_le (k ∷ ks) = go (pointers_le ks) (is Marker (kind_of k)) (is Pointer (kind_of k)) refl refl
  where
    go : count_of Pointer ks ≤ arguments_in ks → (t u : Bool) → is Marker (kind_of k) ≡ t → is Pointer (kind_of k) ≡ u
        → bit (is Pointer (kind_of k)) + count_of Pointer ks ≤ cond (is Marker (kind_of k)) 0 1 + arguments_in ks
    go h true u e f = rw (e, no_pointer (kind_of k) e) (omega arith)
    go h false true e f = rw (e, f) (omega arith)
    go h false false e f = rw (e, f) (omega arith)

is_set : (t : Bool) → 1 ≤ bit t → t ≡ true
is_set true h = refl
is_set false h = absurd (omega arith)

clash : {A : Type 0} → false ≡ true → A
clash e = impossible (cc)

-- refusal 2's test, taken apart: it is this, or fails
abbrev Apart : Bool → Bool → Bool → Bool → Bool → Type 0
Apart a b c p z = ((a ≡ true) × ((b ≡ true) ⊎ (c ≡ true))) ⊎ ((p ≡ true) × (z ≡ false))

test_apart : (a b c p z : Bool) → (a && (b || c)) || (p && not z) ≡ true → Apart a b c p z
test_apart true true c p z e = inl (refl, inl refl)
test_apart true false true p z e = inl (refl, inr refl)
test_apart true false false true true e = clash e
test_apart true false false true false e = inr (refl, refl)
test_apart true false false false z e = clash e
test_apart false b c true true e = clash e
test_apart false b c true false e = inr (refl, refl)
test_apart false b c false z e = clash e

apart_test : (a b c p z : Bool) → Apart a b c p z → (a && (b || c)) || (p && not z) ≡ true
apart_test true true c p z h = refl
apart_test true false true p z h = refl
apart_test true false false p z (inl h) = elim h.1 [ inl x ↦ clash x | inr x ↦ clash x ]
apart_test true false false p z (inr h) = rw (h.0, h.1) refl
apart_test false b c p z (inl h) = clash h.0
apart_test false b c p z (inr h) = rw (h.0, h.1) refl

-- ---- what the step and the limits answer at a kind after accepted ones

module _ (d : Device) {ks : List ℕ} {L : List Placed} {last : State} (w : Walk (O32 d) (O32-laws d) start ks L last) where
  count-is : last.prefix.count ≡ arguments_in ks
  count-is = ap (λ (s : State). s.prefix.count) (walk-reach d w) ∙ reach-count start ks ∙ omega arith

  pub end_is : last.end ≡ (lay 0 ks).end
  end_is = ap (λ (s : State). s.end) (walk-reach d w) ∙ reach_end ks start

  counts_after : After d start ks last
  counts_after = state_after d w (omega arith)

  module _ (k : ℕ) where
    number_is : argument last.prefix (kind_of k) ≡ argument_after ks k
    number_is = ap (λ (s : State). argument s.prefix (kind_of k)) (walk-reach d w) ∙ number_after ks k

    abbrev tested : Type 0
    tested = Apart (is Marker (kind_of k)) last.prefix.marked (leb last.prefix.count (bit last.prefix.pointer)) (is Pointer (kind_of k)) (eqb last.prefix.count 0)

    test_misplaced : tested → Misplaced ks k
    test_misplaced (inl h) = inl (
      h.0,
      elim h.1 [
        | inl x ↦ inl (omega (arith, counts_after.markers, ap bit x))
        | inr x ↦ inr (omega (arith, counts_after.pointers, count-is, pointers_le ks, leb-true last.prefix.count (bit last.prefix.pointer) x))
      ],
    )
    test_misplaced (inr h) = inr (h.0, omega (arith, count-is, eqb-false last.prefix.count 0 h.1))

    misplaced_test : Misplaced ks k → tested
    misplaced_test (inl h) = inl (
      h.0,
      elim h.1 [
        | inl x ↦ inl (is_set last.prefix.marked (omega (arith, counts_after.markers)))
        | inr x ↦ inr (le-leb last.prefix.count (bit last.prefix.pointer) (omega (arith, counts_after.pointers, count-is)))
      ],
    )
    misplaced_test (inr h) = inr (h.0, ne_eqb last.prefix.count 0 (λ e. omega (arith, count-is, h.1)))

    module _ (bodies : Bool) (left : ℕ) where
      -- no condition with a number below r holds
      abbrev Passed : ℕ → Type 0
      Passed r = (q : ℕ) → q < r → Condition bodies ks k left q → ⊥

      -- where the tests with a number below r fail
      untrue : (b : Bool) → b ≡ false → b ≡ true → ⊥
      untrue b e f = clash (sym e ∙ f)

      advance_end : (advance last (kind_of k)).end ≡ (lay 0 (ks ++ (k ∷ []))).end
      advance_end = ap (λ (e : ℕ). (lay_one e (kind_of k)).end) end_is ∙ sym (end_joined 0 ks (k ∷ []))

      tests_passed : (r : ℕ) → (1 < r → is Unknown (kind_of k) ≡ false) → (2 < r → R.misplaced last.prefix (kind_of k) ≡ false) → (3 < r → R.full last.prefix (kind_of k) ≡ false)
          → (4 < r → ltb left (body_length bodies (kind_of k).size) ≡ false) → (5 < r → leb (advance last (kind_of k)).end 1024 ≡ true) → Passed r
      tests_passed r a b c e f q h (unknown x y) = untrue (is Unknown (kind_of k)) (a (omega arith)) y
      tests_passed r a b c e f q h (misplaced x y) =
          untrue (R.misplaced last.prefix (kind_of k)) (b (omega arith)) (apart_test (is Marker (kind_of k)) last.prefix.marked _ (is Pointer (kind_of k)) _ (misplaced_test y))
      tests_passed r a b c e f q h (full x y z) =
          omega (arith, count-is, leb-false 32 last.prefix.count (not_full (is Marker (kind_of k)) (leb 32 last.prefix.count) (c (omega arith)) y))
      tests_passed r a b c e f q h (cut x y z) = let i : ltb left (kind_of k).size ≡ false = rw y at (e (omega arith)) in omega (arith, ltb-false left (kind_of k).size i)
      tests_passed r a b c e f q h (beyond x y z) = omega (arith, leb-true (advance last (kind_of k)).end 1024 (f (omega arith)), advance_end)

      abbrev Judged : Step Placement State → Type 0
      Judged (refuse r j) = Condition bodies ks k left r × Passed r × (j ≡ argument_after ks k)
      Judged (next j p st) = Passed 6

      is-full : (t : Bool) → is Marker (kind_of k) ≡ t → not t && leb 32 last.prefix.count ≡ true → Condition bodies ks k left 3
      is-full true e f = clash f
      is-full false e f = full refl e (omega (arith, count-is, counts_after.few (omega arith), leb-true 32 last.prefix.count f))

      is_cut : (t : Bool) → bodies ≡ t → ltb left (body_length t (kind_of k).size) ≡ true → Condition bodies ks k left 4
      is_cut true e f = cut refl e (ltb-true left (kind_of k).size f)
      is_cut false e f = absurd (omega (arith, ltb-true left 0 f))

      within : last.end ≤ 1024
      within = leb-true last.end 1024 (walk_fits (O32 d) (O32-laws d) w refl)

      is_beyond : (t : Bool) → is Marker (kind_of k) ≡ t → leb (advance last (kind_of k)).end 1024 ≡ false → Condition bodies ks k left 5
      is_beyond true e f =
          let z : (advance last (kind_of k)).end ≡ last.end = rw e refl in
          absurd (omega (arith, within, leb-false (advance last (kind_of k)).end 1024 f))
      is_beyond false e f = beyond refl e (omega (arith, advance_end, leb-false (advance last (kind_of k)).end 1024 f))

      judged : Judged (taken (O32 d) bodies left last k)
      judged = go (is Unknown (kind_of k)) (R.misplaced last.prefix (kind_of k)) (R.full last.prefix (kind_of k)) refl refl refl
        where
          limits : (t u : Bool) → is Unknown (kind_of k) ≡ false → R.misplaced last.prefix (kind_of k) ≡ false → R.full last.prefix (kind_of k) ≡ false
              → ltb left (body_length bodies (kind_of k).size) ≡ t → leb (advance last (kind_of k)).end 1024 ≡ u
              → Judged (cond t (refuse 4 (argument last.prefix (kind_of k))) (cond u (next (argument last.prefix (kind_of k)) (placement d last (kind_of k)) (advance last (kind_of k))) (refuse 5 (argument last.prefix (kind_of k)))))
          limits true u x y z e f = (is_cut bodies refl e, tests_passed 4 (λ h. x) (λ h. y) (λ h. z) (λ h. absurd (omega arith)) (λ h. absurd (omega arith)), number_is)
          limits false false x y z e f = (is_beyond (is Marker (kind_of k)) refl f, tests_passed 5 (λ h. x) (λ h. y) (λ h. z) (λ h. e) (λ h. absurd (omega arith)), number_is)
          limits false true x y z e f = tests_passed 6 (λ h. x) (λ h. y) (λ h. z) (λ h. e) (λ h. f)

          go : (u m f : Bool) → is Unknown (kind_of k) ≡ u → R.misplaced last.prefix (kind_of k) ≡ m → R.full last.prefix (kind_of k) ≡ f
              → Judged (limited (O32 d) bodies left k (cond u (refuse 1 (argument last.prefix (kind_of k))) (cond m (refuse 2 (argument last.prefix (kind_of k))) (cond f (refuse 3 (argument last.prefix (kind_of k)))
              (next (argument last.prefix (kind_of k)) (placement d last (kind_of k)) (advance last (kind_of k)))))))
          go true m f x y z =
              (unknown refl x, tests_passed 1 (λ h. absurd (omega arith)) (λ h. absurd (omega arith)) (λ h. absurd (omega arith)) (λ h. absurd (omega arith)) (λ h. absurd (omega arith)), number_is)
          go false true f x y z = (
            misplaced refl (test_misplaced (test_apart (is Marker (kind_of k)) last.prefix.marked _ (is Pointer (kind_of k)) _ y)),
            tests_passed 2 (λ h. x) (λ h. absurd (omega arith)) (λ h. absurd (omega arith)) (λ h. absurd (omega arith)) (λ h. absurd (omega arith)),
            number_is,
          )
          go false false true x y z =
              (is-full (is Marker (kind_of k)) refl z, tests_passed 3 (λ h. x) (λ h. y) (λ h. absurd (omega arith)) (λ h. absurd (omega arith)) (λ h. absurd (omega arith)), number_is)
          go false false false x y z = limits (ltb left (body_length bodies (kind_of k).size)) (leb (advance last (kind_of k)).end 1024) x y z refl refl

      -- so it is refused r exactly when the condition of r is the first that holds
      refused_first : (r j : ℕ) → (taken (O32 d) bodies left last k ≡ refuse r j)
          ↔ (Condition bodies ks k left r × ((q : ℕ) → q < r → Condition bodies ks k left q → ⊥) × (j ≡ argument_after ks k))
      refused_first r j = (
        (λ e. subst Judged e judged),
        λ h. go (taken (O32 d) bodies left last k) judged h.0 h.1 h.2,
      )
        where
          go : (s : Step Placement State) → Judged s → Condition bodies ks k left r → ((q : ℕ) → q < r → Condition bodies ks k left q → ⊥) → j ≡ argument_after ks k → s ≡ refuse r j
          go (refuse r' j') v h f n = orders (ltb r r') (ltb r' r) refl refl
            where
              orders : (t u : Bool) → ltb r r' ≡ t → ltb r' r ≡ u → ◌≡◌ {A = Step Placement State} (refuse r' j') (refuse r j)
              orders true u x y = absurd (v.1 r (ltb-true r r' x) h)
              orders false true x y = absurd (f r' (ltb-true r' r y) v.0)
              orders false false x y =
                  let e : r' ≡ r = omega (arith, ltb-false r r' x, ltb-false r' r y) in
                  let g : j' ≡ j = v.2 ∙ sym n in
                  rw (e, g) refl
          go (next j' p st) v h f n = absurd (v r (omega (arith, by_record h)) h)

-- ---- a list or a signature that is accepted

-- each record has the body of its kind
abbrev pub Bodied : List Placed → Type 0
Bodied [] = Unit {0}
Bodied (s ∷ L) = (s.size ≡ (kind_of s.kind).size) × Bodied L

pub bodied_left : (M N : List Placed) → Bodied (M ++ N) → Bodied M
bodied_left [] N h = tt
bodied_left (s ∷ M) N h = (h.0, bodied_left M N h.1)

pub bodied_list : (L : List Placed) → Bodied L → length_of_list L ≡ list_bytes (kinds L)
bodied_list [] h = refl
bodied_list (s ∷ L) h = omega (arith, h.0, bodied_list L h.1)

-- records are whole, by their kinds
whole_records : (bodies : Bool) (L : List Placed) (l : List ℕ) → Bodied L → Whole bodies L l → Records bodies (kinds L) l
whole_records bodies [] l h w = w
whole_records bodies (s ∷ L) l h w = (w.0, w.1, w.2, w.3 ∙ ap (body_length bodies) h.0, whole_records bodies L w.1 h.1 w.4)

records_whole : (bodies : Bool) (L : List Placed) (l : List ℕ) → Bodied L → Records bodies (kinds L) l → Whole bodies L l
records_whole bodies [] l h w = w
records_whole bodies (s ∷ L) l h w = (w.0, w.1, w.2, w.3 ∙ ap (body_length bodies) (sym h.0), records_whole bodies L w.1 h.1 w.4)

-- in a signature the bytes left do not matter
any_left : {before : List ℕ} {k left r : ℕ} → Condition false before k left r → Condition false before k 0 r
any_left (unknown e x) = unknown e x
any_left (misplaced e x) = misplaced e x
any_left (full e x y) = full e x y
any_left (cut e x y) = clash x
any_left (beyond e x y) = beyond e x y

module _ (d : Device) where
  pub walk_bodied : {st last : State} {ks : List ℕ} {L : List Placed} → Walk (O32 d) (O32-laws d) st ks L last → Bodied L
  walk_bodied end = tt
  walk_bodied (one {st = st} {st' = st'} {k = k} {j = j} {p = p} e f w) = (ap (λ (q : Placement). q.kind.size) (step-described d st k j p st' e).at, walk_bodied w)

  -- none of its kinds is refused
  none_refused : {ks : List ℕ} {L : List Placed} {last : State} → Walk (O32 d) (O32-laws d) start ks L last → (a : KindIn ks) (r : ℕ) → Condition false a.before a.kind 0 r → ⊥
  none_refused {ks} {L} {last} w a r h =
      let v : WalkTo (O32 d) (O32-laws d) start a.before a.kind =
      walk_to (O32 d) (O32-laws d) a.before a.kind a.after (subst (λ (x : List ℕ). Walk (O32 d) (O32-laws d) start x L last) (sym a.here) w) in
      let t : taken (O32 d) false 0 v.reached a.kind ≡ next v.number v.place v.onward = rw (v.stepped, v.fitting) in
      subst (Judged d v.before a.kind false 0) t (judged d v.before a.kind false 0) r (omega (arith, by_record h)) h

  -- what is scanned is accepted
  pub scanned_accepted : (bodies : Bool) (l : List ℕ) (L : List Placed) (last : State) → scan (O32 d) bodies l ≡ complete L last → Accepted bodies l (kinds L)
  scanned_accepted bodies l L last e =
      let w : Walk (O32 d) (O32-laws d) start (kinds L) L last = walk_by_kinds (O32 d) (O32-laws d) bodies l L last e in
      record {
        records = whole_records bodies L l (walk_bodied w) (scan_whole (O32 d) (O32-laws d) bodies l L last e);
        none_refused = none_refused w;
      }

  -- and what is accepted is scanned
  pub record ScannedAs (bodies : Bool) (l ks : List ℕ) : Type 0 where
    pub placed : List Placed
    pub last : State
    pub scanned : scan (O32 d) bodies l ≡ complete placed last
    pub kinds_are : kinds placed ≡ ks

  signature_scanned : (ks : List ℕ) → ((a : KindIn ks) (r : ℕ) → Condition false a.before a.kind 0 r → ⊥) → (q : Scan State) → scan (O32 d) false ks ≡ q → ScannedAs false ks ks
  signature_scanned ks h (complete L last) e = record { placed = L; last = last; scanned = e; kinds_are = walk-kinds (O32 d) (O32-laws d) (walk_of (O32 d) (O32-laws d) ks start L last 0 e) }
  signature_scanned ks h (stopped r place j) e =
      let s : StopsAt (O32 d) false ks r place j = (scan_stops (O32 d) false ks r place j).0 e in
      let w : Walk (O32 d) (O32-laws d) start (take place ks) s.before s.last = walk_of (O32 d) (O32-laws d) (take place ks) start s.before s.last 0 s.accepted in
      let v = (refused_first d w (get_or ks place 0) false (length ks - (place + 1)) r j).0 s.refusal in
      let a : KindIn ks = record {
        before = take place ks;
        kind = get_or ks place 0;
        after = drop (suc place) ks;
        here = ap (λ (x : List ℕ). take place ks ++ x) (sym (drop-cons ks place 0 s.inside)) ∙ take-append-drop place ks;
      } in
      absurd (h a r (any_left v.0))

  pub accepted_scanned : (bodies : Bool) (l ks : List ℕ) → Accepted bodies l ks → ScannedAs bodies l ks
  accepted_scanned bodies l ks a =
      let s : ScannedAs false ks ks = signature_scanned ks a.none_refused (scan (O32 d) false ks) refl in
      let w : Walk (O32 d) (O32-laws d) start ks s.placed s.last = walk_of (O32 d) (O32-laws d) ks start s.placed s.last 0 s.scanned in
      let v : Whole bodies s.placed l = records_whole bodies s.placed l (walk_bodied w) (subst (λ (x : List ℕ). Records bodies x l) (sym s.kinds_are) a.records) in
      record { placed = s.placed; last = s.last; scanned = whole_scan (O32 d) (O32-laws d) bodies w l 0 v; kinds_are = s.kinds_are }

-- ---- and one that is refused

module _ (d : Device) (bodies : Bool) (l : List ℕ) where
  -- Refusals 1 to 5 are given exactly on their conditions,
  pub refused_exactly : (r place j : ℕ) → (scan (O32 d) bodies l ≡ stopped r place j) ↔ RefusedAt bodies l r place j
  refused_exactly r place j = (
    (λ e.
        let s : StopsAt (O32 d) bodies l r place j = (scan_stops (O32 d) bodies l r place j).0 e in
        let w : Walk (O32 d) (O32-laws d) start (kinds s.before) s.before s.last = walk_by_kinds (O32 d) (O32-laws d) bodies (take place l) s.before s.last s.accepted in
        let v = (refused_first d w (get_or l place 0) bodies (length l - (place + 1)) r j).0 s.refusal in
        record {
          inside = s.inside;
          before = kinds s.before;
          accepted = scanned_accepted d bodies (take place l) s.before s.last s.accepted;
          holds = v.0;
          first = v.1;
          number = v.2;
        }),
    λ v.
        let a : ScannedAs d bodies (take place l) v.before = accepted_scanned d bodies (take place l) v.before v.accepted in
        let w : Walk (O32 d) (O32-laws d) start v.before a.placed a.last =
        subst (λ (ks : List ℕ). Walk (O32 d) (O32-laws d) start ks a.placed a.last) a.kinds_are
        (walk_by_kinds (O32 d) (O32-laws d) bodies (take place l) a.placed a.last a.scanned) in
        (scan_stops (O32 d) bodies l r place j).1 (record {
          inside = v.inside;
          before = a.placed;
          last = a.last;
          accepted = a.scanned;
          refusal = (refused_first d w (get_or l place 0) bodies (length l - (place + 1)) r j).1 (v.holds, v.first, v.number);
        }),
  )

  -- and there is none exactly when all records are accepted.
  pub accepted_exactly : ((ks : List ℕ) × Accepted bodies l ks) ↔ ((r place j : ℕ) → RefusedAt bodies l r place j → ⊥)
  accepted_exactly = (there, λ h. back (scan (O32 d) bodies l) refl h)
    where
      there : ((ks : List ℕ) × Accepted bodies l ks) → (r place j : ℕ) → RefusedAt bodies l r place j → ⊥
      there a r place j v =
          let e : scan (O32 d) bodies l ≡ stopped r place j = (refused_exactly r place j).1 v in
          impossible (cc (accepted_scanned d bodies l a.0 a.1).scanned)

      back : (q : Scan State) → scan (O32 d) bodies l ≡ q → ((r place j : ℕ) → RefusedAt bodies l r place j → ⊥) → (ks : List ℕ) × Accepted bodies l ks
      back (stopped r place j) e h = absurd (h r place j ((refused_exactly r place j).0 e))
      back (complete L last) e h = (kinds L, scanned_accepted d bodies l L last e)
