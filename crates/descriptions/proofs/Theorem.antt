-- What holds of the answers to descriptions: each refusal at its place, and the numbers of the tree that is spelled.
-- Assumes nothing.
use mathlib.Core.Path.{◌≡◌, refl, sym, ap, ap₂, ◌∙◌, subst}
use mathlib.Core.List.{List, []}
use mathlib.Core.Bool.{Bool, true, false}
use Prim.Native.Nat.{ℕ, ◌+◌, ◌≤◌, max}
use native.Mathlib.Omega.{arith}
use lib.Dec.{eqb}
use lib.ListN.{length}
use borrow.Author.Tests.{eqb-true, eqb-false}
use Rattle.words.specs.Words.{up}
use Rattle.kinds.specs.declared.Class.TheVariants as Class
use Rattle.kinds.specs.Kinds.{kind_of, is, class_number}
use Rattle.o32_offsets.specs.Offsets.{width, offset, ending}
use Rattle.descriptions.specs.Structures.{Structure}
use Rattle.descriptions.specs.Trees.{Members, structure, alignment, size, Laid, kind_for}
use Rattle.descriptions.specs.Spelling.{Spells}
use Rattle.descriptions.specs.Describing.{State, start, inside, counting, repeated, closed, levels, refused, answered, described}
use Rattle.descriptions.specs.Descriptions.{IsKind, HasKind, Accepted, Condition, unopened, no_member, no_type, no_count, left_over, too_deep, ends_beyond, closed_empty, Unfinished, no_bytes, member_next, count_next, type_next, Refuses, by_byte, missing, no_kind, Answers, RefusedNumbers, Describes, Determined}
use Rattle.descriptions.proofs.Trees.{alignment_natural}
use Rattle.descriptions.proofs.Leading.{whole_leads}
use Rattle.descriptions.proofs.Reading.{Begins, leads_begin}
use Rattle.descriptions.proofs.Courses.{stopped, finished, Course, stops, ends, course}
use Rattle.descriptions.proofs.Refusals.{inside_of, byte_condition, condition_answer, missing_answer}
use Rattle.descriptions.proofs.Spellings.{unambiguous}
use Rattle.descriptions.proofs.KindFor.{one_kind, Suited, suited_kind, kind_found, no_kind_for}
use Rattle.descriptions.proofs.Places.{place_bound}
use Rattle.descriptions.proofs.Cases.{largest_place}

-- ---- 16 to 19

condition_number : {before : List ℕ} {b r : ℕ} → Condition before b r → (16 ≤ r) × (r ≤ 19)
condition_number (unopened e f g) = omega arith
condition_number (no_member e d ms x f g h) = omega arith
condition_number (no_type e d n ms f g x h) = omega arith
condition_number (no_count e d ms x f) = omega arith
condition_number (left_over e ms s l) = omega arith
condition_number (too_deep e d n ms bytes x c f g) = omega arith
condition_number (ends_beyond e d n ms begun bytes x c m u p k s h) = omega arith
condition_number (closed_empty e d x f) = omega arith

refuses_number : {bytes : List ℕ} {r place : ℕ} → Refuses bytes r place → (16 ≤ r) × (r ≤ 19)
refuses_number (by_byte before b after f c h) = condition_number c
refuses_number (missing e u h) = omega arith
refuses_number (no_kind e ms s l n h) = omega arith

-- ---- a whole description

module _ {bytes : List ℕ} {ms : Members} (s : Spells bytes ms) (l : Laid ms) where
  abbrev kind : ℕ
  kind = kind_for (size (structure ms)) (alignment (structure ms))

  whole-answer : described bytes ≡ answered (size (structure ms)) (alignment (structure ms)) kind
  whole-answer = finished (whole_leads s l)

  kind_there : eqb kind 0 ≡ false → Suited (size (structure ms)) (alignment (structure ms)) kind
  kind_there e = kind_found (size (structure ms)) (alignment (structure ms)) (eqb-false kind 0 e)

  kind_missing : eqb kind 0 ≡ true → HasKind ms → ⊥
  kind_missing e h = no_kind_for (alignment_natural (structure ms)) (eqb-true kind 0 e) h.0 h.1

  answer_kindless : (HasKind ms → ⊥) → described bytes ≡ refused 19 0
  answer_kindless n = go_on (eqb kind 0) refl
    where
      go_on : (t : Bool) → eqb kind 0 ≡ t → described bytes ≡ refused 19 0
      go_on true e = whole-answer ∙ rw e
      go_on false e = absurd (n (kind, suited_kind (kind_there e)))

-- The two things that come of bytes: a refusal, with what led to it, or the numbers of a structure.
record Acceptance (bytes : List ℕ) : Type 0 where
  members : Members
  spelled : Spells bytes members
  laid : Laid members
  suited : Suited (size (structure members)) (alignment (structure members)) (kind spelled laid)
  answer : described bytes ≡ record { refusal = 0; place = 0; size = size (structure members); alignment = alignment (structure members); kind = kind spelled laid }

data Outcome (bytes : List ℕ) : Type 0 where
  refusal : (r place : ℕ) → described bytes ≡ refused r place → Refuses bytes r place → Outcome bytes
  acceptance : Acceptance bytes → Outcome bytes

outcome : (bytes : List ℕ) → Outcome bytes
outcome bytes = by_course (course start bytes)
  where
    by_kind : {ms : Members} (s : Spells bytes ms) (l : Laid ms) (t : Bool) → eqb (kind s l) 0 ≡ t → Outcome bytes
    by_kind {ms} s l true e = refusal 19 0 (answer_kindless s l (kind_missing s l e)) (no_kind refl ms s l (kind_missing s l e) refl)
    by_kind {ms} s l false e = acceptance (record { members = ms; spelled = s; laid = l; suited = kind_there s l e; answer = whole-answer s l ∙ rw e })

    unfinished : Unfinished bytes → Outcome bytes
    unfinished u = refusal 16 (length bytes) (missing_answer bytes u) (missing refl u refl)

    at_end : (end : State) → Begins bytes end → Outcome bytes
    at_end start x = unfinished (no_bytes x)
    at_end (inside o out) x = unfinished (member_next (levels out) x.members (inside_of x))
    at_end (counting o out) x = unfinished (count_next (levels out) x.members (inside_of x))
    at_end (repeated n o out) x = unfinished (type_next (levels out) n x.2.members x.0 x.1 (inside_of x.2))
    at_end (closed z a) x = by_kind x.spelled x.laid (eqb (kind x.spelled x.laid) 0) refl

    by_course : Course start bytes → Outcome bytes
    by_course (stops before b after end r f h g) =
        refusal r (length before) (ap described f ∙ stopped h b r after g) (by_byte before b after f (byte_condition b r end before (leads_begin h [] refl) g) refl)
    by_course (ends end h) = at_end end (leads_begin h [] refl)

-- ---- the theorem

module _ (bytes : List ℕ) where
  refused_by : {r place : ℕ} → Refuses bytes r place → described bytes ≡ refused r place
  refused_by {r} (by_byte before b after f c h) = ap described f ∙ condition_answer before b after c ∙ ap (refused r) (sym h)
  refused_by (missing e u h) = missing_answer bytes u ∙ ap₂ refused (sym e) (sym h)
  refused_by (no_kind e ms s l n h) = answer_kindless s l n ∙ ap₂ refused (sym e) (sym h)

  refuses_it : (r place : ℕ) → 1 ≤ r → ((described bytes).refusal ≡ r) × ((described bytes).place ≡ place) → Refuses bytes r place
  refuses_it r place h x = go_on (outcome bytes)
    where
      go_on : Outcome bytes → Refuses bytes r place
      go_on (refusal q p e y) =
          subst (Refuses bytes r) (sym (ap (λ (d : Structure). d.place) e) ∙ x.1) (subst (λ (i : ℕ). Refuses bytes i p) (sym (ap (λ (d : Structure). d.refusal) e) ∙ x.0) y)
      go_on (acceptance t) = absurd (omega (arith, ap (λ (d : Structure). d.refusal) t.answer, x.0))

  no_numbers : ((described bytes).refusal ≡ 0 → ⊥) → RefusedNumbers (described bytes)
  no_numbers f = go_on (outcome bytes)
    where
      go_on : Outcome bytes → RefusedNumbers (described bytes)
      go_on (refusal q p e y) = rw e (record { number = refuses_number y; size = refl; alignment = refl; kind = refl })
      go_on (acceptance t) = absurd (f (ap (λ (d : Structure). d.refusal) t.answer))

  acceptance_of : (described bytes).refusal ≡ 0 → Acceptance bytes
  acceptance_of f = go_on (outcome bytes)
    where
      go_on : Outcome bytes → Acceptance bytes
      go_on (refusal q p e y) = absurd (omega (arith, (refuses_number y).0, ap (λ (d : Structure). d.refusal) e, f))
      go_on (acceptance t) = t

  accepted_of : Acceptance bytes → Accepted bytes
  accepted_of t = record { members = t.members; spelled = t.spelled; laid = t.laid; kind = (kind t.spelled t.laid, suited_kind t.suited) }

  accepts_it : Accepted bytes → (described bytes).refusal ≡ 0
  accepts_it x = go_on (eqb (kind x.spelled x.laid) 0) refl
    where
      go_on : (t : Bool) → eqb (kind x.spelled x.laid) 0 ≡ t → (described bytes).refusal ≡ 0
      go_on true e = absurd (kind_missing x.spelled x.laid e x.kind)
      go_on false e = ap (λ (d : Structure). d.refusal) (whole-answer x.spelled x.laid) ∙ rw e

  answers_it : (ms : Members) → Spells bytes ms → Acceptance bytes → Answers ms (described bytes)
  answers_it ms s t = subst (λ (ns : Members). Answers ns (described bytes)) (unambiguous bytes t.members ms t.spelled s)
      (rw t.answer (record { place_zero = refl; same_size = refl; same_alignment = refl; natural = alignment_natural (structure t.members); kind = suited_kind t.suited }))

-- a structure is not promoted
structure_width : (k : ℕ) → is Class.Structure (kind_of k) ≡ true → width (kind_of k) ≡ (kind_of k).size
structure_width k e = rw (eqb-true (class_number (kind_of k).class) 7 e)

placed_as : {z a k : ℕ} → Suited z a k → (end : ℕ) → (offset (kind_of k) end ≡ up (max 4 a) end) × (ending (kind_of k) end ≡ up (max 4 a) end + up 4 z)
placed_as {z} {a} {k} s end = (rw s.same_alignment, rw (structure_width k s.class, s.same_alignment, s.same_size))

pub described_right : Describes described
described_right = record {
  refuses = λ bytes r place h. (refuses_it bytes r place h, λ x. (ap (λ (d : Structure). d.refusal) (refused_by bytes x), ap (λ (d : Structure). d.place) (refused_by bytes x)));
  refused_numbers = no_numbers;
  accepts = λ bytes. ((λ e. accepted_of bytes (acceptance_of bytes e)), accepts_it bytes);
  answers = λ bytes ms s e. answers_it bytes ms s (acceptance_of bytes e);
  placed_alike = λ bytes e. let t = acceptance_of bytes e in rw t.answer (placed_as t.suited);
  places = place_bound;
  largest_place = largest_place;
}

-- ---- two such functions answer alike

structure_same : (x y : Structure) → x.refusal ≡ y.refusal → x.place ≡ y.place → x.size ≡ y.size → x.alignment ≡ y.alignment → x.kind ≡ y.kind → x ≡ y
structure_same x y a b c d e = rw (a, b, c, d, e) refl

pub determined : Determined
determined f g x y bytes = go_on (eqb (f bytes).refusal 0) refl
  where
    accepted : (f bytes).refusal ≡ 0 → f bytes ≡ g bytes
    accepted e =
        let a = (x.accepts bytes).0 e in
        let h = (y.accepts bytes).1 a in
        let p = x.answers bytes a.members a.spelled e in
        let q = y.answers bytes a.members a.spelled h in
        let s = p.same_size ∙ sym q.same_size in
        let t = p.same_alignment ∙ sym q.same_alignment in
        structure_same (f bytes) (g bytes) (e ∙ sym h) (p.place_zero ∙ sym q.place_zero) s t
        (one_kind (g bytes).size (g bytes).alignment (f bytes).kind (g bytes).kind
        (subst (λ (n : ℕ). IsKind (g bytes).size n (f bytes).kind) t (subst (λ (n : ℕ). IsKind n (f bytes).alignment (f bytes).kind) s p.kind)) q.kind)

    refused_alike : ((f bytes).refusal ≡ 0 → ⊥) → f bytes ≡ g bytes
    refused_alike e =
        let h : 1 ≤ (f bytes).refusal = omega arith in
        let r = (y.refuses bytes (f bytes).refusal (f bytes).place h).1 ((x.refuses bytes (f bytes).refusal (f bytes).place h).0 (refl, refl)) in
        let p = x.refused_numbers bytes e in
        let q = y.refused_numbers bytes (λ z. e (sym r.0 ∙ z)) in
        structure_same (f bytes) (g bytes) (sym r.0) (sym r.1) (p.size ∙ sym q.size) (p.alignment ∙ sym q.alignment) (p.kind ∙ sym q.kind)

    go_on : (t : Bool) → eqb (f bytes).refusal 0 ≡ t → f bytes ≡ g bytes
    go_on true e = accepted (eqb-true (f bytes).refusal 0 e)
    go_on false e = refused_alike (eqb-false (f bytes).refusal 0 e)
