-- A byte is refused after the bytes before it exactly when the condition of its number holds there, said of trees.
-- Assumes nothing.
use mathlib.Core.Path.{◌≡◌, refl, sym, ap, ◌∙◌, subst}
use mathlib.Core.Logic.{inl, inr}
use mathlib.Core.List.{List, [], ◌∷◌, ◌++◌, append_assoc, append-nil}
use mathlib.Core.Bool.{Bool, true, false, ◌&&◌, and-eq-true_iff, false≢true}
use Prim.Native.Nat.{ℕ, ◌+◌, ◌*◌, ◌≤◌, ◌<◌}
use native.Mathlib.Omega.{arith}
use lib.Dec.{eqb, ltb, leb}
use lib.ListN.{length, length-append}
use borrow.Author.Tests.{eqb-true, eqb-false, ne_eqb, ltb-false, le-ltb, leb-true, leb-false, lt-leb, le-leb}
use Rattle.words.specs.Words.{up}
use Rattle.descriptions.specs.Trees.{Member, Members, scalar, structure, none, ◌then◌, alignment, size, end_from, depth, Unrepeated, Proper, Within}
use Rattle.descriptions.specs.Spelling.{spelling, spellings}
use Rattle.descriptions.specs.Describing.{end_most, Open, Around, State, start, inside, counting, repeated, closed, refuse, empty, append, scalar_bytes, placed, levels, typed, ended, judge, refused, described}
use Rattle.descriptions.specs.Beginnings.{Count, once, times, Opened, outermost, inner, Inside}
use Rattle.descriptions.specs.Descriptions.{BeginsType, Condition, unopened, no_member, no_type, no_count, left_over, too_deep, ends_beyond, closed_empty, Unfinished, no_bytes, member_next, count_next, type_next}
use Rattle.descriptions.proofs.Trees.{filled_end, width_natural, natural_positive}
use Rattle.descriptions.proofs.Steps.{by_test, refuse_same, refuse_no}
use Rattle.descriptions.proofs.Leading.{Leads, leads_append, by, here, extended_by, scalar_width, opened_leads, around, inside_levels, inside_leads, repeat_leads, count_leads, type_ends, whole_leads}
use Rattle.descriptions.proofs.Reading.{Has, OpenedIn, outermost as outermost-in, inner as inner-in, InsideOf, Begins, Known, known, scalar_range, scalar_known, filled}
use Rattle.descriptions.proofs.Courses.{stopped, finished}

-- ---- from the state to the trees

opened_of : {out : List Around} {before : List ℕ} → OpenedIn out before → levels out ≤ 6 → Opened (levels out) before
opened_of outermost-in h = outermost
opened_of (inner-in {out} {before} {bytes} x ms y c) h =
    subst (λ (d : ℕ). Opened d (before ++ (spellings ms ++ (bytes ++ (0x10 ∷ []))))) (omega arith) (inner (opened_of x (omega arith)) ms y.fit c (omega arith))

pub inside_of : {o : Open} {out : List Around} {last bytes : List ℕ} (x : InsideOf o out last bytes) → Inside (levels out) x.members last bytes
inside_of x = record { opening = x.before; opened = opened_of x.opened (omega (arith, x.has.fit.shallow)); fit = x.has.fit; spelled = x.spelled }

-- a scalar has bytes
scalar_some : (b : ℕ) → (1 ≤ b) × (b ≤ 8) → scalar_bytes b ≡ 0 → ⊥
scalar_some b h = go_on (scalar_known b h)
  where
    go_on : {b : ℕ} → Known b → scalar_bytes b ≡ 0 → ⊥
    go_on (known s) e = omega (arith, scalar_width s, natural_positive (width_natural s))

module _ {o : Open} {out : List Around} {n : ℕ} {bytes start : List ℕ} (c : Count n bytes) (x : InsideOf o out bytes start) {r : ℕ} where
  placed_condition : (m : Member) → Unrepeated m → Proper m → depth m + levels out ≤ 6 → {z a : ℕ} → z ≡ size m → a ≡ alignment m → placed n z a o out ≡ refuse r
      → (before : List ℕ) (b : ℕ) → before ++ (b ∷ []) ≡ start ++ spelling m → Condition before b r
  placed_condition m u p d {z} {a} e f g before b s = by_test (leb (append n z a o).end end_most) g
      (λ t h. refuse_no (sym h))
      (λ t h. ends_beyond (sym (refuse_same h)) (levels out) n x.members start bytes (inside_of x) c m u p d s
      (subst (λ (i : ℕ). 512 < up (alignment m) i + n * size m) x.has.end (rw (sym e, sym f) (leb-false (append n z a o).end end_most t))))

  typed_condition : (b : ℕ) → typed b n o out ≡ refuse r → (r ≡ 16 → (BeginsType b → ⊥) → Condition start b r) → Condition start b r
  typed_condition b g other = by_test (eqb b 0x10) g
      (λ t h. by_test (ltb (levels out) 6) h
      (λ l k. refuse_no (sym k))
      (λ l k. too_deep (sym (refuse_same k)) (levels out) n x.members bytes (inside_of x) c (eqb-true b 0x10 t) (omega (arith, ltb-false (levels out) 6 l))))
      (λ t h. by_test (eqb (scalar_bytes b) 0) h
      (λ l k. other (sym (refuse_same k)) (no_scalar (eqb-false b 0x10 t) (eqb-true (scalar_bytes b) 0 l)))
      (λ l k. scalars (scalar_known b (scalar_range b (eqb-false (scalar_bytes b) 0 l))) k))
    where
      no_scalar : (b ≡ 0x10 → ⊥) → scalar_bytes b ≡ 0 → BeginsType b → ⊥
      no_scalar f e (inl h) = scalar_some b h e
      no_scalar f e (inr h) = f h

      scalars : {b : ℕ} → Known b → placed n (scalar_bytes b) (scalar_bytes b) o out ≡ refuse r → Condition start b r
      scalars (known s) k = placed_condition (scalar s) tt tt (omega (arith, x.has.fit.shallow)) (scalar_width s) (scalar_width s) k start _ refl

-- where members end at 0 there is none
no_members : (ms : Members) → Within 0 ms → end_from 0 ms ≡ 0 → ms ≡ none
no_members none w e = refl
no_members (m then ms) w e = absurd (omega (arith, filled_end (m then ms) tt 0 w))

module _ {o : Open} (ms : Members) (f : o.end ≡ 0 → ⊥) {r : ℕ} where
  ended_condition : {out : List Around} {before : List ℕ} → OpenedIn out before → Has out ms o → ended (up o.strictest o.end) o.strictest out ≡ refuse r
      → Condition (before ++ (spellings ms ++ [])) 0x11 r
  ended_condition outermost-in h g = refuse_no (sym g)
  ended_condition (inner-in {before = before} {bytes = bytes} opened ls has c) h g =
      placed_condition c (record { before = before; members = ls; opened = opened; has = has; spelled = refl }) (structure ms) tt
      (filled ms (subst (λ (e : ℕ). e ≡ 0 → ⊥) h.end f), h.fit.within) (omega (arith, h.fit.shallow)) (rw (h.end, h.strict) refl) h.strict g
      ((before ++ (spellings ls ++ (bytes ++ (0x10 ∷ [])))) ++ (spellings ms ++ [])) 0x11 (simp (append_assoc, append-nil))

pub byte_condition : (b r : ℕ) (st : State) (before : List ℕ) → Begins before st → judge b st ≡ refuse r → Condition before b r
unfolding judge
byte_condition b r start before x g = by_test (eqb b 0x10) g (λ t h. refuse_no (sym h)) (λ t h. unopened (sym (refuse_same h)) x (eqb-false b 0x10 t))
byte_condition b r (inside o out) before x g = by_test (eqb b 0x11) g
    (λ t h. by_test (eqb o.end 0) h
    (λ u k. closed_empty (sym (refuse_same k)) (levels out) (emptied (eqb-true o.end 0 u)) (eqb-true b 0x11 t))
    (λ u k. rw (eqb-true b 0x11 t, x.spelled) (ended_condition x.members (eqb-false o.end 0 u) x.opened x.has k)))
    (λ t h. by_test (eqb b 0x12) h
    (λ u k. refuse_no (sym k))
    (λ u k. typed_condition once x b k (λ e f. no_member e (levels out) x.members (inside_of x) f (eqb-false b 0x12 u) (eqb-false b 0x11 t))))
  where
    emptied : o.end ≡ 0 → Opened (levels out) before
    emptied e =
        let f : x.members ≡ none = no_members x.members x.has.fit.within (sym x.has.end ∙ e) in
        subst (Opened (levels out)) (sym (x.spelled ∙ rw f (append-nil x.before))) (opened_of x.opened (omega (arith, x.has.fit.shallow)))
byte_condition b r (counting o out) before x g = by_test (leb 1 b && leb b 255) g
    (λ t h. refuse_no (sym h))
    (λ t h. no_count (sym (refuse_same h)) (levels out) x.members (inside_of x) (λ y. false≢true (sym t ∙ (and-eq-true_iff (leb 1 b) (leb b 255)).1 (le-leb 1 b y.0, le-leb b 255 y.1))))
byte_condition b r (repeated n o out) before x g =
    typed_condition (times n x.0 x.1) x.2 b g (λ e f. no_type e (levels out) n x.2.members x.0 x.1 (inside_of x.2) f)
byte_condition b r (closed z a) before x g = left_over (sym (refuse_same g)) x.members x.spelled x.laid

-- ---- and from the trees to the answer

outside : (k b m : ℕ) → ((k ≤ b) × (b ≤ m) → ⊥) → leb k b && leb b m ≡ false
outside k b m f = go_on (leb k b && leb b m) refl
  where
    go_on : (t : Bool) → leb k b && leb b m ≡ t → t ≡ false
    go_on true e = let h = (and-eq-true_iff (leb k b) (leb b m)).0 e in absurd (f (leb-true k b h.0, leb-true b m h.1))
    go_on false e = refl

typed-refuses : (b n : ℕ) (o : Open) (out : List Around) → (BeginsType b → ⊥) → typed b n o out ≡ refuse 16
typed-refuses b n o out f = rw (ne_eqb b 0x10 (λ e. f (inr e)), outside 1 b 8 (λ h. f (inl h)))

-- the answer where the bytes before lead to a state and the next is refused
module _ (before : List ℕ) (b : ℕ) (after : List ℕ) where
  answer : {r q : ℕ} {st : State} → r ≡ q → Leads start before st → judge b st ≡ refuse q → described (before ++ (b ∷ after)) ≡ refused r (length before)
  answer {r} {q} e l j = rw e (stopped l b q after j)

  -- the same bytes, cut elsewhere
  answer_as : {r : ℕ} (front : List ℕ) (last : ℕ) → before ++ (b ∷ []) ≡ front ++ (last ∷ []) → described (front ++ (last ∷ after)) ≡ refused r (length front)
      → described (before ++ (b ∷ after)) ≡ refused r (length before)
  answer_as {r} front last e f =
      let g : before ++ (b ∷ after) ≡ front ++ (last ∷ after) =
      sym (append_assoc before (b ∷ []) after) ∙ ap (λ (l : List ℕ). l ++ after) e ∙ append_assoc front (last ∷ []) after in
      let h : length front ≡ length before = omega (arith, length-append before (b ∷ []), length-append front (last ∷ []), ap length e) in
      ap described g ∙ f ∙ ap (refused r) h

  answer_beyond : {d n : ℕ} {ms : Members} {begun bytes : List ℕ} → Inside d ms bytes begun → Count n bytes → (m : Member) → Unrepeated m → Proper m → depth m + d ≤ 6
      → before ++ (b ∷ []) ≡ begun ++ spelling m → 512 < up (alignment m) (end_from 0 ms) + n * size m → described (before ++ (b ∷ after)) ≡ refused 18 (length before)
  answer_beyond {d} {n} {ms} {begun} x c m u p k s h =
      let o = extended_by ms empty in
      let a = count_leads c o (around x) in
      let y = type_ends m p u n o (around x) a.state a.asks (omega (arith, inside_levels x)) in
      let j : judge y.last y.before ≡ refuse 18 = y.judged ∙ rw (lt-leb (append n (size m) (alignment m) o).end end_most h) in
      answer_as (begun ++ y.front) y.last
      (s ∙ ap (λ (l : List ℕ). begun ++ l) y.spelled ∙ sym (append_assoc begun y.front (y.last ∷ [])))
      (stopped (leads_append (inside_leads x a.leads) y.leads) y.last 18 after j)

  pub condition_answer : {r : ℕ} → Condition before b r → described (before ++ (b ∷ after)) ≡ refused r (length before)
  unfolding judge
  condition_answer (unopened e f g) = answer e (subst (λ (l : List ℕ). Leads start l start) (sym f) here) (rw (ne_eqb b 0x10 g))
  condition_answer (no_member e d ms x f g h) =
      answer e (inside_leads x here) (rw (ne_eqb b 0x11 h, ne_eqb b 0x12 g) (typed-refuses b 1 (extended_by ms empty) (around x) f))
  condition_answer (no_type e d n ms f g x h) = answer e (inside_leads x (repeat_leads n (extended_by ms empty) (around x) f g)) (typed-refuses b n (extended_by ms empty) (around x) h)
  condition_answer (no_count e d ms x f) = answer e (inside_leads x (by refl here)) (rw (outside 1 b 255 f))
  condition_answer (left_over e ms s l) = answer e (whole_leads s l) refl
  condition_answer (too_deep e d n ms bytes x c f g) =
      let a = count_leads c (extended_by ms empty) (around x) in
      answer e (inside_leads x a.leads) (rw f (a.asks 0x10 (λ h. omega arith) (λ h. omega arith) ∙ rw (le-ltb (levels (around x)) 6 (omega (arith, inside_levels x)))))
  condition_answer (ends_beyond e d n ms begun bytes x c m u p k s h) = rw e (answer_beyond x c m u p k s h)
  condition_answer (closed_empty e d x f) = answer e (opened_leads x).leads (rw f)

-- ---- bytes missing

pub missing_answer : (bytes : List ℕ) → Unfinished bytes → described bytes ≡ refused 16 (length bytes)
unfolding judge
missing_answer bytes (no_bytes e) = finished (subst (λ (l : List ℕ). Leads start l start) (sym e) here)
missing_answer bytes (member_next d ms x) = finished (inside_leads x here)
missing_answer bytes (count_next d ms x) = finished (inside_leads x (by {next = counting (extended_by ms empty) (around x)} refl here))
missing_answer bytes (type_next d n ms f g x) = finished (inside_leads x (repeat_leads n (extended_by ms empty) (around x) f g))
