-- The bytes that spell a tree lead past it, where nothing of it is refused.
-- Assumes nothing.
use mathlib.Core.Path.{◌≡◌, refl, sym, ap, ◌∙◌, subst}
use mathlib.Core.List.{List, [], ◌∷◌, ◌++◌}
use Prim.Native.Nat.{ℕ, ◌+◌, ◌≤◌, ◌<◌, max}
use native.Mathlib.Omega.{arith}
use borrow.Author.Tests.{lt-ltb, le-leb, ne_eqb}
use Rattle.words.specs.Words.{up}
use Rattle.descriptions.specs.Trees.{Scalar, signed_byte, unsigned_byte, signed_halfword, unsigned_halfword, word, doubleword, single, double, kind_byte, width, Member, Members, scalar, repeat, structure, none, ◌then◌, alignment, strictest, size, end_from, depth, deepest, Unrepeated, Proper, Within, Laid}
use Rattle.descriptions.specs.Spelling.{spelling, spellings, Spells}
use Rattle.descriptions.specs.Describing.{end_most, Open, Around, State, start, inside, counting, repeated, closed, go, empty, append, scalar_bytes, placed, levels, typed, ended, judge}
use Rattle.descriptions.specs.Beginnings.{Fit, Count, once, times, Opened, outermost, inner, Inside}
use Rattle.descriptions.proofs.Trees.{width_natural, strictest_natural, natural_positive, filled_end}

-- from the first state these bytes lead to the second, and none of them is refused
pub data Leads : State → List ℕ → State → Type 0 where
  here : {st : State} → Leads st [] st
  by : {st next end : State} {b : ℕ} {bytes : List ℕ} → judge b st ≡ go next → Leads next bytes end → Leads st (b ∷ bytes) end

pub leads_append : {a b c : State} {xs ys : List ℕ} → Leads a xs b → Leads b ys c → Leads a (xs ++ ys) c
leads_append here k = k
leads_append (by e h) k = by e (leads_append h k)

-- an open structure, once a member and once members have been read
abbrev pub extended : Member → Open → Open
extended m o = record { end = up (alignment m) o.end + size m; strictest = max (alignment m) o.strictest }

abbrev pub extended_by : Members → Open → Open
extended_by ms o = record { end = end_from o.end ms; strictest = max (strictest ms) o.strictest }

strictest_one : (ms : Members) → max (strictest ms) 1 ≡ strictest ms
strictest_one ms = omega (arith, natural_positive (strictest_natural ms))

-- ---- a member, repeated n times, from a state that asks for its type

abbrev pub AsksType : ℕ → Open → List Around → State → Type 0
AsksType n o out st = (b : ℕ) → (b ≡ 0x11 → ⊥) → (b ≡ 0x12 → ⊥) → judge b st ≡ typed b n o out

inside_asks : (o : Open) (out : List Around) → AsksType 1 o out (inside o out)
unfolding judge
inside_asks o out b f g = rw (ne_eqb b 0x11 f, ne_eqb b 0x12 g)

repeated_asks : (n : ℕ) (o : Open) (out : List Around) → AsksType n o out (repeated n o out)
unfolding judge
repeated_asks n o out b f g = refl

-- its type leads to its last byte, and that one places it
pub record TypeEnd (m : Member) (n : ℕ) (o : Open) (out : List Around) (st : State) : Type 0 where
  pub front : List ℕ
  pub last : ℕ
  pub spelled : spelling m ≡ front ++ (last ∷ [])
  pub before : State
  pub leads : Leads st front before
  pub judged : judge last before ≡ placed n (size m) (alignment m) o out

abbrev TypeEnds : Member → Type 0
TypeEnds m = (n : ℕ) (o : Open) (out : List Around) (st : State) → AsksType n o out st → depth m + levels out ≤ 6 → TypeEnd m n o out st

placed_goes : (n z a : ℕ) (o : Open) (out : List Around) → (append n z a o).end ≤ end_most → placed n z a o out ≡ go (inside (append n z a o) out)
placed_goes n z a o out h = rw (le-leb (append n z a o).end end_most h)

-- scalars are the bytes 01 to 08
pub scalar_low : (s : Scalar) → kind_byte s ≤ 8
scalar_low signed_byte = omega arith
scalar_low unsigned_byte = omega arith
scalar_low signed_halfword = omega arith
scalar_low unsigned_halfword = omega arith
scalar_low word = omega arith
scalar_low doubleword = omega arith
scalar_low single = omega arith
scalar_low double = omega arith

pub scalar_width : (s : Scalar) → scalar_bytes (kind_byte s) ≡ width s
scalar_width signed_byte = refl
scalar_width unsigned_byte = refl
scalar_width signed_halfword = refl
scalar_width unsigned_halfword = refl
scalar_width word = refl
scalar_width doubleword = refl
scalar_width single = refl
scalar_width double = refl

typed_scalar : (s : Scalar) (n : ℕ) (o : Open) (out : List Around) → typed (kind_byte s) n o out ≡ placed n (width s) (width s) o out
typed_scalar s n o out =
    let f : (kind_byte s ≡ 0x10 → ⊥) = λ e. omega (arith, scalar_low s) in
    let g : (width s ≡ 0 → ⊥) = λ e. omega (arith, natural_positive (width_natural s)) in
    rw (ne_eqb (kind_byte s) 0x10 f, scalar_width s, ne_eqb (width s) 0 g)

scalar_ends : (s : Scalar) → TypeEnds (scalar s)
scalar_ends s n o out st asks d = record {
  front = [];
  last = kind_byte s;
  spelled = refl;
  before = st;
  leads = here;
  judged = asks (kind_byte s) (λ e. omega (arith, scalar_low s)) (λ e. omega (arith, scalar_low s)) ∙ typed_scalar s n o out;
}

abbrev MembersLead : Members → Type 0
MembersLead ms = (o : Open) (out : List Around) → 1 ≤ o.strictest → Within o.end ms → deepest ms + levels out ≤ 6 → Leads (inside o out) (spellings ms) (inside (extended_by ms o) out)

pub structure_opens : (n : ℕ) (o : Open) (out : List Around) → levels out < 6 → typed 0x10 n o out ≡ go (inside empty (record { times = n; outer = o } ∷ out))
structure_opens n o out h = rw (lt-ltb (levels out) 6 h)

pub structure_closes : (ms : Members) → Proper (structure ms) → (out : List Around) → judge 0x11 (inside (extended_by ms empty) out) ≡ ended (size (structure ms)) (strictest ms) out
unfolding judge
structure_closes ms p out =
    let f : (end_from 0 ms ≡ 0 → ⊥) = λ x. omega (arith, filled_end ms p.0 0 p.1) in
    rw (ne_eqb (end_from 0 ms) 0 f, strictest_one ms)

structure_ends : (ms : Members) → Proper (structure ms) → MembersLead ms → TypeEnds (structure ms)
structure_ends ms p lead n o out st asks d =
    let around : List Around = record { times = n; outer = o } ∷ out in
    record {
      front = 0x10 ∷ spellings ms;
      last = 0x11;
      spelled = refl;
      before = inside (extended_by ms empty) around;
      leads = by (asks 0x10 (λ e. omega arith) (λ e. omega arith) ∙ structure_opens n o out (omega arith)) (lead empty around (omega arith) p.1 (omega arith));
      judged = structure_closes ms p around;
    }

-- so where 18 is not given they lead past it
type_leads : {m : Member} {n : ℕ} {o : Open} {out : List Around} {st : State} → TypeEnd m n o out st → (append n (size m) (alignment m) o).end ≤ end_most
    → Leads st (spelling m) (inside (append n (size m) (alignment m) o) out)
type_leads {m} {n} {o} {out} {st} x h = subst (λ (l : List ℕ). Leads st l (inside (append n (size m) (alignment m) o) out)) (sym x.spelled)
    (leads_append x.leads (by (x.judged ∙ placed_goes n (size m) (alignment m) o out h) here))

-- ---- a member, from a state inside a structure

abbrev MemberLeads : Member → Type 0
MemberLeads m = (o : Open) (out : List Around) → depth m + levels out ≤ 6 → up (alignment m) o.end + size m ≤ 512 → Leads (inside o out) (spelling m) (inside (extended m o) out)

once_leads : (m : Member) → TypeEnds m → MemberLeads m
once_leads m l o out d h =
    let e : append 1 (size m) (alignment m) o ≡ extended m o = ap (λ (z : ℕ). record { end = up (alignment m) o.end + z; strictest = max (alignment m) o.strictest }) (omega arith) in
    subst (λ (x : Open). Leads (inside o out) (spelling m) (inside x out)) e (type_leads (l 1 o out (inside o out) (inside_asks o out) d) (omega arith))

counts : (n : ℕ) (o : Open) (out : List Around) → 1 ≤ n → n ≤ 255 → judge n (counting o out) ≡ go (repeated n o out)
unfolding judge
counts n o out f g = rw (le-leb 1 n f, le-leb n 255 g)

pub repeat_leads : (n : ℕ) (o : Open) (out : List Around) → 1 ≤ n → n ≤ 255 → Leads (inside o out) (0x12 ∷ n ∷ []) (repeated n o out)
unfolding judge
repeat_leads n o out f g = by refl (by (counts n o out f g) here)

repeated_leads : (n : ℕ) (m : Member) → 1 ≤ n → n ≤ 255 → TypeEnds m → MemberLeads (repeat n m)
repeated_leads n m f g l o out d h = leads_append (repeat_leads n o out f g) (type_leads (l n o out (repeated n o out) (repeated_asks n o out) d) h)

mutual
  pub type_ends : (m : Member) → Proper m → Unrepeated m → TypeEnds m
  type_ends (scalar s) p f = scalar_ends s
  type_ends (repeat n m) p f = absurd f
  type_ends (structure ms) p f = structure_ends ms p (λ o out h w d. members_lead ms o out h w d)

  member_leads : (m : Member) → Proper m → MemberLeads m
  member_leads (scalar s) p = once_leads (scalar s) (scalar_ends s)
  member_leads (repeat n m) p = repeated_leads n m p.0 p.1 (type_ends m p.3 p.2)
  member_leads (structure ms) p = once_leads (structure ms) (structure_ends ms p (λ o out h w d. members_lead ms o out h w d))

  pub members_lead : (ms : Members) → MembersLead ms
  members_lead none o out h w d =
      subst (λ (a : ℕ). Leads (inside o out) [] (inside (record { end = o.end; strictest = a }) out)) (omega arith) here
  members_lead (m then ms) o out h w d =
      let e : max (strictest ms) (max (alignment m) o.strictest) ≡ max (max (alignment m) (strictest ms)) o.strictest = omega arith in
      subst (λ (a : ℕ). Leads (inside o out) (spellings (m then ms)) (inside (record { end = end_from o.end (m then ms); strictest = a }) out)) e
      (leads_append (member_leads m w.0 o out (omega arith) w.1) (members_lead ms (extended m o) out (omega arith) w.2 (omega arith)))

-- ---- from the start

fit_leads : {d : ℕ} (ms : Members) → Fit d ms → (out : List Around) → levels out ≡ d → Leads (inside empty out) (spellings ms) (inside (extended_by ms empty) out)
fit_leads ms f out e = members_lead ms empty out (omega arith) f.within (omega (arith, f.shallow))

-- a count leads to a state that asks for the type
pub record Asked (n : ℕ) (o : Open) (out : List Around) (bytes : List ℕ) : Type 0 where
  pub state : State
  pub leads : Leads (inside o out) bytes state
  pub asks : AsksType n o out state

pub count_leads : {n : ℕ} {bytes : List ℕ} → Count n bytes → (o : Open) (out : List Around) → Asked n o out bytes
count_leads once o out = record { state = inside o out; leads = here; asks = inside_asks o out }
count_leads (times n f g) o out = record { state = repeated n o out; leads = repeat_leads n o out f g; asks = repeated_asks n o out }

-- structures that are open, as the state has them
pub record OpenedLeads (d : ℕ) (before : List ℕ) : Type 0 where
  pub out : List Around
  pub same : levels out ≡ d
  pub leads : Leads start before (inside empty out)

pub opened_leads : {d : ℕ} {before : List ℕ} → Opened d before → OpenedLeads d before
unfolding judge
opened_leads outermost = record { out = []; same = refl; leads = by refl here }
opened_leads (inner {d} {n} {before} {bytes} x ms f c l) = go_on (opened_leads x)
  where
    go_on : OpenedLeads d before → OpenedLeads (d + 1) (before ++ (spellings ms ++ (bytes ++ (0x10 ∷ []))))
    go_on y =
        let o = extended_by ms empty in
        let a = count_leads c o y.out in
        record {
          out = record { times = n; outer = o } ∷ y.out;
          same = omega (arith, y.same);
          leads = leads_append y.leads (leads_append (fit_leads ms f y.out y.same) (leads_append a.leads
              (by (a.asks 0x10 (λ e. omega arith) (λ e. omega arith) ∙ structure_opens n o y.out (omega (arith, y.same))) here)));
        }

module _ {d : ℕ} {ms : Members} {last bytes : List ℕ} (x : Inside d ms last bytes) where
  abbrev pub around : List Around
  around = (opened_leads x.opened).out

  pub inside_levels : levels around ≡ d
  inside_levels = (opened_leads x.opened).same

  pub inside_leads : {st : State} → Leads (inside (extended_by ms empty) around) last st → Leads start bytes st
  inside_leads {st} l = subst (λ (b : List ℕ). Leads start b st) (sym x.spelled)
      (leads_append (opened_leads x.opened).leads (leads_append (fit_leads ms x.fit around inside_levels) l))

-- a whole description
pub whole_leads : {bytes : List ℕ} {ms : Members} → Spells bytes ms → Laid ms → Leads start bytes (closed (size (structure ms)) (alignment (structure ms)))
unfolding judge
whole_leads {bytes} {ms} s l = subst (λ (b : List ℕ). Leads start b (closed (size (structure ms)) (strictest ms))) (sym s)
    (by refl (leads_append (members_lead ms empty [] (omega arith) l.proper.1 l.shallow) (by (structure_closes ms l.proper []) here)))
