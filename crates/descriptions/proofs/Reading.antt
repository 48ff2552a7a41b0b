-- What bytes that were read spell: members of structures that are still open, or a whole structure. So what is accepted spells a
-- tree.
-- Assumes nothing.
use mathlib.Core.Path.{◌≡◌, refl, sym, ap, ◌∙◌, subst}
use mathlib.Core.Logic.{inl, inr}
use mathlib.Core.List.{List, [], ◌∷◌, ◌++◌, append_assoc, append-nil}
use mathlib.Core.Bool.{Bool, true, false, cond, ◌&&◌, and-eq-true_iff}
use Prim.Native.Nat.{ℕ, zero, suc, ◌+◌, ◌*◌, ◌≤◌, ◌<◌}
use native.Mathlib.Omega.{arith}
use lib.Dec.{eqb, ltb, leb}
use borrow.Author.Tests.{eqb-true, eqb-false, ltb-true, leb-true}
use Rattle.words.specs.Words.{up}
use Rattle.kinds.specs.Kinds.{kind_of}
use Rattle.descriptions.specs.Trees.{Scalar, signed_byte, unsigned_byte, signed_halfword, unsigned_halfword, word, doubleword, single, double, kind_byte, Member, Members, scalar, repeat, structure, none, ◌then◌, alignment, strictest, size, end_from, depth, Unrepeated, Proper, NonEmpty, Laid}
use Rattle.descriptions.specs.Spelling.{spelling, spellings, Spells}
use Rattle.descriptions.specs.Describing.{end_most, Open, Around, State, start, inside, counting, repeated, closed, go, empty, append, scalar_bytes, placed, levels, typed, ended, judge}
use Rattle.descriptions.specs.Beginnings.{Fit, Count, once, times}
use Rattle.descriptions.proofs.Steps.{by_test, go_same, refuse_no}
use Rattle.descriptions.proofs.Leading.{Leads, here, by, scalar_width}
use Rattle.descriptions.specs.Descriptions.{Natural}
use Rattle.descriptions.proofs.Trees.{width_natural, ◌▹◌, spellings_last, end_last, strictest_last, deepest_last, within_last}

-- ---- structures that are open, with the numbers that the state has of them

-- the members that an open structure has so far, with these structures around it
pub record Has (out : List Around) (ms : Members) (o : Open) : Type 0 where
  pub end : o.end ≡ end_from 0 ms
  pub strict : o.strictest ≡ strictest ms
  pub fit : Fit (levels out) ms

-- the structures around an open one, innermost first, and the bytes up to the 10 that opens it
pub data OpenedIn : List Around → List ℕ → Type 0 where
  outermost : OpenedIn [] (0x10 ∷ [])
  inner : {out : List Around} {before bytes : List ℕ} {n : ℕ} {o : Open} → OpenedIn out before → (ms : Members) → Has out ms o → Count n bytes
      → OpenedIn (record { times = n; outer = o } ∷ out) (before ++ (spellings ms ++ (bytes ++ (0x10 ∷ []))))

pub record InsideOf (o : Open) (out : List Around) (last bytes : List ℕ) : Type 0 where
  pub before : List ℕ
  pub members : Members
  pub opened : OpenedIn out before
  pub has : Has out members o
  pub spelled : bytes ≡ before ++ (spellings members ++ last)

-- a whole structure, with this size and alignment
pub record Whole (z a : ℕ) (bytes : List ℕ) : Type 0 where
  pub members : Members
  pub spelled : Spells bytes members
  pub laid : Laid members
  pub same_size : z ≡ size (structure members)
  pub same_alignment : a ≡ alignment (structure members)

-- the bytes that have led to a state
abbrev pub Begins : List ℕ → State → Type 0
Begins bytes start = bytes ≡ []
Begins bytes (inside o out) = InsideOf o out [] bytes
Begins bytes (counting o out) = InsideOf o out (0x12 ∷ []) bytes
Begins bytes (repeated n o out) = (1 ≤ n) × (n ≤ 255) × InsideOf o out (0x12 ∷ n ∷ []) bytes
Begins bytes (closed z a) = Whole z a bytes

-- ---- a member that is counted

abbrev counted : {n : ℕ} {bytes : List ℕ} → Count n bytes → Member → Member
counted once m = m
counted (times n f g) m = repeat n m

size_counted : {n : ℕ} {bytes : List ℕ} (c : Count n bytes) (m : Member) → size (counted c m) ≡ n * size m
size_counted once m = omega arith
size_counted (times n f g) m = refl

alignment_counted : {n : ℕ} {bytes : List ℕ} (c : Count n bytes) (m : Member) → alignment (counted c m) ≡ alignment m
alignment_counted once m = refl
alignment_counted (times n f g) m = refl

depth_counted : {n : ℕ} {bytes : List ℕ} (c : Count n bytes) (m : Member) → depth (counted c m) ≡ depth m
depth_counted once m = refl
depth_counted (times n f g) m = refl

spelling_counted : {n : ℕ} {bytes : List ℕ} (c : Count n bytes) (m : Member) → spelling (counted c m) ≡ bytes ++ spelling m
spelling_counted once m = refl
spelling_counted (times n f g) m = refl

proper-counted : {n : ℕ} {bytes : List ℕ} (c : Count n bytes) (m : Member) → Unrepeated m → Proper m → Proper (counted c m)
proper-counted once m s p = p
proper-counted (times n f g) m s p = (f, g, s, p)

-- ---- what was read

-- one byte more after the members
one_more : {o : Open} {out : List Around} {tail read : List ℕ} (b : ℕ) → InsideOf o out tail read → InsideOf o out (tail ++ (b ∷ [])) (read ++ (b ∷ []))
one_more {tail = tail} b x = record {
  before = x.before;
  members = x.members;
  opened = x.opened;
  has = x.has;
  spelled = ap (λ (l : List ℕ). l ++ (b ∷ [])) x.spelled ∙ simp append_assoc;
}

-- a member more
added : {o : Open} {out : List Around} {n : ℕ} {bytes read : List ℕ} (c : Count n bytes) → InsideOf o out bytes read → (m : Member) → Unrepeated m → Proper m
    → depth m + levels out ≤ 6 → (append n (size m) (alignment m) o).end ≤ end_most → InsideOf (append n (size m) (alignment m) o) out [] (read ++ spelling m)
added {o} {out} {n} {bytes} {read} c x m s p d h =
    let e = end_last x.members (counted c m) 0 in
    let f = strictest_last x.members (counted c m) in
    let g : (append n (size m) (alignment m) o).end ≡ end_from 0 (x.members ▹ counted c m) =
    rw (e, size_counted c m, alignment_counted c m, x.has.end) in
    record {
      before = x.before;
      members = x.members ▹ counted c m;
      opened = x.opened;
      has = record {
        end = g;
        strict = rw (f, alignment_counted c m, x.has.strict);
        fit = record {
          within = within_last x.members (counted c m) 0 x.has.fit.within (proper-counted c m s p) (subst (λ (z : ℕ). z ≤ end_most) (g ∙ e) h);
          shallow = omega (arith, deepest_last x.members (counted c m), depth_counted c m, x.has.fit.shallow);
        };
      };
      spelled = rw (x.spelled, spellings_last x.members (counted c m), spelling_counted c m) (simp (append_assoc, append-nil));
    }

-- a byte that is a scalar
pub data Known : ℕ → Type 0 where
  known : (s : Scalar) → Known (kind_byte s)

pub scalar_range : (b : ℕ) → (scalar_bytes b ≡ 0 → ⊥) → (1 ≤ b) × (b ≤ 8)
scalar_range b f = go (leb 1 b && leb b 8) refl f
  where
    go : (t : Bool) → leb 1 b && leb b 8 ≡ t → (cond t (kind_of b).size 0 ≡ 0 → ⊥) → (1 ≤ b) × (b ≤ 8)
    go true e f = let h = (and-eq-true_iff (leb 1 b) (leb b 8)).0 e in (leb-true 1 b h.0, leb-true b 8 h.1)
    go false e f = absurd (f refl)

pub scalar_known : (b : ℕ) → (1 ≤ b) × (b ≤ 8) → Known b
scalar_known zero h = absurd (omega arith)
scalar_known (suc zero) h = known signed_byte
scalar_known (suc (suc zero)) h = known unsigned_byte
scalar_known (suc (suc (suc zero))) h = known signed_halfword
scalar_known (suc (suc (suc (suc zero)))) h = known unsigned_halfword
scalar_known (suc (suc (suc (suc (suc zero))))) h = known word
scalar_known (suc (suc (suc (suc (suc (suc zero)))))) h = known doubleword
scalar_known (suc (suc (suc (suc (suc (suc (suc zero))))))) h = known single
scalar_known (suc (suc (suc (suc (suc (suc (suc (suc zero)))))))) h = known double
scalar_known (suc (suc (suc (suc (suc (suc (suc (suc (suc b))))))))) h = absurd (omega arith)

pub scalar_most : (b : ℕ) → scalar_bytes b ≤ 8
scalar_most b = go (leb 1 b && leb b 8) refl
  where
    natural_most : {a : ℕ} → Natural a → a ≤ 8
    natural_most (inl e) = omega arith
    natural_most (inr (inl e)) = omega arith
    natural_most (inr (inr (inl e))) = omega arith
    natural_most (inr (inr (inr e))) = omega arith

    bytes_most : {b : ℕ} → Known b → scalar_bytes b ≤ 8
    bytes_most (known s) = rw (scalar_width s) (natural_most (width_natural s))

    go : (t : Bool) → leb 1 b && leb b 8 ≡ t → scalar_bytes b ≤ 8
    go true e = let h = (and-eq-true_iff (leb 1 b) (leb b 8)).0 e in bytes_most (scalar_known b (leb-true 1 b h.0, leb-true b 8 h.1))
    go false e = rw e (omega arith)

-- ---- one byte

module _ {o : Open} {out : List Around} {n : ℕ} {bytes read : List ℕ} (c : Count n bytes) (x : InsideOf o out bytes read) where
  -- 18 is not given
  placed_reads : (m : Member) → Unrepeated m → Proper m → depth m + levels out ≤ 6 → {z a : ℕ} → z ≡ size m → a ≡ alignment m → {next : State} → placed n z a o out ≡ go next
      → Begins (read ++ spelling m) next
  placed_reads m s p d {z} {a} e f {next} g = by_test (leb (append n z a o).end end_most) g
      (λ t h. subst (λ (st : State). Begins (read ++ spelling m) st) (go_same h)
      (rw (e, f) (added c x m s p d (leb-true _ end_most (rw (e, f) at t)))))
      (λ t h. refuse_no h)

  -- the type of a member
  typed_reads : (b : ℕ) {next : State} → typed b n o out ≡ go next → Begins (read ++ (b ∷ [])) next
  typed_reads b {next} g = by_test (eqb b 0x10) g
      (λ t h. by_test (ltb (levels out) 6) h
      (λ l k. subst (λ (st : State). Begins (read ++ (b ∷ [])) st) (go_same k) (opens (eqb-true b 0x10 t) (ltb-true (levels out) 6 l)))
      (λ l k. refuse_no k))
      (λ t h. by_test (eqb (scalar_bytes b) 0) h
      (λ l k. refuse_no k)
      (λ l k. scalars (scalar_known b (scalar_range b (eqb-false (scalar_bytes b) 0 l))) k))
    where
      opens : b ≡ 0x10 → levels out < 6 → InsideOf empty (record { times = n; outer = o } ∷ out) [] (read ++ (b ∷ []))
      opens e l = record {
        before = x.before ++ (spellings x.members ++ (bytes ++ (0x10 ∷ [])));
        members = none;
        opened = inner x.opened x.members x.has c;
        has = record { end = refl; strict = refl; fit = record { within = tt; shallow = omega arith } };
        spelled = rw (x.spelled, e) (simp (append_assoc, append-nil));
      }

      scalars : {b : ℕ} → Known b → placed n (scalar_bytes b) (scalar_bytes b) o out ≡ go next → Begins (read ++ (b ∷ [])) next
      scalars (known s) k = placed_reads (scalar s) tt tt (omega (arith, x.has.fit.shallow)) (scalar_width s) (scalar_width s) k

-- the end of a structure that is not empty
pub filled : (ms : Members) → (end_from 0 ms ≡ 0 → ⊥) → NonEmpty ms
filled none f = absurd (f refl)
filled (m then ms) f = tt

module _ {o : Open} (ms : Members) (f : o.end ≡ 0 → ⊥) where
  ended_reads : {out : List Around} {before : List ℕ} → OpenedIn out before → Has out ms o → {next : State} → ended (up o.strictest o.end) o.strictest out ≡ go next
      → Begins ((before ++ (spellings ms ++ [])) ++ (0x11 ∷ [])) next
  ended_reads outermost h {next} g = subst (λ (st : State). Begins ((0x10 ∷ (spellings ms ++ [])) ++ (0x11 ∷ [])) st) (go_same g) (record {
    members = ms;
    spelled = simp append-nil;
    laid = record { proper = (filled ms (subst (λ (e : ℕ). e ≡ 0 → ⊥) h.end f), h.fit.within); shallow = omega (arith, h.fit.shallow) };
    same_size = rw (h.end, h.strict) refl;
    same_alignment = h.strict;
  })
  ended_reads (inner {before = before} opened ls has c) h {next} g =
      subst (λ (l : List ℕ). Begins l next) (simp (append_assoc, append-nil))
      (placed_reads c (record { before = before; members = ls; opened = opened; has = has; spelled = refl }) (structure ms) tt
      (filled ms (subst (λ (e : ℕ). e ≡ 0 → ⊥) h.end f), h.fit.within) (omega (arith, h.fit.shallow)) (rw (h.end, h.strict) refl) h.strict g)

-- any byte
byte_reads : (b : ℕ) (st : State) (read : List ℕ) {next : State} → Begins read st → judge b st ≡ go next → Begins (read ++ (b ∷ [])) next
unfolding judge
byte_reads b start read {next} x g = by_test (eqb b 0x10) g
    (λ t h. subst (λ (s : State). Begins (read ++ (b ∷ [])) s) (go_same h) (record {
      before = 0x10 ∷ [];
      members = none;
      opened = outermost;
      has = record { end = refl; strict = refl; fit = record { within = tt; shallow = omega arith } };
      spelled = rw (x, eqb-true b 0x10 t);
    }))
    (λ t h. refuse_no h)
byte_reads b (inside o out) read {next} x g = by_test (eqb b 0x11) g
    (λ t h. by_test (eqb o.end 0) h
    (λ u k. refuse_no k)
    (λ u k. rw (eqb-true b 0x11 t, x.spelled) (ended_reads x.members (eqb-false o.end 0 u) x.opened x.has k)))
    (λ t h. by_test (eqb b 0x12) h
    (λ u k. subst (λ (s : State). Begins (read ++ (b ∷ [])) s) (go_same k) (subst (λ (i : ℕ). InsideOf o out (i ∷ []) (read ++ (b ∷ []))) (eqb-true b 0x12 u) (one_more b x)))
    (λ u k. typed_reads once x b k))
byte_reads b (counting o out) read {next} x g = by_test (leb 1 b && leb b 255) g
    (λ t h. subst (λ (s : State). Begins (read ++ (b ∷ [])) s) (go_same h) (leb-true 1 b ((and-eq-true_iff (leb 1 b) (leb b 255)).0 t).0, leb-true b 255 ((and-eq-true_iff (leb 1 b) (leb b 255)).0 t).1, one_more b x))
    (λ t h. refuse_no h)
byte_reads b (repeated n o out) read x g = typed_reads (times n x.0 x.1) x.2 b g
byte_reads b (closed z a) read x g = refuse_no g

-- bytes
pub leads_begin : {st end : State} {bytes : List ℕ} → Leads st bytes end → (read : List ℕ) → Begins read st → Begins (read ++ bytes) end
leads_begin {st} here read x = subst (λ (l : List ℕ). Begins l st) (sym (append-nil read)) x
leads_begin (by {st} {next} {end} {b} {bytes} e h) read x = subst (λ (l : List ℕ). Begins l end) (append_assoc read (b ∷ []) bytes) (leads_begin h (read ++ (b ∷ [])) (byte_reads b st read x e))
