-- Which record carries a byte, and which byte of it: a carried byte has one such record and one such byte.
-- Assumes nothing.
use mathlib.Core.Path.{◌≡◌, refl, ap, subst}
use mathlib.Core.Logic.{inl, inr}
use mathlib.Core.List.{List, [], ◌∷◌, ◌++◌}
use Prim.Native.Nat.{ℕ, zero, suc, ◌<◌}
use native.Mathlib.Omega.{arith}
use lib.ListN.{length, get_or}
use Rattle.carried.specs.Image.{Placed, carried}
use Rattle.places.specs.Places.{In, Distinct}
use Rattle.carried.specs.Carried.{kinds}
use Rattle.places.proofs.Places.{in_left, in_right, in_cases}
use Rattle.words.proofs.Impossible.{impossible}

-- ---- entries of a list of bytes

pub record Entry (ps : List ℕ) (p : ℕ) : Type 0 where
  pub index : ℕ
  pub inside : index < length ps
  pub at : get_or ps index 0 ≡ p

pub entry : (ps : List ℕ) (p : ℕ) → In p ps → Entry ps p
entry [] p m = absurd m
entry (q ∷ ps) p (inl e) = record { index = 0; inside = omega arith; at = rw e refl }
entry (q ∷ ps) p (inr m) = let w = entry ps p m in record { index = suc w.index; inside = omega (arith, w.inside); at = w.at }

pub entry_in : (ps : List ℕ) (i : ℕ) → i < length ps → In (get_or ps i 0) ps
entry_in [] i h = absurd (omega arith)
entry_in (p ∷ ps) zero h = inl refl
entry_in (p ∷ ps) (suc i) h = inr (entry_in ps i (omega arith))

same_index : (ps : List ℕ) (i j : ℕ) → Distinct ps → i < length ps → j < length ps → get_or ps i 0 ≡ get_or ps j 0 → i ≡ j
same_index [] i j d h g e = absurd (omega arith)
same_index (p ∷ ps) zero zero d h g e = refl
same_index (p ∷ ps) zero (suc j) d h g e = absurd (d.0 (rw e (entry_in ps j (omega arith))))
same_index (p ∷ ps) (suc i) zero d h g e = absurd (d.0 (rw (← e) (entry_in ps i (omega arith))))
same_index (p ∷ ps) (suc i) (suc j) d h g e = ap suc (same_index ps i j d.1 (omega arith) (omega arith) e)

distinct_left : (ps qs : List ℕ) → Distinct (ps ++ qs) → Distinct ps
distinct_left [] qs d = tt
distinct_left (p ∷ ps) qs d = ((λ m. d.0 (in_left ps qs p m)), distinct_left ps qs d.1)

distinct_right : (ps qs : List ℕ) → Distinct (ps ++ qs) → Distinct qs
distinct_right [] qs d = d
distinct_right (p ∷ ps) qs d = distinct_right ps qs d.1

distinct_apart : (ps qs : List ℕ) → Distinct (ps ++ qs) → (p : ℕ) → In p ps → In p qs → ⊥
distinct_apart [] qs d p m n = m
distinct_apart (q ∷ ps) qs d p (inl e) n = d.0 (in_right ps qs q (subst (λ (x : ℕ). In x qs) e n))
distinct_apart (q ∷ ps) qs d p (inr m) n = distinct_apart ps qs d.1 p m n

-- ---- records

-- a record of L with those before and after it
pub record Among (L : List Placed) : Type 0 where
  pub before : List Placed
  pub here : Placed
  pub after : List Placed
  pub records : L ≡ before ++ (here ∷ after)

-- it carries byte p
pub record Carrier (L : List Placed) (p : ℕ) : Type 0 where
  pub among : Among L
  pub byte : Entry among.here.carriers p

pub carrier_of : (L : List Placed) (p : ℕ) → In p (carried L) → Carrier L p
carrier_of [] p m = absurd m
carrier_of (s ∷ L) p m = in_cases s.carriers (carried L) p m
    (λ i. record { among = record { before = []; here = s; after = L; records = refl }; byte = entry s.carriers p i })
    (λ i.
    let w = carrier_of L p i in
    record {
      among = record { before = s ∷ w.among.before; here = w.among.here; after = w.among.after; records = ap (λ (M : List Placed). s ∷ M) w.among.records };
      byte = w.byte;
    })

among_in : (M : List Placed) (s : Placed) (N : List Placed) (p : ℕ) → In p s.carriers → In p (carried (M ++ (s ∷ N)))
among_in [] s N p m = in_left s.carriers (carried N) p m
among_in (t ∷ M) s N p m = in_right t.carriers (carried (M ++ (s ∷ N))) p (among_in M s N p m)

pub carrier_in : (L : List Placed) (p : ℕ) → Carrier L p → In p (carried L)
carrier_in L p w =
    let a = w.among in
    rw (a.records, ← w.byte.at) (among_in a.before a.here a.after (get_or a.here.carriers w.byte.index 0) (entry_in a.here.carriers w.byte.index w.byte.inside))

-- two records that carry one byte are the same, and it is the same byte of it
pub record SameByte (M M' : List Placed) (i i' : ℕ) : Type 0 where
  pub record_same : length M ≡ length M'
  pub byte_same : i ≡ i'

one_carrier : (L : List Placed) → Distinct (carried L) → (p : ℕ) (M : List Placed) (s : Placed) (N : List Placed) (M' : List Placed) (s' : Placed) (N' : List Placed)
    → L ≡ M ++ (s ∷ N) → L ≡ M' ++ (s' ∷ N') → (v : Entry s.carriers p) (w : Entry s'.carriers p) → SameByte M M' v.index w.index
one_carrier [] d p [] s N M' s' N' e f v w = impossible (cc)
one_carrier [] d p (m ∷ M) s N M' s' N' e f v w = impossible (cc)
one_carrier (t ∷ L) d p [] s N [] s' N' e f v w =
    let x : s ≡ t = cc in
    let y : s' ≡ t = cc in
    let u : Distinct s.carriers = rw x (distinct_left t.carriers (carried L) d) in
    let c : s'.carriers ≡ s.carriers = rw (x, y) in
    record { record_same = refl; byte_same = same_index s.carriers v.index w.index u v.inside (rw c at w.inside) (rw v.at (rw (← c) (rw w.at))) }
one_carrier (t ∷ L) d p [] s N (m ∷ M') s' N' e f v w =
    let x : s ≡ t = cc in
    let y : L ≡ M' ++ (s' ∷ N') = cc in
    absurd (distinct_apart t.carriers (carried L) d p (rw (← x) (rw (← v.at) (entry_in s.carriers v.index v.inside)))
    (carrier_in L p (record { among = record { before = M'; here = s'; after = N'; records = y }; byte = w })))
one_carrier (t ∷ L) d p (m ∷ M) s N [] s' N' e f v w =
    let x : s' ≡ t = cc in
    let y : L ≡ M ++ (s ∷ N) = cc in
    absurd (distinct_apart t.carriers (carried L) d p (rw (← x) (rw (← w.at) (entry_in s'.carriers w.index w.inside)))
    (carrier_in L p (record { among = record { before = M; here = s; after = N; records = y }; byte = v })))
one_carrier (t ∷ L) d p (m ∷ M) s N (m' ∷ M') s' N' e f v w =
    let x : L ≡ M ++ (s ∷ N) = cc in
    let y : L ≡ M' ++ (s' ∷ N') = cc in
    let r = one_carrier L (distinct_right t.carriers (carried L) d) p M s N M' s' N' x y v w in
    record { record_same = ap suc r.record_same; byte_same = r.byte_same }

pub carriers-same : (L : List Placed) → Distinct (carried L) → (p : ℕ) (v w : Carrier L p) → SameByte v.among.before w.among.before v.byte.index w.byte.index
carriers-same L d p v w =
    one_carrier L d p v.among.before v.among.here v.among.after w.among.before w.among.here w.among.after v.among.records w.among.records v.byte w.byte

-- ---- records by their kinds

pub kinds-append : (M N : List Placed) → kinds (M ++ N) ≡ kinds M ++ kinds N
kinds-append [] N = refl
kinds-append (s ∷ M) N = ap (λ (ks : List ℕ). s.kind ∷ ks) (kinds-append M N)

pub length-kinds : (L : List Placed) → length (kinds L) ≡ length L
length-kinds [] = refl
length-kinds (s ∷ L) = ap suc (length-kinds L)

-- the record of a kind, by the kinds before and after it
pub record OfKind (L : List Placed) (before : List ℕ) (k : ℕ) (after : List ℕ) : Type 0 where
  pub among : Among L
  pub kinds-before : kinds among.before ≡ before
  pub kind : among.here.kind ≡ k
  pub kinds-after : kinds among.after ≡ after

pub of_kind : (L : List Placed) (before : List ℕ) (k : ℕ) (after : List ℕ) → kinds L ≡ before ++ (k ∷ after) → OfKind L before k after
of_kind [] [] k after e = impossible (cc)
of_kind [] (b ∷ before) k after e = impossible (cc)
of_kind (s ∷ L) [] k after e = record { among = record { before = []; here = s; after = L; records = refl }; kinds-before = refl; kind = cc; kinds-after = cc }
of_kind (s ∷ L) (b ∷ before) k after e =
    let x : s.kind ≡ b = cc in
    let w = of_kind L before k after cc in
    record {
      among = record { before = s ∷ w.among.before; here = w.among.here; after = w.among.after; records = ap (λ (M : List Placed). s ∷ M) w.among.records };
      kinds-before = rw (x, w.kinds-before);
      kind = w.kind;
      kinds-after = w.kinds-after;
    }
