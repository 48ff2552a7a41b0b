-- How far a scan reaches: each record takes its bytes of the arguments' end and counts as one argument, or it is the one marker.
-- So every refusal's place, and the length of every accepted list, is at most 1,024 + 32 + 1, and an argument's number at most 33.
-- Assumes nothing.
use mathlib.Core.Path.{◌≡◌, refl, subst}
use mathlib.Core.List.{List, [], ◌∷◌}
use mathlib.Core.Bool.{Bool, true, false, cond, not, ◌&&◌, ◌||◌}
use Prim.Native.Nat.{ℕ, suc, ◌+◌, ◌≤◌}
use native.Mathlib.Omega.{arith}
use lib.ListN.{length}
use lib.Dec.{leb}
use borrow.Author.Tests.{leb-true, leb-false}
use Rattle.words.proofs.Impossible.{impossible}
use Rattle.device.specs.declared.Device.{Device}
use Rattle.carried.specs.Image.{Placed, reading}
use Rattle.carried.specs.Convention.{Step, refuse, next, Scan, stopped, complete, prepend, body_length, taken, scan_from, scan}
use Rattle.carried.proofs.Walks.{walk_of}
use Rattle.carried.proofs.Wholeness.{scan_reading}
use Rattle.carried.proofs.Scans.{by_step, by_limits, stops, Stops, by_records}
use Rattle.kinds.specs.declared.Class.TheVariants.{Unknown, Marker}
use Rattle.kinds.specs.declared.Kind.{Kind}
use Rattle.o32.specs.declared.State.{State}
use Rattle.o32.specs.declared.Placement.{Placement}
use Rattle.kinds.specs.Kinds.{kind_of, is}
use Rattle.o32_offsets.specs.Offsets.{width}
use Rattle.rules.specs.Rules.{misplaced, full, argument}
use Rattle.o32.specs.O32.{advance, placement, stepped, start, O32}
use Rattle.kinds.proofs.KindFacts.{Facts, kind_facts}
use Rattle.o32_laws.proofs.Laws.{O32-laws}
use Rattle.o32_offsets.proofs.Offsets.{up-ge, body_within}

-- ---- one step

-- how many bytes of a list can stand before this state
abbrev room : State → ℕ
room st = st.end + st.prefix.count + cond st.prefix.marked 1 0

-- a record that is placed has room for its kind byte and its body
pub record Grown (st : State) (k : Kind) (j : ℕ) (p : Placement) (st' : State) : Type 0 where
  number : j ≤ st.prefix.count + 1
  size : p.kind.size ≡ k.size
  more : room st + 1 + k.size ≤ room st'
  pub few : st.prefix.count ≤ 32 → st'.prefix.count ≤ 32

abbrev pub Grows : State → Kind → Step Placement State → Type 0
Grows st k (refuse r j) = j ≤ st.prefix.count + 1
Grows st k (next j p st') = Grown st k j p st'

argument-le : (st : State) (k : Kind) → argument st.prefix k ≤ st.prefix.count + 1
argument-le st k = go (is Unknown k || is Marker k)
  where
    go : (t : Bool) → cond t 0 (st.prefix.count + 1) ≤ st.prefix.count + 1
    go true = omega arith
    go false = omega arith

-- a marker that is placed has no other before it (m), and an argument (a is that there is none)
pub marker_rightly : (t m a b : Bool) → (t && (m || a)) || b ≡ false → t ≡ true → (m ≡ false) × (a ≡ false)
marker_rightly true true a b e f = impossible (cc)
marker_rightly true false true b e f = impossible (cc)
marker_rightly true false false b e f = (refl, refl)
marker_rightly false m a b e f = impossible (cc)

-- an argument that is placed is at most the 32nd
pub not_full : (t a : Bool) → not t && a ≡ false → t ≡ false → a ≡ false
not_full true a e f = cc
not_full false a e f = e

module _ (d : Device) (st : State) (k : Kind) (s : Facts k) where
  grown : is Unknown k ≡ false → misplaced st.prefix k ≡ false → full st.prefix k ≡ false → Grown st k (argument st.prefix k) (placement d st k) (advance st k)
  grown u e f = go (is Marker k) refl
    where
      go : (t : Bool) → is Marker k ≡ t → Grown st k (argument st.prefix k) (placement d st k) (advance st k)
      go true g =
          let m : st.prefix.marked ≡ false = (marker_rightly (is Marker k) st.prefix.marked _ _ e g).0 in
          let z : (k.size ≡ 0) × (k.alignment ≡ 0) = s.markers g in
          record { number = argument-le st k; size = refl; more = rw (g, m) (omega arith); few = rw g (λ h. h) }
      go false g =
          let n : leb 32 st.prefix.count ≡ false = not_full (is Marker k) (leb 32 st.prefix.count) f g in
          let a : 1 ≤ k.alignment = s.aligned (rw (u, g) refl) in
          record {
            number = argument-le st k;
            size = refl;
            more = rw g (omega (arith, up-ge k.alignment st.end a, up-ge 4 (width k) (omega arith), body_within k s));
            few = rw g (λ h. omega (arith, leb-false 32 st.prefix.count n));
          }

  grows : Grows st k (stepped d st k)
  grows = go (is Unknown k) (misplaced st.prefix k) (full st.prefix k) refl refl refl
    where
      go : (u m f : Bool) → is Unknown k ≡ u → misplaced st.prefix k ≡ m → full st.prefix k ≡ f
          → Grows st k (cond u (refuse 1 (argument st.prefix k)) (cond m (refuse 2 (argument st.prefix k)) (cond f (refuse 3 (argument st.prefix k)) (next (argument st.prefix k) (placement d st k) (advance st k)))))
      go true m f h e g = argument-le st k
      go false true f h e g = argument-le st k
      go false false true h e g = argument-le st k
      go false false false h e g = grown h e g

pub step_grows : (d : Device) (st : State) (k : ℕ) {s : Step Placement State} → (O32 d).step st k ≡ s → Grows st (kind_of k) s
step_grows d st k e = subst (Grows st (kind_of k)) e (grows d st (kind_of k) (kind_facts k))

-- ---- all steps

-- what holds at a byte of a list, with n bytes of a body still to pass
pub record Held (at n : ℕ) (st : State) : Type 0 where
  before : at + n ≤ room st
  pub fits : st.end ≤ 1024
  pub few : st.prefix.count ≤ 32

pub held_starts : Held 0 0 start
held_starts = record { before = omega arith; fits = omega arith; few = omega arith }

-- a record that is placed passes on what holds, to any byte of it and after it
pub held_on : {at : ℕ} {st st' : State} {k : Kind} {j : ℕ} {p : Placement} → Held at 0 st → Grown st k j p st' → st'.end ≤ 1024 → (a b : ℕ) → a + b ≤ at + 1 + k.size → Held a b st'
held_on h g f a b l = record { before = omega (arith, h.before, g.more); fits = f; few = g.few h.few }

-- the arguments' numbers
abbrev pub Numbers : List Placed → Type 0
Numbers [] = Unit {0}
Numbers (s ∷ L) = (s.argument ≤ 33) × Numbers L

-- n bytes that are accepted, their records, and the state after them
pub record Reached (n : ℕ) (L : List Placed) (last : State) : Type 0 where
  pub long : n ≤ 1057
  pub numbers : Numbers L
  pub fits : last.end ≤ 1024

-- the place and the argument of a refusal, or the bytes of what is accepted
abbrev Reaches : ℕ → Scan State → Type 0
Reaches n (stopped r p j) = (p ≤ 1057) × (j ≤ 33)
Reaches n (complete L last) = Reached n L last

one_marker : (t : Bool) → cond t 1 0 ≤ 1
one_marker true = omega arith
one_marker false = omega arith

pub held_place : (at n : ℕ) (st : State) → Held at n st → at + n ≤ 1057
held_place at n st h = omega (arith, h.before, h.fits, h.few, one_marker st.prefix.marked)

after-le : (bodies : Bool) (n : ℕ) → body_length bodies n ≤ n
after-le true n = omega arith
after-le false n = omega arith

prepend_reaches : (n m : ℕ) (s : Placed) (q : Scan State) → n ≡ m → s.argument ≤ 33 → Reaches n q → Reaches m (prepend s q)
prepend_reaches n m s (stopped r p j) e a h = h
prepend_reaches n m s (complete L last) e a h = record { long = omega (arith, h.long); numbers = (a, h.numbers); fits = h.fits }

reaches : (d : Device) (bodies : Bool) (l : List ℕ) (at n : ℕ) (st : State) → Held at n st → Reaches (at + length l) (scan_from (O32 d) bodies at st n l)
reaches d bodies = by_records (O32 d) bodies (λ at n st l q. Held at n st → Reaches (at + length l) q)
    (λ at n st h. record { long = omega (arith, held_place at n st h); numbers = tt; fits = h.fits }) pass stop join
  where
    named : (st : State) (k r j : ℕ) → Stops (O32 d) bodies st k r j → j ≤ st.prefix.count + 1
    named st k r j (by_step e) = step_grows d st k e
    named st k r j (by_limits p st' e) = (step_grows d st k e).number

    pass : (b at n : ℕ) (st : State) (l : List ℕ) (q : Scan State) → (Held (suc at) n st → Reaches (suc at + length l) q) → Held at (suc n) st → Reaches (at + length (b ∷ l)) q
    pass b at n st l q w h = subst (λ (m : ℕ). Reaches m q) (omega arith) (w (record { before = omega (arith, h.before); fits = h.fits; few = h.few }))

    stop : (at : ℕ) (st : State) (k : ℕ) (l : List ℕ) (r j : ℕ) → taken (O32 d) bodies (length l) st k ≡ refuse r j → Held at 0 st → Reaches (at + length (k ∷ l)) (stopped r at j)
    stop at st k l r j e h = (omega (arith, held_place at 0 st h), omega (arith, named st k r j (stops (O32 d) bodies (length l) st k r j e), h.few))

    join : (at : ℕ) (st : State) (k : ℕ) (l : List ℕ) (j : ℕ) (p : Placement) (st' : State) → (O32 d).step st k ≡ next j p st' → leb st'.end 1024 ≡ true
        → body_length bodies p.kind.size ≤ length l → (q : Scan State) → (Held (suc at) (body_length bodies p.kind.size) st' → Reaches (suc at + length l) q)
        → Held at 0 st → Reaches (at + length (k ∷ l)) (prepend ((O32 d).placed_at k j p) q)
    join at st k l j p st' e f i q w h =
        let g : Grown st (kind_of k) j p st' = step_grows d st k e in
        let v : Held (suc at) (body_length bodies p.kind.size) st' = held_on h g (leb-true st'.end 1024 f) (suc at) (body_length bodies p.kind.size) (omega (arith, g.size, after-le bodies p.kind.size)) in
        prepend_reaches (suc at + length l) (at + length (k ∷ l)) ((O32 d).placed_at k j p) q (omega arith) (omega (arith, g.number, h.few)) (w v)

-- ---- a whole list or signature

module _ (d : Device) (bodies : Bool) (l : List ℕ) where
  scanned : Reaches (0 + length l) (scan (O32 d) bodies l)
  scanned = reaches d bodies l 0 0 start held_starts

  pub refusal_bound : (r p j : ℕ) → scan (O32 d) bodies l ≡ stopped r p j → (p ≤ 1057) × (j ≤ 33)
  refusal_bound r p j e = subst (Reaches (0 + length l)) e scanned

  pub scan_bound : (L : List Placed) (last : State) → scan (O32 d) bodies l ≡ complete L last → Reached (length l) L last
  scan_bound L last e =
      let w : Reached (0 + length l) L last = subst (Reaches (0 + length l)) e scanned in
      record { long = omega (arith, w.long); numbers = w.numbers; fits = w.fits }

-- a reading is an accepted list
pub reading_long : (d : Device) (sig img : List ℕ) (L : List Placed) (last : State) → scan (O32 d) false sig ≡ complete L last → length (reading L img) ≤ 1057
reading_long d sig img L last e =
    (scan_bound d true (reading L img) L last (scan_reading (O32 d) (O32-laws d) (walk_of (O32 d) (O32-laws d) sig start L last 0 e) img 0)).long
