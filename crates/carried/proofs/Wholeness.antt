-- Bytes that are whole records, end to end. What is accepted is whole, and what is whole and walks is accepted.
-- Assumes nothing.
use mathlib.Core.Path.{◌≡◌, refl, sym, ap, ap₂, ◌∙◌, subst}
use mathlib.Core.List.{List, [], ◌∷◌, ◌++◌}
use mathlib.Core.Bool.{Bool, true, false}
use Prim.Native.Nat.{ℕ, zero, suc, ◌≤◌}
use native.Mathlib.Omega.{arith}
use lib.ListN.{length, take, drop, length-append, take-append-drop}
use lib.Seq.{drop-nil, length-take-le}
use lib.Dec.{ltb}
use borrow.Author.Tests.{le-ltb}
use Rattle.words.specs.Words.{body}
use Rattle.carried.specs.Image.{Placed, reading}
use Rattle.carried.specs.Convention.{next, Convention, Scan, stopped, complete, prepend, body_length, scan_from, scan}
use Rattle.carried.specs.Carried.{Sized, kinds}
use Rattle.carried.proofs.Scans.{by_records}
use Rattle.carried.proofs.Readings.{bytes_in, length-body, fits_carriers}
use Rattle.carried.proofs.Walks.{laws_at, Laws, Walk, end, one, walk_sized}

-- these records with a kind byte each and what stands after it, in a list (true) the body
abbrev pub Whole : Bool → List Placed → List ℕ → Type 0
Whole bodies [] l = l ≡ []
Whole bodies (s ∷ L) l = (b : List ℕ) × (rest : List ℕ) × (l ≡ s.kind ∷ (b ++ rest)) × (length b ≡ body_length bodies s.size) × Whole bodies L rest

pub whole_kinds : (L : List Placed) → Whole false L (kinds L)
whole_kinds [] = refl
whole_kinds (s ∷ L) = ([], kinds L, refl, refl, whole_kinds L)

pub whole-reading : (L : List Placed) (img : List ℕ) → Sized L → Whole true L (reading L img)
whole-reading [] img z = refl
whole-reading (s ∷ L) img z = (body s.size (bytes_in s img), reading L img, refl, length-body s img (fits_carriers s z.0), whole-reading L img z.1)

module _ (c : Convention) (laws : Laws c) (bodies : Bool) where
  -- ---- what is accepted is whole

  abbrev Found : ℕ → List ℕ → Scan c.State → Type 0
  Found n l (stopped r at j) = Unit {0}
  Found n l (complete L last) = n ≤ length l → Whole bodies L (drop n l)

  found : (l : List ℕ) (at n : ℕ) (st : c.State) → Found n l (scan_from c bodies at st n l)
  found = by_records c bodies (λ at n st l q. Found n l q) (λ at n st h. drop-nil n) pass (λ at st k l r j s. tt) join
    where
      pass : (b at n : ℕ) (st : c.State) (l : List ℕ) (q : Scan c.State) → Found n l q → Found (suc n) (b ∷ l) q
      pass b at n st l (stopped r at' j) w = tt
      pass b at n st l (complete L last) w = λ h. w (omega arith)

      join : (at : ℕ) (st : c.State) (k : ℕ) (l : List ℕ) (j : ℕ) (p : c.Placement) (st' : c.State) → c.step st k ≡ next j p st' → c.fits st' ≡ true
          → body_length bodies (c.placed_at k j p).size ≤ length l → (q : Scan c.State) → Found (body_length bodies (c.placed_at k j p).size) l q
          → Found 0 (k ∷ l) (prepend (c.placed_at k j p) q)
      join at st k l j p st' e f h (stopped r at' i) w = tt
      join at st k l j p st' e f h (complete L last) w = λ g.
          let n : ℕ = body_length bodies (c.placed_at k j p).size in
          (take n l, drop n l, ap₂ (λ (x : ℕ) (y : List ℕ). x ∷ y) (sym (laws_at c laws e).kind) (sym (take-append-drop n l)), length-take-le n l h, w h)

  pub scan_whole : (l : List ℕ) (L : List Placed) (last : c.State) → scan c bodies l ≡ complete L last → Whole bodies L l
  scan_whole l L last ok = subst (Found 0 l) ok (found l 0 0 c.start) (omega arith)

  -- ---- what is whole and walks is accepted

  -- the bytes of a body are passed over
  pass_body : (b l : List ℕ) (n at : ℕ) (st : c.State) (q : Scan c.State) → length b ≡ n → ((at' : ℕ) → scan_from c bodies at' st 0 l ≡ q) → scan_from c bodies at st n (b ++ l) ≡ q
  pass_body [] l zero at st q e h = h at
  pass_body [] l (suc n) at st q e h = absurd (omega arith)
  pass_body (x ∷ b) l zero at st q e h = absurd (omega arith)
  pass_body (x ∷ b) l (suc n) at st q e h = pass_body b l n (suc at) st q (omega arith) h

  pub whole_scan : {st last : c.State} {ks : List ℕ} {L : List Placed} → Walk c laws st ks L last → (l : List ℕ) (at : ℕ) → Whole bodies L l → scan_from c bodies at st 0 l ≡ complete L last
  whole_scan (end {st = st}) l at w = ap (scan_from c bodies at st 0) w
  whole_scan (one {st = st} {st' = st'} {last = last} {k = k} {j = j} {p = p} {L = L} e f w) l at v =
      let s : Placed = c.placed_at k j p in
      let n : ℕ = body_length bodies s.size in
      let m : List ℕ = v.0 ++ v.1 in
      let is : l ≡ k ∷ m = v.2 ∙ ap (λ (x : ℕ). x ∷ m) (laws_at c laws e).kind in
      let uncut : ltb (length m) n ≡ false = le-ltb (length m) n (omega (arith, length-append v.0 v.1, v.3)) in
      let rest : scan_from c bodies (suc at) st' n m ≡ complete L last = pass_body v.0 v.1 n (suc at) st' (complete L last) v.3 (λ at'. whole_scan w v.1 at' v.4) in
      ap (scan_from c bodies at st 0) is ∙ rw (e, uncut, f, rest)

-- the records of a reading are placed as those of its signature are
pub scan_reading : (c : Convention) (laws : Laws c) {st last : c.State} {ks : List ℕ} {L : List Placed} → Walk c laws st ks L last → (img : List ℕ) (at : ℕ)
    → scan_from c true at st 0 (reading L img) ≡ complete L last
scan_reading c laws {L = L} w img at = whole_scan c laws true w (reading L img) at (whole-reading L img (walk_sized c laws w))
