-- What each step of a convention must give, and what follows for a whole signature: each record's bytes are new, and inside the image.
-- Assumes nothing.
use mathlib.Core.Path.{◌≡◌, refl, sym, ap, ap₂, subst}
use mathlib.Core.List.{List, [], ◌∷◌, ◌++◌}
use mathlib.Core.Bool.{Bool, true, false}
use Prim.Native.Nat.{ℕ, suc, ◌≤◌, ◌<◌}
use native.Mathlib.Omega.{arith}
use lib.ListN.{length}
use Rattle.words.specs.Words.{promote}
use Rattle.carried.specs.Image.{Placed, carried}
use Rattle.carried.specs.Convention.{Step, refuse, next, Convention, Scan, stopped, complete, prepend, body_length, scan_from, scan}
use Rattle.places.specs.Places.{In, Distinct}
use Rattle.carried.specs.Carried.{Sized, kinds, OneEach}
use Rattle.places.proofs.Places.{in_cases, distinct_append}
use Rattle.carried.proofs.Scans.{by_records}

-- Free st p: image byte p may still be given to an argument after this state. What one step must give: the
-- bytes of its record were free, are used after it, are distinct, are one for each byte of the argument, and lie in the image.
pub record StepLaws (c : Convention) (Free : c.State → ℕ → Type 0) (st : c.State) (k : ℕ) (s : Placed) (st' : c.State) : Type 0 where
  pub kind : s.kind ≡ k
  pub sized : (b : List ℕ) → length b ≡ s.size → length (promote s.extension b) ≡ length s.carriers
  pub apart : Distinct s.carriers
  pub free : (p : ℕ) → In p s.carriers → Free st p
  pub used : (p : ℕ) → In p s.carriers → Free st' p → ⊥
  pub keeps : (p : ℕ) → Free st' p → Free st p
  pub inside : (p : ℕ) → In p s.carriers → p < c.image_length st'
  pub grows : c.image_length st ≤ c.image_length st'

abbrev pub StepLawful : (c : Convention) → (c.State → ℕ → Type 0) → c.State → ℕ → Step c.Placement c.State → Type 0
StepLawful c Free st k (refuse r j) = Unit {0}
StepLawful c Free st k (next j p st') = StepLaws c Free st k (c.placed_at k j p) st'

pub record Laws (c : Convention) : Type 1 where
  pub Free : c.State → ℕ → Type 0
  pub steps : (st : c.State) (k : ℕ) → StepLawful c Free st k (c.step st k)

module _ (c : Convention) (laws : Laws c) where
  -- the records of an accepted list or signature, step by step
  pub data Walk : c.State → List ℕ → List Placed → c.State → Type 0 where
    end : {st : c.State} → Walk st [] [] st
    one : {st st' last : c.State} {k j : ℕ} {p : c.Placement} {ks : List ℕ} {L : List Placed}
        → c.step st k ≡ next j p st' → c.fits st' ≡ true → Walk st' ks L last → Walk st (k ∷ ks) (c.placed_at k j p ∷ L) last

  -- the records of a scan walk by some kinds; those of a signature by the signature itself
  pub record Walked (bodies : Bool) (n : ℕ) (l : List ℕ) (st : c.State) (L : List Placed) (last : c.State) : Type 0 where
    pub kinds_of : List ℕ
    pub walk : Walk st kinds_of L last
    pub all : bodies ≡ false → n ≡ 0 → kinds_of ≡ l

  abbrev Found : Bool → ℕ → List ℕ → c.State → Scan c.State → Type 0
  Found bodies n l st (stopped r at j) = Unit {0}
  Found bodies n l st (complete L last) = Walked bodies n l st L last

  found : (bodies : Bool) (l : List ℕ) (at n : ℕ) (st : c.State) → Found bodies n l st (scan_from c bodies at st n l)
  found bodies = by_records c bodies (λ at n st l q. Found bodies n l st q) (λ at n st. record { kinds_of = []; walk = end; all = λ b z. refl }) pass (λ at st k l r j s. tt) join
    where
      pass : (b at n : ℕ) (st : c.State) (l : List ℕ) (q : Scan c.State) → Found bodies n l st q → Found bodies (suc n) (b ∷ l) st q
      pass b at n st l (stopped r at' j) w = tt
      pass b at n st l (complete L last) w = record { kinds_of = w.kinds_of; walk = w.walk; all = λ b z. absurd (omega arith) }

      join : (at : ℕ) (st : c.State) (k : ℕ) (l : List ℕ) (j : ℕ) (p : c.Placement) (st' : c.State) → c.step st k ≡ next j p st' → c.fits st' ≡ true
          → body_length bodies (c.placed_at k j p).size ≤ length l → (q : Scan c.State) → Found bodies (body_length bodies (c.placed_at k j p).size) l st' q
          → Found bodies 0 (k ∷ l) st (prepend (c.placed_at k j p) q)
      join at st k l j p st' e f h (stopped r at' i) w = tt
      join at st k l j p st' e f h (complete L last) w = record { kinds_of = k ∷ w.kinds_of; walk = one e f w.walk; all = λ b y. ap (λ (r : List ℕ). k ∷ r) (w.all b (rw b refl)) }

  pub walked : (bodies : Bool) (l : List ℕ) (at n : ℕ) (st : c.State) (L : List Placed) (last : c.State) → scan_from c bodies at st n l ≡ complete L last → Walked bodies n l st L last
  walked bodies l at n st L last e = subst (Found bodies n l st) e (found bodies l at n st)

  pub walk_of : (ks : List ℕ) (st : c.State) (L : List Placed) (last : c.State) (at : ℕ) → scan_from c false at st 0 ks ≡ complete L last → Walk st ks L last
  walk_of ks st L last at e =
      let w : Walked false 0 ks st L last = walked false ks at 0 st L last e in
      subst (λ (x : List ℕ). Walk st x L last) (w.all refl refl) w.walk

  pub laws_at : {st st' : c.State} {k j : ℕ} {p : c.Placement} → c.step st k ≡ next j p st' → StepLaws c laws.Free st k (c.placed_at k j p) st'
  laws_at {st} {st'} {k} {j} {p} e = subst (StepLawful c laws.Free st k) e (laws.steps st k)

  pub sized_at : {st st' : c.State} {k j : ℕ} {p : c.Placement} → c.step st k ≡ next j p st'
      → (b : List ℕ) → length b ≡ (c.placed_at k j p).size → length (promote (c.placed_at k j p).extension b) ≡ length (c.placed_at k j p).carriers
  sized_at e = (laws_at e).sized

  pub walk-kinds : {st last : c.State} {ks : List ℕ} {L : List Placed} → Walk st ks L last → kinds L ≡ ks
  walk-kinds end = refl
  walk-kinds (one e f w) = ap₂ (λ (k : ℕ) (r : List ℕ). k ∷ r) (laws_at e).kind (walk-kinds w)

  -- what is accepted walks by its kinds
  pub walk_by_kinds : (bodies : Bool) (l : List ℕ) (L : List Placed) (last : c.State) → scan c bodies l ≡ complete L last → Walk c.start (kinds L) L last
  walk_by_kinds bodies l L last e =
      let w : Walked bodies 0 l c.start L last = walked bodies l 0 0 c.start L last e in
      subst (λ (ks : List ℕ). Walk c.start ks L last) (sym (walk-kinds w.walk)) w.walk

  pub walk_sized : {st last : c.State} {ks : List ℕ} {L : List Placed} → Walk st ks L last → Sized L
  walk_sized end = tt
  walk_sized (one e f w) = ((laws_at e).sized, walk_sized w)

  pub walk_grows : {st last : c.State} {ks : List ℕ} {L : List Placed} → Walk st ks L last → c.image_length st ≤ c.image_length last
  walk_grows end = omega arith
  walk_grows (one e f w) = omega (arith, (laws_at e).grows, walk_grows w)

  pub walk_fits : {st last : c.State} {ks : List ℕ} {L : List Placed} → Walk st ks L last → c.fits st ≡ true → c.fits last ≡ true
  walk_fits end h = h
  walk_fits (one e f w) h = walk_fits w f

  walk_free : {st last : c.State} {ks : List ℕ} {L : List Placed} → Walk st ks L last → (p : ℕ) → In p (carried L) → laws.Free st p
  walk_free end p m = absurd m
  walk_free (one {k = k} {j = j} {p = q} {L = L} e f w) p m =
      in_cases (c.placed_at k j q).carriers (carried L) p m ((laws_at e).free p) (λ m'. (laws_at e).keeps p (walk_free w p m'))

  walk_inside : {st last : c.State} {ks : List ℕ} {L : List Placed} → Walk st ks L last → (p : ℕ) → In p (carried L) → p < c.image_length last
  walk_inside end p m = absurd m
  walk_inside (one {k = k} {j = j} {p = q} {L = L} e f w) p m =
      in_cases (c.placed_at k j q).carriers (carried L) p m (λ m'. omega (arith, (laws_at e).inside p m', walk_grows w)) (λ m'. walk_inside w p m')

  walk_distinct : {st last : c.State} {ks : List ℕ} {L : List Placed} → Walk st ks L last → Distinct (carried L)
  walk_distinct end = tt
  walk_distinct (one {k = k} {j = j} {p = q} {L = L} e f w) =
      distinct_append (c.placed_at k j q).carriers (carried L) (laws_at e).apart (walk_distinct w) (λ p m m'. (laws_at e).used p m (walk_free w p m'))

  pub walk_one_each : {st last : c.State} {ks : List ℕ} {L : List Placed} → Walk st ks L last → OneEach (c.image_length last) L
  walk_one_each w = record { sized = walk_sized w; distinct = walk_distinct w; inside = λ p m. walk_inside w p m }

  -- a walk, taken apart at one of its kinds
  pub record WalkTo (st : c.State) (xs : List ℕ) (k : ℕ) : Type 0 where
    pub placed : List Placed
    pub reached : c.State
    pub number : ℕ
    pub place : c.Placement
    pub onward : c.State
    pub before : Walk st xs placed reached
    pub stepped : c.step reached k ≡ next number place onward
    pub fitting : c.fits onward ≡ true

  pub walk_to : (xs : List ℕ) (k : ℕ) (ys : List ℕ) {st last : c.State} {L : List Placed} → Walk st (xs ++ (k ∷ ys)) L last → WalkTo st xs k
  walk_to [] k ys (one {st = st} {st' = st'} {j = j} {p = p} e f w) = record {
    placed = [];
    reached = st;
    number = j;
    place = p;
    onward = st';
    before = end;
    stepped = e;
    fitting = f;
  }
  walk_to (x ∷ xs) k ys (one {j = j} {p = p} e f w) =
      let r : WalkTo _ xs k = walk_to xs k ys w in
      record {
        placed = c.placed_at x j p ∷ r.placed;
        reached = r.reached;
        number = r.number;
        place = r.place;
        onward = r.onward;
        before = one e f r.before;
        stepped = r.stepped;
        fitting = r.fitting;
      }
