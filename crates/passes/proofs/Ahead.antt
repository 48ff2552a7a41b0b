-- A later pass over a list or a signature that was accepted: the records still ahead. None is refused, and each is as the step's
-- functions say.
-- Assumes nothing.
use mathlib.Core.Path.{◌≡◌, refl, sym, ap, ◌∙◌, subst}
use mathlib.Core.List.{List, [], ◌∷◌}
use mathlib.Core.Bool.{Bool, true}
use Prim.Native.Nat.{ℕ, ◌+◌, ◌-◌, ◌≤◌, ◌<◌}
use native.Mathlib.Omega.{arith}
use lib.ListN.{length, get_or, drop}
use Rattle.words.specs.Words.{promote}
use Rattle.carried.specs.Image.{Placed}
use Rattle.carried.specs.Convention.{Step, refuse, next, Convention, Scan, stopped, complete, prepend, body_length, taken}
use Rattle.carried.proofs.Walks.{sized_at, laws_at, walked, walk_grows, Walked}
use Rattle.carried.proofs.Records.{scan_at, records_end, record_stops, taken_inside, record_goes_on}
use Rattle.passes.specs.Passes.{Rest, Admitted}
use Rattle.passes.proofs.Premises.{Premises, taken_stepped}
use Rattle.words.proofs.Impossible.{impossible}

-- a scan that begins with a record
data Begun {State : Type 0} (s : Placed) (q : Scan State) (last : State) : List Placed → Type 0 where
  begun : (L : List Placed) → q ≡ complete L last → Begun s q last (s ∷ L)

prepend_complete : {State : Type 0} (s : Placed) (q : Scan State) (L : List Placed) (last : State) → prepend s q ≡ complete L last → Begun s q last L
prepend_complete s (stopped r at j) L last e = impossible (cc)
prepend_complete s (complete M st) L last e =
    let a : s ∷ M ≡ L = cc in
    let b : st ≡ last = cc in
    subst (Begun s (complete M st) last) a (begun M (ap (complete M) b))

-- the records from this place on, of a list or signature whose image has m bytes
pub record Ahead {c : Convention} (given : Premises c) (bodies : Bool) (list : List ℕ) (m : ℕ) (st : c.State) (at : ℕ) : Type 0 where
  pub inside : at ≤ length list
  pub rest : Rest c bodies m st at (drop at list)
  pub bytes : ℕ
  pub held : given.Held bytes st

abbrev pub ahead_starts : {c : Convention} (given : Premises c) {bodies : Bool} {list : List ℕ} {m : ℕ} → Admitted c bodies list m → Ahead given bodies list m c.start 0
ahead_starts given a = record { inside = omega arith; rest = a; bytes = 0; held = given.held_first }

pub ahead_ends : {c : Convention} {given : Premises c} {bodies : Bool} {list : List ℕ} {m : ℕ} {st : c.State} {at : ℕ} (w : Ahead given bodies list m st at)
    → length list ≤ at → w.rest.placed ≡ []
ahead_ends {c} {given} {bodies} {list} {m} {st} {at} w h =
    let e : complete [] st ≡ complete w.rest.placed w.rest.last = sym (records_end c bodies list at st w.inside h) ∙ w.rest.scanned in
    cc

module _ {c : Convention} {given : Premises c} {bodies : Bool} {list : List ℕ} {m : ℕ} {st : c.State} {at : ℕ} (w : Ahead given bodies list m st at) (h : at < length list) where
  abbrev k : ℕ
  k = get_or list at 0

  -- the record at this place, placed
  abbrev pub record_here : Placed
  record_here = c.placed_at k (given.number st k) (given.place st k)

  abbrev pub state_next : c.State
  state_next = given.advance st k

  abbrev pub place_next : ℕ
  place_next = at + 1 + body_length bodies record_here.size

  pub ahead_taken : taken c bodies (length list - (at + 1)) st k ≡ next (given.number st k) (given.place st k) state_next
  ahead_taken = go (taken c bodies (length list - (at + 1)) st k) refl
    where
      go : (s : Step c.Placement c.State) → taken c bodies (length list - (at + 1)) st k ≡ s
          → taken c bodies (length list - (at + 1)) st k ≡ next (given.number st k) (given.place st k) state_next
      go (refuse r j) e =
          let z : stopped r at j ≡ complete w.rest.placed w.rest.last = sym (record_stops c bodies list at st h r j e) ∙ w.rest.scanned in
          impossible (cc)
      go (next j p st') e = e ∙ given.stepped st k j p st' (taken_stepped c bodies (length list - (at + 1)) st k e).0

  pub ahead_stepped : (c.step st k ≡ next (given.number st k) (given.place st k) state_next) × (c.fits state_next ≡ true)
  ahead_stepped = taken_stepped c bodies (length list - (at + 1)) st k ahead_taken

  pub ahead_inside : place_next ≤ length list
  ahead_inside = taken_inside c bodies list at st h (given.number st k) (given.place st k) state_next ahead_taken

  pub ahead_sized : (b : List ℕ) → length b ≡ record_here.size → length (promote record_here.extension b) ≡ length record_here.carriers
  ahead_sized = sized_at c given.laws {st = st} {k = k} ahead_stepped.0

  pub ahead_kind : record_here.kind ≡ k
  ahead_kind = (laws_at c given.laws {st = st} {k = k} ahead_stepped.0).kind

  -- the records after this one
  pub record Next (at' : ℕ) : Type 0 where
    pub rest : Ahead given bodies list m state_next at'
    pub split : w.rest.placed ≡ record_here ∷ rest.rest.placed
    pub room : c.image_length state_next ≤ m

  pub ahead_next : {at' : ℕ} → at' ≡ place_next → Next at'
  ahead_next e = rw e (
      go w.rest.placed (prepend_complete record_here (scan_at c bodies list place_next state_next) w.rest.placed w.rest.last
      (sym (record_goes_on c bodies list at st h (given.number st k) (given.place st k) state_next ahead_taken) ∙ w.rest.scanned)) refl)
    where
      go : (L : List Placed) → Begun record_here (scan_at c bodies list place_next state_next) w.rest.last L → w.rest.placed ≡ L → Next place_next
      go _ (begun M f) q =
          let v : Walked c given.laws bodies 0 (drop place_next list) state_next M w.rest.last = walked c given.laws bodies (drop place_next list) place_next 0 state_next M w.rest.last f in
          record {
            rest = record {
              inside = ahead_inside;
              rest = record { placed = M; last = w.rest.last; scanned = f; whole = w.rest.whole };
              bytes = w.bytes + 1 + record_here.size;
              held = given.held_next w.bytes st k (given.number st k) (given.place st k) state_next w.held ahead_stepped.0 ahead_stepped.1;
            };
            split = q;
            room = omega (arith, w.rest.whole, walk_grows c given.laws v.walk);
          }
