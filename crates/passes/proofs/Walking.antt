-- The first pass over the records of a list or a signature: what holds at each record, at the end, and where one is refused.
-- Assumes nothing.
use mathlib.Core.Path.{◌≡◌, refl, sym, ap, ◌∙◌}
use mathlib.Core.List.{List}
use mathlib.Core.Bool.{Bool}
use Prim.Native.Nat.{ℕ, ◌+◌, ◌-◌, ◌≤◌, ◌<◌}
use native.Mathlib.Omega.{arith}
use lib.ListN.{length, get_or}
use Rattle.carried.specs.Image.{Placed}
use Rattle.carried.specs.Convention.{refuse, next, Convention, Scan, stopped, complete, prepend, body_length, taken, scan}
use Rattle.carried.proofs.Records.{scan_at, records_end, record_stops, taken_inside, record_goes_on}
use Rattle.passes.specs.Found.{Found}
use Rattle.passes.specs.Found as F
use Rattle.passes.specs.Passes.{measured}
use Rattle.passes.proofs.Premises.{Premises, taken_stepped}

-- what is measured, where records of n bytes stand before
abbrev further : ℕ → Found → Found
further n (F.refused r p j) = F.refused r p j
further n (F.accepted m i) = F.accepted (n + m) i

further-none : (q : Found) → further 0 q ≡ q
further-none (F.refused r p j) = refl
further-none (F.accepted m i) = ap (λ (x : ℕ). F.accepted x i) (omega arith)

further-prepend : (c : Convention) (n : ℕ) (s : Placed) (q : Scan c.State) → further n (measured c (prepend s q)) ≡ further (n + 1 + s.size) (measured c q)
further-prepend c n s (stopped r at j) = refl
further-prepend c n s (complete L st) = ap (λ (x : ℕ). F.accepted x (c.image_length st)) (omega arith)

-- at this place and state, after records of n bytes, the pass has found what the whole has
pub record Walking {c : Convention} (given : Premises c) (bodies : Bool) (list : List ℕ) (st : c.State) (n at : ℕ) : Type 0 where
  pub inside : at ≤ length list
  pub ahead : measured c (scan c bodies list) ≡ further n (measured c (scan_at c bodies list at st))
  pub held : given.Held n st

pub walk_starts : {c : Convention} (given : Premises c) (bodies : Bool) (list : List ℕ) {st : c.State} → st ≡ c.start → Walking given bodies list st 0 0
walk_starts {c} given bodies list e = record { inside = omega arith; ahead = rw e (sym (further-none (measured c (scan c bodies list)))); held = rw e given.held_first }

module _ {c : Convention} {given : Premises c} {bodies : Bool} {list : List ℕ} {st : c.State} {n at : ℕ} (w : Walking given bodies list st n at) where
  pub walk_ends : length list ≤ at → {m : ℕ} → m ≡ c.image_length st → F.accepted n m ≡ measured c (scan c bodies list)
  walk_ends h i =
      ap (F.accepted n) i
      ∙ sym (w.ahead ∙ ap (λ (q : Scan c.State). further n (measured c q)) (records_end c bodies list at st w.inside h) ∙ ap (λ (x : ℕ). F.accepted x (c.image_length st)) (omega arith))

  pub walk_small : n ≤ 4096
  walk_small = given.held_small n st w.held

  module _ (h : at < length list) where
    pub walk_refused : {r j : ℕ} → taken c bodies (length list - (at + 1)) st (get_or list at 0) ≡ refuse r j → F.refused r at j ≡ measured c (scan c bodies list)
    walk_refused {r} {j} e = sym (w.ahead ∙ ap (λ (q : Scan c.State). further n (measured c q)) (record_stops c bodies list at st h r j e))

    module _ {j : ℕ} {p : c.Placement} {st' : c.State} (e : taken c bodies (length list - (at + 1)) st (get_or list at 0) ≡ next j p st') where
      abbrev size : ℕ
      size = (c.placed_at (get_or list at 0) j p).size

      pub walk_size : size ≤ 4096
      walk_size = given.size_small st (get_or list at 0) j p st' (taken_stepped c bodies (length list - (at + 1)) st (get_or list at 0) e).0

      pub walk_inside : at + 1 + body_length bodies size ≤ length list
      walk_inside = taken_inside c bodies list at st h j p st' e

      pub walk_turn : Walking given bodies list st' (n + 1 + size) (at + 1 + body_length bodies size)
      walk_turn =
          let s = taken_stepped c bodies (length list - (at + 1)) st (get_or list at 0) e in
          record {
            inside = walk_inside;
            ahead =
                w.ahead
                ∙ ap (λ (q : Scan c.State). further n (measured c q)) (record_goes_on c bodies list at st h j p st' e)
                ∙ further-prepend c n (c.placed_at (get_or list at 0) j p) (scan_at c bodies list (at + 1 + body_length bodies size) st');
            held = given.held_next n st (get_or list at 0) j p st' w.held s.0 s.1;
          }
