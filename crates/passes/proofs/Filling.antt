-- The writer's pass over an accepted list: at each record, the bytes still to be stored make of the image what the whole list makes
-- of it.
-- Assumes nothing.
use mathlib.Core.Path.{◌≡◌, refl, sym, ap, ◌∙◌}
use mathlib.Core.List.{List, [], ◌∷◌, ◌++◌}
use mathlib.Core.Bool.{true}
use Prim.Native.Nat.{ℕ, ◌+◌, ◌≤◌, ◌<◌}
use native.Mathlib.Omega.{arith}
use native.Mathlib.Numerals.{add-one}
use lib.ListN.{length, take, drop, replicate, length-drop, length-replicate}
use lib.Seq.{drop-cons, drop-drop, length-take-le}
use Rattle.words.specs.Words.{promote}
use Rattle.places.specs.Places.{put}
use Rattle.places.proofs.Places.{put-append, put_left}
use Rattle.carried.specs.Image.{Placed, carried, promoted_bytes, image}
use Rattle.carried.specs.Convention.{Convention, scan}
use Rattle.carried.specs.Carried.{OneEach}
use Rattle.carried.proofs.Walks.{walked, walk_one_each}
use Rattle.passes.specs.Passes.{placed_in, Admitted}
use Rattle.passes.proofs.Premises.{Premises}
use Rattle.passes.proofs.Ahead.{Ahead, ahead_starts, ahead_ends, record_here, state_next, ahead_inside, ahead_sized, Next, ahead_next}

pub record Filling {c : Convention} (given : Premises c) (list : List ℕ) (m : ℕ) (final : List ℕ) (st : c.State) (at : ℕ) (img : List ℕ) : Type 0 where
  pub ahead : Ahead given true list m st at
  pub rest : put img (carried ahead.rest.placed) (promoted_bytes ahead.rest.placed (drop at list)) ≡ final

pub fill_starts : {c : Convention} (given : Premises c) {list : List ℕ} {m : ℕ} (img : List ℕ) {st : c.State} → st ≡ c.start → Admitted c true list m
    → Filling given list m (put img (carried (placed_in (scan c true list))) (promoted_bytes (placed_in (scan c true list)) list)) st 0 img
fill_starts given img e a = rw (e, a.scanned) (record { ahead = ahead_starts given a; rest = refl })

module _ {c : Convention} {given : Premises c} {list : List ℕ} {m : ℕ} {final : List ℕ} {st : c.State} {at : ℕ} {img : List ℕ} (w : Filling given list m final st at img) where
  pub fill_turn : (h : at < length list) {img' : List ℕ}
      → img' ≡ put img (record_here w.ahead h).carriers (promote (record_here w.ahead h).extension (take (record_here w.ahead h).size (drop (at + 1) list)))
      → Filling given list m final (state_next w.ahead h) (at + 1 + (record_here w.ahead h).size) img'
  fill_turn h i =
      let s : Placed = record_here w.ahead h in
      let v : Next w.ahead h (at + 1 + s.size) = ahead_next w.ahead h refl in
      let M : List Placed = v.rest.rest.placed in
      let b : List ℕ = take s.size (drop (at + 1) list) in
      let vs : List ℕ = promote s.extension b in
      let more : List ℕ = promoted_bytes M (drop (at + 1 + s.size) list) in
      let l : at + 1 + s.size ≤ length list = ahead_inside w.ahead h in
      let long : length b ≡ s.size = length-take-le s.size (drop (at + 1) list) (rw length-drop (omega arith)) in
      let q : promoted_bytes (s ∷ M) (drop at list) ≡ vs ++ more = ap (promoted_bytes (s ∷ M)) (drop-cons list at 0 h) ∙ (rw (drop-drop, ← (add-one at))) in
      record {
        ahead = v.rest;
        rest =
            ap (λ (x : List ℕ). put x (carried M) more) i
            ∙ sym (put-append img s.carriers (carried M) vs more (ahead_sized w.ahead h b long))
            ∙ ap (put img (s.carriers ++ carried M)) (sym q)
            ∙ (rw v.split at w.rest);
      }

-- an image in a buffer that was cleared, then filled
pub filled-image : {c : Convention} (given : Premises c) {list : List ℕ} {m : ℕ} (out : List ℕ) → Admitted c true list m
    → put (replicate m 0 ++ drop m out) (carried (placed_in (scan c true list))) (promoted_bytes (placed_in (scan c true list)) list) ≡ image m (placed_in (scan c true list)) list ++ drop m out
filled-image {c} given {list} {m} out a =
    let L : List Placed = a.placed in
    let inside : OneEach m L = rw a.whole (walk_one_each c given.laws (walked c given.laws true list 0 0 c.start L a.last a.scanned).walk) in
    rw a.scanned (put_left (replicate m 0) (drop m out) (carried L) (promoted_bytes L list) (λ p i. rw length-replicate (inside.inside p i)))
