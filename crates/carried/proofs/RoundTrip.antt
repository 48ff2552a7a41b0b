-- Reading what the writer wrote gives the list back, for every accepted list of every convention.
-- Assumes nothing.
use mathlib.Core.Path.{◌≡◌, refl, sym, ap, ap₂, ◌∙◌}
use mathlib.Core.List.{List, [], ◌∷◌, ◌++◌}
use mathlib.Core.Bool.{true, false}
use Prim.Native.Nat.{ℕ, ◌+◌, ◌-◌}
use native.Mathlib.Omega.{arith}
use lib.ListN.{length, take, drop, replicate, length-append, length-replicate}
use lib.Seq.{take_at, drop_at}
use Rattle.words.specs.Words.{promote, front, body}
use Rattle.words.proofs.Bytes.{same_true}
use Rattle.places.specs.Places.{gather}
use Rattle.carried.specs.Image.{Placed, carried, promoted_bytes, image, reading}
use Rattle.answers.specs.Outcomes.{done}
use Rattle.carried.specs.Convention.{Convention, complete, scan}
use Rattle.carried.specs.Carried.{Sized, kinds, OneEach, AllProper, Accepted, RoundTrip}
use Rattle.places.proofs.Places.{length-gather, gather_append, gather-put}
use Rattle.carried.proofs.Walks.{Laws, Walk, walk_by_kinds, walk_one_each}
use Rattle.carried.proofs.Readings.{image-length}
use Rattle.carried.proofs.Wholeness.{Whole, whole_kinds, scan_whole, whole_scan}
use Rattle.carried.proofs.Theorem.{theorem}

-- ---- one record

body_of_promotion : (s : Placed) (b : List ℕ) → length b ≡ s.size → body s.size (promote s.extension b) ≡ b
body_of_promotion s b e =
    let f : List ℕ = front s.extension b in
    let n : length (f ++ b) - s.size ≡ length f = omega (arith, length-append f b) in
    rw n (drop_at f b (length f) refl)

-- the bytes of a first record after promotion, and those of the rest
promoted-whole : (s : Placed) (L : List Placed) (l : List ℕ) (w : Whole true (s ∷ L) l) → promoted_bytes (s ∷ L) l ≡ promote s.extension w.0 ++ promoted_bytes L w.1
promoted-whole s L l w =
    ap (promoted_bytes (s ∷ L)) w.2
    ∙ ap₂ (λ (x y : List ℕ). promote s.extension x ++ promoted_bytes L y) (take_at w.0 w.1 s.size w.3) (drop_at w.0 w.1 s.size w.3)

-- ---- the image of a list that is whole

module _ (img : List ℕ) where
  split_left : (ps qs us vs : List ℕ) → length us ≡ length ps → gather img (ps ++ qs) ≡ us ++ vs → gather img ps ≡ us
  split_left ps qs us vs e h =
      sym (take_at (gather img ps) (gather img qs) (length ps) (length-gather img ps))
      ∙ ap (take (length ps)) (sym (gather_append img ps qs) ∙ h)
      ∙ take_at us vs (length ps) e

  split_right : (ps qs us vs : List ℕ) → length us ≡ length ps → gather img (ps ++ qs) ≡ us ++ vs → gather img qs ≡ vs
  split_right ps qs us vs e h =
      sym (drop_at (gather img ps) (gather img qs) (length ps) (length-gather img ps))
      ∙ ap (drop (length ps)) (sym (gather_append img ps qs) ∙ h)
      ∙ drop_at us vs (length ps) e

  record Back (L : List Placed) (l : List ℕ) : Type 0 where
    proper-all : AllProper L img
    same-list : reading L img ≡ l

  back : (L : List Placed) (l : List ℕ) → Sized L → Whole true L l → gather img (carried L) ≡ promoted_bytes L l → Back L l
  back [] l z w e = record { proper-all = tt; same-list = sym w }
  back (s ∷ L) l z w e =
      let b : List ℕ = w.0 in
      let vs : List ℕ = promote s.extension b in
      let lv : length vs ≡ length s.carriers = z.0 b w.3 in
      let h : gather img (s.carriers ++ carried L) ≡ vs ++ promoted_bytes L w.1 = e ∙ promoted-whole s L l w in
      let g : gather img s.carriers ≡ vs = split_left s.carriers (carried L) vs (promoted_bytes L w.1) lv h in
      let o : body s.size vs ≡ b = body_of_promotion s b w.3 in
      let r : Back L w.1 = back L w.1 z.1 w.4 (split_right s.carriers (carried L) vs (promoted_bytes L w.1) lv h) in
      record {
        proper-all = (rw (g, o) (same_true vs), r.proper-all);
        same-list = ap₂ (λ (x y : List ℕ). s.kind ∷ (x ++ y)) (ap (body s.size) g ∙ o) r.same-list ∙ sym w.2;
      }

-- ---- the theorem

module _ (c : Convention) (laws : Laws c) (l : List ℕ) (L : List Placed) (last : c.State) (ok : scan c true l ≡ complete L last) where
  signature-walk : Walk c laws c.start (kinds L) L last
  signature-walk = walk_by_kinds c laws true l L last ok

  one_each : OneEach (c.image_length last) L
  one_each = walk_one_each c laws signature-walk

  whole : Whole true L l
  whole = scan_whole c laws true l L last ok

  long_values : (M : List Placed) (x : List ℕ) → Sized M → Whole true M x → length (promoted_bytes M x) ≡ length (carried M)
  long_values [] x z w = refl
  long_values (s ∷ M) x z w =
      ap length (promoted-whole s M x w)
      ∙ length-append (promote s.extension w.0) (promoted_bytes M w.1)
      ∙ ap₂ (λ (a b : ℕ). a + b) (z.0 w.0 w.3) (long_values M w.1 z.1 w.4)
      ∙ sym (length-append s.carriers (carried M))

  abbrev img : List ℕ
  img = image (c.image_length last) L l

  stored : gather img (carried L) ≡ promoted_bytes L l
  stored = gather-put (replicate (c.image_length last) 0) (carried L) (promoted_bytes L l) one_each.distinct
      (λ p m. rw length-replicate (one_each.inside p m)) (long_values L l one_each.sized whole)

  pub round_trip : RoundTrip c l L last
  round_trip =
      let signed : scan c false (kinds L) ≡ complete L last = whole_scan c laws false signature-walk (kinds L) 0 (whole_kinds L) in
      let b : Back img L l = back img L l one_each.sized whole stored in
      let a : Accepted (c.image_length last) L img = record {
        whole = image-length (c.image_length last) L l;
        promoted = b.proper-all;
      } in
      record {
        signature = signed;
        written = rw ok refl;
        accepted = a;
        reads = (theorem c laws (kinds L) L last signed).accepts img a ∙ ap done b.same-list;
      }
