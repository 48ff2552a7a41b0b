-- The marker in an accepted signature: what holds of a record before it, of the marker itself and of a record after it; and the pass
-- over all records, taken apart there.
-- Assumes nothing.
use mathlib.Core.Path.{◌≡◌, refl, sym, ap, ◌∙◌}
use mathlib.Core.List.{List, [], ◌∷◌, ◌++◌}
use mathlib.Core.Bool.{Bool, true, false, cond, ◌||◌}
use Prim.Native.Nat.{ℕ, zero, suc, ◌+◌, ◌*◌, ◌≤◌}
use native.Mathlib.Omega.{arith}
use lib.Dec.{leb}
use lib.ListN.{length}
use borrow.Author.Tests.{leb-false}
use Rattle.words.specs.Words.{body}
use Rattle.words.proofs.Impossible.{impossible}
use Rattle.device.specs.declared.Device.{Device}
use Rattle.kinds.specs.declared.Class.TheVariants.{Unknown, Marker}
use Rattle.kinds.specs.Kinds.{kind_of, is}
use Rattle.kinds.proofs.KindFacts.{kind_facts}
use Rattle.places.specs.Places.{gather}
use Rattle.o32_offsets.specs.Offsets.{lay, offset, width}
use Rattle.o32_offsets.proofs.Offsets.{up-ge, body_within}
use Rattle.carried.specs.Image.{Placed, reading}
use Rattle.carried.specs.Convention.{next, complete, scan}
use Rattle.carried.proofs.Walks.{Walk, end, one, walk_of, laws_at}
use Rattle.carried.proofs.Readings.{length-body, fits_carriers}
use Rattle.o32.specs.declared.State.{State}
use Rattle.o32.specs.declared.Placement.{Placement}
use Rattle.o32.specs.O32.{O32, carriers, start}
use Rattle.o32_laws.proofs.Laws.{O32-laws}
use Rattle.o32_laws.proofs.Steps.{Stepped, step-described, ends_within}
use Rattle.o32_laws.proofs.Bounds.{marker_rightly}
use Rattle.varargs.specs.Walking.{stepped, before, after_from, after, marked}

-- ---- lists

-- a body is passed
after_pass : (b l : List ℕ) (n : ℕ) → length b ≡ n → after_from true n (b ++ l) ≡ after_from true 0 l
after_pass [] l zero e = refl
after_pass [] l (suc n) e = absurd (omega arith)
after_pass (x ∷ b) l zero e = absurd (omega arith)
after_pass (x ∷ b) l (suc n) e = after_pass b l n (omega arith)

empty : (b : List ℕ) → length b ≡ 0 → b ≡ []
empty [] e = refl
empty (x ∷ b) e = absurd (omega arith)

-- the end of an argument and of those after it
pub end_after : (k o : ℕ) (ks : List ℕ) → is Marker (kind_of k) ≡ false → (lay o (k ∷ ks)).end ≡ (lay (stepped (kind_of k) o) ks).end
end_after k o ks m = rw m refl

-- a signature with a marker is what is before the marker, the marker, and what is after it
pub record Around (sig : List ℕ) : Type 0 where
  pub marker : ℕ
  pub is-marker : is Marker (kind_of marker) ≡ true
  pub whole : before sig ++ (marker ∷ after false sig) ≡ sig

pub around : (sig : List ℕ) → marked sig ≡ true → Around sig
around [] m = impossible (cc)
around (k ∷ ks) m = go (around ks) (is Marker (kind_of k)) refl m
  where
    go : (marked ks ≡ true → Around ks) → (t : Bool) → is Marker (kind_of k) ≡ t → t || marked ks ≡ true → Around (k ∷ ks)
    go rest true e m = record { marker = k; is-marker = e; whole = rw e refl }
    go rest false e m = let w = rest m in record { marker = w.marker; is-marker = w.is-marker; whole = rw e (ap (λ (l : List ℕ). k ∷ l) w.whole) }

-- ---- one record that is placed

-- a state after a marker
pub record AfterMarker (st : State) : Type 0 where
  pub some : 1 ≤ st.prefix.count
  pub marked_state : st.prefix.marked ≡ true

abbrev pub body_of : Placement → List ℕ → List ℕ
body_of p img = body p.kind.size (gather img (carriers p))

module _ (d : Device) (st : State) (k : ℕ) {j : ℕ} {p : Placement} {st' : State} (e : (O32 d).step st k ≡ next j p st') where
  pub is-stepped : Stepped d st (kind_of k) j p st'
  is-stepped = step-described d st k j p st' e

  pub body_long : (img : List ℕ) → length (body_of p img) ≡ (kind_of k).size
  body_long img =
      let s : Placed = (O32 d).placed_at k j p in
      length-body s img (fits_carriers s (laws_at (O32 d) (O32-laws d) {st = st} {k = k} e).sized) ∙ ap (λ (x : Placement). x.kind.size) is-stepped.at

  -- the bytes of a record end before those after it
  pub record_inside : offset (kind_of k) st.end + width (kind_of k) ≤ st'.end
  record_inside = rw is-stepped.on (ends_within st k)

  -- the marker
  module _ (m : is Marker (kind_of k) ≡ true) where
    marker-body : (img : List ℕ) → body_of p img ≡ []
    marker-body img = empty (body_of p img) (body_long img ∙ ((kind_facts k).markers m).0)

    marker_leads : AfterMarker st'
    marker_leads =
        let few : leb st.prefix.count (cond st.prefix.pointer 1 0) ≡ false =
        (marker_rightly (is Marker (kind_of k)) st.prefix.marked (leb st.prefix.count (cond st.prefix.pointer 1 0)) _ is-stepped.rightly m).1 in
        let n : 1 ≤ st.prefix.count = omega (arith, leb-false st.prefix.count (cond st.prefix.pointer 1 0) few) in
        rw is-stepped.on (record { some = rw m n; marked_state = rw m refl })

    marker_stays : (st'.end ≡ st.end) × (st'.prefix.count ≡ st.prefix.count)
    marker_stays = rw is-stepped.on (rw m (refl, refl))

  -- an argument
  module _ (m : is Marker (kind_of k) ≡ false) where
    pub argument_end : st'.end ≡ stepped (kind_of k) st.end
    argument_end = rw is-stepped.on (rw m refl)

    argument_counts : st'.prefix.count ≡ st.prefix.count + 1
    argument_counts = rw is-stepped.on (rw m refl)

    -- it takes at least a word, and room for its body
    pub argument-room : (st.end + (kind_of k).size ≤ stepped (kind_of k) st.end) × (st.end + 4 ≤ stepped (kind_of k) st.end)
    argument-room =
        let known : is Unknown (kind_of k) || is Marker (kind_of k) ≡ false = rw (is-stepped.known, m) refl in
        let s = kind_facts k in
        omega (arith, up-ge (kind_of k).alignment st.end (s.aligned known), s.sized known, body_within (kind_of k) s)

    pub argument_leads : AfterMarker st → AfterMarker st'
    argument_leads h = rw is-stepped.on (record { some = rw m (omega arith); marked_state = rw m h.marked_state })

  -- after the marker there is no other
  pub not_again : AfterMarker st → is Marker (kind_of k) ≡ false
  not_again h = go (is Marker (kind_of k)) refl
    where
      go : (t : Bool) → is Marker (kind_of k) ≡ t → is Marker (kind_of k) ≡ false
      go false m = m
      go true m =
          let z : st.prefix.marked ≡ false = (marker_rightly (is Marker (kind_of k)) st.prefix.marked _ _ is-stepped.rightly m).0 in
          impossible (cc h.marked_state)

  -- no record ends before those before it
  pub rises : st.end ≤ st'.end
  rises = go (is Marker (kind_of k)) refl
    where
      go : (t : Bool) → is Marker (kind_of k) ≡ t → st.end ≤ st'.end
      go true m = omega (arith, marker_stays m)
      go false m = omega (arith, argument_end m, argument-room m)

-- ---- all records

module _ (d : Device) where
  pub ends_later : {st last : State} {ks : List ℕ} {L : List Placed} → Walk (O32 d) (O32-laws d) st ks L last → st.end ≤ last.end
  ends_later end = omega arith
  ends_later (one {st = st} {k = k} e f w) = omega (arith, rises d st k e, ends_later w)

  -- a walk over kinds with a marker, from the record after it on
  pub record Rest (st : State) (ks : List ℕ) (L : List Placed) (last : State) : Type 0 where
    pub state : State
    pub placed : List Placed
    pub walk : Walk (O32 d) (O32-laws d) state (after_from false 0 ks) placed last
    pub after-marker : AfterMarker state
    pub ends : state.end ≡ (lay st.end (before ks)).end
    pub reads : (img : List ℕ) → after_from true 0 (reading L img) ≡ reading placed img
    -- no more arguments are counted than kinds stand before it, and each takes at least a word
    pub counted : state.prefix.count ≤ st.prefix.count + length (before ks)
    pub words_each : 4 * st.prefix.count ≤ st.end → 4 * state.prefix.count ≤ state.end

  rest_after : {st last : State} {ks : List ℕ} {L : List Placed} → Walk (O32 d) (O32-laws d) st ks L last → marked ks ≡ true → Rest st ks L last
  rest_after end m = impossible (cc)
  rest_after (one {st = st} {st' = st'} {last = last} {k = k} {j = j} {p = p} {ks = ks} {L = L} e f w) m = go (λ n. rest_after w n) (is Marker (kind_of k)) refl m
    where
      go : (marked ks ≡ true → Rest st' ks L last) → (t : Bool) → is Marker (kind_of k) ≡ t → t || marked ks ≡ true → Rest st (k ∷ ks) ((O32 d).placed_at k j p ∷ L) last
      go more true i m =
          let s = marker_stays d st k e i in
          record {
            state = st';
            placed = L;
            walk = rw i w;
            after-marker = marker_leads d st k e i;
            ends = rw i s.0;
            reads = λ img. rw (i, marker-body d st k e i img) refl;
            counted = omega (arith, s);
            words_each = λ h. omega (arith, s);
          }
      go more false i m =
          let r = more m in
          let g : st'.end ≡ stepped (kind_of k) st.end = argument_end d st k e i in
          let n : st'.prefix.count ≡ st.prefix.count + 1 = argument_counts d st k e i in
          record {
            state = r.state;
            placed = r.placed;
            walk = rw i r.walk;
            after-marker = r.after-marker;
            ends = rw i (r.ends ∙ ap (λ (o : ℕ). (lay o (before ks)).end) g ∙ sym (end_after k st.end (before ks) i));
            reads = λ img. rw i (after_pass (body_of p img) (reading L img) (kind_of k).size (body_long d st k e img) ∙ r.reads img);
            counted = rw i (omega (arith, r.counted));
            words_each = λ h. r.words_each (omega (arith, argument-room d st k e i));
          }

  -- At every accepted signature with a marker.
  pub after-marker_of : (sig : List ℕ) {L : List Placed} {last : State} → scan (O32 d) false sig ≡ complete L last → marked sig ≡ true → Rest start sig L last
  after-marker_of sig {L} {last} ok m = rest_after (walk_of (O32 d) (O32-laws d) sig start L last 0 ok) m
