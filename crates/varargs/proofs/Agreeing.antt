-- Two images that agree on the bytes carried for the arguments after the marker hold the same for a routine that walks them.
-- Assumes nothing.
use mathlib.Core.Path.{◌≡◌, refl, sym, ap, ap₂, ◌∙◌, subst}
use mathlib.Core.Logic.{◌⊎◌, inl, inr}
use mathlib.Core.List.{List, [], ◌∷◌, ◌++◌, map, append_assoc}
use mathlib.Core.Bool.{Bool, true, false, ◌||◌}
use Prim.Native.Nat.{ℕ, zero, suc, ◌+◌, ◌≤◌, ◌<◌}
use native.Mathlib.Omega.{arith}
use lib.Dec.{ltb}
use lib.ListN.{length, length-append}
use borrow.Author.Tests.{ltb-true, ltb-false}
use Rattle.words.specs.Words.{up, body}
use Rattle.words.proofs.Impossible.{impossible}
use Rattle.device.specs.declared.Device.{Device}
use Rattle.kinds.specs.declared.Class.TheVariants.{Marker}
use Rattle.kinds.specs.Kinds.{kind_of, is}
use Rattle.places.specs.Places.{In, run}
use Rattle.places.proofs.Places.{gather_agree}
use Rattle.o32_offsets.specs.Offsets.{lay, width}
use Rattle.o32_offsets.proofs.Offsets.{up-ge}
use Rattle.carried.specs.Image.{Placed}
use Rattle.carried.specs.Convention.{complete, scan}
use Rattle.carried.specs.Calls.{Agree}
use Rattle.carried.proofs.Walks.{Walk, end, one, walk_grows}
use Rattle.o32.specs.declared.State.{State}
use Rattle.o32.specs.O32.{O32, carrier, image_size}
use Rattle.o32_laws.specs.Carrying.{register_after, offset_after, Carries, low, high}
use Rattle.o32_laws.proofs.Laws.{O32-laws}
use Rattle.o32_laws.proofs.Carrying.{register_late}
use Rattle.o32_offsets.proofs.Laying.{end_joined}
use Rattle.varargs.specs.Walking.{spilled, bytes_at, stepped, walk_from, before, after, walked, marked}
use Rattle.varargs.specs.Varargs.{CarriedAfter}
use Rattle.varargs.proofs.Memory.{spilled_part}
use Rattle.varargs.proofs.Marker.{around, AfterMarker, record_inside, argument_end, argument_leads, not_again, end_after, after-marker_of}

-- ---- the kinds before

-- a marker among them, or the last of them
abbrev Marks : List ℕ → ℕ → Type 0
Marks xs k = (marked xs ≡ true) ⊎ (is Marker (kind_of k) ≡ true)

marked_append : (xs : List ℕ) (k : ℕ) → Marks xs k → marked (xs ++ (k ∷ [])) ≡ true
marked_append [] k (inl e) = impossible (cc)
marked_append [] k (inr e) = rw e refl
marked_append (x ∷ xs) k h = go (is Marker (kind_of x)) (marked_append xs k) h
  where
    go : (t : Bool) → (Marks xs k → marked (xs ++ (k ∷ [])) ≡ true) → (t || marked xs ≡ true) ⊎ (is Marker (kind_of k) ≡ true) → t || marked (xs ++ (k ∷ [])) ≡ true
    go true rest h = refl
    go false rest h = rest h

-- ---- the bytes at an offset

record Index (o n p : ℕ) : Type 0 where
  index : ℕ
  inside : index < n
  at : p ≡ carrier (o + index)

index_of : (n o p : ℕ) → In p (map carrier (run o n)) → Index o n p
index_of zero o p m = absurd m
index_of (suc n) o p (inl e) = let z : o ≡ o + 0 = omega arith in record { index = 0; inside = omega arith; at = e ∙ ap carrier z }
index_of (suc n) o p (inr m) =
    let w = index_of n (suc o) p m in
    let z : suc o + w.index ≡ o + suc w.index = omega arith in
    record { index = suc w.index; inside = omega (arith, w.inside); at = w.at ∙ ap carrier z }

carries : (d : Device) (before : List ℕ) (k i p : ℕ) → register_after d before k ≡ 0 → p ≡ carrier (offset_after before k + i) → Carries d before k i p
carries d before k i p z e = go (ltb (offset_after before k + i) 16) refl
  where
    go : (t : Bool) → ltb (offset_after before k + i) 16 ≡ t → Carries d before k i p
    go true t = low z (ltb-true (offset_after before k + i) 16 t) (e ∙ rw t)
    go false t = high z (ltb-false (offset_after before k + i) 16 t) (e ∙ rw t)

-- ---- the walk

module _ (d : Device) (sig a b : List ℕ) (agree : Agree (CarriedAfter d sig) a b) where
  -- both images have room for what ends here
  abbrev Room : ℕ → Type 0
  Room o = (image_size o ≤ length a) × (image_size o ≤ length b)

  room-before : {st last : State} {ks : List ℕ} {L : List Placed} → Walk (O32 d) (O32-laws d) st ks L last → Room last.end → Room st.end
  room-before w room = (omega (arith, walk_grows (O32 d) (O32-laws d) w), omega (arith, walk_grows (O32 d) (O32-laws d) w))

  -- what is taken for a kind after these
  taken_same : (pre : List ℕ) (k : ℕ) (ks : List ℕ) → pre ++ (k ∷ ks) ≡ sig → 2 ≤ length pre → marked pre ≡ true → (last : ℕ)
      → offset_after pre k + width (kind_of k) ≤ last → Room last → bytes_at (kind_of k) (lay 0 pre).end (spilled a) ≡ bytes_at (kind_of k) (lay 0 pre).end (spilled b)
  taken_same pre k ks e two m last h room =
      let w : ℕ = width (kind_of k) in
      let o : ℕ = offset_after pre k in
      let u : last ≤ up 8 last = up-ge 8 last (omega arith) in
      ap (body (kind_of k).size)
      (sym (spilled_part a (omega arith) w o (omega arith))
      ∙ gather_agree a b (map carrier (run o w)) (λ p i.
      let x = index_of w o p i in
      agree p (
        record { argument = record { before = pre; kind = k; after = ks; here = e }; index = x.index; inside = x.inside },
        m,
        carries d pre k x.index p (register_late d pre k two) x.at,
      ))
      ∙ spilled_part b (omega arith) w o (omega arith))

  -- after the marker
  same_from : {st last : State} {ks : List ℕ} {L : List Placed} → Walk (O32 d) (O32-laws d) st ks L last → Room last.end → AfterMarker st
      → (pre : List ℕ) → pre ++ ks ≡ sig → 2 ≤ length pre → marked pre ≡ true → st.end ≡ (lay 0 pre).end
      → walk_from (spilled a) st.end ks ≡ walk_from (spilled b) st.end ks
  same_from end room after pre e two m ends = refl
  same_from (one {st = st} {st' = st'} {k = k} {ks = ks} s f w) room after pre e two m ends =
      let n : is Marker (kind_of k) ≡ false = not_again d st k s after in
      let g : st'.end ≡ stepped (kind_of k) st.end = argument_end d st k s n in
      let now : bytes_at (kind_of k) st.end (spilled a) ≡ bytes_at (kind_of k) st.end (spilled b) =
      rw ends (taken_same pre k ks e two m st'.end (rw (← ends) (record_inside d st k s)) (room-before w room)) in
      let then : walk_from (spilled a) st'.end ks ≡ walk_from (spilled b) st'.end ks =
      same_from w room (argument_leads d st k s n after) (pre ++ (k ∷ [])) (append_assoc pre (k ∷ []) ks ∙ e) (omega (arith, length-append pre (k ∷ []))) (marked_append pre k (inl m))
      (g ∙ ap (stepped (kind_of k)) ends ∙ sym (end_joined 0 pre (k ∷ []) ∙ end_after k (lay 0 pre).end [] n)) in
      ap₂ (λ (x y : List ℕ). x ++ y) now (subst (λ (o : ℕ). walk_from (spilled a) o ks ≡ walk_from (spilled b) o ks) g then)

  pub walked_agree : {L : List Placed} {last : State} → scan (O32 d) false sig ≡ complete L last → marked sig ≡ true
      → length a ≡ image_size last.end → length b ≡ image_size last.end → walked sig a ≡ walked sig b
  walked_agree ok m la lb =
      let r = after-marker_of d sig ok m in
      let w = around sig m in
      let pre : List ℕ = before sig ++ (w.marker ∷ []) in
      let i : (lay (lay 0 (before sig)).end (w.marker ∷ [])).end ≡ (lay 0 (before sig)).end = rw w.is-marker refl in
      subst (λ (o : ℕ). walk_from (spilled a) o (after false sig) ≡ walk_from (spilled b) o (after false sig)) r.ends
      (same_from r.walk (omega arith, omega arith) r.after-marker pre (append_assoc (before sig) (w.marker ∷ []) (after false sig) ∙ w.whole)
      (omega (arith, length-append (before sig) (w.marker ∷ []), r.counted, r.after-marker.some))
      (marked_append (before sig) w.marker (inr w.is-marker))
      (r.ends ∙ sym (end_joined 0 (before sig) (w.marker ∷ []) ∙ i)))
