-- Demand 3 of what `read` and `write` answer and leave in buffers that are long enough, on every device.
-- Assumes nothing.
use mathlib.Core.Path.{◌≡◌, refl, sym, ap, ap₂, ◌∙◌, subst}
use mathlib.Core.Logic.{◌↔◌, inl, inr}
use mathlib.Core.List.{List, [], ◌∷◌, ◌++◌, append_assoc}
use mathlib.Core.Bool.{Bool, true, false}
use lib.Dec.{ltb}
use Prim.Native.Nat.{ℕ, zero, suc, ◌+◌, ◌≤◌, ◌<◌}
use native.Mathlib.Omega.{arith}
use lib.ListN.{length, get_or, take, drop, replicate, length-append}
use lib.Seq.{take_at, drop_at, get_or-append-add}
use Rattle.words.specs.Words.{Extension, promote, body}
use Rattle.device.specs.declared.Device.{Device}
use Rattle.answers.specs.Outcomes.{done}
use Rattle.carried.specs.Image.{reading, Placed, image, length_of_list}
use Rattle.places.specs.Places.{gather}
use Rattle.carried.specs.Convention.{complete, scan, read, write_into}
use Rattle.carried.specs.Carried.{Sized, AllProper, Carried, RoundTrip}
use Rattle.carried.specs.Carried as D
use Rattle.carried.proofs.Readings.{done_inj, reading_length, length-body, fits_carriers, promotion_of}
use Rattle.o32.specs.declared.State.{State}
use Rattle.kinds.specs.Kinds.{kind_of}
use Rattle.o32_offsets.specs.Offsets.{extension}
use Rattle.o32.specs.O32.{O32, area}
use Rattle.carried.specs.Calls.{functions_of, output, PastSignature, AcceptedSignature, LentBuffers, Accepts, reading_of}
use Rattle.carried.proofs.Calls.{Early, Scanned, scanned_of, accepted_of, reads, is_read, reading-answered, accepted_images, images_as, accepts_exactly}
use Rattle.carried.proofs.Buffers.{output_done}
use Rattle.o32_laws.specs.Carrying.{KindIn, ArgumentByte, CarriedBy, image_bytes, list_bytes}
use Rattle.o32_laws.specs.Refusing.{Accepted, Improper}
use Rattle.o32_laws.specs.Demand.{record_at, body_in, Buffers, CarriedBytes, Demand}
use Rattle.o32_laws.proofs.Laws.{O32-laws, O32-carried, O32-round_trip}
use Rattle.o32_laws.proofs.Bounds.{scan_bound, reading_long}
use Rattle.o32_laws.proofs.Bytes.{Of, of, carried_exactly, one_byte, none_shared, bytes_inside}
use Rattle.o32_laws.proofs.Nothing.{each_byte}
use Rattle.o32_laws.proofs.Refusing.{by_record, refused_exactly, ScannedAs, accepted_scanned}
use Rattle.o32_laws.proofs.Refusals.{part_long, list_long, image_long}
use Rattle.o32_laws.proofs.Improper.{proper-at, proper_exactly}

-- ---- the reading, record by record

reading-append : (M N : List Placed) (img : List ℕ) → reading (M ++ N) img ≡ reading M img ++ reading N img
reading-append [] N img = refl
reading-append (s ∷ M) N img =
    ap (λ (r : List ℕ). s.kind ∷ (body s.size (gather img s.carriers) ++ r)) (reading-append M N img)
    ∙ ap (λ (r : List ℕ). s.kind ∷ r) (sym (append_assoc (body s.size (gather img s.carriers)) (reading M img) (reading N img)))

sized_left : (M N : List Placed) → Sized (M ++ N) → Sized M
sized_left [] N z = tt
sized_left (s ∷ M) N z = (z.0, sized_left M N z.1)

sized_at : (M : List Placed) (s : Placed) (N : List Placed) → Sized (M ++ (s ∷ N)) → s.size ≤ length s.carriers
sized_at [] s N z = fits_carriers s z.0
sized_at (m ∷ M) s N z = sized_at M s N z.1

get_or-gather : (img ps : List ℕ) (i : ℕ) → i < length ps → get_or (gather img ps) i 0 ≡ get_or img (get_or ps i 0) 0
get_or-gather img [] i h = absurd (omega arith)
get_or-gather img (p ∷ ps) zero h = refl
get_or-gather img (p ∷ ps) (suc i) h = get_or-gather img ps i (omega arith)

-- the record at its place in a list: before it n bytes
record Standing (x : List ℕ) (n k size : ℕ) (b : List ℕ) : Type 0 where
  kind : get_or x n 0 ≡ k
  body-read : take size (drop (n + 1) x) ≡ b

stands : (xs : List ℕ) (k : ℕ) (b rest x : List ℕ) (n size : ℕ) → x ≡ xs ++ (k ∷ (b ++ rest)) → length xs ≡ n → length b ≡ size → Standing x n k size b
stands xs k b rest x n size e l h =
    let z : length xs + 0 ≡ n = omega arith in
    let m : length (xs ++ (k ∷ [])) ≡ n + 1 = length-append xs (k ∷ []) ∙ omega arith in
    record {
      kind = rw (e, ← z) (get_or-append-add xs (k ∷ (b ++ rest)) 0 0);
      body-read = ap (λ (y : List ℕ). take size (drop (n + 1) y)) (e ∙ sym (append_assoc xs (k ∷ []) (b ++ rest)))
          ∙ ap (take size) (drop_at (xs ++ (k ∷ [])) (b ++ rest) (n + 1) m)
          ∙ take_at b rest size h;
    }

module _ (d : Device) where
  -- ---- the numbers of the refusals by record

  early : Early (O32 d)
  early sig r at j e p =
      let n : (1 ≤ r) × (r ≤ 5) = by_record ((refused_exactly d false sig r at j).0 e).holds in
      elim p [ inl x ↦ omega arith | inr (inl x) ↦ omega arith | inr (inr (inl x)) ↦ omega arith | inr (inr (inr x)) ↦ omega arith ]

  -- ---- at one accepted signature

  module _ (sig : List ℕ) (s : Scanned (O32 d) (O32-laws d) early sig) where
    abbrev L : List Placed
    L = s.placed

    the_theorem : Carried (O32 d) sig L (32 + area s.last.end)
    the_theorem = O32-carried d sig L s.last s.scanned

    long : length_of_list L ≡ list_bytes sig
    long = list_long d sig L s.last s.scanned

    whole : 32 + area s.last.end ≡ image_bytes sig
    whole = image_long d sig L s.last s.scanned

    -- the buffers, in the words of the theorem
    lent : Buffers sig → LentBuffers (length_of_list L) (32 + area s.last.end)
    lent u = record { list = u.list; image = u.image; list_long = omega (arith, u.list_long, long); image_long = omega (arith, u.image_long, whole) }

    module _ (u : Buffers sig) (a : List ℕ) (h : Accepts (functions_of (O32 d)) sig u a) where
      abbrev x : List ℕ
      x = reading_of (functions_of (O32 d)) sig u a

      is_accepted : D.Accepted (32 + area s.last.end) L a
      unfolding lent
      is_accepted = (accepts_exactly (O32 d) (O32-laws d) early sig s (lent u) a).0 h

      is-reading : x ≡ reading L a
      unfolding lent
      is-reading = done_inj (sym (reads (O32 d) (O32-laws d) early sig s (lent u) a h) ∙ the_theorem.accepts a is_accepted)

      -- the record of an argument stands after those before it
      module _ (b : KindIn sig) where
        w : Of d sig L s.last s.scanned b
        w = of d sig L s.last s.scanned b

        abbrev here : Placed
        here = w.among.here

        kind_read : here.kind ≡ b.kind
        kind_read = ap (λ (r : Placed). r.kind) w.record_placed

        sized : Sized (w.among.before ++ (here ∷ w.among.after))
        sized = subst Sized w.among.records the_theorem.one_each.sized

        before_long : length (reading w.among.before a) ≡ record_at b
        before_long =
            reading_length w.among.before a (sized_left w.among.before (here ∷ w.among.after) sized)
            ∙ part_long d sig L s.last s.scanned w.among.before (here ∷ w.among.after) w.among.records
            ∙ ap list_bytes w.kinds-before

        standing : Standing x (record_at b) b.kind (kind_of b.kind).size (body here.size (gather a here.carriers))
        standing =
            stands (reading w.among.before a) b.kind (body here.size (gather a here.carriers)) (reading w.among.after a) x (record_at b) (kind_of b.kind).size
            (is-reading
            ∙ ap (λ (M : List Placed). reading M a) w.among.records
            ∙ reading-append w.among.before (here ∷ w.among.after) a
            ∙ ap (λ (k : ℕ). reading w.among.before a ++ (k ∷ (body here.size (gather a here.carriers) ++ reading w.among.after a))) kind_read)
            before_long
            (length-body here a (sized_at w.among.before here w.among.after sized) ∙ w.carried_as.size)

        -- and its body, after promotion, is what the image carries for it
        promoted-body : promote (extension (kind_of b.kind)) (body_in b x) ≡ gather a here.carriers
        promoted-body =
            ap (promote (extension (kind_of b.kind))) standing.body-read
            ∙ ap (λ (e : Extension). promote e (body here.size (gather a here.carriers))) (sym w.carried_as.promotion)
            ∙ promotion_of here a (proper-at a w.among.before here w.among.after (subst (λ (K : List Placed). AllProper K a) w.among.records is_accepted.promoted))

      body_byte : (b : ArgumentByte sig) (p : ℕ) → CarriedBy d b p
          → get_or (promote (extension (kind_of b.argument.kind)) (body_in b.argument x)) b.index 0 ≡ get_or a p 0
      body_byte b p c =
          ap (λ (y : List ℕ). get_or y b.index 0) (promoted-body b.argument)
          ∙ get_or-gather a (here b.argument).carriers b.index (omega (arith, (w b.argument).carried_as.long, b.inside))
          ∙ ap (λ (q : ℕ). get_or a q 0) (((w b.argument).carried_as.bytes b.index p b.inside).1 c)

    length-answered : (u : Buffers sig) (a : List ℕ) → Accepts (functions_of (O32 d)) sig u a → ((functions_of (O32 d)).read sig a u.list).length ≡ list_bytes sig
    unfolding lent
    length-answered u a h = reading-answered (O32 d) (O32-laws d) early sig s (lent u) a h ∙ long

    accepted_by : (u : Buffers sig) (a : List ℕ) → Accepts (functions_of (O32 d)) sig u a ↔ ((length a ≡ image_bytes sig) × ((b : KindIn sig) → Improper b a → ⊥))
    unfolding lent
    accepted_by u a = (
      (λ h. let v = is_accepted u a h in (v.whole ∙ whole, (proper_exactly d sig L s.last s.scanned a).0 v.promoted)),
      λ h. (accepts_exactly (O32 d) (O32-laws d) early sig s (lent u) a).1
          (record { whole = h.0 ∙ sym whole; promoted = (proper_exactly d sig L s.last s.scanned a).1 h.1 }),
    )

    carried_bytes : CarriedBytes (functions_of (O32 d)) d sig
    carried_bytes = record {
      one_carrier = one_byte d sig L s.last s.scanned;
      none_shared = none_shared d sig L s.last s.scanned;
      inside = λ p h. omega (arith, whole, bytes_inside d sig L s.last s.scanned p h);
      each_byte = each_byte d sig L s.last s.scanned;
      lengths = (
        omega (arith, long, reading_length L [] the_theorem.one_each.sized, reading_long d sig [] L s.last s.scanned),
        omega arith,
        omega (arith, whole, (scan_bound d false sig L s.last s.scanned).fits),
      );
      accepted_exactly = accepted_by;
      reading_length = λ u a h. (length-answered u a h, ap length (is-reading u a h) ∙ reading_length L a the_theorem.one_each.sized ∙ long);
      reading_kinds = λ u a h b. (standing u a h b).kind;
      reading_bodies = body_byte;
      images = images_as long whole (carried_exactly d sig L s.last s.scanned) (accepted_images (O32 d) (O32-laws d) early sig s);
    }

  -- ---- at all

  one_answer_decides : (sig img out : List ℕ) → PastSignature ((functions_of (O32 d)).read sig img out).refusal → AcceptedSignature (functions_of (O32 d)) sig
  one_answer_decides sig img out h = accepted_of (O32 d) (O32-laws d) early sig (scanned_of (O32 d) (O32-laws d) early sig img out h)

  -- a list that the writer accepts, and its image
  given : (list out : List ℕ) (L : List Placed) (last : State) → scan (O32 d) true list ≡ complete L last → ((functions_of (O32 d)).write list out).refusal ≡ 0
      → output ((functions_of (O32 d)).write list out) ≡ image (32 + area last.end) L list
  given list out L last e h = go (ltb (length out) (length (image (32 + area last.end) L list))) refl
    where
      go : (t : Bool) → ltb (length out) (length (image (32 + area last.end) L list)) ≡ t → output ((functions_of (O32 d)).write list out) ≡ image (32 + area last.end) L list
      go true f = let z : ◌≡◌ {A = ℕ} 7 0 = rw (e, f) at h in absurd (omega arith)
      go false f = (output_done (image (32 + area last.end) L list) out (write_into (O32 d) list (length out)) (rw (e, f) refl)).1

  round_trip : (list ks out : List ℕ) → Accepted true list ks → ((functions_of (O32 d)).write list out).refusal ≡ 0
      → AcceptedSignature (functions_of (O32 d)) ks
      × ((u : Buffers ks) → Accepts (functions_of (O32 d)) ks u (output ((functions_of (O32 d)).write list out))
      × (reading_of (functions_of (O32 d)) ks u (output ((functions_of (O32 d)).write list out)) ≡ list))
  unfolding lent
  round_trip list ks out v h =
      let a : ScannedAs d true list ks = accepted_scanned d true list ks v in
      let t : RoundTrip (O32 d) list a.placed a.last = O32-round_trip d list a.placed a.last a.scanned in
      let s : Scanned (O32 d) (O32-laws d) early ks = record { placed = a.placed; last = a.last; scanned = ap (scan (O32 d) false) (sym a.kinds_are) ∙ t.signature } in
      let r : read (O32 d) ks (output ((functions_of (O32 d)).write list out)) ≡ done list =
      ap₂ (read (O32 d)) (sym a.kinds_are) (given list out a.placed a.last a.scanned h) ∙ t.reads in (
        accepted_of (O32 d) (O32-laws d) early ks s,
        λ u. is_read (O32 d) (O32-laws d) early ks s (lent ks s u) (output ((functions_of (O32 d)).write list out)) list r,
      )

  -- the longest list has 32 structures of 32 bytes and a marker, the longest image two structures of 512 bytes; both are accepted,
  -- since an image of no bytes is refused 6
  pub demand : Demand (functions_of (O32 d)) d
  demand = record {
    carried_bytes = λ sig h. carried_bytes sig (scanned_of (O32 d) (O32-laws d) early sig [] [] (h [] []));
    one_answer_decides = one_answer_decides;
    round_trip = round_trip;
    longest_list = (replicate 32 0x5F ++ (0x0A ∷ []), one_answer_decides (replicate 32 0x5F ++ (0x0A ∷ [])) [] [] (inr (inl refl)), refl);
    longest_image = (0xFF ∷ 0xFF ∷ [], one_answer_decides (0xFF ∷ 0xFF ∷ []) [] [] (inr (inl refl)), refl);
  }
