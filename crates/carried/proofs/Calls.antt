-- The carried-bytes theorem, of what the reader and the writer of a convention answer and leave in buffers that are long enough.
-- Assumes nothing.
use mathlib.Core.Path.{◌≡◌, refl, sym, ap, ◌∙◌}
use mathlib.Core.Logic.{◌↔◌}
use mathlib.Core.List.{List, []}
use mathlib.Core.Bool.{false}
use Prim.Native.Nat.{ℕ, ◌≤◌}
use native.Mathlib.Omega.{arith}
use lib.ListN.{length}
use Rattle.answers.specs.Outcomes.{done, answer_of, check_room}
use Rattle.carried.specs.Image.{reading, Placed, carried, image, length_of_list}
use Rattle.carried.specs.Convention.{Convention, Scan, stopped, complete, scan, read_scan, write, read, read_into, write_into}
use Rattle.places.specs.Places.{In}
use Rattle.carried.specs.Carried.{Carried, Accepted, Rewriting, RoundTrip}
use Rattle.carried.proofs.Walks.{Laws, Walk, walk_of}
use Rattle.carried.proofs.Wholeness.{scan_reading}
use Rattle.carried.proofs.Theorem.{theorem}
use Rattle.carried.proofs.RoundTrip.{round_trip}
use Rattle.carried.proofs.Readings.{done_inj, reading_length}
use Rattle.carried.specs.Calls.{Functions, functions_of, output, PastSignature, AcceptedSignature, LentBuffers, Accepts, reading_of, rewriting_of, AcceptedImages}
use Rattle.carried.proofs.Buffers.{written_is, read_is, answered-length, output_done, accepted_done, past_signature, read_numbered}
use Rattle.words.proofs.Impossible.{impossible}

-- the same in other words: of buffers as long, and of the same carried bytes
pub images_as : {f : Functions} {sig : List ℕ} {m n m' n' : ℕ} {P Q : ℕ → Type 0} → m ≡ m' → n ≡ n' → ((p : ℕ) → Q p ↔ P p)
    → AcceptedImages f sig m n P → AcceptedImages f sig m' n' Q
images_as {f} {sig} {m} {n} {m'} {n'} {P} {Q} e g same w = record {
  some_accepted = λ u. w.some_accepted (lent u);
  same_in_all_buffers = λ u v. w.same_in_all_buffers (lent u) (lent v);
  read_same = λ u v a b h k.
      ((λ x p q. (w.read_same (lent u) (lent v) a b h k).0 x p ((same p).0 q)), λ x. (w.read_same (lent u) (lent v) a b h k).1 (λ p q. x p ((same p).1 q)));
  rewrites = λ u. w.rewrites (lent u);
  rewriting_length = λ u a h. ((w.rewriting_length (lent u) a h).0 ∙ g, (w.rewriting_length (lent u) a h).1 ∙ g);
  keeps_carried = λ u a h p q. w.keeps_carried (lent u) a h p ((same p).0 q);
  zero_elsewhere = λ u a h p q. w.zero_elsewhere (lent u) a h p (λ x. q ((same p).1 x));
  accepted_again = λ u v. w.accepted_again (lent u) (lent v);
  reads_the_same = λ u v. w.reads_the_same (lent u) (lent v);
  fixed_point = λ u v. w.fixed_point (lent u) (lent v);
  same_rewriting = λ u v. w.same_rewriting (lent u) (lent v);
}
  where
    lent : LentBuffers m' n' → LentBuffers m n
    lent u = record { list = u.list; image = u.image; list_long = omega (arith, u.list_long); image_long = omega (arith, u.image_long) }

-- the refusals of a signature are none of those that come after
abbrev pub Early : Convention → Type 0
Early c = (sig : List ℕ) (r at j : ℕ) → scan c false sig ≡ stopped r at j → PastSignature r → ⊥

module _ (c : Convention) (laws : Laws c) (early : Early c) (sig : List ℕ) where
  -- ---- which signatures are accepted

  pub record Scanned : Type 0 where
    pub placed : List Placed
    pub last : c.State
    pub scanned : scan c false sig ≡ complete placed last

  pub scanned_of : (img out : List ℕ) → PastSignature ((functions_of c).read sig img out).refusal → Scanned
  scanned_of img out h = go (scan c false sig) refl h
    where
      go : (q : Scan c.State) → scan c false sig ≡ q → PastSignature (answer_of (read_scan c (check_room 7 (length out)) img q)).refusal → Scanned
      go (stopped r at j) e g = absurd (early sig r at j e g)
      go (complete L st) e g = record { placed = L; last = st; scanned = e }

  pub accepted_of : Scanned → AcceptedSignature (functions_of c) sig
  accepted_of s img out = rw s.scanned (past_signature c img (length out) s.placed s.last)

  -- ---- at one that is

  module _ (s : Scanned) where
    abbrev L : List Placed
    L = s.placed

    abbrev n : ℕ
    n = c.image_length s.last

    abbrev m : ℕ
    m = length_of_list L

    carried_bytes : Carried c sig L n
    carried_bytes = theorem c laws sig L s.last s.scanned

    signature-walk : Walk c laws c.start sig L s.last
    signature-walk = walk_of c laws sig c.start L s.last 0 s.scanned

    numbered : (r at j : ℕ) → scan c false sig ≡ stopped r at j → 1 ≤ r
    numbered r at j e = impossible (cc s.scanned)

    read_long : (a x : List ℕ) → read c sig a ≡ done x → length x ≡ m
    read_long a x e = ap length (done_inj (sym e ∙ carried_bytes.accepts a (carried_bytes.accepted a x e))) ∙ reading_length L a carried_bytes.one_each.sized

    -- an image that is accepted is one that the theorem's reader reads, and as what the buffer then has
    pub reads : (u : LentBuffers m n) (a : List ℕ) → Accepts (functions_of c) sig u a → read c sig a ≡ done (reading_of (functions_of c) sig u a)
    reads u a h =
        ((read_is c sig a (reading_of (functions_of c) sig u a) (length u.list)).0
        (accepted_done u.list (read_into c sig a (length u.list)) (read_numbered c a (length u.list) (scan c false sig) numbered) h)).0

    pub is_read : (u : LentBuffers m n) (a x : List ℕ) → read c sig a ≡ done x → Accepts (functions_of c) sig u a × (reading_of (functions_of c) sig u a ≡ x)
    is_read u a x e =
        output_done x u.list (read_into c sig a (length u.list)) ((read_is c sig a x (length u.list)).1 (e, omega (arith, read_long a x e, u.list_long)))

    rewriting_of_lem : (u : LentBuffers m n) (a : List ℕ) → Accepts (functions_of c) sig u a → Rewriting c sig L n a (reading_of (functions_of c) sig u a)
    rewriting_of_lem u a h = carried_bytes.rewrites a (reading_of (functions_of c) sig u a) (reads u a h)

    is_written : (u : LentBuffers m n) (list r : List ℕ) → write c list ≡ done r → length r ≡ n
        → (((functions_of c).write list u.image).refusal ≡ 0) × (output ((functions_of c).write list u.image) ≡ r)
    is_written u list r e l =
        output_done r u.image (write_into c list (length u.image)) ((written_is c list r (length u.image)).1 (e, omega (arith, l, u.image_long)))

    -- the rewriting is that of the theorem
    rewritten : (u : LentBuffers m n) (a : List ℕ) (h : Accepts (functions_of c) sig u a)
        → (((functions_of c).write (reading_of (functions_of c) sig u a) u.image).refusal ≡ 0) × (rewriting_of (functions_of c) sig u a ≡ (rewriting_of_lem u a h).rewriting)
    rewritten u a h = is_written u (reading_of (functions_of c) sig u a) (rewriting_of_lem u a h).rewriting (rewriting_of_lem u a h).written (rewriting_of_lem u a h).whole

    written_as : (u : LentBuffers m n) (a : List ℕ) (h : Accepts (functions_of c) sig u a) → write c (reading_of (functions_of c) sig u a) ≡ done (rewriting_of (functions_of c) sig u a)
    written_as u a h = (rewriting_of_lem u a h).written ∙ ap done (sym (rewritten u a h).1)

    long : (u : LentBuffers m n) (a : List ℕ) (h : Accepts (functions_of c) sig u a) → length (rewriting_of (functions_of c) sig u a) ≡ n
    long u a h = ap length (rewritten u a h).1 ∙ (rewriting_of_lem u a h).whole

    rewritten_length : (u : LentBuffers m n) (a : List ℕ) (h : Accepts (functions_of c) sig u a) → ((functions_of c).write (reading_of (functions_of c) sig u a) u.image).length ≡ n
    rewritten_length u a h =
        let r = rewriting_of_lem u a h in
        answered-length r.rewriting (write_into c (reading_of (functions_of c) sig u a) (length u.image))
        ((written_is c (reading_of (functions_of c) sig u a) r.rewriting (length u.image)).1 (r.written, omega (arith, r.whole, u.image_long))) ∙ r.whole

    -- and the length that the reader answers is that of the reading
    pub reading-answered : (u : LentBuffers m n) (a : List ℕ) → Accepts (functions_of c) sig u a → ((functions_of c).read sig a u.list).length ≡ m
    reading-answered u a h =
        let x : List ℕ = reading_of (functions_of c) sig u a in
        let e : read c sig a ≡ done x = reads u a h in
        answered-length x (read_into c sig a (length u.list)) ((read_is c sig a x (length u.list)).1 (e, omega (arith, read_long a x e, u.list_long))) ∙ read_long a x e

    read_again : (u v : LentBuffers m n) (a : List ℕ) (h : Accepts (functions_of c) sig u a)
        → Accepts (functions_of c) sig v (rewriting_of (functions_of c) sig u a) × (reading_of (functions_of c) sig v (rewriting_of (functions_of c) sig u a) ≡ reading_of (functions_of c) sig u a)
    read_again u v a h =
        is_read v (rewriting_of (functions_of c) sig u a) (reading_of (functions_of c) sig u a) (ap (read c sig) (rewritten u a h).1 ∙ (rewriting_of_lem u a h).reads)

    -- what the writer gives for the reading of no image at all
    some_image : (u : LentBuffers m n) → (a : List ℕ) × Accepts (functions_of c) sig u a
    some_image u =
        let list : List ℕ = reading L [] in
        let a : List ℕ = image n L list in
        let w : RoundTrip c list L s.last = round_trip c laws list L s.last (scan_reading c laws signature-walk [] 0) in
        (a, (is_read u a (reading L a) (carried_bytes.accepts a w.accepted)).0)

    pub accepted_images : AcceptedImages (functions_of c) sig m n (λ p. In p (carried L))
    accepted_images = record {
      some_accepted = some_image;
      same_in_all_buffers = λ u v a h. let w = is_read v a (reading_of (functions_of c) sig u a) (reads u a h) in (w.0, sym w.1);
      read_same = λ u v a b h k. carried_bytes.read_same a b (reading_of (functions_of c) sig u a) (reading_of (functions_of c) sig v b) (reads u a h) (reads v b k);
      rewrites = λ u a h. (rewritten u a h).0;
      rewriting_length = λ u a h. (rewritten_length u a h, long u a h);
      keeps_carried = λ u a h. rw (rewritten u a h).1 (rewriting_of_lem u a h).keeps;
      zero_elsewhere = λ u a h. rw (rewritten u a h).1 (rewriting_of_lem u a h).clears;
      accepted_again = λ u v a h. (read_again u v a h).0;
      reads_the_same = λ u v a h. (read_again u v a h).1;
      fixed_point = λ u v a h.
          (is_written v (reading_of (functions_of c) sig v (rewriting_of (functions_of c) sig u a)) (rewriting_of (functions_of c) sig u a)
          (ap (write c) (read_again u v a h).1 ∙ written_as u a h) (long u a h)).1;
      same_rewriting = λ u v a b h k.
          carried_bytes.same_rewriting a b (reading_of (functions_of c) sig u a) (reading_of (functions_of c) sig v b) (rewriting_of (functions_of c) sig u a) (rewriting_of (functions_of c) sig v b)
          (reads u a h) (reads v b k) (written_as u a h) (written_as v b k);
    }

    -- an accepted image has the signature's length and no improper promotion, and every such image is accepted
    pub accepts_exactly : (u : LentBuffers m n) (a : List ℕ) → Accepts (functions_of c) sig u a ↔ Accepted n L a
    accepts_exactly u a = ((λ h. carried_bytes.accepted a (reading_of (functions_of c) sig u a) (reads u a h)), λ h. (is_read u a (reading L a) (carried_bytes.accepts a h)).0)
