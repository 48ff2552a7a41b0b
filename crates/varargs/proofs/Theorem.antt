-- The walker takes what the reader gives: of the definitions, and of what both answer and leave in their buffers.
-- Assumes nothing.
use mathlib.Core.Path.{◌≡◌, refl, sym, ap, ◌∙◌}
use mathlib.Core.List.{List, [], ◌∷◌}
use mathlib.Core.Bool.{Bool, true, false}
use Prim.Native.Nat.{ℕ, ◌≤◌}
use lib.ListN.{length}
use borrow.Author.Tests.{eq-eqb, lt-ltb, le-ltb}
use Rattle.words.proofs.Impossible.{impossible}
use Rattle.device.specs.declared.Device.{Device}
use Rattle.device.specs.declared.Device.TheVariants.{Fpu}
use Rattle.answers.specs.Outcomes.{Outcome, done, answer_of, buffer_of, check_room}
use Rattle.carried.specs.Image.{Placed, reading}
use Rattle.carried.specs.Convention.{Scan, stopped, complete, scan, read_scan, read, read_into}
use Rattle.carried.specs.Carried.{Accepted}
use Rattle.carried.specs.Calls.{Functions, functions_of, output, result_of, Agree}
use Rattle.carried.proofs.Readings.{done_inj, checked_accepts}
use Rattle.carried.proofs.Buffers.{read_is, output_done, answered-length, accepted_done, read_numbered}
use Rattle.o32.specs.declared.State.{State}
use Rattle.o32.specs.O32.{O32, image_size}
use Rattle.o32_laws.proofs.Laws.{O32-carried}
use Rattle.o32_laws.proofs.Refusing.{by_record, accepted_scanned, refused_exactly}
use Rattle.o32_laws.proofs.Refusals.{signature_accepted}
use Rattle.varargs.specs.Walking.{after, walked, marked, walk_scan, walk_into}
use Rattle.varargs.specs.Varargs.{bodies_after, body_bytes, CarriedAfter, walker_of, TakesBodies, Walks, Longest}
use Rattle.varargs.proofs.Bodies.{walked-is, bodies_after_long, bodies_most}
use Rattle.varargs.proofs.Agreeing.{walked_agree}
use Rattle.varargs.proofs.Refusals.{walker_refusals}

-- ---- an image that the reader reads

record Reads (d : Device) (sig img list : List ℕ) : Type 0 where
  placed : List Placed
  last : State
  scanned : scan (O32 d) false sig ≡ complete placed last
  accepted : Accepted (image_size last.end) placed img
  reading-is : list ≡ reading placed img

reads : (d : Device) (sig img list : List ℕ) → read (O32 d) sig img ≡ done list → Reads d sig img list
reads d sig img list e = go (scan (O32 d) false sig) refl e
  where
    go : (q : Scan State) → scan (O32 d) false sig ≡ q → read_scan (O32 d) (λ n x. x) img q ≡ done list → Reads d sig img list
    go (stopped r at j) f g = impossible (cc)
    go (complete L last) f g =
        let t = O32-carried d sig L last f in
        let a : Accepted (image_size last.end) L img = t.accepted img list e in
        record { placed = L; last = last; scanned = f; accepted = a; reading-is = done_inj (sym e ∙ t.accepts img a) }

module _ (d : Device) {sig img list : List ℕ} (w : Reads d sig img list) where
  walked_bodies : marked sig ≡ true → walked sig img ≡ bodies_after list
  walked_bodies m = walked-is d sig w.scanned m img w.accepted.whole ∙ ap bodies_after (sym w.reading-is)

  -- what is walked is answered, where there is room
  walks : marked sig ≡ true → (room : ℕ → Outcome → Outcome) → walk_scan d room sig img (scan (O32 d) false sig) ≡ room (length (walked sig img)) (done (walked sig img))
  walks m room =
      rw (w.scanned, m, eq-eqb (length img) (image_size w.last.end) w.accepted.whole)
      (ap (room (length (walked sig img))) (checked_accepts w.placed img (walked sig img) 0 w.accepted.promoted))

pub takes_bodies : (d : Device) → TakesBodies d
takes_bodies d sig img list m e = let w = reads d sig img list e in walks d w m (λ n x. x) ∙ ap done (walked_bodies d w m)

-- ---- of what the reader and the walker answer

module _ (d : Device) where
  abbrev f : Functions
  f = functions_of (O32 d)

  -- an answer of success is that of an image that is read, and the reading is in the buffer
  is_read : (sig img list : List ℕ) → (f.read sig img list).refusal ≡ 0 → Reads d sig img (output (f.read sig img list))
  is_read sig img list h =
      reads d sig img (output (f.read sig img list))
      ((read_is (O32 d) sig img (output (f.read sig img list)) (length list)).0
      (accepted_done list (read_into (O32 d) sig img (length list)) (read_numbered (O32 d) img (length list) (scan (O32 d) false sig) numbered) h)).0
    where
      numbered : (r at j : ℕ) → scan (O32 d) false sig ≡ stopped r at j → 1 ≤ r
      numbered r at j e = (by_record ((refused_exactly d false sig r at j).0 e).holds).0

  walk_done : (sig img list out : List ℕ) → marked sig ≡ true → (f.read sig img list).refusal ≡ 0
      → walk_into d sig img (length out) ≡ check_room 7 (length out) (length (bodies_after (output (f.read sig img list)))) (done (bodies_after (output (f.read sig img list))))
  walk_done sig img list out m h =
      let w = is_read sig img list h in
      walks d w m (check_room 7 (length out)) ∙ ap (λ (x : List ℕ). check_room 7 (length out) (length x) (done x)) (walked_bodies d w m)

  walk_same : (sig a b list list' out : List ℕ) → (f.read sig a list).refusal ≡ 0 → (f.read sig b list').refusal ≡ 0 → Agree (CarriedAfter d sig) a b
      → walker_of d sig a out ≡ walker_of d sig b out
  walk_same sig a b list list' out h g agree = ap (λ (x : Outcome). result_of (answer_of x) (buffer_of x out)) (go (marked sig) refl)
    where
      go : (t : Bool) → marked sig ≡ t → walk_into d sig a (length out) ≡ walk_into d sig b (length out)
      go false m = let w = is_read sig a list h in rw (w.scanned, m)
      go true m =
          let w = is_read sig a list h in
          let v = is_read sig b list' g in
          let e : image_size v.last.end ≡ image_size w.last.end = ap length_of (sym v.scanned ∙ w.scanned) in
          walks d w m (check_room 7 (length out))
          ∙ ap (λ (x : List ℕ). check_room 7 (length out) (length x) (done x)) (walked_agree d sig a b agree w.scanned m w.accepted.whole (v.accepted.whole ∙ e))
          ∙ sym (walks d v m (check_room 7 (length out)))
        where
          length_of : Scan State → ℕ
          length_of (stopped r at j) = 0
          length_of (complete L last) = image_size last.end

  exact_length : (sig img list : List ℕ) → marked sig ≡ true → (f.read sig img list).refusal ≡ 0 → length (bodies_after (output (f.read sig img list))) ≡ body_bytes (after false sig)
  exact_length sig img list m h =
      let w = is_read sig img list h in
      ap (λ (x : List ℕ). length (bodies_after x)) w.reading-is ∙ bodies_after_long d sig w.scanned m img

  pub walker : Walks f (walker_of d) d
  walker = record {
    takes_bodies = λ sig img list out m h l.
        let x : List ℕ = bodies_after (output (f.read sig img list)) in
        let e : walk_into d sig img (length out) ≡ done x = walk_done sig img list out m h ∙ rw (le-ltb (length out) (length x) l) in
        let o = output_done x out (walk_into d sig img (length out)) e in
        (o.0, answered-length x (walk_into d sig img (length out)) e ∙ exact_length sig img list m h, o.1);
    short_of_room = λ sig img list out m h l.
        let x : List ℕ = bodies_after (output (f.read sig img list)) in
        rw (walk_done sig img list out m h, lt-ltb (length out) (length x) l) (refl, refl, refl);
    exact_length = exact_length;
    walk_same = walk_same;
    refusals = walker_refusals d;
  }

-- a word, the marker, three structures of 320 bytes and one of 60
pub longest : Longest
longest = record {
  most = λ sig v m. let w = accepted_scanned Fpu false sig sig v in bodies_most Fpu sig w.scanned m;
  some = (0x05 ∷ 0x0A ∷ 0xBF ∷ 0xBF ∷ 0xBF ∷ 0x7B ∷ [], signature_accepted Fpu (0x05 ∷ 0x0A ∷ 0xBF ∷ 0xBF ∷ 0xBF ∷ 0x7B ∷ []) _ _ refl, refl, refl);
}
