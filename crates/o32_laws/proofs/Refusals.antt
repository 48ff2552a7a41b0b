-- The refusals of the writer and the reader with a buffer, exactly on their conditions, on every device; and what they leave in it.
-- Assumes nothing.
use mathlib.Core.Path.{◌≡◌, refl, sym, ap, ◌∙◌, subst}
use mathlib.Core.Logic.Iff
use mathlib.Core.Logic.{◌↔◌}
use mathlib.Core.List.{List, [], ◌++◌, append-nil}
use mathlib.Core.Bool.{true, false}
use Prim.Native.Nat.{ℕ, ◌+◌, ◌≤◌}
use native.Mathlib.Omega.{arith}
use lib.ListN.{length, drop}
use lib.Seq.{drop_at}
use Rattle.device.specs.declared.Device.{Device}
use Rattle.answers.specs.Outcomes.{Outcome, done, refused, answer_of, buffer_of}
use Rattle.carried.specs.Image.{Placed, length_of_list}
use Rattle.carried.specs.Convention.{complete, scan, write_into, read_into}
use Rattle.carried.specs.Carried.{kinds}
use Rattle.carried.proofs.Walks.{Walk, walk_of, walk_by_kinds}
use Rattle.o32.specs.declared.State.{State}
use Rattle.o32.specs.O32.{O32, area, start}
use Rattle.carried.specs.Calls.{result_of, functions_of}
use Rattle.carried.proofs.CallRefusals as A
use Rattle.carried.proofs.CallRefusals.{ImageRefused, answer-refuses, write-refused, read-refused}
use Rattle.o32_laws.specs.Carrying.{image_bytes, list_bytes}
use Rattle.o32_laws.specs.Refusing as R
use Rattle.o32_laws.specs.Refusing.{Accepted, WriterRefuses, ImageRefuses, ReaderRefuses, KeepsBuffer, Refusals}
use Rattle.o32_laws.proofs.Laws.{O32-laws, O32-carried}
use Rattle.o32_laws.proofs.Refusing.{by_record, end_is, Bodied, bodied_left, bodied_list, walk_bodied, scanned_accepted, ScannedAs, accepted_scanned, refused_exactly, accepted_exactly}
use Rattle.o32_laws.proofs.Improper.{improper_exactly}

-- ---- what a call leaves in its buffer

pub keeps : (a : Outcome) → ((r place j : ℕ) → a ≡ refused r place j → 1 ≤ r) → (out : List ℕ) → KeepsBuffer out (result_of (answer_of a) (buffer_of a out))
keeps (refused r at j) numbered out = record { refused = λ h. (refl, refl); accepted = λ e. absurd (omega (arith, numbered r at j refl)) }
keeps (done x) numbered out = record { refused = λ h. absurd (omega arith); accepted = λ e. (refl, refl, drop_at x (drop (length x) out) (length x) refl) }

module _ (d : Device) where
  -- ---- lengths

  walk-image : {last : State} {ks : List ℕ} {L : List Placed} → Walk (O32 d) (O32-laws d) start ks L last → 32 + area last.end ≡ image_bytes ks
  walk-image w = ap (λ (e : ℕ). 32 + area e) (end_is d w)

  -- of a signature, and of a part of it
  pub part_long : (sig : List ℕ) (L : List Placed) (last : State) → scan (O32 d) false sig ≡ complete L last → (M N : List Placed) → L ≡ M ++ N → length_of_list M ≡ list_bytes (kinds M)
  part_long sig L last ok M N e = bodied_list M (bodied_left M N (subst Bodied e (walk_bodied d (walk_of (O32 d) (O32-laws d) sig start L last 0 ok))))

  pub list_long : (sig : List ℕ) (L : List Placed) (last : State) → scan (O32 d) false sig ≡ complete L last → length_of_list L ≡ list_bytes sig
  list_long sig L last ok = part_long sig L last ok L [] (sym (append-nil L)) ∙ ap list_bytes (O32-carried d sig L last ok).signature

  pub image_long : (sig : List ℕ) (L : List Placed) (last : State) → scan (O32 d) false sig ≡ complete L last → 32 + area last.end ≡ image_bytes sig
  image_long sig L last ok = walk-image (walk_of (O32 d) (O32-laws d) sig start L last 0 ok)

  pub signature_accepted : (sig : List ℕ) (L : List Placed) (last : State) → scan (O32 d) false sig ≡ complete L last → Accepted false sig sig
  signature_accepted sig L last ok = subst (Accepted false sig) (O32-carried d sig L last ok).signature (scanned_accepted d false sig L last ok)

  -- ---- the writer

  pub writer_refuses : (list : List ℕ) (room r place j : ℕ) → (write_into (O32 d) list room ≡ refused r place j) ↔ WriterRefuses list room r place j
  writer_refuses list room r place j = ((λ e. there ((write-refused (O32 d) list room r place j).0 e)), λ v. (write-refused (O32 d) list room r place j).1 (back v))
    where
      there : A.WriteRefused (O32 d) list room r place j → WriterRefuses list room r place j
      there (A.by_record e) = R.by_record ((refused_exactly d true list r place j).0 e)
      there (A.short L last e h x y z) =
          let n : 32 + area last.end ≡ image_bytes (kinds L) = walk-image (walk_by_kinds (O32 d) (O32-laws d) true list L last e) in
          R.short_buffer (kinds L) (scanned_accepted d true list L last e) (omega (arith, n)) x y z

      back : WriterRefuses list room r place j → A.WriteRefused (O32 d) list room r place j
      back (R.by_record v) = A.by_record ((refused_exactly d true list r place j).1 v)
      back (R.short_buffer ks v h x y z) =
          let a : ScannedAs d true list ks = accepted_scanned d true list ks v in
          let n : 32 + area a.last.end ≡ image_bytes ks = walk-image (walk_by_kinds (O32 d) (O32-laws d) true list a.placed a.last a.scanned) ∙ ap image_bytes a.kinds_are in
          A.short a.placed a.last a.scanned (omega (arith, n)) x y z

  -- ---- an image, where n bytes are to be answered

  pub image-refuses : (sig : List ℕ) (L : List Placed) (last : State) → scan (O32 d) false sig ≡ complete L last → (img : List ℕ) (n room r place j : ℕ)
      → ImageRefused (O32 d) L last img n room r place j ↔ ImageRefuses sig img n room r place j
  image-refuses sig L last ok img n room r place j = (there, back)
    where
      long : 32 + area last.end ≡ image_bytes sig
      long = image_long sig L last ok

      there : ImageRefused (O32 d) L last img n room r place j → ImageRefuses sig img n room r place j
      there (A.six h x y z) = R.wrong_length (λ g. h (g ∙ sym long)) x y z
      there (A.seven g h x y z) = R.short_buffer (g ∙ long) h x y z
      there (A.eight g h x w) = R.improper (g ∙ long) h x ((improper_exactly d sig L last ok img place j).0 w)

      back : ImageRefuses sig img n room r place j → ImageRefused (O32 d) L last img n room r place j
      back (R.wrong_length h x y z) = A.six (λ g. h (g ∙ long)) x y z
      back (R.short_buffer g h x y z) = A.seven (g ∙ sym long) h x y z
      back (R.improper g h x w) = A.eight (g ∙ sym long) h x ((improper_exactly d sig L last ok img place j).1 w)

  -- ---- the reader

  reader_refuses : (sig img : List ℕ) (room r place j : ℕ) → (read_into (O32 d) sig img room ≡ refused r place j) ↔ ReaderRefuses sig img room r place j
  reader_refuses sig img room r place j =
      ((λ e. there ((read-refused (O32 d) (O32-laws d) sig img room r place j).0 e)), λ v. (read-refused (O32 d) (O32-laws d) sig img room r place j).1 (back v))
    where
      exactly : (L : List Placed) (last : State) → scan (O32 d) false sig ≡ complete L last
          → ImageRefused (O32 d) L last img (length_of_list L) room r place j ↔ ImageRefuses sig img (list_bytes sig) room r place j
      exactly L last e = rw (← list_long sig L last e) (image-refuses sig L last e img (length_of_list L) room r place j)

      there : A.ReadRefused (O32 d) sig img room r place j → ReaderRefuses sig img room r place j
      there (A.by_record e) = R.by_record ((refused_exactly d false sig r place j).0 e)
      there (A.by_image L last e w) = R.by_image (signature_accepted sig L last e) ((exactly L last e).0 w)

      back : ReaderRefuses sig img room r place j → A.ReadRefused (O32 d) sig img room r place j
      back (R.by_record v) = A.by_record ((refused_exactly d false sig r place j).1 v)
      back (R.by_image v w) =
          let a = accepted_scanned d false sig sig v in
          A.by_image a.placed a.last a.scanned ((exactly a.placed a.last a.scanned).1 w)

  -- ---- what they answer

  -- a refusal has a number
  writer_numbered : {list : List ℕ} {room r place j : ℕ} → WriterRefuses list room r place j → 1 ≤ r
  writer_numbered (R.by_record v) = (by_record v.holds).0
  writer_numbered (R.short_buffer ks a h x y z) = omega arith

  pub image_numbered : {sig img : List ℕ} {n room r place j : ℕ} → ImageRefuses sig img n room r place j → 1 ≤ r
  image_numbered (R.wrong_length h x y z) = omega arith
  image_numbered (R.short_buffer g h x y z) = omega arith
  image_numbered (R.improper g h x w) = omega arith

  reader_numbered : {sig img : List ℕ} {room r place j : ℕ} → ReaderRefuses sig img room r place j → 1 ≤ r
  reader_numbered (R.by_record v) = (by_record v.holds).0
  reader_numbered (R.by_image v w) = image_numbered w

  -- an answer is no refusal exactly when there is none
  pub accepts : (a : Outcome) (P : ℕ → ℕ → ℕ → Type 0) → ((r place j : ℕ) → (a ≡ refused r place j) ↔ P r place j) → ((r place j : ℕ) → P r place j → 1 ≤ r)
      → ((answer_of a).refusal ≡ 0) ↔ ((r place j : ℕ) → P r place j → ⊥)
  accepts a P same numbered = (
    (λ e r place j v. let f : (answer_of a).refusal ≡ r = ap (λ (x : Outcome). (answer_of x).refusal) ((same r place j).1 v) in omega (arith, numbered r place j v)),
    λ h. none a same h,
  )
    where
      none : (x : Outcome) → ((r place j : ℕ) → (x ≡ refused r place j) ↔ P r place j) → ((r place j : ℕ) → P r place j → ⊥) → (answer_of x).refusal ≡ 0
      none (refused r place j) same h = absurd (h r place j ((same r place j).0 refl))
      none (done x) same h = refl

  pub refusals : Refusals (functions_of (O32 d))
  refusals = record {
    accepted = λ bodies l. accepted_exactly d bodies l;
    write_refuses = λ list out r place j h. Iff.trans (answer-refuses (write_into (O32 d) list (length out)) r place j h) (writer_refuses list (length out) r place j);
    write_accepts = λ list out.
        accepts (write_into (O32 d) list (length out)) (λ r place j. WriterRefuses list (length out) r place j) (writer_refuses list (length out)) (λ r place j v. writer_numbered v);
    write_keeps = λ list out. keeps (write_into (O32 d) list (length out)) (λ r place j e. writer_numbered ((writer_refuses list (length out) r place j).0 e)) out;
    read_refuses = λ sig img out r place j h. Iff.trans (answer-refuses (read_into (O32 d) sig img (length out)) r place j h) (reader_refuses sig img (length out) r place j);
    read_accepts = λ sig img out.
        accepts (read_into (O32 d) sig img (length out)) (λ r place j. ReaderRefuses sig img (length out) r place j) (reader_refuses sig img (length out)) (λ r place j v. reader_numbered v);
    read_keeps = λ sig img out. keeps (read_into (O32 d) sig img (length out)) (λ r place j e. reader_numbered ((reader_refuses sig img (length out) r place j).0 e)) out;
  }
