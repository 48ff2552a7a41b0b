-- The reader's passes over an accepted signature: what holds at each kind, at the end, and where a word is no proper promotion.
-- Assumes nothing.
use mathlib.Core.Path.{◌≡◌, refl, sym, ap, ap₂, ◌∙◌}
use mathlib.Core.List.{List, [], ◌∷◌, ◌++◌, append_assoc, append-nil}
use mathlib.Core.Bool.{Bool, true, false, cond}
use Prim.Native.Nat.{ℕ, suc, ◌+◌, ◌≤◌, ◌<◌}
use native.Mathlib.Omega.{arith}
use native.Mathlib.Numerals.{add-one}
use lib.ListN.{length, get_or, set, drop, length-append, length-drop}
use lib.Seq.{drop-drop}
use Rattle.words.specs.Words.{body, proper}
use Rattle.places.specs.Places.{gather, put, run}
use Rattle.places.proofs.Stores.{put_next}
use Rattle.answers.specs.Outcomes.{Outcome, done, refused, over, buffer_of}
use Rattle.carried.specs.Image.{Placed, reading, checked}
use Rattle.carried.specs.Convention.{Convention, scan}
use Rattle.carried.proofs.Readings.{length-body, fits_carriers}
use Rattle.std.specs.Prelude.{Result, Ok, Err}
use Rattle.passes.specs.declared.Improper.{Improper}
use Rattle.passes.specs.Passes.{placed_in, Admitted, judged, verdict}
use Rattle.passes.proofs.Premises.{Premises}
use Rattle.passes.proofs.Ahead.{Ahead, ahead_starts, ahead_ends, record_here, state_next, ahead_sized, ahead_kind, Next, ahead_next}

-- ---- refusal 8

-- from this kind on the image is answered as the whole is to be
pub record Checking {c : Convention} (given : Premises c) (sig img : List ℕ) (whole : ℕ → Outcome → Outcome) (st : c.State) (at : ℕ) : Type 0 where
  pub ahead : Ahead given false sig (length img) st at
  pub same : (n : ℕ) (x : Outcome) → whole n x ≡ checked n at ahead.rest.placed img x

pub check_starts : {c : Convention} (given : Premises c) {sig img : List ℕ} {st : c.State} → st ≡ c.start → Admitted c false sig (length img)
    → Checking given sig img (λ n x. checked n 0 (placed_in (scan c false sig)) img x) st 0
check_starts given e a = rw (e, a.scanned) (record { ahead = ahead_starts given a; same = λ n x. refl })

module _ {c : Convention} {given : Premises c} {sig img : List ℕ} {whole : ℕ → Outcome → Outcome} {st : c.State} {at : ℕ} (w : Checking given sig img whole st at) where
  module _ (h : at < length sig) {u : Bool}
      (v : u ≡ proper (record_here w.ahead h).extension (record_here w.ahead h).size (gather img (record_here w.ahead h).carriers)) where
    -- what is answered from here on, by this record's test
    by_test : (t : Bool) → u ≡ t → (L : List Placed) → w.ahead.rest.placed ≡ record_here w.ahead h ∷ L
        → (n : ℕ) (x : Outcome) → whole n x ≡ cond t (checked n (at + 1) L img x) (refused n at (record_here w.ahead h).argument)
    by_test t b L s n x =
        w.same n x
        ∙ ap (λ (M : List Placed). checked n at M img x) s
        ∙ (rw (v, add-one at))
        ∙ ap (λ (y : Bool). cond y (checked n (at + 1) L img x) (refused n at (record_here w.ahead h).argument)) b

    pub check_stops : u ≡ false → (n : ℕ) (x : Outcome) → judged n (Err (record { place = at; argument = (record_here w.ahead h).argument })) x ≡ whole n x
    check_stops b n x =
        let z : Next w.ahead h (at + 1) = ahead_next w.ahead h (omega arith) in
        sym (by_test false b z.rest.rest.placed z.split n x)

    pub check_turn : u ≡ true → Checking given sig img whole (state_next w.ahead h) (at + 1)
    check_turn b =
        let z : Next w.ahead h (at + 1) = ahead_next w.ahead h (omega arith) in
        record { ahead = z.rest; same = by_test true b z.rest.rest.placed z.split }

-- ---- the list

-- a kind byte and a body stored after what is there
stored_record : (first out₀ out out' b : List ℕ) (n k size : ℕ) → length first ≡ n → out ≡ first ++ drop n out₀ → length b ≡ size → n + 1 + size ≤ length out₀
    → out' ≡ put (set out n k) (run (n + 1) size) b → out' ≡ (first ++ (k ∷ b)) ++ drop (n + 1 + size) out₀
stored_record first out₀ out out' b n k size l o lb r i =
    let m : suc (length b) ≤ length (drop n out₀) = omega (arith, length-drop n out₀) in
    let d : n + suc (length b) ≡ n + 1 + size = omega arith in
    i
    ∙ ap (λ (x : List ℕ). put (set x n k) (run (n + 1) size) b) o
    ∙ ap₂ (λ (x y : ℕ). put (set (first ++ drop n out₀) n k) (run x y) b) (add-one n) (sym lb)
    ∙ put_next (k ∷ b) first (drop n out₀) n l m
    ∙ ap (λ (x : List ℕ). (first ++ (k ∷ b)) ++ x) (drop-drop (suc (length b)) n out₀ ∙ ap (λ (x : ℕ). drop x out₀) d)

-- what was copied, and the reading of what is ahead, are the whole
pub record Copying {c : Convention} (given : Premises c) (sig img out₀ final : List ℕ) (st : c.State) (at n : ℕ) (out : List ℕ) : Type 0 where
  pub ahead : Ahead given false sig (length img) st at
  pub first : List ℕ
  pub long : length first ≡ n
  pub buffer : out ≡ first ++ drop n out₀
  pub whole : first ++ reading ahead.rest.placed img ≡ final

pub copy_starts : {c : Convention} (given : Premises c) {sig img : List ℕ} (out : List ℕ) {st : c.State} → st ≡ c.start → Admitted c false sig (length img)
    → Copying given sig img out (reading (placed_in (scan c false sig)) img) st 0 0 out
copy_starts given out e a = rw (e, a.scanned) (record { ahead = ahead_starts given a; first = []; long = refl; buffer = refl; whole = refl })

module _ {c : Convention} {given : Premises c} {sig img out₀ final : List ℕ} {st : c.State} {at n : ℕ} {out : List ℕ} (w : Copying given sig img out₀ final st at n out) where
  pub copy_ends : length sig ≤ at → out ≡ over final out₀
  copy_ends h =
      let p : w.ahead.rest.placed ≡ [] = ahead_ends w.ahead h in
      let f : w.first ≡ final = sym (append-nil w.first) ∙ ap (λ (L : List Placed). w.first ++ reading L img) (sym p) ∙ w.whole in
      w.buffer ∙ ap₂ (λ (x : List ℕ) (i : ℕ). x ++ drop i out₀) f (sym w.long ∙ ap length f)

  module _ (h : at < length sig) where
    abbrev s : Placed
    s = record_here w.ahead h

    abbrev body_here : List ℕ
    body_here = body s.size (gather img s.carriers)

    body_long : length body_here ≡ s.size
    body_long = length-body s img (fits_carriers s (ahead_sized w.ahead h))

    -- the whole is what is there, this record, and the rest
    split_here : (L : List Placed) → w.ahead.rest.placed ≡ s ∷ L → (w.first ++ (get_or sig at 0 ∷ body_here)) ++ reading L img ≡ final
    split_here L b =
        append_assoc w.first (get_or sig at 0 ∷ body_here) (reading L img)
        ∙ ap (λ (x : ℕ). w.first ++ (x ∷ (body_here ++ reading L img))) (sym (ahead_kind w.ahead h))
        ∙ ap (λ (M : List Placed). w.first ++ reading M img) (sym b)
        ∙ w.whole

    module _ (room : length final ≤ length out₀) where
      pub copy_room : n + 1 + (record_here w.ahead h).size ≤ length out₀
      copy_room =
          let v : Next w.ahead h (at + 1) = ahead_next w.ahead h (omega arith) in
          let L : List Placed = v.rest.rest.placed in
          let l : length ((w.first ++ (get_or sig at 0 ∷ body_here)) ++ reading L img) ≡ length final = ap length (split_here L v.split) in
          omega (arith, l, length-append (w.first ++ (get_or sig at 0 ∷ body_here)) (reading L img), length-append w.first (get_or sig at 0 ∷ body_here), w.long, body_long)

      pub copy_turn : {out' : List ℕ}
          → out' ≡ put (set out n (get_or sig at 0)) (run (n + 1) (record_here w.ahead h).size) (body (record_here w.ahead h).size (gather img (record_here w.ahead h).carriers))
          → Copying given sig img out₀ final (state_next w.ahead h) (at + 1) (n + 1 + (record_here w.ahead h).size) out'
      copy_turn {out'} i =
          let v : Next w.ahead h (at + 1) = ahead_next w.ahead h (omega arith) in
          record {
            ahead = v.rest;
            first = w.first ++ (get_or sig at 0 ∷ body_here);
            long = length-append w.first (get_or sig at 0 ∷ body_here) ∙ omega (arith, w.long, body_long);
            buffer = stored_record w.first out₀ out out' body_here n (get_or sig at 0) s.size w.long w.buffer body_long copy_room i;
            whole = split_here v.rest.rest.placed v.split;
          }

-- ---- both: q is what the check found, and so what is answered in place of a list

module _ (q : Result (Unit {0}) Improper) (answer : ℕ → Outcome → Outcome) (e : (n : ℕ) (x : Outcome) → judged n q x ≡ answer n x) (list out : List ℕ) where
  pub improper_keeps : {i : Improper} → q ≡ Err i → ((x : Outcome) → verdict q x ≡ answer 8 x) × (out ≡ buffer_of (answer 8 (done list)) out)
  improper_keeps f = (e 8, ap (λ (x : Outcome). buffer_of x out) (ap (λ (x : Result (Unit {0}) Improper). verdict x (done list)) (sym f) ∙ e 8 (done list)))

  pub proper_delivers : {o : List ℕ} → q ≡ Ok tt → o ≡ over list out → ((x : Outcome) → verdict q x ≡ answer 8 x) × (o ≡ buffer_of (answer 8 (done list)) out)
  proper_delivers f g = (e 8, g ∙ ap (λ (x : Outcome). buffer_of x out) (ap (λ (x : Result (Unit {0}) Improper). verdict x (done list)) (sym f) ∙ e 8 (done list)))
