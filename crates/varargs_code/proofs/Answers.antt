-- What the walker answers and leaves in the lent buffer: each refusal, and the bodies.
-- Assumes nothing.
use mathlib.Core.Path.{◌≡◌, refl, sym, ap, ap₂, ◌∙◌, subst}
use mathlib.Core.List.{List, [], ◌∷◌, ◌++◌, append_assoc}
use mathlib.Core.Bool.{Bool, true, false, cond}
use Prim.Native.Nat.{ℕ, ◌+◌, ◌-◌, ◌≤◌}
use native.Mathlib.Omega.{arith}
use lib.ListN.{length, drop, length-append}
use lib.ListN.{take, length-drop}
use lib.Seq.{drop_at, take-length}
use Rattle.device.specs.declared.Device.{Device}
use Rattle.o32_offsets.specs.Offsets.{lay}
use Rattle.carried.specs.Convention.{scan}
use Rattle.std.specs.Prelude.{Result, Ok, Err, Option, Some, None}
use Rattle.answers.specs.declared.Refusal.{Refusal}
use Rattle.passes.specs.declared.Measured.{Measured}
use Rattle.passes.specs.Found.{found}
use Rattle.passes.specs.Passes.{measured}
use Rattle.passes.proofs.Answers.{Right, Lengths, was_refused, was_accepted, refused_right, Delivers}
use Rattle.o32.specs.O32.{O32, end_most}
use Rattle.o32_laws.proofs.Bounds.{scan_bound}
use Rattle.varargs.specs.Walking.{spilled, walk_from, before, after, walked, marked, walk_into}
use Rattle.varargs.specs.Varargs.{body_bytes}
use Rattle.varargs.proofs.Bodies.{walked_long, bodies_most}
use Rattle.varargs.proofs.Marker.{around}
use Rattle.varargs_code.specs.declared.Start.{Start}
use Rattle.varargs_code.specs.Starts.{start_of, Within}
use Rattle.varargs_code.proofs.Area.{signature-before, signature-after}

-- ---- where the walk starts

-- the kinds from the place after the marker on
drop-before : (sig : List ℕ) → marked sig ≡ true → drop (length (before sig) + 1) sig ≡ after false sig
drop-before sig m =
    let w = around sig m in
    ap (drop (length (before sig) + 1)) (sym (append_assoc (before sig) (w.marker ∷ []) (after false sig) ∙ w.whole))
    ∙ drop_at (before sig ++ (w.marker ∷ [])) (after false sig) (length (before sig) + 1) (length-append (before sig) (w.marker ∷ []))

-- a signature with a marker: the place of the first kind after it, and the pointer there
record Started (sig : List ℕ) (place pointer : ℕ) : Type 0 where
  found : marked sig ≡ true
  from : drop place sig ≡ after false sig
  at : pointer ≡ (lay 0 (before sig)).end
  inside : place ≤ length sig

abbrev Starting : List ℕ → Option Start → Type 0
Starting sig None = marked sig ≡ false
Starting sig (Some s) = Started sig s.place s.pointer

starting : (sig : List ℕ) → Starting sig (start_of sig)
starting sig = go (marked sig) refl
  where
    go : (t : Bool) → marked sig ≡ t → Starting sig (cond t (Some (record { place = length (before sig) + 1; pointer = (lay 0 (before sig)).end })) None)
    go true m =
        let w = around sig m in
        let l : length (before sig ++ (w.marker ∷ after false sig)) ≡ length sig = ap length w.whole in
        record { found = m; from = drop-before sig m; at = refl; inside = omega (arith, l, length-append (before sig) (w.marker ∷ after false sig)) }
    go false m = m

started_as : (sig : List ℕ) {q r : Option Start} → q ≡ start_of sig → q ≡ r → Starting sig r
started_as sig e f = subst (Starting sig) (sym e ∙ f) (starting sig)

-- ---- what is answered

module _ (d : Device) (sig img out : List ℕ) where
  pub walk_refused : {m : Result Measured Refusal} {e : Refusal} → found m ≡ measured (O32 d) (scan (O32 d) false sig) → m ≡ Err e
      → Right (walk_into d sig img (length out)) out (Err e) out
  walk_refused i g = refused_right out (rw (was_refused (O32 d) false sig i g))

  module _ {q : Result Measured Refusal} {v : Measured} (e : (d : Device) → found q ≡ measured (O32 d) (scan (O32 d) false sig)) (f : q ≡ Ok v) where
    abbrev lengths : Lengths (O32 d) false sig v.length v.image
    lengths = was_accepted (O32 d) false sig (e d) f

    fits : lengths.admitted.last.end ≤ end_most
    fits = (scan_bound d false sig lengths.admitted.placed lengths.admitted.last lengths.admitted.scanned).fits

    pub walk_before : Within end_most 0 (before sig)
    walk_before = signature-before d sig lengths.admitted.scanned fits

    module _ {s : Option Start} {t : Start} (g : s ≡ start_of sig) (h : s ≡ Some t) where
      start : Started sig t.place t.pointer
      start = started_as sig g h

      -- the kinds after the marker, as the slice has them
      abbrev kinds : List ℕ
      kinds = take (length sig - t.place) (drop t.place sig)

      kinds_are : kinds ≡ after false sig
      kinds_are = ap (λ (n : ℕ). take n (drop t.place sig)) (sym (length-drop t.place sig)) ∙ take-length (drop t.place sig) ∙ start.from

      abbrev bodies : List ℕ
      bodies = walk_from (spilled img) t.pointer kinds

      bodies_are : bodies ≡ walked sig img
      bodies_are = ap₂ (walk_from (spilled img)) start.at kinds_are

      pub walk_bytes : body_bytes kinds ≤ end_most
      walk_bytes = rw kinds_are (omega (arith, bodies_most d sig lengths.admitted.scanned start.found))

      pub walk_delivers : Delivers (O32 d) sig img out bodies (body_bytes kinds) v.image (walk_into d sig img (length out))
      walk_delivers = record {
        admitted = lengths.admitted;
        long = λ i. ap length bodies_are ∙ walked_long d sig lengths.admitted.scanned start.found img (i ∙ lengths.admitted.whole) ∙ ap body_bytes (sym kinds_are);
        is = rw (lengths.admitted.scanned, start.found, bodies_are) refl;
      }

      -- the marker is in the signature
      pub walk_inside : t.place ≤ length sig
      walk_inside = start.inside

      -- the walk stays in the area
      pub walk-area : length img ≡ v.image → ((48 ≤ length img) × (length img ≤ 1056)) × Within (length img - 32) t.pointer kinds
      walk-area i =
          let w = lengths.admitted.whole in (
            (omega arith, omega (arith, fits)),
            rw (start.at, kinds_are) (signature-after d sig lengths.admitted.scanned (omega (arith, fits)) start.found),
          )
