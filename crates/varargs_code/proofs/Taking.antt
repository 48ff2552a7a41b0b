-- The pass that takes the bodies: what was taken, and what the walk still takes, are the whole walk.
-- Assumes nothing.
use mathlib.Core.Path.{◌≡◌, refl, sym, ap, ap₂, ◌∙◌}
use mathlib.Core.List.{List, [], ◌∷◌, ◌++◌, map, append_assoc, append-nil}
use Prim.Native.Nat.{ℕ, ◌+◌, ◌-◌, ◌≤◌, ◌<◌}
use native.Mathlib.Omega.{arith}
use lib.ListN.{length, get_or, drop, drop_of_length-le, length-append, length-drop}
use lib.Seq.{drop-drop, length-take-le}
use Rattle.words.specs.Words.{up}
use Rattle.places.specs.Places.{gather, put, run}
use Rattle.places.proofs.Runs.{from_first}
use Rattle.places.proofs.Stores.{put_next}
use Rattle.answers.specs.Outcomes.{over}
use Rattle.kinds.specs.declared.Kind.{Kind}
use Rattle.kinds.specs.Kinds.{kind_of}
use Rattle.kinds.proofs.KindFacts.{kind_facts}
use Rattle.o32_offsets.specs.Offsets.{width, Alignment}
use Rattle.o32_offsets.proofs.Offsets.{up-ge, body_within}
use Rattle.o32.specs.O32.{carrier}
use Rattle.o32_load.proofs.Parts.{body_part}
use Rattle.varargs.specs.Walking.{spilled, aligned, bytes_at, stepped, walk_from}
use Rattle.varargs.specs.Varargs.{body_bytes}
use Rattle.varargs.proofs.Memory.{spilled_long, spilled_part}
use Rattle.varargs_code.specs.Starts.{Within}
use Rattle.varargs_code.proofs.Seeking.{within_first, kind_bounds}

pub record Taking (sig img out₀ final : List ℕ) (pointer n at : ℕ) (out : List ℕ) : Type 0 where
  pub within : Within (length img - 32) pointer (drop at sig)
  pub room : n + body_bytes (drop at sig) ≤ length out₀
  first : List ℕ
  long : length first ≡ n
  buffer : out ≡ first ++ drop n out₀
  whole : first ++ walk_from (spilled img) pointer (drop at sig) ≡ final

pub take_starts : {sig img : List ℕ} (out : List ℕ) {start : ℕ} → Within (length img - 32) start sig → body_bytes sig ≤ length out
    → Taking sig img out (walk_from (spilled img) start sig) start 0 0 out
take_starts out w h = record { within = w; room = omega arith; first = []; long = refl; buffer = refl; whole = refl }

module _ {sig img out₀ final : List ℕ} {pointer n at : ℕ} {out : List ℕ} (w : Taking sig img out₀ final pointer n at out) where
  pub take_near : pointer ≤ length img - 32
  take_near = within_first (length img - 32) pointer (drop at sig) w.within

  pub take_ends : length sig ≤ at → out ≡ over final out₀
  take_ends h =
      let f : w.first ≡ final =
      sym (append-nil w.first) ∙ ap (λ (ks : List ℕ). w.first ++ walk_from (spilled img) pointer ks) (sym (drop_of_length-le sig h)) ∙ w.whole in
      w.buffer ∙ ap₂ (λ (x : List ℕ) (i : ℕ). x ++ drop i out₀) f (sym w.long ∙ ap length f)

  module _ (h : at < length sig) {kd : Kind} (e : kd ≡ kind_of (get_or sig at 0)) where
    abbrev k : ℕ
    k = get_or sig at 0

    here : drop at sig ≡ k ∷ drop (at + 1) sig
    here = from_first sig at h

    pub take_kind : Alignment kd.alignment × (width kd ≤ 512) × (kd.size ≤ 512)
    take_kind = kind_bounds k e

    next_within : Within (length img - 32) (stepped (kind_of k) pointer) (drop (at + 1) sig)
    next_within = (rw here at w.within).1

    -- what is taken lies in the area, and there is room for it
    pub take_inside : (kd.size ≤ width kd) × (aligned kd pointer + width kd ≤ length img - 32) × (n + kd.size + body_bytes (drop (at + 1) sig) ≤ length out₀)
    take_inside =
        let s : (kind_of k).size ≤ width (kind_of k) = body_within (kind_of k) (kind_facts k) in
        let u : width (kind_of k) ≤ up 4 (width (kind_of k)) = up-ge 4 (width (kind_of k)) (omega arith) in
        let l : stepped (kind_of k) pointer ≤ length img - 32 = within_first (length img - 32) (stepped (kind_of k) pointer) (drop (at + 1) sig) next_within in
        let b : body_bytes (drop at sig) ≡ (kind_of k).size + body_bytes (drop (at + 1) sig) = ap body_bytes here in
        rw e (s, omega arith, omega (arith, w.room))

    module _ (big : 48 ≤ length img) where
      abbrev taken : List ℕ
      taken = bytes_at (kind_of k) pointer (spilled img)

      bounds : ((kind_of k).size ≤ width (kind_of k)) × (aligned (kind_of k) pointer + width (kind_of k) ≤ length img - 32) × (n + (kind_of k).size + body_bytes (drop (at + 1) sig) ≤ length out₀)
      bounds = rw e at take_inside

      -- the bytes that are stored are those that the routine takes
      taken_is : gather img (map carrier (run (aligned (kind_of k) pointer + (width (kind_of k) - (kind_of k).size)) (kind_of k).size)) ≡ taken
      taken_is =
          let o : ℕ = aligned (kind_of k) pointer in
          let v : ℕ = width (kind_of k) in
          let z : ℕ = (kind_of k).size in
          spilled_part img big z (o + (v - z)) (omega (arith, bounds)) ∙ sym (body_part (spilled img) v z o bounds.0 (omega (arith, bounds, spilled_long img big)))

      taken_long : length taken ≡ (kind_of k).size
      taken_long =
          let o : ℕ = aligned (kind_of k) pointer in
          let v : ℕ = width (kind_of k) in
          let z : ℕ = (kind_of k).size in
          ap length (body_part (spilled img) v z o bounds.0 (omega (arith, bounds, spilled_long img big)))
          ∙ length-take-le z (drop (o + (v - z)) (spilled img)) (rw length-drop (omega (arith, bounds, spilled_long img big)))

      pub take_on : {a v pointer' : ℕ} {out' : List ℕ} → a ≡ aligned kd pointer → v ≡ width kd → pointer' ≡ a + up 4 (width kd)
          → out' ≡ put out (run n kd.size) (gather img (map carrier (run (a + (v - kd.size)) kd.size)))
          → Taking sig img out₀ final pointer' (n + kd.size) (at + 1) out'
      take_on {out' = out'} p q o i = rw (o, p, e) (
          let z : ℕ = (kind_of k).size in
          let m : length taken ≤ length (drop n out₀) = omega (arith, taken_long, length-drop n out₀, bounds) in
          let j : out' ≡ put (w.first ++ drop n out₀) (run n (length taken)) taken = (rw (p, q, e) at i) ∙ rw (taken_is, w.buffer, taken_long) refl in
          record {
            within = next_within;
            room = bounds.2;
            first = w.first ++ taken;
            long = length-append w.first taken ∙ omega (arith, w.long, taken_long);
            buffer = j ∙ put_next taken w.first (drop n out₀) n w.long m
                ∙ ap (λ (x : List ℕ). (w.first ++ taken) ++ x) (drop-drop (length taken) n out₀ ∙ ap (λ (x : ℕ). drop (n + x) out₀) taken_long);
            whole = append_assoc w.first taken (walk_from (spilled img) (stepped (kind_of k) pointer) (drop (at + 1) sig))
                ∙ ap (λ (ks : List ℕ). w.first ++ walk_from (spilled img) pointer ks) (sym here) ∙ w.whole;
          })
