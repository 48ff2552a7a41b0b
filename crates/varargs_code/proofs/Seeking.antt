-- The passes over the kinds before and after the marker: what holds at each kind, and at the end.
-- Assumes nothing.
use mathlib.Core.Path.{◌≡◌, refl, sym, ap, ap₂, ◌∙◌}
use mathlib.Core.List.{List, [], ◌∷◌}
use mathlib.Core.Bool.{Bool, true, false, cond}
use Prim.Native.Nat.{ℕ, suc, ◌+◌, ◌≤◌, ◌<◌}
use native.Mathlib.Omega.{arith}
use native.Mathlib.Nat.{zero-add}
use lib.ListN.{length, get_or, drop, drop_of_length-le}
use Rattle.words.specs.Words.{up}
use Rattle.places.proofs.Runs.{from_first}
use Rattle.kinds.specs.declared.Class.TheVariants.{Marker}
use Rattle.kinds.specs.declared.Kind.{Kind}
use Rattle.kinds.specs.Kinds.{kind_of, is}
use Rattle.kinds.proofs.KindFacts.{kind_facts}
use Rattle.o32_offsets.specs.Offsets.{lay, width, Alignment}
use Rattle.o32_offsets.proofs.Offsets.{up_small, width-le}
use Rattle.o32.specs.O32.{end_most}
use Rattle.varargs.specs.Walking.{aligned, stepped, before, marked}
use Rattle.varargs.proofs.Marker.{end_after}
use Rattle.varargs_code.specs.declared.Start.{Start}
use Rattle.std.specs.Prelude.{Option, Some, None}
use Rattle.varargs_code.specs.Starts.{start_of, Within}

pub within_first : (limit pointer : ℕ) (ks : List ℕ) → Within limit pointer ks → pointer ≤ limit
within_first limit pointer [] w = w
within_first limit pointer (k ∷ ks) w = w.0

-- what every kind has
pub kind_bounds : (k : ℕ) {kd : Kind} → kd ≡ kind_of k → Alignment kd.alignment × (width kd ≤ 512) × (kd.size ≤ 512)
kind_bounds k e = rw e ((kind_facts k).alignments, width-le (kind_of k) (kind_facts k).small, (kind_facts k).small)

pub aligned_near : {a pointer : ℕ} → Alignment a → pointer ≤ end_most → up a pointer ≤ 2048
aligned_near {a} {pointer} h l = omega (arith, up_small a pointer h)

-- ---- looking for the marker

-- what is found from a kind on
abbrev start_from : ℕ → ℕ → List ℕ → Option Start
start_from at pointer ks = cond (marked ks) (Some (record { place = at + length (before ks) + 1; pointer = (lay pointer (before ks)).end })) None

pub record Seeking (sig : List ℕ) (pointer at : ℕ) : Type 0 where
  pub within : Within end_most pointer (before (drop at sig))
  same : start_from at pointer (drop at sig) ≡ start_of sig

pub seek_starts : {sig : List ℕ} → Within end_most 0 (before sig) → Seeking sig 0 0
seek_starts w = record { within = w; same = rw zero-add }

start_on : (k at pointer : ℕ) (ks : List ℕ) → is Marker (kind_of k) ≡ false → start_from at pointer (k ∷ ks) ≡ start_from (at + 1) (stepped (kind_of k) pointer) ks
start_on k at pointer ks m =
    let e : at + suc (length (before ks)) + 1 ≡ at + 1 + length (before ks) + 1 = omega arith in
    rw m (ap₂ (λ (n o : ℕ). cond (marked ks) (Some (record { place = n; pointer = o })) None) e (end_after k pointer (before ks) m))

module _ {sig : List ℕ} {pointer at : ℕ} (w : Seeking sig pointer at) where
  pub seek_near : pointer ≤ end_most
  seek_near = within_first end_most pointer (before (drop at sig)) w.within

  pub seek_ends : length sig ≤ at → None ≡ start_of sig
  seek_ends h = let e : drop at sig ≡ [] = drop_of_length-le sig h in rw e at w.same

  module _ (h : at < length sig) {kd : Kind} (e : kd ≡ kind_of (get_or sig at 0)) {t : Bool} (f : t ≡ is Marker kd) where
    here : drop at sig ≡ get_or sig at 0 ∷ drop (at + 1) sig
    here = from_first sig at h

    pub seek_kind : Alignment kd.alignment × (width kd ≤ 512) × (kd.size ≤ 512)
    seek_kind = kind_bounds (get_or sig at 0) e

    pub seek_found : t ≡ true → Some (record { place = at + 1; pointer = pointer }) ≡ start_of sig
    seek_found g =
        let m : is Marker (kind_of (get_or sig at 0)) ≡ true = rw (← e) (sym f ∙ g) in
        let z : at + 0 ≡ at = omega arith in
        (rw (m, z) refl) ∙ ap (start_from at pointer) (sym here) ∙ w.same

    pub seek_on : t ≡ false → {a pointer' : ℕ} → a ≡ aligned kd pointer → pointer' ≡ a + up 4 (width kd) → Seeking sig pointer' (at + 1)
    seek_on g i o =
        let m : is Marker (kind_of (get_or sig at 0)) ≡ false = rw (← e) (sym f ∙ g) in
        rw (o, i, e) (record {
          within = (rw (here, m) at w.within).1;
          same = sym (start_on (get_or sig at 0) at pointer (drop (at + 1) sig) m) ∙ ap (start_from at pointer) (sym here) ∙ w.same;
        })
