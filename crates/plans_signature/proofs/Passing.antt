-- A pass over a list of whole records: after n of them, the records from its place on have the rest of the list's signature.
-- Assumes nothing.
use mathlib.Core.Path.{◌≡◌, refl, ap, ◌∙◌}
use mathlib.Core.List.{List, [], ◌∷◌, ◌++◌}
use mathlib.Core.Bool.{true}
use Prim.Native.Nat.{ℕ, ◌+◌, ◌≤◌, ◌<◌}
use native.Mathlib.Omega.{arith}
use native.Mathlib.Numerals.{add-one}
use native.Mathlib.Nat.{zero-add, add-zero}
use lib.ListN.{length, get_or, set, take, drop, drop_of_length-le, length-append, length-drop}
use lib.Seq.{drop_at, drop-drop, get_or-drop, take-length, paste-suc}
use Rattle.words.proofs.Impossible.{impossible}
use Rattle.places.proofs.Runs.{from_first}
use Rattle.answers.specs.Outcomes.{over}
use Rattle.kinds.specs.Kinds.{kind_of}
use Rattle.o32_laws.specs.Refusing.{Records}

-- ---- whole records of these kinds

-- no byte, so no kind
none_left : (ks : List ℕ) → Records true ks [] → ks ≡ []
none_left [] r = refl
none_left (k ∷ ks) r = impossible (cc r.2)

-- a byte k: it is the first kind, its body is there, and whole records of the other kinds stand after it
record First (ks : List ℕ) (k : ℕ) (l : List ℕ) : Type 0 where
  some : 1 ≤ length ks
  kind : get_or ks 0 0 ≡ k
  inside : (kind_of k).size ≤ length l
  rest : Records true (drop 1 ks) (drop (kind_of k).size l)

first_record : (ks : List ℕ) (k : ℕ) (l : List ℕ) → Records true ks (k ∷ l) → First ks k l
first_record [] k l r = impossible (cc r)
first_record (j ∷ ks) k l r =
    let e : k ∷ l ≡ j ∷ (r.0 ++ r.1) = r.2 in
    let f : j ≡ k = cc in
    let g : l ≡ r.0 ++ r.1 = cc in
    let b : length r.0 ≡ (kind_of k).size = r.3 ∙ ap (λ (x : ℕ). (kind_of x).size) f in
    record {
      some = omega arith;
      kind = f;
      inside = omega (arith, ap length g, length-append r.0 r.1);
      rest = rw (g, drop_at r.0 r.1 (kind_of k).size b) r.4;
    }

-- ---- the pass

-- at this place, after n records
pub record Passing (list sig : List ℕ) (n at : ℕ) : Type 0 where
  pub few : n ≤ at
  counted : n ≤ length sig
  ahead : Records true (drop n sig) (drop at list)

pub pass_starts : {list sig : List ℕ} → Records true sig list → Passing list sig 0 0
pass_starts r = record { few = omega arith; counted = omega arith; ahead = r }

module _ {list sig : List ℕ} {n at : ℕ} (w : Passing list sig n at) where
  pub pass_ends : length list ≤ at → n ≡ length sig
  pass_ends h =
      let e : drop n sig ≡ [] = none_left (drop n sig) (rw (drop_of_length-le list h) at w.ahead) in
      omega (arith, ap length e, length-drop n sig, w.counted)

  module _ (h : at < length list) where
    here : First (drop n sig) (get_or list at 0) (drop (at + 1) list)
    here = first_record (drop n sig) (get_or list at 0) (drop (at + 1) list) (rw (from_first list at h) at w.ahead)

    -- the byte there is the next kind of the signature
    pub pass_kind : (n < length sig) × (get_or sig n 0 ≡ get_or list at 0)
    pass_kind = (omega (arith, here.some, length-drop n sig), (rw (get_or-drop, add-zero) at here.kind))

    pub pass_inside : at + 1 + (kind_of (get_or list at 0)).size ≤ length list
    pass_inside = omega (arith, here.inside, length-drop (at + 1) list)

    pub pass_turn : {at' : ℕ} → at' ≡ at + 1 + (kind_of (get_or list at 0)).size → Passing list sig (n + 1) at'
    pass_turn e = rw e (record {
      few = omega (arith, w.few);
      counted = omega (arith, pass_kind);
      ahead = rw (← drop-drop 1 n sig, ← drop-drop (kind_of (get_or list at 0)).size (at + 1) list) here.rest;
    })

-- ---- a pass that copies the kinds

-- a kind stored after those before it
next_stored : (sig out : List ℕ) (n : ℕ) → n < length out → n < length sig → set (take n sig ++ drop n out) n (get_or sig n 0) ≡ take (n + 1) sig ++ drop (n + 1) out
next_stored sig out n h g = rw add-one (simp zero-add at (paste-suc out 0 sig n 0 (omega arith) g))

pub record Copying (list sig out₀ : List ℕ) (n at : ℕ) (out : List ℕ) : Type 0 where
  pub passing : Passing list sig n at
  buffer : out ≡ take n sig ++ drop n out₀

pub copy_starts : {list sig : List ℕ} (out : List ℕ) → Records true sig list → Copying list sig out 0 0 out
copy_starts out r = record { passing = pass_starts r; buffer = refl }

module _ {list sig out₀ : List ℕ} {n at : ℕ} {out : List ℕ} (w : Copying list sig out₀ n at out) where
  pub copy_ends : length list ≤ at → out ≡ over sig out₀
  copy_ends h = w.buffer ∙ rw (pass_ends w.passing h, take-length) refl

  pub copy_turn : at < length list → n < length out₀ → {at' : ℕ} → at' ≡ at + 1 + (kind_of (get_or list at 0)).size
      → Copying list sig out₀ (n + 1) at' (set out n (get_or list at 0))
  copy_turn h r e =
      let k = pass_kind w.passing h in
      record { passing = pass_turn w.passing h e; buffer = rw (w.buffer, ← k.1) (next_stored sig out₀ n r k.0) }
