-- Facts of all kinds: one test, computed over the 256 kind bytes, and what it says of each; and of the kinds of structures.
-- Assumes nothing.
use mathlib.Core.Path.{◌≡◌, refl}
use mathlib.Core.Logic.{◌⊎◌, inl, inr}
use mathlib.Core.List.{List, [], ◌∷◌, ◌++◌}
use mathlib.Core.Bool.{Bool, true, false, cond, not, ◌&&◌, ◌||◌, and-false}
use Prim.Native.Nat.{ℕ, zero, suc, ◌≤◌, ◌<◌}
use native.Mathlib.Omega.{arith}
use lib.Dec.{T, eqb, leb, ltb, eqb→eq, leb→le, ltb→lt}
use borrow.Author.Tests.{lt-leb, ltb-true, ltb-false, eqb-true, eqb-false}
use lib.ListN.{take, drop}
use Rattle.kinds.specs.declared.Class.TheVariants.{Unknown, Marker, Signed, Unsigned, Float, Structure}
use Rattle.kinds.specs.declared.Kind.{Kind}
use Rattle.kinds.specs.Kinds.{Row, row, table, look, kind_of, class_number, is}

-- the test
abbrev implies : Bool → Bool → Bool
implies a b = not a || b

abbrev tests : Kind → Bool
tests k =
    leb k.size 512
    && (eqb k.alignment 0 || (eqb k.alignment 4 || eqb k.alignment 8))
    && implies (not (is Unknown k || is Marker k)) (leb 1 k.alignment && leb 1 k.size)
    && implies (is Marker k) (eqb k.size 0 && eqb k.alignment 0)
    && implies (is Signed k || is Unsigned k) (leb 1 k.size && leb k.size 2)
    && implies (is Float k) (eqb k.size 4 || eqb k.size 8)

-- and what it says
pub record Facts (k : Kind) : Type 0 where
  pub small : k.size ≤ 512
  pub alignments : (k.alignment ≡ 0) ⊎ (k.alignment ≡ 4) ⊎ (k.alignment ≡ 8)
  pub aligned : is Unknown k || is Marker k ≡ false → 1 ≤ k.alignment
  pub sized : is Unknown k || is Marker k ≡ false → 1 ≤ k.size
  pub markers : is Marker k ≡ true → (k.size ≡ 0) × (k.alignment ≡ 0)
  pub promoted : is Signed k || is Unsigned k ≡ true → (1 ≤ k.size) × (k.size ≤ 2)
  pub floats : is Float k ≡ true → (k.size ≡ 4) ⊎ (k.size ≡ 8)

and_left : (a b : Bool) → T (a && b) → T a
and_left true b t = tt
and_left false b t = t

and_right : (a b : Bool) → T (a && b) → T b
and_right true b t = t
and_right false b t = absurd t

implied : (a b : Bool) → T (implies a b) → a ≡ true → T b
implied true b t e = t
implied false b t e = cc

either : {A B : Type 0} (a b : Bool) → (T a → A) → (T b → B) → T (a || b) → A ⊎ B
either true b f g t = inl (f tt)
either false b f g t = inr (g t)

tested : (k : Kind) → T (tests k) → Facts k
tested k t =
    let a = leb k.size 512 in
    let b = eqb k.alignment 0 || (eqb k.alignment 4 || eqb k.alignment 8) in
    let c = implies (not (is Unknown k || is Marker k)) (leb 1 k.alignment && leb 1 k.size) in
    let d = implies (is Marker k) (eqb k.size 0 && eqb k.alignment 0) in
    let e = implies (is Signed k || is Unsigned k) (leb 1 k.size && leb k.size 2) in
    let f = implies (is Float k) (eqb k.size 4 || eqb k.size 8) in
    let t₅ : T (a && b && c && d && e) = and_left (a && b && c && d && e) f t in
    let t₄ : T (a && b && c && d) = and_left (a && b && c && d) e t₅ in
    let t₃ : T (a && b && c) = and_left (a && b && c) d t₄ in
    let t₂ : T (a && b) = and_left (a && b) c t₃ in
    record {
      small = leb→le k.size 512 (and_left a b t₂);
      alignments = either (eqb k.alignment 0) _ (eqb→eq k.alignment 0)
          (either (eqb k.alignment 4) (eqb k.alignment 8) (eqb→eq k.alignment 4) (eqb→eq k.alignment 8)) (and_right a b t₂);
      aligned = λ h. leb→le 1 k.alignment (and_left (leb 1 k.alignment) (leb 1 k.size) (implied (not (is Unknown k || is Marker k)) _ (and_right (a && b) c t₃) (rw h refl)));
      sized = λ h. leb→le 1 k.size (and_right (leb 1 k.alignment) (leb 1 k.size) (implied (not (is Unknown k || is Marker k)) _ (and_right (a && b) c t₃) (rw h refl)));
      markers = λ h.
          let u : T (eqb k.size 0 && eqb k.alignment 0) = implied (is Marker k) _ (and_right (a && b && c) d t₄) h in
          (eqb→eq k.size 0 (and_left (eqb k.size 0) (eqb k.alignment 0) u), eqb→eq k.alignment 0 (and_right (eqb k.size 0) (eqb k.alignment 0) u));
      promoted = λ h.
          let u : T (leb 1 k.size && leb k.size 2) = implied (is Signed k || is Unsigned k) _ (and_right (a && b && c && d) e t₅) h in
          (leb→le 1 k.size (and_left (leb 1 k.size) (leb k.size 2) u), leb→le k.size 2 (and_right (leb 1 k.size) (leb k.size 2) u));
      floats = λ h. either (eqb k.size 4) (eqb k.size 8) (eqb→eq k.size 4) (eqb→eq k.size 8)
          (implied (is Float k) _ (and_right (a && b && c && d && e) f t) h);
    }

-- the test holds of all kinds below n
abbrev all_below : ℕ → Bool
all_below zero = true
all_below (suc n) = tests (kind_of n) && all_below n

one_of_all : (n k : ℕ) → T (all_below n) → k < n → T (tests (kind_of k))
one_of_all zero k t h = absurd (omega arith)
one_of_all (suc n) k t h = go (eqb k n) refl (λ g. one_of_all n k (and_right (tests (kind_of n)) (all_below n) t) g)
  where
    go : (u : Bool) → eqb k n ≡ u → (k < n → T (tests (kind_of k))) → T (tests (kind_of k))
    go true e rest = rw (eqb-true k n e) (and_left (tests (kind_of n)) (all_below n) t)
    go false e rest = rest (omega (arith, eqb-false k n e))

-- ---- the table by ranges: rows that end below a kind do not have it

abbrev pub end_below : ℕ → List Row → Bool
end_below n [] = true
end_below n (row first last size a c ∷ rows) = ltb last n && end_below n rows

pub look_past : (rows more : List Row) (n k : ℕ) → T (end_below n rows) → n ≤ k → look k (rows ++ more) ≡ look k more
look_past [] more n k t h = refl
look_past (row first last size a c ∷ rows) more n k t h =
    let l : last < n = ltb→lt last n (and_left (ltb last n) (end_below n rows) t) in
    rw (lt-leb k last (omega arith), and-false (leb first k)) (look_past rows more n k (and_right (ltb last n) (end_below n rows) t) h)

pub kind_facts : (k : ℕ) → Facts (kind_of k)
kind_facts k = go (ltb k 256) refl
  where
    go : (u : Bool) → ltb k 256 ≡ u → Facts (kind_of k)
    go true e = tested (kind_of k) (one_of_all 256 k tt (ltb-true k 256 e))
    go false e = rw (look_past table [] 256 k tt (ltb-false k 256 e)) (tested (look k []) tt)

-- ---- structures

-- what is neither promoted nor for a floating register
pub record ByOffset (k : Kind) : Type 0 where
  pub unpromoted : is Signed k || is Unsigned k ≡ false
  pub no_float : is Float k ≡ false

-- rows of structures
abbrev structures : List Row → Bool
structures [] = true
structures (row first last size a c ∷ rows) = eqb (class_number c) (class_number Structure) && structures rows

-- a kind of such rows, or of none
of_structures : (rows : List Row) (k : ℕ) → T (structures rows) → ByOffset (look k rows)
of_structures [] k t = record { unpromoted = refl; no_float = refl }
of_structures (row first last size a c ∷ rows) k t =
    go (leb first k && leb k last) (of_structures rows k (and_right (eqb (class_number c) (class_number Structure)) (structures rows) t))
  where
    go : (u : Bool) → ByOffset (look k rows) → ByOffset (cond u (record { size = size k; alignment = a; class = c }) (look k rows))
    go true rest =
        let e : class_number c ≡ class_number Structure = eqb→eq (class_number c) 7 (and_left (eqb (class_number c) 7) (structures rows) t) in
        record { unpromoted = rw e refl; no_float = rw e refl }
    go false rest = rest

-- the last three rows of the table, from kind 40 on
pub structure : (k : ℕ) → 0x40 ≤ k → ByOffset (kind_of k)
structure k h = rw (look_past (take 10 table) (drop 10 table) 0x40 k tt h) (of_structures (drop 10 table) k tt)
