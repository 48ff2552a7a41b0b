-- Which kinds are structures, and their sizes and alignments.
-- Assumes nothing.
use mathlib.Core.Path.{◌≡◌, refl}
use mathlib.Core.Logic.{◌⊎◌, inl, inr}
use mathlib.Core.List.{List, [], ◌∷◌}
use mathlib.Core.Bool.{Bool, true, false, cond, ◌&&◌, and-eq-true_iff, false≢true}
use Prim.Native.Nat.{ℕ, ◌+◌, ◌-◌, ◌*◌, ◌≤◌}
use lib.Dec.{eqb, leb}
use borrow.Author.Tests.{leb-true}
use Rattle.kinds.specs.declared.Class.TheVariants.{Structure}
use Rattle.kinds.specs.declared.Kind.{Kind}
use Rattle.kinds.specs.Kinds.{Row, row, table, look, kind_of, class_number, is}

-- kind k, which means kd, is in the row of the kinds from first to last
record InRow (first last : ℕ) (size : ℕ → ℕ) (a k : ℕ) (kd : Kind) : Type 0 where
  from : first ≤ k
  to : k ≤ last
  sized : kd.size ≡ size k
  aligned : kd.alignment ≡ a

abbrev either : Bool → Type 0 → Type 0 → Type 0
either true A B = A ⊎ B
either false A B = B

-- it is in one of these rows, and that is a row of structures
abbrev InStructures : ℕ → Kind → List Row → Type 0
InStructures k kd [] = ⊥
InStructures k kd (row first last size a c ∷ rows) = either (eqb (class_number c) (class_number Structure)) (InRow first last size a k kd) (InStructures k kd rows)

in_later : (A : Type 0) {B : Type 0} (t : Bool) → B → either t A B
in_later A true b = inr b
in_later A false b = b

in_structures : (rows : List Row) (k : ℕ) → is Structure (look k rows) ≡ true → InStructures k (look k rows) rows
in_structures [] k e = absurd (false≢true e)
in_structures (row first last size a c ∷ rows) k e = go (leb first k && leb k last) refl (in_structures rows k) e
  where
    go : (t : Bool) → leb first k && leb k last ≡ t → (is Structure (look k rows) ≡ true → InStructures k (look k rows) rows)
        → (let kd = cond t (record { size = size k; alignment = a; class = c }) (look k rows) in is Structure kd ≡ true → InStructures k kd (row first last size a c ∷ rows))
    go true t rest e =
        let h = (and-eq-true_iff (leb first k) (leb k last)).0 t in
        rw e (inl (record { from = leb-true first k h.0; to = leb-true k last h.1; sized = refl; aligned = refl }))
    go false t rest e = in_later _ (eqb (class_number c) (class_number Structure)) (rest e)

-- the kinds 40 to 7F, 80 to BF and C0 to FF
pub structure_row : {A : Type 0} (k : ℕ) → is Structure (kind_of k) ≡ true
    → (0x40 ≤ k → k ≤ 0x7F → (kind_of k).size ≡ k - 0x3F → (kind_of k).alignment ≡ 4 → A)
    → (0x80 ≤ k → k ≤ 0xBF → (kind_of k).size ≡ 64 + 4 * (k - 0x7F) → (kind_of k).alignment ≡ 4 → A)
    → (0xC0 ≤ k → k ≤ 0xFF → (kind_of k).size ≡ 8 * (k - 0xBF) → (kind_of k).alignment ≡ 8 → A) → A
structure_row {A} k e bytes words doublewords = go (in_structures table k e)
  where
    go : InStructures k (kind_of k) table → A
    go (inl r) = bytes r.from r.to r.sized r.aligned
    go (inr (inl r)) = words r.from r.to r.sized r.aligned
    go (inr (inr (inl r))) = doublewords r.from r.to r.sized r.aligned
    go (inr (inr (inr r))) = absurd r
