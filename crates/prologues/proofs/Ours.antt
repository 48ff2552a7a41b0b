-- Our own prologue is one, and its bytes have a length that is checked.
-- Assumes nothing.
use mathlib.Core.Path.{◌≡◌, refl, sym, ap, ◌∙◌}
use mathlib.Core.Logic.{inl, inr}
use mathlib.Core.List.{List, [], ◌∷◌, map}
use mathlib.Core.Bool.{cond}
use Prim.Native.Nat.{ℕ, ◌+◌, ◌≤◌}
use native.Mathlib.Omega.{arith}
use native.Mathlib.Decide.{ℕ_discrete}
use lib.Dec.{eqb}
use lib.ListN.{length, length-map}
use borrow.Author.Tests.{eq-eqb, ne_eqb}
use Rattle.device.specs.declared.Device.{Device}
use Rattle.words.specs.Words.{bytes_of_words}
use Rattle.frame.specs.declared.Request.{Request}
use Rattle.frame.specs.Frame.{refusal_of, frame_of}
use Rattle.frame.specs.Words.{Save, saves_of, store_word, lowering, prologue_for, prologue_words}
use Rattle.frame.proofs.Accepted.{accepted}
use Rattle.frame.proofs.Collect.{length_saves}
use Rattle.frame.proofs.Saves.{Span, Sound}
use Rattle.frame.proofs.WordsIn.{length_bytes_of_words}
use Rattle.prologues.specs.Checking.{count, code_most}
use Rattle.prologues.specs.Prologues.{Among, IsPrologue}
use Rattle.prologues.proofs.Counting.{map_among, count_one_more, count_other, counted_among, instructions-all}
use Rattle.prologues.proofs.StoreWords.{addiu_nonzero, store_nonzero}
use Rattle.prologues.proofs.Entering.{span-from, store_one}

-- a store stands once among the stores of saves that lie one after another
stored_once : (F : ℕ) (all : List Save) → Sound F all → (lo : ℕ) (vs : List Save) → Span lo vs F → ((v : Save) → Among v vs → Among v all)
    → (v : Save) → Among v vs → count (store_word v) (map store_word vs) ≡ 1
stored_once F all d lo [] p h v i = absurd i
stored_once F all d lo (u ∷ us) p h v i = by i (λ j. stored_once F all d (u.offset + 4) us p.1 (λ x k. h x (inr k)) v j)
  where
    -- u comes no second time
    later : (x : Save) → Among x us → store_word u ≡ store_word x → ⊥
    later x k e = omega (arith, (span-from (u.offset + 4) us F p.1 x k).0, ap (λ (y : Save). y.offset) (store_one F all d u x (h u (inl refl)) (h x (inr k)) e))

    none : count (store_word u) (map store_word us) ≡ 0
    none = at (ℕ_discrete (count (store_word u) (map store_word us)) 0)
      where
        at : Dec (count (store_word u) (map store_word us) ≡ 0) → count (store_word u) (map store_word us) ≡ 0
        at (yes z) = z
        at (no n) = let x = map_among store_word (store_word u) us (counted_among (store_word u) (map store_word us) (omega arith)) in absurd (later x.0 x.1 x.2)

    by : Among v (u ∷ us) → (Among v us → count (store_word v) (map store_word us) ≡ 1) → count (store_word v) (map store_word (u ∷ us)) ≡ 1
    by (inl e) rest =
        count_one_more (store_word v) (store_word u) (map store_word us) (ap store_word (sym e))
        ∙ omega (arith, ap (λ (x : Save). count (store_word x) (map store_word us)) e, none)
    by (inr j) rest = count_other (store_word v) (store_word u) (map store_word us) (later v j) ∙ rest j

module _ (F : ℕ) (vs : List Save) (d : Sound F vs) where
  ours_nonzero : (w : ℕ) → Among w (lowering F ∷ map store_word vs) → w ≡ 0 → ⊥
  ours_nonzero w (inl e) z = addiu_nonzero F (sym e ∙ z)
  ours_nonzero w (inr i) z = let v = map_among store_word w vs i in store_nonzero v.0 (sym v.2 ∙ z)

  pub ours_prologue : IsPrologue F vs (prologue_for F vs)
  unfolding prologue_for
  ours_prologue = by (ℕ_discrete F 0)
    where
      by : Dec (F ≡ 0) → IsPrologue F vs (cond (eqb F 0) [] (lowering F ∷ map store_word vs))
      by (yes z) = rw (eq-eqb F 0 z) (record { framed = λ n. absurd (n z); frameless = λ _ w i. absurd i })
      by (no n) = rw (ne_eqb F 0 n) (record {
        framed = λ _. (
          map store_word vs,
          instructions-all (lowering F ∷ map store_word vs) ours_nonzero,
          record { each = λ w i. map_among store_word w vs i; once = stored_once F vs d 0 vs d.span (λ v i. i) },
        );
        frameless = λ z. absurd (n z);
      })

ours_length : (F : ℕ) (vs : List Save) → length (prologue_for F vs) ≤ 1 + length vs
unfolding prologue_for
ours_length F vs = grind (arith, length-map vs store_word)

pub ours_short : (x : Device) (r : Request) → refusal_of x r ≡ 0 → length (bytes_of_words (prologue_words r)) ≤ code_most
unfolding prologue_words
ours_short x r ok =
    let a = accepted x r ok in
    omega (arith, length_bytes_of_words (prologue_for (frame_of r) (saves_of r)), ours_length (frame_of r) (saves_of r), length_saves r, a.counts.few_pairs, a.counts.few_general)
