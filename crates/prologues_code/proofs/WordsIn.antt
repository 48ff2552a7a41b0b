-- The words in code from a place on, one at a time: what they count, and whether they are a prologue's.
-- Assumes nothing.
use mathlib.Core.Path.{◌≡◌, refl, sym, ap, ap₂, ◌∙◌}
use mathlib.Core.Bool.{Bool, true, false, not, ◌&&◌}
use mathlib.Core.List.{List, [], ◌∷◌, ◌++◌}
use Rattle.std.specs.Prelude.{◌-◌, Option, Some, is_some}
use Rattle.std.specs.Option.{option_eq}
use Rattle.std.proofs.lemmas.List.{take_all}
use Prim.Native.Nat.{ℕ, suc, ◌+◌, ◌*◌, ◌/◌, ◌^◌, ◌<◌, ◌≤◌}
use native.Mathlib.Omega.{arith}
use lib.Dec.{eqb}
use lib.ListN.{length, take, drop, length-drop, take-append-drop}
use lib.Seq.{drop-drop}
use Rattle.words.specs.Words.{bytes_of}
use Rattle.frame.specs.Keeping.{words_in}
use Rattle.prologues.specs.Checking.{are_stores, count, instructions, is_opened}
use Rattle.prologues.proofs.Counting.{count_one_more, count_other, count_none, instructions-zero, instructions_more, instructions-none}
use Rattle.prologues_code.specs.Stores.{first_word}

few_bytes : (s : List ℕ) → length s < 4 → words_in s ≡ []
few_bytes [] h = refl
few_bytes (a ∷ []) h = refl
few_bytes (a ∷ b ∷ []) h = refl
few_bytes (a ∷ b ∷ c ∷ []) h = refl
few_bytes (a ∷ b ∷ c ∷ d ∷ s) h = absurd (omega arith)

-- behind the last word there is none
module _ (s : List ℕ) (i : ℕ) (h : length s / 4 ≤ i) where
  words_end : words_in (drop (4 * i) s) ≡ []
  words_end = few_bytes (drop (4 * i) s) (rw length-drop (omega arith))

  pub count_end : (v : ℕ) → count v (words_in (drop (4 * i) s)) ≡ 0
  count_end v = ap (count v) words_end ∙ count_none v

  pub instructions_end : instructions (words_in (drop (4 * i) s)) ≡ []
  instructions_end = ap instructions words_end ∙ instructions-none

-- word i, and the words after it
module _ (s : List ℕ) (i w : ℕ) (h : w < 2 ^ 32) (e : bytes_of 4 w ≡ take 4 (drop (4 * i) s)) where
  next_at : drop (4 * i + 4) s ≡ drop (4 * (i + 1)) s
  next_at = let q : 4 * i + 4 ≡ 4 * (i + 1) = omega arith in ap (λ (n : ℕ). drop n s) q

  words_next : words_in (drop (4 * i) s) ≡ w ∷ words_in (drop (4 * (i + 1)) s)
  words_next =
      ap words_in (sym (take-append-drop 4 (drop (4 * i) s)) ∙ ap₂ (λ (x y : List ℕ). x ++ y) (sym e) (drop-drop 4 (4 * i) s ∙ next_at))
      ∙ ap (λ (x : ℕ). x ∷ words_in (drop (4 * (i + 1)) s)) (omega arith)

  pub instructions_blank : w ≡ 0 → instructions (words_in (drop (4 * i) s)) ≡ instructions (words_in (drop (4 * (i + 1)) s))
  instructions_blank z = ap instructions words_next ∙ instructions-zero w _ z

  pub instructions_next : (w ≡ 0 → ⊥) → instructions (words_in (drop (4 * i) s)) ≡ w ∷ instructions (words_in (drop (4 * (i + 1)) s))
  instructions_next z = ap instructions words_next ∙ instructions_more w _ z

  module _ (stores : List ℕ) (z : w ≡ 0 → ⊥) where
    pub stores_yes : not (eqb (count w stores) 0) ≡ true
        → are_stores stores (instructions (words_in (drop (4 * i) s))) ≡ are_stores stores (instructions (words_in (drop (4 * (i + 1)) s)))
    unfolding are_stores
    stores_yes q = ap (are_stores stores) (instructions_next z) ∙ simp q

    pub stores_no : not (eqb (count w stores) 0) ≡ false → are_stores stores (instructions (words_in (drop (4 * i) s))) ≡ false
    unfolding are_stores
    stores_no q = ap (are_stores stores) (instructions_next z) ∙ simp q

  pub count_found : (v : ℕ) → w ≡ v → count v (words_in (drop (4 * i) s)) ≡ suc (count v (words_in (drop (4 * (i + 1)) s)))
  count_found v q = ap (count v) words_next ∙ count_one_more v w _ q

  pub count_passed : (v : ℕ) → (w ≡ v → ⊥) → count v (words_in (drop (4 * i) s)) ≡ count v (words_in (drop (4 * (i + 1)) s))
  count_passed v q = ap (count v) words_next ∙ count_other v w _ q

  -- as the slice behind word i has them
  pub words_after : words_in (take (length s - (4 * i + 4)) (drop (4 * i + 4) s)) ≡ words_in (drop (4 * (i + 1)) s)
  words_after = ap words_in (take_all _ _ (rw length-drop (omega arith)) ∙ next_at)

-- by the first word of the prologue
module _ (F : ℕ) (stores : List ℕ) {o : Option ℕ} (f : o ≡ first_word F) where
  pub opened_none : (b : Bool) → is_some o ≡ not b → b ≡ is_opened F stores []
  unfolding is_opened
  opened_none b h = grind arith

  -- the first instruction is to be this one
  module _ (w : ℕ) (ws : List ℕ) where
    opened_some : is_opened F stores (w ∷ ws) ≡ (option_eq eqb (Some w) o && are_stores stores ws)
    unfolding is_opened
    opened_some = grind arith

    pub opened_yes : true ≡ option_eq eqb (Some w) o → is_opened F stores (w ∷ ws) ≡ are_stores stores ws
    opened_yes h = opened_some ∙ ap (λ (x : Bool). x && are_stores stores ws) (sym h)

    pub opened_no : false ≡ option_eq eqb (Some w) o → is_opened F stores (w ∷ ws) ≡ false
    opened_no h = opened_some ∙ ap (λ (x : Bool). x && are_stores stores ws) (sym h)
