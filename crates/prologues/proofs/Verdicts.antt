-- Each verdict is given exactly on its condition.
-- Assumes nothing.
use mathlib.Core.Path.{◌≡◌, refl, sym, ap, ◌∙◌, subst}
use mathlib.Core.Logic.{◌⊎◌, inl, inr}
use mathlib.Core.List.{List, [], ◌∷◌, ◌++◌, map, head-eq_of_cons-eq, tail-eq_of_cons-eq}
use mathlib.Core.Bool.{Bool, true, false}
use Prim.Native.Nat.{ℕ, suc, ◌+◌, ◌<◌}
use native.Mathlib.Omega.{arith}
use native.Mathlib.Decide.{ℕ_discrete, dec_lt}
use Rattle.frame.specs.Words.{Save, store_word, lowering}
use Rattle.prologues.specs.Checking.{count, instructions, is_opened, number_of, is_wrong, first_wrong, verdict_on}
use Rattle.prologues.specs.Prologues.{Among, IsPrologue, Foreign, Before, FirstWrong, Names}
use Rattle.prologues.specs.Prologues.Foreign.{other, missing, doubled, late}
use Rattle.prologues.specs.Prologues.Before.{kind, number}
use Rattle.prologues.proofs.Answers.{verdict_other, verdict_first}
use Rattle.prologues.proofs.Counting.{among_right, among_none, among_map, map_among, count_one_more, count_other, count_none, among_counted, counted_among, instructions_more, count-instructions, among_instructions, instructions_among, instructions-append, first_instruction}
use Rattle.prologues.proofs.StoreWords.{addiu_nonzero, store_nonzero, store_no_addiu}
use Rattle.prologues.proofs.Tests.{Says, says_yes, says_no, Opened, frameless, framed, Unopened, no_frame, no_words, other_first, no_store, is_opened_lem, Wrong, is-wrong, None, First, first_from_lem}

-- ---- the order of the registers

module _ (v : Save) where
  number_general : v.float ≡ false → v.number ≡ number_of v
  number_general e = rw e refl

  number_floating : v.float ≡ true → 32 + v.number ≡ number_of v
  number_floating e = rw e refl

  numbers_small : (0 < v.number) × (v.number < 32) → (0 < number_of v) × (number_of v < 64)
  numbers_small h = by v.float refl
    where
      by : (b : Bool) → v.float ≡ b → (0 < number_of v) × (number_of v < 64)
      by true e = (omega (arith, number_floating e), omega (arith, h.1, number_floating e))
      by false e = (omega (arith, h.0, number_general e), omega (arith, h.1, number_general e))

module _ (u v : Save) (low : u.number < 32) where
  before_less : Before u v → number_of u < number_of v
  before_less (kind a b) = omega (arith, number_general u a, number_floating v b)
  before_less (number e l) = by v.float e refl
    where
      by : (b : Bool) → u.float ≡ b → v.float ≡ b → number_of u < number_of v
      by true p q = omega (arith, l, number_floating u p, number_floating v q)
      by false p q = omega (arith, l, number_general u p, number_general v q)

less_before : (u v : Save) → v.number < 32 → number_of u < number_of v → Before u v
less_before u v high h = by u.float v.float refl refl
  where
    by : (a b : Bool) → u.float ≡ a → v.float ≡ b → Before u v
    by true true p q = number (p ∙ sym q) (omega (arith, h, number_floating u p, number_floating v q))
    by true false p q = absurd (omega (arith, h, number_floating u p, number_general v q))
    by false true p q = kind p q
    by false false p q = number (p ∙ sym q) (omega (arith, h, number_general u p, number_general v q))

module _ (F : ℕ) (saves : List Save) where
  abbrev stores : List ℕ
  stores = map store_word saves

  -- the `addiu` is no store
  addiu_not_among : Among (lowering F) stores → ⊥
  addiu_not_among i = let v = map_among store_word (lowering F) saves i in store_no_addiu v.0 F v.2

  module _ (ws : List ℕ) where
    -- ---- 255

    -- the `addiu` stands among all words as often as among those that are not 00000000
    count_addiu : (is : List ℕ) → instructions ws ≡ is → count (lowering F) ws ≡ count (lowering F) is
    count_addiu is e = sym (count-instructions (lowering F) ws (addiu_nonzero F)) ∙ ap (count (lowering F)) e

    -- once more than after the first, where that is it
    count_first : (rest : List ℕ) → instructions ws ≡ lowering F ∷ rest → count (lowering F) ws ≡ suc (count (lowering F) rest)
    count_first rest e = count_addiu (lowering F ∷ rest) e ∙ count_one_more (lowering F) (lowering F) rest refl

    -- a store stands after the `addiu` only, where that is the first
    count-stored : (v : Save) (rest : List ℕ) → instructions ws ≡ lowering F ∷ rest → count (store_word v) ws ≡ count (store_word v) rest
    count-stored v rest e =
        sym (count-instructions (store_word v) ws (store_nonzero v)) ∙ ap (count (store_word v)) e ∙ count_other (store_word v) (lowering F) rest (store_no_addiu v F)

    -- a word that is not 00000000, no store and not the `addiu` of a frame
    foreign_word : (w : ℕ) → Among w (instructions ws) → ((F ≡ 0 → ⊥) → w ≡ lowering F → ⊥) → (Among w stores → ⊥) → Foreign F saves ws
    foreign_word w i a s = let j = instructions_among w ws i in
        other w j.1 j.0 a (λ v k e. s (subst (λ (x : ℕ). Among x stores) (sym e) (among_map store_word v saves k)))

    -- the first word is not the `addiu`: then this comes later or never, or another word stands
    other_foreign : (F ≡ 0 → ⊥) → (w : ℕ) (rest : List ℕ) → instructions ws ≡ w ∷ rest → (w ≡ lowering F → ⊥) → Foreign F saves ws
    other_foreign z w rest e n = by (ℕ_discrete (count w stores) 0)
      where
        here : Among w (instructions ws)
        here = subst (Among w) (sym e) (inl refl)

        after_store : (v : Save) → Among v saves → w ≡ store_word v → Foreign F saves ws
        after_store v i q = found (ℕ_discrete (count (lowering F) rest) 0)
          where
            split : (before : List ℕ) × (after : List ℕ) × (ws ≡ before ++ (w ∷ after)) × (instructions after ≡ rest)
            split = first_instruction ws w rest e

            found : Dec (count (lowering F) rest ≡ 0) → Foreign F saves ws
            found (yes none) =
                missing z (count_addiu (w ∷ rest) e ∙ count_other (lowering F) w rest n ∙ none)
            found (no some) =
                late z split.0 v split.1 (split.2 ∙ ap (λ (x : ℕ). split.0 ++ (x ∷ split.1)) q) i
                (instructions_among (lowering F) split.1 (subst (Among (lowering F)) (sym split.3) (counted_among (lowering F) rest (omega arith)))).1

        by : Dec (count w stores ≡ 0) → Foreign F saves ws
        by (yes none) = foreign_word w here (λ _. n) (λ i. omega (arith, among_counted w stores i))
        by (no some) = let v = map_among store_word w saves (counted_among w stores (omega arith)) in after_store v.0 v.1 v.2

    unopened_foreign : Unopened F stores (instructions ws) → ((v : Save) → Among v saves → F ≡ 0 → ⊥) → Foreign F saves ws
    unopened_foreign (no_frame z w i) none = foreign_word w i (λ n. absurd (n z)) (λ j. let v = map_among store_word w saves j in none v.0 v.1 z)
    unopened_foreign (no_words n e) none = missing n (count_addiu [] e ∙ count_none (lowering F))
    unopened_foreign (other_first n w rest e m) none = other_foreign n w rest e m
    unopened_foreign (no_store n rest e w i m) none = by (ℕ_discrete w (lowering F))
      where
        by : Dec (w ≡ lowering F) → Foreign F saves ws
        by (yes q) = doubled n (omega (arith, count_first rest e, among_counted (lowering F) rest (subst (λ (x : ℕ). Among x rest) q i)))
        by (no q) = foreign_word w (subst (Among w) (sym e) (inr i)) (λ _. q) m

    -- what opens a frame has no other word, and the `addiu` once and first
    opened_not_foreign : Opened F stores (instructions ws) → Foreign F saves ws → ⊥
    opened_not_foreign (frameless z e) (other w i n a s) = subst (Among w) e (among_instructions w ws n i)
    opened_not_foreign (frameless z e) (missing n c) = n z
    opened_not_foreign (frameless z e) (doubled n c) = n z
    opened_not_foreign (frameless z e) (late n before v after q i j) = n z
    opened_not_foreign (framed z rest e s) (other w i n a t) = by (subst (Among w) e (among_instructions w ws n i))
      where
        by : (w ≡ lowering F) ⊎ Among w rest → ⊥
        by (inl q) = a z q
        by (inr j) = let v = map_among store_word w saves (s w j) in t v.0 v.1 v.2
    opened_not_foreign (framed z rest e s) (missing n c) = omega (arith, count_first rest e)
    opened_not_foreign (framed z rest e s) (doubled n c) = addiu_not_among (s (lowering F) (counted_among (lowering F) rest (omega (arith, count_first rest e))))
    opened_not_foreign (framed z rest e s) (late n before v after q i j) = by (instructions before) refl
      where
        tail : List ℕ
        tail = store_word v ∷ instructions after

        there : instructions ws ≡ instructions before ++ tail
        there = ap instructions q ∙ instructions-append before (store_word v ∷ after) ∙ ap (λ (l : List ℕ). instructions before ++ l) (instructions_more (store_word v) after (store_nonzero v))

        by : (front : List ℕ) → instructions before ≡ front → ⊥
        by [] b = store_no_addiu v F (head-eq_of_cons-eq (sym e ∙ there ∙ ap (λ (l : List ℕ). l ++ tail) b))
        by (x ∷ front) b =
            let r : rest ≡ front ++ tail = tail-eq_of_cons-eq (sym e ∙ there ∙ ap (λ (l : List ℕ). l ++ tail) b) in
            addiu_not_among (s (lowering F) (subst (Among (lowering F)) (sym r)
            (among_right (lowering F) front tail (inr (among_instructions (lowering F) after (addiu_nonzero F) j)))))

    -- ---- the first register

    module _ (numbered : (v : Save) → Among v saves → (0 < v.number) × (v.number < 32)) where
      numbers : (v : Save) → Among v saves → (0 < number_of v) × (number_of v < 64)
      numbers v i = numbers_small v (numbered v i)

      abbrev so : ℕ → Bool
      so = is_wrong saves ws

      -- a register of which the test is no stands once
      right : (v : Save) → Among v saves → so (number_of v) ≡ false → count (store_word v) ws ≡ 1
      right v i e = says_no (is-wrong saves ws (number_of v)) e v i refl

      wrong : (k : ℕ) → so k ≡ true → Wrong saves ws k
      wrong k e = says_yes (is-wrong saves ws k) e

      abbrev Found : Type 0
      Found = ((first_wrong saves ws ≡ 0) × None so 0 64) ⊎ First so 0 64 (first_wrong saves ws)

      first_most : first_wrong saves ws < 64
      first_most = by (first_from_lem so 0 64)
        where
          by : Found → first_wrong saves ws < 64
          by (inl h) = omega (arith, h.0)
          by (inr h) = omega (arith, h.high)

      -- none is wrong: all stand once
      first_none : first_wrong saves ws ≡ 0 → (v : Save) → Among v saves → count (store_word v) ws ≡ 1
      first_none e v i = by (first_from_lem so 0 64)
        where
          by : Found → count (store_word v) ws ≡ 1
          by (inl h) = right v i (h.1 (number_of v) (omega arith) (numbers v i).1)
          by (inr h) = let u = wrong (first_wrong saves ws) h.is_so in absurd (omega (arith, (numbers u.save u.named).0, u.number, e))

      none_first : ((v : Save) → Among v saves → count (store_word v) ws ≡ 1) → first_wrong saves ws ≡ 0
      none_first once = by (first_from_lem so 0 64)
        where
          by : Found → first_wrong saves ws ≡ 0
          by (inl h) = h.0
          by (inr h) = let u = wrong (first_wrong saves ws) h.is_so in absurd (u.not_once (once u.save u.named))

      -- the number that is found, and the register that it is
      first_is : (k : ℕ) → 0 < k → first_wrong saves ws ≡ k → FirstWrong saves ws k
      first_is k h e = by (first_from_lem so 0 64)
        where
          missing_or_doubled : (n : ℕ) → (n ≡ 1 → ⊥) → (n ≡ 0) ⊎ (1 < n)
          missing_or_doubled n m = at (ℕ_discrete n 0)
            where
              at : Dec (n ≡ 0) → (n ≡ 0) ⊎ (1 < n)
              at (yes z) = inl z
              at (no z) = inr (omega arith)

          by : Found → FirstWrong saves ws k
          by (inl f) = absurd (omega (arith, f.0, e))
          by (inr f) =
              let u = wrong (first_wrong saves ws) f.is_so in
              record {
                save = u.save;
                named = u.named;
                general = λ g. sym (number_general u.save g ∙ u.number ∙ e);
                floating = λ g. sym (number_floating u.save g ∙ u.number ∙ e);
                wrong = missing_or_doubled (count (store_word u.save) ws) u.not_once;
                earlier = λ v i l. right v i (f.before (number_of v) (omega arith) (omega (arith, before_less v u.save (numbered v i).1 l, u.number)));
              }

      is_first : (k : ℕ) → FirstWrong saves ws k → first_wrong saves ws ≡ k
      is_first k f = by (first_from_lem so 0 64)
        where
          called : number_of f.save ≡ k
          called = at f.save.float refl
            where
              at : (b : Bool) → f.save.float ≡ b → number_of f.save ≡ k
              at true e = sym (number_floating f.save e) ∙ sym (f.floating e)
              at false e = sym (number_general f.save e) ∙ sym (f.general e)

          not_once : count (store_word f.save) ws ≡ 1 → ⊥
          not_once e = at f.wrong
            where
              at : (count (store_word f.save) ws ≡ 0) ⊎ (1 < count (store_word f.save) ws) → ⊥
              at (inl z) = omega (arith, z, e)
              at (inr z) = omega (arith, z, e)

          seen : so k ≡ false → ⊥
          seen e = not_once (right f.save f.named (ap so called ∙ e))

          by : Found → first_wrong saves ws ≡ k
          by (inl h) = absurd (seen (h.1 k (omega arith) (omega (arith, called, (numbers f.save f.named).1))))
          by (inr h) = at (dec_lt (first_wrong saves ws) k) (dec_lt k (first_wrong saves ws))
            where
              u : Wrong saves ws (first_wrong saves ws)
              u = wrong (first_wrong saves ws) h.is_so

              at : Dec (first_wrong saves ws < k) → Dec (k < first_wrong saves ws) → first_wrong saves ws ≡ k
              at (yes l) d = absurd (u.not_once (f.earlier u.save u.named (less_before u.save f.save (numbered f.save f.named).1 (omega (arith, u.number, called, l)))))
              at (no n) (yes l) = absurd (seen (h.before k (omega arith) l))
              at (no n) (no m) = omega arith

      -- ---- together

      module _ (none : (v : Save) → Among v saves → F ≡ 0 → ⊥) where
        opened_prologue : Opened F stores (instructions ws) → first_wrong saves ws ≡ 0 → IsPrologue F saves ws
        opened_prologue (frameless z e) q = record {
          framed = λ n. absurd (n z);
          frameless = λ _ w i. only_zero w i;
        }
          where
            only_zero : (w : ℕ) → Among w ws → w ≡ 0
            only_zero w i = by (ℕ_discrete w 0)
              where
                by : Dec (w ≡ 0) → w ≡ 0
                by (yes z) = z
                by (no n) = absurd (subst (Among w) e (among_instructions w ws n i))
        opened_prologue (framed n rest e s) q = record {
          framed = λ _. (rest, e, record { each = λ w i. map_among store_word w saves (s w i); once = once });
          frameless = λ z. absurd (n z);
        }
          where
            once : (v : Save) → Among v saves → count (store_word v) rest ≡ 1
            once v i = sym (count-stored v rest e) ∙ first_none q v i

        prologue_opened : IsPrologue F saves ws → Opened F stores (instructions ws)
        prologue_opened p = by (ℕ_discrete F 0)
          where
            by : Dec (F ≡ 0) → Opened F stores (instructions ws)
            by (yes z) = frameless z (among_none (instructions ws) (λ w i. let j = instructions_among w ws i in j.0 (p.frameless z w j.1)))
            by (no n) =
                let q = p.framed n in
                framed n q.0 q.1 (λ w i. let v = q.2.each w i in subst (λ (x : ℕ). Among x stores) (sym v.2) (among_map store_word v.0 saves v.1))

        prologue_once : IsPrologue F saves ws → (v : Save) → Among v saves → count (store_word v) ws ≡ 1
        prologue_once p v i = let q = p.framed (none v i) in count-stored v q.0 q.1 ∙ q.2.once v i

        pub names : Names F saves ws (verdict_on F saves ws)
        names = by (is_opened_lem F stores (instructions ws))
          where
            by : Says (is_opened F stores (instructions ws)) (Opened F stores (instructions ws)) (Unopened F stores (instructions ws))
                → Names F saves ws (verdict_on F saves ws)
            by (inl o) = rw (verdict_first F saves ws o.0) (record {
              most = omega (arith, first_most);
              accepted = (opened_prologue o.1, λ p. none_first (prologue_once p));
              foreign = (λ e. absurd (omega (arith, first_most, e)), λ f. absurd (opened_not_foreign o.1 f));
              register = λ k h l. (λ e. (opened_not_foreign o.1, first_is k h e), λ f. is_first k f.1);
            })
            by (inr o) =
                let f : Foreign F saves ws = unopened_foreign o.1 none in
                rw (verdict_other F saves ws o.0) (record {
                  most = omega arith;
                  accepted = (λ e. absurd (omega (arith, e)), λ p. absurd (opened_not_foreign (prologue_opened p) f));
                  foreign = (λ _. f, λ _. refl);
                  register = λ k h l. (λ e. absurd (omega (arith, e)), λ g. absurd (g.0 f));
                })
