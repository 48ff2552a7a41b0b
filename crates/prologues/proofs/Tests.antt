-- What the tests of the check say: of words, of registers, and of the first register.
-- Assumes nothing.
use mathlib.Core.Path.{◌≡◌, refl, sym, ap, ◌∙◌, subst}
use mathlib.Core.Logic.{◌⊎◌, inl, inr}
use mathlib.Core.List.{List, [], ◌∷◌}
use mathlib.Core.Bool.{Bool, true, false, cond, not, ◌&&◌, ◌||◌, true≢false}
use Prim.Native.Nat.{ℕ, zero, suc, ◌+◌, ◌<◌, ◌≤◌}
use native.Mathlib.Omega.{arith}
use native.Mathlib.Decide.{ℕ_discrete}
use lib.Dec.{eqb}
use borrow.Author.Tests.{eq-eqb, ne_eqb}
use Rattle.frame.specs.Words.{Save, store_word, lowering}
use Rattle.prologues.specs.Checking.{count, are_stores, is_opened, number_of, is_wrong, first_from}
use Rattle.prologues.specs.Prologues.{Among}
use Rattle.prologues.proofs.Counting.{among_counted, counted_among}

-- A test says yes and this holds, or no and that holds.
abbrev pub Says : Bool → Type 0 → Type 0 → Type 0
Says b P Q = ((b ≡ true) × P) ⊎ ((b ≡ false) × Q)

module _ {b : Bool} {P Q : Type 0} where
  pub says_yes : Says b P Q → b ≡ true → P
  says_yes (inl h) e = h.1
  says_yes (inr h) e = absurd (true≢false (sym e ∙ h.0))

  pub says_no : Says b P Q → b ≡ false → Q
  says_no (inl h) e = absurd (true≢false (sym h.0 ∙ e))
  says_no (inr h) e = h.1

-- ---- words

-- each word is a store, or one of them is none
are_stores_lem : (stores ws : List ℕ) → Says (are_stores stores ws) ((w : ℕ) → Among w ws → Among w stores) ((w : ℕ) × Among w ws × (Among w stores → ⊥))
unfolding are_stores
are_stores_lem stores [] = inl (refl, λ w i. absurd i)
are_stores_lem stores (w ∷ ws) = by (ℕ_discrete (count w stores) 0) (are_stores_lem stores ws)
  where
    Said : Bool → List ℕ → Type 0
    Said b ws = Says b ((x : ℕ) → Among x ws → Among x stores) ((x : ℕ) × Among x ws × (Among x stores → ⊥))

    more : Among w stores → (b : Bool) → Said b ws → Said b (w ∷ ws)
    more i b (inl h) = inl (h.0, first)
      where
        first : (x : ℕ) → (x ≡ w) ⊎ Among x ws → Among x stores
        first x (inl e) = subst (λ (y : ℕ). Among y stores) (sym e) i
        first x (inr j) = h.1 x j
    more i b (inr h) = inr (h.0, (h.1.0, inr h.1.1, h.1.2))

    by : Dec (count w stores ≡ 0) → Said (are_stores stores ws) ws → Said (not (eqb (count w stores) 0) && are_stores stores ws) (w ∷ ws)
    by (yes z) h = rw (eq-eqb (count w stores) 0 z) (inr (refl, (w, inl refl, λ i. omega (arith, among_counted w stores i))))
    by (no n) h = rw (ne_eqb (count w stores) 0 n) (more (counted_among w stores (omega arith)) (are_stores stores ws) h)

-- The words that are not 00000000 open a frame.
pub data Opened (F : ℕ) (stores is : List ℕ) : Type 0 where
  frameless : F ≡ 0 → is ≡ [] → Opened F stores is
  framed : (F ≡ 0 → ⊥) → (rest : List ℕ) → is ≡ lowering F ∷ rest → ((w : ℕ) → Among w rest → Among w stores) → Opened F stores is

-- They do not.
pub data Unopened (F : ℕ) (stores is : List ℕ) : Type 0 where
  no_frame : F ≡ 0 → (w : ℕ) → Among w is → Unopened F stores is
  no_words : (F ≡ 0 → ⊥) → is ≡ [] → Unopened F stores is
  other_first : (F ≡ 0 → ⊥) → (w : ℕ) (rest : List ℕ) → is ≡ w ∷ rest → (w ≡ lowering F → ⊥) → Unopened F stores is
  no_store : (F ≡ 0 → ⊥) → (rest : List ℕ) → is ≡ lowering F ∷ rest → (w : ℕ) → Among w rest → (Among w stores → ⊥) → Unopened F stores is

pub is_opened_lem : (F : ℕ) (stores is : List ℕ) → Says (is_opened F stores is) (Opened F stores is) (Unopened F stores is)
unfolding is_opened
is_opened_lem F stores [] = by (ℕ_discrete F 0)
  where
    by : Dec (F ≡ 0) → Says (eqb F 0) (Opened F stores []) (Unopened F stores [])
    by (yes z) = inl (eq-eqb F 0 z, frameless z refl)
    by (no n) = inr (ne_eqb F 0 n, no_words n refl)
is_opened_lem F stores (w ∷ ws) = by (ℕ_discrete F 0) (ℕ_discrete w (lowering F)) (are_stores_lem stores ws)
  where
    by : Dec (F ≡ 0) → Dec (w ≡ lowering F) → Says (are_stores stores ws) ((x : ℕ) → Among x ws → Among x stores) ((x : ℕ) × Among x ws × (Among x stores → ⊥))
        → Says (cond (eqb F 0) false (eqb w (lowering F) && are_stores stores ws)) (Opened F stores (w ∷ ws)) (Unopened F stores (w ∷ ws))
    by (yes z) d h = rw (eq-eqb F 0 z) (inr (refl, no_frame z w (inl refl)))
    by (no n) (no m) h = rw (ne_eqb F 0 n, ne_eqb w (lowering F) m) (inr (refl, other_first n w ws refl m))
    by (no n) (yes e) (inl h) = rw (ne_eqb F 0 n, eq-eqb w (lowering F) e) (inl (h.0, framed n ws (ap (λ (x : ℕ). x ∷ ws) e) h.1))
    by (no n) (yes e) (inr h) = rw (ne_eqb F 0 n, eq-eqb w (lowering F) e) (inr (h.0, no_store n ws (ap (λ (x : ℕ). x ∷ ws) e) h.1.0 h.1.1 h.1.2))

-- ---- registers

-- Register k is named, and its store does not stand once.
pub record Wrong (saves : List Save) (ws : List ℕ) (k : ℕ) : Type 0 where
  pub save : Save
  pub named : Among save saves
  pub number : number_of save ≡ k
  pub not_once : count (store_word save) ws ≡ 1 → ⊥

-- It stands once, if it is named.
abbrev pub Right : List Save → List ℕ → ℕ → Type 0
Right saves ws k = (v : Save) → Among v saves → number_of v ≡ k → count (store_word v) ws ≡ 1

pub is-wrong : (saves : List Save) (ws : List ℕ) (k : ℕ) → Says (is_wrong saves ws k) (Wrong saves ws k) (Right saves ws k)
unfolding is_wrong
is-wrong [] ws k = inr (refl, λ v i e. absurd i)
is-wrong (u ∷ saves) ws k = by (ℕ_discrete (number_of u) k) (ℕ_discrete (count (store_word u) ws) 1) (is-wrong saves ws k)
  where
    Said : Bool → List Save → Type 0
    Said b saves = Says b (Wrong saves ws k) (Right saves ws k)

    more : (b : Bool) → (number_of u ≡ k → count (store_word u) ws ≡ 1) → Said b saves → Said b (u ∷ saves)
    more b right (inl h) = inl (h.0, record { save = h.1.save; named = inr h.1.named; number = h.1.number; not_once = h.1.not_once })
    more b right (inr h) = inr (h.0, each)
      where
        each : (v : Save) → (v ≡ u) ⊎ Among v saves → number_of v ≡ k → count (store_word v) ws ≡ 1
        each v (inl e) q = ap (λ (x : Save). count (store_word x) ws) e ∙ right (ap number_of (sym e) ∙ q)
        each v (inr i) q = h.1 v i q

    by : Dec (number_of u ≡ k) → Dec (count (store_word u) ws ≡ 1) → Said (is_wrong saves ws k) saves
        → Said (eqb (number_of u) k && not (eqb (count (store_word u) ws) 1) || is_wrong saves ws k) (u ∷ saves)
    by (no n) d h = rw (ne_eqb (number_of u) k n) (more (is_wrong saves ws k) (λ e. absurd (n e)) h)
    by (yes e) (yes o) h = rw (eq-eqb (number_of u) k e, eq-eqb (count (store_word u) ws) 1 o) (more (is_wrong saves ws k) (λ _. o) h)
    by (yes e) (no o) h = rw (eq-eqb (number_of u) k e, ne_eqb (count (store_word u) ws) 1 o) (inl (refl, record { save = u; named = inl refl; number = e; not_once = o }))

-- ---- the first

-- It is so of none of n numbers from k on.
abbrev pub None : (ℕ → Bool) → ℕ → ℕ → Type 0
None so k n = (i : ℕ) → k ≤ i → i < k + n → so i ≡ false

-- The first of n numbers from k on of which it is so is j.
pub record First (so : ℕ → Bool) (k n j : ℕ) : Type 0 where
  pub low : k ≤ j
  pub high : j < k + n
  pub is_so : so j ≡ true
  pub before : (i : ℕ) → k ≤ i → i < j → so i ≡ false

pub first_from_lem : (so : ℕ → Bool) (k n : ℕ) → ((first_from so k n ≡ 0) × None so k n) ⊎ First so k n (first_from so k n)
unfolding first_from
first_from_lem so k zero = inl (refl, λ i h l. absurd (omega arith))
first_from_lem so k (suc n) = by (so k) refl (first_from_lem so (suc k) n)
  where
    Said : ℕ → ℕ → ℕ → Type 0
    Said j k n = ((j ≡ 0) × None so k n) ⊎ First so k n j

    from : so k ≡ false → (P : ℕ → Type 0) → ((i : ℕ) → suc k ≤ i → P i → so i ≡ false) → (i : ℕ) → k ≤ i → P i → so i ≡ false
    from e P h i l p = at (ℕ_discrete i k)
      where
        at : Dec (i ≡ k) → so i ≡ false
        at (yes q) = ap so q ∙ e
        at (no q) = h i (omega arith) p

    by : (b : Bool) → so k ≡ b → Said (first_from so (suc k) n) (suc k) n → Said (cond b k (first_from so (suc k) n)) k (suc n)
    by true e h = inr (record { low = omega arith; high = omega arith; is_so = e; before = λ i l u. absurd (omega arith) })
    by false e (inl h) = inl (h.0, from e (λ i. i < k + suc n) (λ i l u. h.1 i l (omega arith)))
    by false e (inr h) =
        inr (record { low = omega (arith, h.low); high = omega (arith, h.high); is_so = h.is_so; before = from e (λ i. i < first_from so (suc k) n) h.before })
