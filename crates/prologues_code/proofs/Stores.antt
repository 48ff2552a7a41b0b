-- The stores of a request's saves by the numbers of their registers.
-- Assumes nothing.
use mathlib.Core.Path.{◌≡◌, refl, sym, ap, ◌∙◌}
use mathlib.Core.Bool.{Bool, true, false, not}
use mathlib.Core.List.{map}
use Rattle.std.specs.Prelude.{Option, Some, None}
use Rattle.std.specs.Option.{option_eq}
use Prim.Native.Nat.{ℕ, ◌+◌, ◌-◌, ◌*◌, ◌/◌, ◌%◌, ◌<◌, ◌≤◌}
use native.Mathlib.Omega.{arith}
use native.Mathlib.Decide.{ℕ_discrete, dec_lt}
use lib.Dec.{eqb, ltb}
use borrow.Author.Tests.{eq-eqb, ne_eqb, lt-ltb, le-ltb}
use Rattle.frame.specs.declared.Request.{Request}
use Rattle.frame.specs.declared.Frame.{Frame}
use Rattle.frame.specs.Masks.{names, count_below}
use Rattle.frame.specs.Frame.{floating_at, general_at, offset_of_register}
use Rattle.frame.specs.Words.{Save, pair_at, register_at, pairs_of, registers_of, saves_of, store_word}
use Rattle.frame.specs.Keeping.{offset_of_pair}
use Rattle.frame.proofs.Masks.{count_below_le, count_below_named, count_below_none}
use Rattle.frame.proofs.Accepted.{savable_masks, low_general}
use Rattle.frame.proofs.Saves.{All, all_append}
use Rattle.frame.proofs.Collect.{collect-all}
use Rattle.frame.proofs.Theorem.{holds_of_pair, holds_of_register}
use Rattle.frame_words.specs.Limits.{start_most}
use Rattle.frame_code.specs.Areas.{Areas}
use Rattle.prologues.specs.Checking.{count, number_of}
use Rattle.prologues.specs.Prologues.{Among}
use Rattle.prologues.proofs.Counting.{all_among, among_all, among_map, map_among, among_counted, counted_among}
use Rattle.prologues_code.specs.Stores.{general_store, floating_store, store_of, register_in}

-- the five bits above the offset
number_in : (op n o : ℕ) → op % 0x200000 ≡ 0 → n < 32 → o < 65536 → (op + 65536 * n + o) / 65536 % 32 ≡ n
number_in op n o e h k =
    let q : (op + 65536 * n + o) / 65536 ≡ op / 65536 + n = omega arith in
    rw q (omega arith)

-- the stores of general registers and of floating ones
module _ (r : Request) (k : ℕ) where
  store_general : k < 32 → store_of r k ≡ general_store r k
  unfolding store_of
  store_general h = simp (lt-ltb k 32 h)

  store_floating : store_of r (32 + k) ≡ floating_store r k
  unfolding store_of
  store_floating = let e : 32 + k - 32 ≡ k = omega arith in simp (le-ltb (32 + k) 32 (omega arith), e)

  general_named : names r.general k ≡ true → general_store r k ≡ Some (0xAFA00000 + 65536 * k + offset_of_register r k)
  unfolding general_store
  general_named e = simp e

  general_unnamed : names r.general k ≡ false → general_store r k ≡ None
  unfolding general_store
  general_unnamed e = simp e

  floating_low : k < 20 → floating_store r k ≡ None
  unfolding floating_store
  floating_low h = simp (lt-ltb k 20 h)

  floating_named : (p : ℕ) → 20 ≤ k → (k - 20) / 2 ≡ p → names r.pairs p ≡ true
      → floating_store r k ≡ Some (0xE7A00000 + 65536 * k + (offset_of_pair r p + 4 * (k % 2)))
  unfolding floating_store
  floating_named p h q e = simp (le-ltb k 20 h, q, e)

  floating_unnamed : 20 ≤ k → names r.pairs ((k - 20) / 2) ≡ false → floating_store r k ≡ None
  unfolding floating_store
  floating_unnamed h e = simp (le-ltb k 20 h, e)

-- a save's store is the one of its register's number, and names that register; no save is of a register below `$16`
pub record Listed (r : Request) (v : Save) : Type 0 where
  pub high : 16 ≤ number_of v
  pub store : store_of r (number_of v) ≡ Some (store_word v)
  pub register : register_in (store_word v) ≡ number_of v

module _ {r : Request} {f : Frame} (a : Areas r f) where
  register_listed : (k : ℕ) → k < 32 → names r.general k ≡ true → All (Listed r) (register_at (general_at r) r.general k)
  register_listed k h e =
      let low = count_below_none r.general 16 (low_general (savable_masks r a.masks)) in
      let some = count_below_named r.general k 16 e in
      let b = count_below_le r.general k in
      let g : general_at r ≤ start_most = omega (arith, a.general, a.general_le) in
      let w : ℕ = 0xAFA00000 + 65536 * k + offset_of_register r k in
      let small : ltb w 0xE0000000 ≡ true = lt-ltb w 0xE0000000 (omega arith) in (
        record {
          high = by (dec_lt k 16) some low;
          store = store_general r k h ∙ general_named r k e;
          register = simp small (number_in 0xAFA00000 k (offset_of_register r k) (omega arith) h (omega arith));
        },
        tt,
      )
    where
      by : Dec (k < 16) → (k < 16 → count_below r.general k + 1 ≤ count_below r.general 16) → count_below r.general 16 ≡ 0 → 16 ≤ k
      by (yes l) some low = absurd (omega (arith, some l))
      by (no l) some low = omega arith

  half_listed : (k n o : ℕ) → k < 6 → names r.pairs k ≡ true → 20 ≤ n → (n - 20) / 2 ≡ k → o ≡ offset_of_pair r k + 4 * (n % 2)
      → Listed r (record { float = true; number = n; offset = o })
  half_listed k n o h e l q p =
      let b = count_below_le r.pairs k in
      let g : floating_at r ≤ start_most = omega (arith, a.floating, a.floating_le) in
      let w : ℕ = 0xE7A00000 + 65536 * n + o in
      let number : n < 32 = omega arith in
      let offset : o < 65536 = omega arith in
      let large : ltb w 0xE0000000 ≡ false = le-ltb w 0xE0000000 (omega arith) in
      record {
        high = omega arith;
        store = store_floating r n ∙ floating_named r n k l q e ∙ rw p;
        register = simp large (ap (λ (x : ℕ). 32 + x) (number_in 0xE7A00000 n o (omega arith) number offset));
      }

  all_listed : All (Listed r) (saves_of r)
  unfolding saves_of
  all_listed =
      all_append (Listed r) (pairs_of r) (registers_of r)
      (collect-all (Listed r) (pair_at (floating_at r) r.pairs) r.pairs 6
      (λ k h e. (
        half_listed k (20 + 2 * k) _ h e (omega arith) (omega arith) (omega arith),
        (half_listed k (21 + 2 * k) _ h e (omega arith) (omega arith) (omega arith), tt),
      )))
      (collect-all (Listed r) (register_at (general_at r) r.general) r.general 32 register_listed)

  pub saves_listed : (v : Save) → Among v (saves_of r) → Listed r v
  saves_listed = all_among (Listed r) (saves_of r) all_listed

-- R follows where a save has this number and this store
abbrev Gives : Type 0 → ℕ → ℕ → Save → Type 0
Gives R k w v = number_of v ≡ k → store_word v ≡ w → R

pub same_store : {v w : ℕ} {o : Option ℕ} → o ≡ Some v → o ≡ Some w → v ≡ w
same_store p q = cc

pub no_store : {R : Type 0} {w : ℕ} {o : Option ℕ} → o ≡ None → o ≡ Some w → R
no_store p q = cc

-- a store that a number has is that of a save: what follows from every save of that kind holds
module _ (r : Request) {R : Type 0} where
  general_save : (k w : ℕ) → k < 32 → general_store r k ≡ Some w → All (Gives R k w) (saves_of r) → R
  general_save k w h z each = by (names r.general k) refl
    where
      by : (b : Bool) → names r.general k ≡ b → R
      by true e = (holds_of_register r (Gives R k w) each k h e).0 refl (same_store (general_named r k e) z)
      by false e = no_store (general_unnamed r k e) z

  floating_save : (n w : ℕ) → n < 32 → floating_store r n ≡ Some w → All (Gives R (32 + n) w) (saves_of r) → R
  floating_save n w h z each = low (dec_lt n 20)
    where
      half : 20 ≤ n → names r.pairs ((n - 20) / 2) ≡ true → Dec (n % 2 ≡ 0) → R
      half l e (yes q) =
          (holds_of_pair r (Gives R (32 + n) w) each ((n - 20) / 2) (omega arith) e).0 (omega arith) (omega (arith, same_store (floating_named r n _ l refl e) z))
      half l e (no q) =
          (holds_of_pair r (Gives R (32 + n) w) each ((n - 20) / 2) (omega arith) e).1.0 (omega arith) (omega (arith, same_store (floating_named r n _ l refl e) z))

      by : 20 ≤ n → (b : Bool) → names r.pairs ((n - 20) / 2) ≡ b → R
      by l true e = half l e (ℕ_discrete (n % 2) 0)
      by l false e = no_store (floating_unnamed r n l e) z

      low : Dec (n < 20) → R
      low (yes l) = no_store (floating_low r n l) z
      low (no l) = by (omega arith) (names r.pairs ((n - 20) / 2)) refl

  from_some : (k w : ℕ) → k < 64 → store_of r k ≡ Some w → All (Gives R k w) (saves_of r) → R
  from_some k w h z = by (dec_lt k 32)
    where
      by : Dec (k < 32) → All (Gives R k w) (saves_of r) → R
      by (yes l) = general_save k w l (sym (store_general r k l) ∙ z)
      by (no l) =
          let q : 32 + (k - 32) ≡ k = omega arith in
          rw q at (floating_save (k - 32) w (omega arith) (sym (store_floating r (k - 32)) ∙ ap (store_of r) q ∙ z))

  pub some_save : (k w : ℕ) → k < 64 → store_of r k ≡ Some w → ((v : Save) → Among v (saves_of r) → Gives R k w v) → R
  some_save k w h z each = from_some k w h z (among_all (Gives R k w) (saves_of r) each)

pub register_small : (w : ℕ) → register_in w < 64
register_small w = grind arith

-- whether a word is a store of the request
abbrev pub is_one_of : Request → ℕ → Bool
is_one_of r w = not (eqb (count w (map store_word (saves_of r))) 0)

module _ (r : Request) where
  is_one : (v : Save) → Among v (saves_of r) → is_one_of r (store_word v) ≡ true
  is_one v i =
      let n : count (store_word v) (map store_word (saves_of r)) ≡ 0 → ⊥ = λ z. omega (arith, among_counted (store_word v) (map store_word (saves_of r)) (among_map store_word v (saves_of r) i)) in
      simp (ne_eqb _ 0 n)

  not_one : (w : ℕ) → ((v : Save) → Among v (saves_of r) → w ≡ store_word v → ⊥) → is_one_of r w ≡ false
  not_one w h = by (ℕ_discrete (count w (map store_word (saves_of r))) 0)
    where
      by : Dec (count w (map store_word (saves_of r)) ≡ 0) → is_one_of r w ≡ false
      by (yes z) = simp (eq-eqb _ 0 z)
      by (no n) = let v = map_among store_word w (saves_of r) (counted_among w (map store_word (saves_of r)) (omega arith)) in absurd (h v.0 v.1 v.2)

-- a word is one just where it is that of the register which it names
module _ {r : Request} {f : Frame} (a : Areas r f) (w : ℕ) where
  pub named-one : option_eq eqb (store_of r (register_in w)) (Some w) ≡ is_one_of r w
  named-one = by (store_of r (register_in w)) refl
    where
      none : (store_of r (register_in w) ≡ Some w → ⊥) → is_one_of r w ≡ false
      none n = not_one r w (λ v i q. let h = saves_listed a v i in n (ap (λ (x : ℕ). store_of r (register_in x)) q ∙ ap (store_of r) h.register ∙ h.store ∙ ap Some (sym q)))

      at : (v : ℕ) → store_of r (register_in w) ≡ Some v → Dec (v ≡ w) → eqb v w ≡ is_one_of r w
      at v e (yes q) = eq-eqb v w q ∙ sym (some_save r (register_in w) v (register_small w) e (λ u i _ p. rw (p ∙ q) at (is_one r u i)))
      at v e (no n) = ne_eqb v w n ∙ sym (none (λ q. n (same_store e q)))

      by : (o : Option ℕ) → store_of r (register_in w) ≡ o → option_eq eqb o (Some w) ≡ is_one_of r w
      by None e = sym (none (λ q. no_store e q))
      by (Some v) e = at v e (ℕ_discrete v w)
