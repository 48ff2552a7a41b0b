-- What one step does, for each instruction that has a next state.
-- Assumes nothing.
use mathlib.Core.Path.{◌≡◌, refl, sym, ap, ◌∙◌}
use mathlib.Core.Option.{Option, some, none}
use Prim.Native.Nat.{ℕ, ◌+◌, ◌-◌, ◌%◌, ◌^◌, ◌<◌, ◌≤◌}
use native.Mathlib.Omega.{arith}
use native.Mathlib.Decide.{ℕ_discrete}
use borrow.Author.Tests.{eq-eqb, ne_eqb, lt-ltb, le-ltb}
use Rattle.machine.specs.Machine.{State, Instruction, upd, next_address, special, instruction_of, decode, read, write, sign_extend, sum, proceed, jump, execute, step}
use Rattle.machine.proofs.Fields.{word, decode-word}

-- a changed place, and the others
pub upd_same : (f : ℕ → ℕ) (k v : ℕ) → upd f k v k ≡ v
unfolding upd
upd_same f k v = simp (eq-eqb k k refl)

pub upd_other : (f : ℕ → ℕ) (k v i : ℕ) → (i ≡ k → ⊥) → upd f k v i ≡ f i
unfolding upd
upd_other f k v i h = simp (ne_eqb i k h)

-- a place that held what g has there holds it still, where the change is to what g has
pub upd_like : (f g : ℕ → ℕ) (k v i : ℕ) → v ≡ g k → f i ≡ g i → upd f k v i ≡ g i
upd_like f g k v i e h = by (ℕ_discrete i k)
  where
    by : Dec (i ≡ k) → upd f k v i ≡ g i
    by (yes x) = ap (upd f k v) x ∙ upd_same f k v ∙ e ∙ ap g (sym x)
    by (no x) = upd_other f k v i x ∙ h

pub next_address_whole : (a : ℕ) → a % 4 ≡ 0 → next_address a % 4 ≡ 0
unfolding next_address
next_address_whole a h = omega arith

-- sums that do not wrap: up by an immediate, and down by the negative of one
pub sum-up : (g : ℕ → ℕ) (s i : ℕ) → 0 < s → i < 2 ^ 15 → g s + i < 2 ^ 32 → sum g s i ≡ g s + i
unfolding sum sign_extend read
sum-up g s i z h k = simp (ne_eqb s 0 (omega arith), lt-ltb i (2 ^ 15) h) (omega arith)

pub sum_down : (g : ℕ → ℕ) (s n : ℕ) → 0 < s → 0 < n → n ≤ 2 ^ 15 → n ≤ g s → g s < 2 ^ 32 → sum g s (2 ^ 16 - n) ≡ g s - n
unfolding sum sign_extend read
sum_down g s n z p h l w = simp (ne_eqb s 0 (omega arith), le-ltb (2 ^ 16 - n) (2 ^ 15) (omega arith)) (omega arith)

step-at : (code : ℕ → ℕ) (s : State) (w : ℕ) → s.pc % 4 ≡ 0 → code s.pc ≡ w → step code s ≡ execute (decode w) s
unfolding step
step-at code s w h e = simp (h, e)

pub step_nop : (code : ℕ → ℕ) (s : State) → s.pc % 4 ≡ 0 → code s.pc ≡ 0 → step code s ≡ some (proceed s s.reg s.freg s.mem)
unfolding decode instruction_of special
step_nop code s h e = step-at code s 0 h e

-- `jr $31`
pub step_jr : (code : ℕ → ℕ) (s : State) → s.pc % 4 ≡ 0 → s.target ≡ none → code s.pc ≡ 0x03E00008
    → step code s ≡ some (record { reg = s.reg; freg = s.freg; mem = s.mem; pc = next_address s.pc; target = some (s.reg 31) })
unfolding decode instruction_of special read
step_jr code s h n e = step-at code s 0x03E00008 h e ∙ ap (λ (t : Option ℕ). jump s t (s.reg 31)) n

-- An instruction can be fetched, and b, t and i fit its fields: base register, register, immediate.
pub record Fetched (s : State) (b t i : ℕ) : Type 0 where
  pub whole : s.pc % 4 ≡ 0
  pub base : b < 2 ^ 5
  pub register : t < 2 ^ 5
  pub immediate : i < 2 ^ 16

module _ {s : State} {b t i : ℕ} (code : ℕ → ℕ) (x : Fetched s b t i) where
  step-word : (o : ℕ) → o < 2 ^ 6 → code s.pc ≡ word o b t i → step code s ≡ execute (instruction_of o b t i (special (word o b t i))) s
  step-word o h e =
      step-at code s (word o b t i) x.whole e
      ∙ ap (λ (y : Instruction). execute y s) (decode-word o b t i h x.base x.register x.immediate)

  pub step_addiu : 0 < t → code s.pc ≡ word 9 b t i → step code s ≡ some (proceed s (upd s.reg t (sum s.reg b i)) s.freg s.mem)
  unfolding instruction_of write
  step_addiu z e = step-word 9 (omega arith) e ∙ simp (ne_eqb t 0 (omega arith))

-- And it loads or stores at a, which is the address of a word.
pub record Access (s : State) (b t i a : ℕ) : Type 0 where
  pub fetched : Fetched s b t i
  pub at : sum s.reg b i ≡ a
  pub word : a % 4 ≡ 0

module _ {s : State} {b t i a : ℕ} (code : ℕ → ℕ) (x : Access s b t i a) where
  pub step_lw : 0 < t → code s.pc ≡ word 35 b t i → step code s ≡ some (proceed s (upd s.reg t (s.mem a)) s.freg s.mem)
  unfolding instruction_of write
  step_lw z e = step-word code x.fetched 35 (omega arith) e ∙ simp (x.at, x.word, ne_eqb t 0 (omega arith))

  pub step_sw : 0 < t → code s.pc ≡ word 43 b t i → step code s ≡ some (proceed s s.reg s.freg (upd s.mem a (s.reg t)))
  unfolding instruction_of read
  step_sw z e = step-word code x.fetched 43 (omega arith) e ∙ simp (x.at, x.word, ne_eqb t 0 (omega arith))

  pub step_lwc1 : code s.pc ≡ word 49 b t i → step code s ≡ some (proceed s s.reg (upd s.freg t (s.mem a)) s.mem)
  unfolding instruction_of
  step_lwc1 e = step-word code x.fetched 49 (omega arith) e ∙ simp (x.at, x.word)

  pub step_swc1 : code s.pc ≡ word 57 b t i → step code s ≡ some (proceed s s.reg s.freg (upd s.mem a (s.freg t)))
  unfolding instruction_of
  step_swc1 e = step-word code x.fetched 57 (omega arith) e ∙ simp (x.at, x.word)
