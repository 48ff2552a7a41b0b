-- The machine's registers, memory and addresses keep 32 bits.
-- Assumes nothing.
use mathlib.Core.Path.{◌≡◌, refl, subst}
use mathlib.Core.Bool.{Bool, true, false, cond}
use mathlib.Core.Option.{Option, some, none}
use Prim.Native.Nat.{ℕ, ◌%◌, ◌^◌, ◌<◌}
use native.Mathlib.Omega.{arith}
use lib.Dec.{eqb}
use Rattle.machine.specs.Machine.{State, upd, next_address, Instruction, nop, jr, addiu, lw, sw, lwc1, swc1, other, decode, read, write, sum, follows, proceed, jump, execute, step, Wide}
use Rattle.words.proofs.Impossible.{impossible}

abbrev Words : (ℕ → ℕ) → Type 0
Words f = (k : ℕ) → f k < 2 ^ 32

upd_wide : (f : ℕ → ℕ) (k v : ℕ) → Words f → v < 2 ^ 32 → Words (upd f k v)
unfolding upd
upd_wide f k v h x i = grind (arith, h i)

write_wide : (g : ℕ → ℕ) (r v : ℕ) → Words g → v < 2 ^ 32 → Words (write g r v)
unfolding write
write_wide g r v h x i = grind (arith, h i, upd_wide g r v h x i)

read_wide : (g : ℕ → ℕ) (r : ℕ) → Words g → read g r < 2 ^ 32
unfolding read
read_wide g r h = grind (arith, h r)

sum_wide : (g : ℕ → ℕ) (s i : ℕ) → sum g s i < 2 ^ 32
unfolding sum
sum_wide g s i = omega arith

next_address_wide : (a : ℕ) → next_address a < 2 ^ 32
unfolding next_address
next_address_wide a = omega arith

-- where a test lets a state through, it is that state
state_passed : (b : Bool) (x t : State) → cond b (some x) none ≡ some t → x ≡ t
state_passed b x t e = grind arith

-- so it is after a jump
jump_wide : (s : State) (o : Option ℕ) (a : ℕ) (t : State) → Wide s → a < 2 ^ 32 → jump s o a ≡ some t → Wide t
jump_wide s none a t w h e =
    subst Wide (state_passed true _ t e) (record { reg = w.reg; freg = w.freg; mem = w.mem; pc = next_address_wide s.pc; target = λ b q. let z : a ≡ b = cc in omega arith })
jump_wide s (some b) a t w h e = impossible (cc)

module _ (s : State) (w : Wide s) where
  follows_wide : (o : Option ℕ) → ((a : ℕ) → o ≡ some a → a < 2 ^ 32) → follows s.pc o < 2 ^ 32
  follows_wide none h = next_address_wide s.pc
  follows_wide (some a) h = h a refl

  proceed_wide : {g f m : ℕ → ℕ} → Words g → Words f → Words m → Wide (proceed s g f m)
  proceed_wide g f m = record { reg = g; freg = f; mem = m; pc = follows_wide s.target w.target; target = λ a e. impossible (cc) }

  execute_wide : (i : Instruction) (t : State) → execute i s ≡ some t → Wide t
  execute_wide nop t e = subst Wide (state_passed true _ t e) (proceed_wide w.reg w.freg w.mem)
  execute_wide (jr r) t e = jump_wide s s.target _ t w (read_wide s.reg r w.reg) e
  execute_wide (addiu r b i) t e =
      subst Wide (state_passed true _ t e) (proceed_wide (write_wide s.reg r _ w.reg (sum_wide s.reg b i)) w.freg w.mem)
  execute_wide (lw r b i) t e =
      subst Wide (state_passed (eqb (sum s.reg b i % 4) 0) _ t e) (proceed_wide (write_wide s.reg r _ w.reg (w.mem _)) w.freg w.mem)
  execute_wide (sw r b i) t e =
      subst Wide (state_passed (eqb (sum s.reg b i % 4) 0) _ t e) (proceed_wide w.reg w.freg (upd_wide s.mem _ _ w.mem (read_wide s.reg r w.reg)))
  execute_wide (lwc1 r b i) t e =
      subst Wide (state_passed (eqb (sum s.reg b i % 4) 0) _ t e) (proceed_wide w.reg (upd_wide s.freg r _ w.freg (w.mem _)) w.mem)
  execute_wide (swc1 r b i) t e =
      subst Wide (state_passed (eqb (sum s.reg b i % 4) 0) _ t e) (proceed_wide w.reg w.freg (upd_wide s.mem _ _ w.mem (w.freg r)))
  execute_wide other t e = impossible (cc)

  pub step_wide : (code : ℕ → ℕ) (t : State) → step code s ≡ some t → Wide t
  unfolding step
  step_wide code t e = go (eqb (s.pc % 4) 0) e
    where
      go : (b : Bool) → cond b (execute (decode (code s.pc)) s) none ≡ some t → Wide t
      go true e = execute_wide (decode (code s.pc)) t e
      go false e = impossible (cc)
