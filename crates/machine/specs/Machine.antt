-- A machine of the few instructions that a frame's code has: "Instruction meanings are those of the public MIPS32 manuals,
-- written as a machine of these few instructions over 32-bit registers and word memory, the code kept apart from that memory."
-- It is a processor before Release 6, with 32-bit floating registers that may be used, and no memory management: the only
-- exceptions are address errors of words, and after one the machine has no next state.
use Rattle.std.specs.Prelude.{◌≡◌, List, [], ◌∷◌, cond, ℕ, zero, suc, ◌+◌, ◌-◌, ◌/◌, ◌%◌, ◌^◌, ◌<◌, eqb, ltb, length}
use Rattle.std.proofs.Math.Option.{Option, some, none}

-- The general registers, the floating registers, the memory by the addresses of its words, the address of the instruction that
-- comes next; and, where that one stands in the delay slot of a jump, where the jump goes.
pub record State : Type 0 where
  pub reg : ℕ → ℕ
  pub freg : ℕ → ℕ
  pub mem : ℕ → ℕ
  pub pc : ℕ
  pub target : Option ℕ

-- "32-bit registers and word memory": all of it has 32 bits. Each step keeps it so.
pub record Wide (s : State) : Type 0 where
  pub reg : (k : ℕ) → s.reg k < 2 ^ 32
  pub freg : (k : ℕ) → s.freg k < 2 ^ 32
  pub mem : (a : ℕ) → s.mem a < 2 ^ 32
  pub pc : s.pc < 2 ^ 32
  pub target : (a : ℕ) → s.target ≡ some a → a < 2 ^ 32

-- Registers or memory with another value at one place.
unfoldable pub upd : (ℕ → ℕ) → ℕ → ℕ → ℕ → ℕ
upd f k v = λ i. cond (eqb i k) v (f i)

-- The address of the next word; addresses have 32 bits.
unfoldable pub next_address : ℕ → ℕ
next_address a = (a + 4) % 2 ^ 32

-- The instructions, with registers by number and 16-bit immediates; `other` is every word outside the few.
pub data Instruction : Type 0 where
  nop : Instruction
  jr : ℕ → Instruction
  addiu lw sw lwc1 swc1 : ℕ → ℕ → ℕ → Instruction
  other : Instruction

-- The fields of an instruction word: opcode, rs (the base register), rt (the register it is about), immediate.
abbrev pub opcode : ℕ → ℕ
opcode w = w / 2 ^ 26

abbrev pub rs : ℕ → ℕ
rs w = w / 2 ^ 21 % 2 ^ 5

abbrev pub rt : ℕ → ℕ
rt w = w / 2 ^ 16 % 2 ^ 5

abbrev pub immediate : ℕ → ℕ
immediate w = w % 2 ^ 16

-- SPECIAL, opcode 0. SLL with all fields 0 is the word 00000000, which does nothing. JR has function 8; here its hint field is 0
-- like the others, rs apart.
unfoldable pub special : ℕ → Instruction
special w = cond (eqb w 0) nop (cond (eqb (w % 2 ^ 21) 8) (jr (rs w)) other)

-- The instruction with an opcode, its registers rs and rt and its immediate; `sp` is that of opcode 0.
unfoldable pub instruction_of : ℕ → ℕ → ℕ → ℕ → Instruction → Instruction
instruction_of o s t i sp =
    cond (eqb o 0) sp
    (cond (eqb o 9) (addiu t s i)
    (cond (eqb o 35) (lw t s i)
    (cond (eqb o 43) (sw t s i)
    (cond (eqb o 49) (lwc1 t s i)
    (cond (eqb o 57) (swc1 t s i) other)))))

unfoldable pub decode : ℕ → Instruction
decode w = instruction_of (opcode w) (rs w) (rt w) (immediate w) (special w)

-- GPR 0 reads as 0, and what is written to it is lost.
unfoldable pub read : (ℕ → ℕ) → ℕ → ℕ
read g r = cond (eqb r 0) 0 (g r)

unfoldable pub write : (ℕ → ℕ) → ℕ → ℕ → ℕ → ℕ
write g r v = cond (eqb r 0) g (upd g r v)

-- sign_extend: a 16-bit immediate as 32 bits.
unfoldable pub sign_extend : ℕ → ℕ
sign_extend i = cond (ltb i (2 ^ 15)) i (i + (2 ^ 32 - 2 ^ 16))

-- GPR[rs] + sign_extend(immediate), 32 bits of it: what ADDIU writes (it never traps), and the address of a load or store.
unfoldable pub sum : (ℕ → ℕ) → ℕ → ℕ → ℕ
sum g s i = (read g s + sign_extend i) % 2 ^ 32

-- An address error where an address of a word is no multiple of 4: then the machine has no next state.
abbrev pub check_aligned : ℕ → State → Option State
check_aligned a next = cond (eqb (a % 4) 0) (some next) none

-- The address that control goes to after an instruction that does not jump: the next word, or from a delay slot the jump's target.
abbrev pub follows : ℕ → Option ℕ → ℕ
follows pc none = next_address pc
follows pc (some a) = a

-- The state there, with these registers and this memory.
abbrev pub proceed : State → (ℕ → ℕ) → (ℕ → ℕ) → (ℕ → ℕ) → State
proceed s g f m = record { reg = g; freg = f; mem = m; pc = follows s.pc s.target; target = none }

-- JR takes its target from GPR[rs]; control goes there after the delay slot. A jump that itself stands in a delay slot is
-- unpredictable, so the machine has no next state there.
abbrev pub jump : State → Option ℕ → ℕ → Option State
jump s none a = some (record { reg = s.reg; freg = s.freg; mem = s.mem; pc = next_address s.pc; target = some a })
jump s (some b) a = none

-- Each instruction: ADDIU writes its sum to rt; LW and LWC1 load rt from the word at their sum, SW and SWC1 store it there.
abbrev pub execute : Instruction → State → Option State
execute nop s = some (proceed s s.reg s.freg s.mem)
execute (jr r) s = jump s s.target (read s.reg r)
execute (addiu t b i) s = some (proceed s (write s.reg t (sum s.reg b i)) s.freg s.mem)
execute (lw t b i) s = let a = sum s.reg b i in check_aligned a (proceed s (write s.reg t (s.mem a)) s.freg s.mem)
execute (sw t b i) s = let a = sum s.reg b i in check_aligned a (proceed s s.reg s.freg (upd s.mem a (read s.reg t)))
execute (lwc1 t b i) s = let a = sum s.reg b i in check_aligned a (proceed s s.reg (upd s.freg t (s.mem a)) s.mem)
execute (swc1 t b i) s = let a = sum s.reg b i in check_aligned a (proceed s s.reg s.freg (upd s.mem a (s.freg t)))
execute other s = none

-- One instruction; a fetch from an address that is no multiple of 4 is an address error.
unfoldable pub step : (ℕ → ℕ) → State → Option State
step code s = cond (eqb (s.pc % 4) 0) (execute (decode (code s.pc)) s) none

-- Where there was an error there is nothing more.
abbrev pub continue_with : Option State → (State → Option State) → Option State
continue_with (some s) go = go s
continue_with none go = none

-- n instructions.
unfoldable pub run : ℕ → (ℕ → ℕ) → State → Option State
run zero code s = some s
run (suc n) code s = continue_with (step code s) (run n code)

-- The address n words on.
abbrev pub later_address : ℕ → ℕ → ℕ
later_address zero a = a
later_address (suc n) a = later_address n (next_address a)

-- These words lie in the code, from address a on.
abbrev pub Holds : (ℕ → ℕ) → ℕ → List ℕ → Type 0
Holds code a [] = Unit {0}
Holds code a (w ∷ ws) = (code a ≡ w) × Holds code (next_address a) ws

-- As many instructions as there are words run without an error, and leave a state of which this holds.
pub record Runs (code : ℕ → ℕ) (ws : List ℕ) (s : State) (Then : State → Type 0) : Type 0 where
  pub last : State
  pub ran : run (length ws) code s ≡ some last
  pub holds : Then last
