-- Single instructions, computed: what the manuals say of each, at the edges.
-- Assumes nothing.
use mathlib.Core.Bool.{Bool, true, false, cond, ◌&&◌}
use mathlib.Core.Option.{Option, some, none}
use Prim.Native.Nat.{ℕ, ◌+◌, ◌-◌, ◌^◌}
use lib.Dec.{T, eqb}
use Rattle.machine.specs.Machine.{State, upd, next_address, special, instruction_of, decode, read, write, sign_extend, sum, step, run}

-- `$29` is 32, `$31` is 400 (hex), the word at address a is a + 1
abbrev start : State
start = record {
  reg = λ k. cond (eqb k 29) 32 (cond (eqb k 31) 0x400 0);
  freg = λ k. 7 + k;
  mem = λ a. a + 1;
  pc = 0;
  target = none;
}

-- there is a state, and it has this value there; there is none
abbrev shows : Option State → (State → ℕ) → ℕ → Bool
shows none f n = false
shows (some s) f n = eqb (f s) n

abbrev stops : Option State → Bool
stops none = true
stops (some s) = false

abbrev does : ℕ → (State → ℕ) → ℕ → Bool
does w f n = shows (step (λ a. w) start) f n

instructions : T (
    -- addiu $29,$29,-40 wraps; addiu $0,$29,4 is lost
    does 0x27BDFFD8 (λ s. s.reg 29) (2 ^ 32 - 8)
    && does 0x27A00004 (λ s. read s.reg 0) 0
    -- lw $8,-4($29); lw $8,2($29) is an address error; lw $8,8($0)
    && does 0x8FA8FFFC (λ s. s.reg 8) 29
    && stops (step (λ a. 0x8FA80002) start)
    && does 0x8C080008 (λ s. s.reg 8) 9
    -- sw $31,4($29); sw $0,4($29); sw $31,1($29) is an address error
    && does 0xAFBF0004 (λ s. s.mem 36) 0x400
    && does 0xAFA00004 (λ s. s.mem 36) 0
    && stops (step (λ a. 0xAFBF0001) start)
    -- lwc1 $f20,4($29); swc1 $f20,4($29)
    && does 0xC7B40004 (λ s. s.freg 20) 37
    && does 0xE7B40004 (λ s. s.mem 36) 27
    -- jr $31 and its delay slot; jr in a delay slot; an opcode outside the few
    && shows (run 2 (λ a. cond (eqb a 0) 0x03E00008 0x27BD0008) start) (λ s. s.pc) 0x400
    && shows (run 2 (λ a. cond (eqb a 0) 0x03E00008 0x27BD0008) start) (λ s. s.reg 29) 40
    && stops (run 2 (λ a. 0x03E00008) start)
    && stops (step (λ a. 0xFFFFFFFF) start)
    )
unfolding step run decode instruction_of special read write upd next_address sign_extend sum
instructions = tt
