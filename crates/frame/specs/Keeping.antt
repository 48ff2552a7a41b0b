-- What is proved of the code of a frame, on the machine ("Proved of that machine").
use Rattle.std.specs.Prelude.{◌≡◌, List, [], ◌∷◌, true, false, ℕ, ◌+◌, ◌-◌, ◌*◌, ◌%◌, ◌^◌, ◌<◌, ◌≤◌, length}
use Rattle.std.proofs.Math.Option.{none}
use Rattle.machine.specs.Machine.{State, later_address, Holds, Runs}
use Rattle.frame.specs.declared.Request.{Request}
use Rattle.frame.specs.Masks.{names, count_below}
use Rattle.frame.specs.Frame.{floating_at, frame_of, offset_of_register}

-- The words that bytes of code are (1 to 3 bytes at the end are none). "Words are big-endian."
abbrev pub words_in : List ℕ → List ℕ
words_in [] = []
words_in (a ∷ []) = []
words_in (a ∷ b ∷ []) = []
words_in (a ∷ b ∷ c ∷ []) = []
words_in (a ∷ b ∷ c ∷ d ∷ bytes) = (((a * 256 + b) * 256 + c) * 256 + d) ∷ words_in bytes

-- Control is about to run these bytes of code, and not in a delay slot.
pub record Ready (code : ℕ → ℕ) (bytes : List ℕ) (s : State) : Type 0 where
  pub whole : s.pc % 4 ≡ 0
  pub slot : s.target ≡ none
  pub words : Holds code s.pc (words_in bytes)

-- "entry `$sp` a multiple of 8 and at least F, and entry `$31` a multiple of 4". Registers have 32 bits; of those other than
-- `$sp` the theorem does not need it.
pub record Entry (F : ℕ) (s : State) : Type 0 where
  pub eight : s.reg 29 % 8 ≡ 0
  pub room : F ≤ s.reg 29
  pub word : s.reg 29 < 2 ^ 32
  pub four : s.reg 31 % 4 ≡ 0

-- Where pair k is saved, from `$sp`.
abbrev pub offset_of_pair : Request → ℕ → ℕ
offset_of_pair r k = floating_at r + 8 * count_below r.pairs k

-- The offsets of the save words: of the named general registers, and of both halves of the named pairs.
pub data SaveWord (r : Request) : ℕ → Type 0 where
  register : (k : ℕ) → k < 32 → names r.general k ≡ true → SaveWord r (offset_of_register r k)
  even : (k : ℕ) → k < 6 → names r.pairs k ≡ true → SaveWord r (offset_of_pair r k)
  odd : (k : ℕ) → k < 6 → names r.pairs k ≡ true → SaveWord r (offset_of_pair r k + 4)

-- "the prologue changes only `$sp`, the program counter and the named registers' save words"; and these hold the entry values,
-- of a pair both halves. It has n words, and control stands after them.
pub record Prologued (r : Request) (n : ℕ) (s t : State) : Type 0 where
  pub at : t.pc ≡ later_address n s.pc
  pub slot : t.target ≡ none
  pub sp : t.reg 29 ≡ s.reg 29 - frame_of r
  pub general : (k : ℕ) → (k ≡ 29 → ⊥) → t.reg k ≡ s.reg k
  pub floating : (k : ℕ) → t.freg k ≡ s.freg k
  pub elsewhere : (a : ℕ) → ((o : ℕ) → SaveWord r o → a ≡ t.reg 29 + o → ⊥) → t.mem a ≡ s.mem a
  pub registers : (k : ℕ) → k < 32 → names r.general k ≡ true → t.mem (t.reg 29 + offset_of_register r k) ≡ s.reg k
  pub even : (k : ℕ) → k < 6 → names r.pairs k ≡ true → t.mem (t.reg 29 + offset_of_pair r k) ≡ s.freg (20 + 2 * k)
  pub odd : (k : ℕ) → k < 6 → names r.pairs k ≡ true → t.mem (t.reg 29 + (offset_of_pair r k + 4)) ≡ s.freg (21 + 2 * k)

-- "any body .. that leaves `$sp` and the save words unchanged (and `$31`, where it isn't named)".
pub record Body (r : Request) (t u : State) : Type 0 where
  pub sp : u.reg 29 ≡ t.reg 29
  pub saves : (o : ℕ) → SaveWord r o → u.mem (t.reg 29 + o) ≡ t.mem (t.reg 29 + o)
  pub return : names r.general 31 ≡ false → u.reg 31 ≡ t.reg 31

-- "After the epilogue `$sp` and each named register hold their entry values, and control is at the entry value of `$31`",
-- where an instruction can be fetched.
pub record Returned (r : Request) (s w : State) : Type 0 where
  pub sp : w.reg 29 ≡ s.reg 29
  pub general : (k : ℕ) → k < 32 → names r.general k ≡ true → w.reg k ≡ s.reg k
  pub even : (k : ℕ) → k < 6 → names r.pairs k ≡ true → w.freg (20 + 2 * k) ≡ s.freg (20 + 2 * k)
  pub odd : (k : ℕ) → k < 6 → names r.pairs k ≡ true → w.freg (21 + 2 * k) ≡ s.freg (21 + 2 * k)
  pub at : w.pc ≡ s.reg 31
  pub slot : w.target ≡ none
  pub whole : w.pc % 4 ≡ 0

-- All of it, of the bytes of a prologue and of an epilogue.
abbrev pub Keeps : Request → List ℕ → List ℕ → Type 0
Keeps r prologue epilogue =
    (code : ℕ → ℕ) (s : State) → Entry (frame_of r) s → Ready code prologue s
    → Runs code (words_in prologue) s (λ t.
    Prologued r (length (words_in prologue)) s t × ((u : State) → Body r t u → Ready code epilogue u → Runs code (words_in epilogue) u (λ w. Returned r s w)))
