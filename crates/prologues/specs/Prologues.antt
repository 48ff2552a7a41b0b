-- What holds of the check of prologues: which words are a prologue, what each verdict says, and what is left on the machine. The
-- comments quote request (x) of document 02.
use Rattle.std.specs.Prelude.{◌≡◌, ◌⊎◌, ◌↔◌, List, [], ◌∷◌, ◌++◌, true, false, ℕ, ◌+◌, ◌%◌, ◌<◌, ◌≤◌, length}
use Rattle.device.specs.declared.Device.{Device}
use Rattle.machine.specs.Machine.{State, Runs}
use Rattle.words.specs.Words.{bytes_of_words}
use Rattle.frame.specs.declared.Request.{Request}
use Rattle.frame.specs.Frame.{refusal_of, frame_of}
use Rattle.frame.specs.Words.{Save, saves_of, store_word, lowering, prologue_words, epilogue_words}
use Rattle.frame.specs.Keeping.{words_in, Ready, Entry, Keeps}
use Rattle.prologues.specs.Verdict.{Verdict}
use Rattle.prologues.specs.Checking.{count, instructions}

-- x is one of these.
abbrev pub Among : {A : Type 0} → A → List A → Type 0
Among x [] = ⊥
Among x (y ∷ ys) = (x ≡ y) ⊎ Among x ys

-- ---- the words

-- "each named register's store at its place, once each in any order", and nothing else.
pub record StoresOnce (saves : List Save) (ws : List ℕ) : Type 0 where
  pub each : (w : ℕ) → Among w ws → (v : Save) × Among v saves × (w ≡ store_word v)
  pub once : (v : Save) → Among v saves → count (store_word v) ws ≡ 1

-- The words are a prologue for a frame of F bytes with these saves: "one `addiu $sp,$sp,-F` first, then" the stores, "with 00000000
-- anywhere. For F = 0 only 00000000 words, or none".
pub record IsPrologue (F : ℕ) (saves : List Save) (ws : List ℕ) : Type 0 where
  pub framed : (F ≡ 0 → ⊥) → (stores : List ℕ) × (instructions ws ≡ lowering F ∷ stores) × StoresOnce saves stores
  pub frameless : F ≡ 0 → (w : ℕ) → Among w ws → w ≡ 0

-- When the answer is 255.
pub data Foreign (F : ℕ) (saves : List Save) (ws : List ℕ) : Type 0 where
  -- "where any other word stands (a store at another place or of another register too)": not 00000000, not the `addiu` of a frame,
  -- and no named register's store at its place;
  other : (w : ℕ) → Among w ws → (w ≡ 0 → ⊥) → ((F ≡ 0 → ⊥) → w ≡ lowering F → ⊥) → ((v : Save) → Among v saves → w ≡ store_word v → ⊥) → Foreign F saves ws
  -- "or where the `addiu` is missing,
  missing : (F ≡ 0 → ⊥) → count (lowering F) ws ≡ 0 → Foreign F saves ws
  -- doubled
  doubled : (F ≡ 0 → ⊥) → 1 < count (lowering F) ws → Foreign F saves ws
  -- or behind a store".
  late : (F ≡ 0 → ⊥) → (before : List ℕ) (v : Save) (after : List ℕ) → ws ≡ before ++ (store_word v ∷ after) → Among v saves → Among (lowering F) after → Foreign F saves ws

-- The order of registers: "general registers by number before floating ones".
pub data Before (u v : Save) : Type 0 where
  kind : u.float ≡ false → v.float ≡ true → Before u v
  number : u.float ≡ v.float → u.number < v.number → Before u v

-- k names "the first register whose store is missing or doubled", a general one by its number, "floating ones as 32 plus number".
pub record FirstWrong (saves : List Save) (ws : List ℕ) (k : ℕ) : Type 0 where
  pub save : Save
  pub named : Among save saves
  pub general : save.float ≡ false → k ≡ save.number
  pub floating : save.float ≡ true → k ≡ 32 + save.number
  pub wrong : (count (store_word save) ws ≡ 0) ⊎ (1 < count (store_word save) ws)
  pub earlier : (v : Save) → Among v saves → Before v save → count (store_word v) ws ≡ 1

-- Each verdict is given exactly on its condition, 255 "in preference".
pub record Names (F : ℕ) (saves : List Save) (ws : List ℕ) (verdict : ℕ) : Type 0 where
  pub most : verdict ≤ 255
  pub accepted : (verdict ≡ 0) ↔ IsPrologue F saves ws
  pub foreign : (verdict ≡ 255) ↔ Foreign F saves ws
  pub register : (k : ℕ) → 0 < k → k < 255 → (verdict ≡ k) ↔ ((Foreign F saves ws → ⊥) × FirstWrong saves ws k)

-- ---- the machine

-- The same registers, floating registers and memory, and both in a delay slot of the same jump or in none: "program counter aside".
pub record SameExceptPc (t u : State) : Type 0 where
  pub reg : t.reg ≡ u.reg
  pub freg : t.freg ≡ u.freg
  pub mem : t.mem ≡ u.mem
  pub target : t.target ≡ u.target

-- "From 01's entry states" theirs "leaves the machine state that our own prologue leaves"; neither runs into an error.
abbrev pub LeavesAsOurs : Request → List ℕ → List ℕ → Type 0
LeavesAsOurs r theirs ours =
    (code code' : ℕ → ℕ) (s : State) → Entry (frame_of r) s → Ready code theirs s → Ready code' ours s
    → Runs code (words_in theirs) s (λ t. Runs code' (words_in ours) s (λ u. SameExceptPc t u))

-- ---- the check

-- "length no multiple of 4 or above 256 bytes".
abbrev pub WrongLength : List ℕ → Type 0
WrongLength code = (length code % 4 ≡ 0 → ⊥) ⊎ (256 < length code)

-- An answer; its place is 0 always.
abbrev pub answer : ℕ → ℕ → Verdict
answer refusal verdict = record { refusal = refusal; place = 0; verdict = verdict }

-- A function checks prologues: demand 1, what each verdict says, what is left on the machine, and that the epilogue's theorem holds
-- after whatever is accepted; "ours is accepted".
pub record Checks (check : Device → Request → List ℕ → Verdict) : Type 0 where
  pub refused : (d : Device) (r : Request) (code : List ℕ) → (refusal_of d r ≡ 0 → ⊥) → check d r code ≡ answer (refusal_of d r) 0
  pub wrong_length : (d : Device) (r : Request) (code : List ℕ) → refusal_of d r ≡ 0 → WrongLength code → check d r code ≡ answer 21 0
  pub verdict : (d : Device) (r : Request) (code : List ℕ) → refusal_of d r ≡ 0 → (WrongLength code → ⊥)
      → (n : ℕ) × (check d r code ≡ answer 0 n) × Names (frame_of r) (saves_of r) (words_in code) n
  pub leaves : (d : Device) (r : Request) (code : List ℕ) → check d r code ≡ answer 0 0 → LeavesAsOurs r code (bytes_of_words (prologue_words r))
  pub keeps : (d : Device) (r : Request) (code : List ℕ) → check d r code ≡ answer 0 0 → Keeps r code (bytes_of_words (epilogue_words r))
  pub ours : (d : Device) (r : Request) → refusal_of d r ≡ 0 → check d r (bytes_of_words (prologue_words r)) ≡ answer 0 0
