-- Frames and refusals, computed on both devices: document 01's frame with its run on the machine, one with a pair, none at all, `$28`
-- alone, between others and refused, and the order of the refusals.
-- Assumes nothing.
use mathlib.Core.Path.{◌≡◌, refl}
use mathlib.Core.Bool.{Bool, true, false, cond, ◌&&◌}
use mathlib.Core.List.{List, [], ◌∷◌}
use mathlib.Core.Option.{Option, some, none}
use Prim.Native.Nat.{ℕ, ◌+◌, ◌-◌, ◌*◌, ◌/◌, ◌^◌}
use native.Mathlib.Omega.{arith}
use lib.Dec.{T, eqb, ltb}
use lib.ListN.{get_or}
use Rattle.machine.specs.Machine.{State, upd, next_address, special, instruction_of, decode, read, write, sign_extend, sum, continue_with, step, run}
use Rattle.device.specs.declared.Device.{Device}
use Rattle.device.specs.declared.Device.TheVariants.{Fpu, NoFpu}
use Rattle.frame.specs.declared.Request.{Request}
use Rattle.frame.specs.Masks.{count_below}
use Rattle.frame.specs.Frame.{refusal_of, general_at, locals_at, frame_of, gp_at, layout_of}
use Rattle.frame.specs.Words.{collect, saves_of, prologue_for, epilogue_for, prologue_words, epilogue_words}
use Rattle.words.specs.Words.{bytes_of_words}
use Rattle.frame.specs.Keeping.{Ready, Entry}

-- what a layout says of `$28`
abbrev not_saved : Bool × ℕ
not_saved = (false, 0)

abbrev saved_at : ℕ → Bool × ℕ
saved_at offset = (true, offset)

-- the layout's numbers of an accepted request, from F on; `$28`; its prologue; its epilogue
abbrev Frame : Device → Request → ℕ → ℕ → ℕ → ℕ → ℕ → Bool × ℕ → List ℕ → List ℕ → Type 0
Frame d r frame build floating general locals gp prologue epilogue =
    (layout_of d r
    ≡ record {
      refusal = 0;
      place = 0;
      frame = frame;
      build = build;
      floating = floating;
      general = general;
      locals = locals;
      gp_saved = gp.0;
      gp = gp.1;
    })
    × (prologue_words r ≡ prologue)
    × (epilogue_words r ≡ epilogue)

-- "Frame: non-leaf, `$16` and `$31`, L = 4, outgoing 0: F = 32"
abbrev example : Request
example = record { leaf = false; locals = 4; outgoing = 0; general = 2 ^ 16 + 2 ^ 31; pairs = 0 }

abbrev prologue : List ℕ
prologue = 0x27BDFFE0 ∷ 0xAFB00010 ∷ 0xAFBF0014 ∷ []

abbrev epilogue : List ℕ
epilogue = 0x8FB00010 ∷ 0x8FBF0014 ∷ 0x03E00008 ∷ 0x27BD0020 ∷ []

pub example_frame : (d : Device) → Frame d example 32 16 16 16 24 not_saved prologue epilogue
unfolding layout_of refusal_of gp_at frame_of locals_at general_at count_below prologue_words epilogue_words prologue_for epilogue_for saves_of collect
example_frame Fpu = (refl, refl, refl)
example_frame NoFpu = (refl, refl, refl)

-- a leaf that saves `$f22`, `$f23` and `$16`, and one that has no frame
pair_frame : Frame Fpu (record { leaf = true; locals = 0; outgoing = 0; general = 2 ^ 16; pairs = 2 }) 16 0 0 8 16 not_saved
    (0x27BDFFF0 ∷ 0xE7B60000 ∷ 0xE7B70004 ∷ 0xAFB00008 ∷ [])
    (0xC7B60000 ∷ 0xC7B70004 ∷ 0x8FB00008 ∷ 0x03E00008 ∷ 0x27BD0010 ∷ [])
unfolding layout_of refusal_of gp_at frame_of locals_at general_at count_below prologue_words epilogue_words prologue_for epilogue_for saves_of collect
pair_frame = (refl, refl, refl)

no_frame : Frame NoFpu (record { leaf = true; locals = 0; outgoing = 0; general = 0; pairs = 0 }) 0 0 0 0 0 not_saved [] (0x03E00008 ∷ 0 ∷ [])
unfolding layout_of refusal_of gp_at frame_of locals_at general_at count_below prologue_words epilogue_words prologue_for epilogue_for saves_of collect
no_frame = (refl, refl, refl)

-- `$28` alone in a leaf: it is saved at offset 0
gp_alone : (d : Device)
    → Frame d (record { leaf = true; locals = 0; outgoing = 0; general = 2 ^ 28; pairs = 0 }) 8 0 0 0 8 (saved_at 0)
    (0x27BDFFF8 ∷ 0xAFBC0000 ∷ [])
    (0x8FBC0000 ∷ 0x03E00008 ∷ 0x27BD0008 ∷ [])
unfolding layout_of refusal_of gp_at frame_of locals_at general_at count_below prologue_words epilogue_words prologue_for epilogue_for saves_of collect
gp_alone Fpu = (refl, refl, refl)
gp_alone NoFpu = (refl, refl, refl)

-- with `$23` and `$30`: between them
gp_between : (d : Device)
    → Frame d (record { leaf = true; locals = 0; outgoing = 0; general = 2 ^ 23 + 2 ^ 28 + 2 ^ 30; pairs = 0 }) 16 0 0 0 16 (saved_at 4)
    (0x27BDFFF0 ∷ 0xAFB70000 ∷ 0xAFBC0004 ∷ 0xAFBE0008 ∷ [])
    (0x8FB70000 ∷ 0x8FBC0004 ∷ 0x8FBE0008 ∷ 0x03E00008 ∷ 0x27BD0010 ∷ [])
unfolding layout_of refusal_of gp_at frame_of locals_at general_at count_below prologue_words epilogue_words prologue_for epilogue_for saves_of collect
gp_between Fpu = (refl, refl, refl)
gp_between NoFpu = (refl, refl, refl)

-- `$28` named in a request that is refused: no, and 0
gp_refused : (d : Device)
    → layout_of d (record { leaf = false; locals = 8; outgoing = 8; general = 2 ^ 16 + 2 ^ 28; pairs = 0 })
    ≡ record { refusal = 10; place = 0; frame = 0; build = 0; floating = 0; general = 0; locals = 0; gp_saved = false; gp = 0 }
unfolding layout_of refusal_of
gp_refused Fpu = refl
gp_refused NoFpu = refl

-- ---- refusals: each request has one fault less than the one before it

abbrev refuses : Device → ℕ → ℕ → ℕ → ℕ → ℕ → Bool
refuses d general pairs locals outgoing n = eqb (refusal_of d (record { leaf = false; locals = locals; outgoing = outgoing; general = general; pairs = pairs })) n

refusals_ordered : T (
    refuses NoFpu 1 64 16385 1025 9
    && refuses Fpu (2 ^ 16) 64 16385 1025 9
    && refuses NoFpu (2 ^ 16) 63 16385 1025 14
    && refuses Fpu (2 ^ 16) 63 16385 1025 10
    && refuses Fpu (2 ^ 31) 63 16385 1025 11
    && refuses Fpu (2 ^ 31) 63 16384 1025 12
    && refuses Fpu (2 ^ 31) 63 16384 1024 0
    )
unfolding refusal_of
refusals_ordered = tt

-- between `$23` and `$30` only `$28` is admitted
around_gp : T (
    refuses Fpu (2 ^ 31 + 2 ^ 24) 0 0 0 9
    && refuses Fpu (2 ^ 31 + 2 ^ 25) 0 0 0 9
    && refuses Fpu (2 ^ 31 + 2 ^ 26) 0 0 0 9
    && refuses Fpu (2 ^ 31 + 2 ^ 27) 0 0 0 9
    && refuses Fpu (2 ^ 31 + 2 ^ 28) 0 0 0 0
    && refuses Fpu (2 ^ 31 + 2 ^ 29) 0 0 0 9
    )
unfolding refusal_of
around_gp = tt

-- ---- the least `$sp` that there can be, with the prologue at 0 and the epilogue at 100 (hex)

abbrev code : ℕ → ℕ
code a = cond (ltb a 0x100) (get_or prologue (a / 4) 0) (get_or epilogue ((a - 0x100) / 4) 0)

abbrev start : State
start = record { reg = λ k. cond (eqb k 29) 32 (0x400 + 4 * k); freg = λ k. 0; mem = λ a. 0; pc = 0; target = none }

pub example_entry : Entry 32 start
example_entry = record { eight = omega arith; room = omega arith; word = omega arith; four = omega arith }

pub example_ready : Ready code (bytes_of_words prologue) start
unfolding next_address
example_ready = record { whole = omega arith; slot = refl; words = (refl, (refl, (refl, tt))) }

-- a body that uses every register but `$sp`, and comes to the epilogue
abbrev body : State → Option State
body t = some (record { reg = λ k. cond (eqb k 29) (t.reg 29) 1; freg = t.freg; mem = t.mem; pc = 0x100; target = none })

abbrev ends : Option State → Bool
ends none = false
ends (some s) = eqb (s.reg 16) 0x440 && eqb (s.reg 31) 0x47C && eqb (s.reg 29) 32 && eqb s.pc 0x47C && eqb (s.mem 16) 0x440 && eqb (s.mem 20) 0x47C

pub example-run : T (ends (continue_with (continue_with (run 3 code start) body) (run 4 code)))
unfolding step run decode instruction_of special read write upd next_address sign_extend sum
example-run = tt
