-- What a layout says of `$28`, the global pointer, and what the code of the frame does with it (request (ix) of document 02).
use Rattle.std.specs.Prelude.{◌≡◌, List, true, false, ℕ, ◌+◌, ◌<◌, ◌≤◌}
use Rattle.machine.specs.Machine.{State, Runs}
use Rattle.frame.specs.declared.Request.{Request}
use Rattle.frame.specs.Layout.{Layout}
use Rattle.frame.specs.Masks.{names}
use Rattle.frame.specs.Frame.{offset_of_register}
use Rattle.frame.specs.Keeping.{Ready, Entry, Body, words_in}

-- Where the layout says yes: `$28` has a word of its own in the general save area, "stored in numerical order": above the words of
-- lower registers and below those of higher ones.
pub record PlacedInOrder (r : Request) (y : Layout) : Type 0 where
  pub area : (y.general ≤ y.gp) × (y.gp + 4 ≤ y.locals)
  pub above : (k : ℕ) → k < 28 → names r.general k ≡ true → offset_of_register r k + 4 ≤ y.gp
  pub below : (k : ℕ) → 28 < k → k < 32 → names r.general k ≡ true → y.gp + 4 ≤ offset_of_register r k

-- Routines "change the global pointer and expect it back": the prologue leaves its entry value at the layout's offset, and after the
-- epilogue it holds that value, whatever a body did that leaves `$sp` and the save words (and `$31`, where it isn't named).
abbrev pub KeepsGp : Request → Layout → List ℕ → List ℕ → Type 0
KeepsGp r y prologue epilogue =
    (code : ℕ → ℕ) (s : State) → Entry y.frame s → Ready code prologue s
    → Runs code (words_in prologue) s (λ t.
    (t.mem (t.reg 29 + y.gp) ≡ s.reg 28) × ((u : State) → Body r t u → Ready code epilogue u → Runs code (words_in epilogue) u (λ w. w.reg 28 ≡ s.reg 28)))

-- "a yes or no for it and its offset, 0 with the no": what a layout says of `$28`, that of a refused request too.
pub record SaysGp (r : Request) (y : Layout) : Type 0 where
  pub named : y.refusal ≡ 0 → y.gp_saved ≡ names r.general 28
  pub refused : (y.refusal ≡ 0 → ⊥) → y.gp_saved ≡ false
  pub none : y.gp_saved ≡ false → y.gp ≡ 0
  pub placed : y.gp_saved ≡ true → PlacedInOrder r y
