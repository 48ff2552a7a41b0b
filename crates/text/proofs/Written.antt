-- Texts written one after the other at the start of a buffer, and what the contracts say of a text that fits or does not.
-- Assumes nothing.
use mathlib.Core.Path.{◌≡◌, refl, ap, ◌∙◌}
use mathlib.Core.List.{List, ◌++◌}
use Prim.Native.Nat.{ℕ, zero, suc, ◌+◌, ◌*◌, ◌≤◌, ◌<◌}
use native.Mathlib.Nat.{le_refl}
use native.Mathlib.Omega.{arith}
use lib.ListN.{length, take, drop, length-append}
use lib.Seq.{paste, take-paste, take-append_seam, take-length, drop-append-add, drop-drop}
use borrow.Author.Tests.{lt-ltb, le-ltb}
use Rattle.std.specs.Prelude.{Some, None}
use Rattle.text.specs.Text.{lines, line_at, stored_length, stored}

-- A buffer with a text over its start.
abbrev pub overlay : List ℕ → List ℕ → List ℕ
overlay text out = text ++ drop (length text) out

-- A text pasted after another.
pub paste_overlay : (out text more : List ℕ) → paste (overlay text out) (length text) more (length more) ≡ overlay (text ++ more) out
paste_overlay out text more = rw (take-append_seam, take-length, drop-append-add, drop-drop, length-append)

-- The same of a step: what a buffer holds after a call of `put`.
pub paste_overlay-step : (out text more : List ℕ) {now next : List ℕ} {at : ℕ} → now ≡ overlay text out → at ≡ length text → next ≡ paste now at more (length more) → next ≡ overlay (text ++ more) out
paste_overlay-step out text more {now} {next} {at} held there put =
    put ∙ ap (λ (l : List ℕ). paste l at more (length more)) held
    ∙ ap (λ (k : ℕ). paste (overlay text out) k more (length more)) there
    ∙ paste_overlay out text more

-- What a buffer has up to the end of a text that `put` has written.
pub take_put : (text out : List ℕ) {now : List ℕ} {at r : ℕ} → at ≤ length out → now ≡ paste out at text (length text) → r ≡ at + length text → take r now ≡ take at out ++ text
take_put text out {now} {at} {r} h put end = cc (take-paste out at text (length text) h (le_refl (length text)), take-length text)

-- Each line has nine bytes.
pub lines-length : (image : List ℕ) (n : ℕ) → length (lines image n) ≡ 9 * n
lines-length image zero = refl
lines-length image (suc n) = omega (arith, length-append (lines image n) (line_at image (4 * n)), lines-length image n)

-- What the contracts say of a text that does not fit, and of one that does.
pub short_stored : (text out : List ℕ) → length out < length text → (None ≡ stored_length text (length out)) × (out ≡ stored text out)
short_stored text out h = let e = lt-ltb (length out) (length text) h in (simp e, simp e)

pub fitting_stored : (text out : List ℕ) {r : ℕ} {now : List ℕ} → length text ≤ length out → r ≡ length text → now ≡ overlay text out
    → (Some r ≡ stored_length text (length out)) × (now ≡ stored text out)
fitting_stored text out h n held = let e = le-ltb (length out) (length text) h in (simp e (ap Some n), simp e held)
